use Rattle.std.proofs.Common.{◌≡◌}
use Rattle.health_core.proofs.WatchLemmas.{Held}
use Rattle.health_core.proofs.watching.watch.Given as goal

abbrev pub invariant-turns : goal.invariant-turns
invariant-turns g l = record {
  held : Held l.health l.counter l.turn (g.B.Probe.checks l.fn.probe) (g.B.Probe.checks l.probe)
      (g.K.Sink.taken l.fn.output) (g.K.Sink.taken l.output);
  faults : g.K.Sink.faults l.output ≡ g.K.Sink.faults l.fn.output;
}

use Rattle.std.proofs.Common.{◌≡◌, length, take, ◌-◌, ◌≤◌}
use Rattle.outside.specs.Told.{Grows}
use Rattle.outside.proofs.writing.write_all.Given as goal

abbrev pub invariant-rests : goal.invariant-rests
invariant-rests g l =
    let sink = g.K.Sink in
    record {
      within : l.written ≤ length l.piece;
      taken : Grows (sink.taken l.initial.sink) (sink.taken l.sink) (take l.written l.piece);
      same : sink.faults l.sink ≡ sink.faults l.initial.sink;
    }

abbrev pub decreases-rests : goal.decreases-rests
decreases-rests g l = length l.piece - l.written

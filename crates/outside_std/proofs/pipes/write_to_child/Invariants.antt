use Rattle.std.specs.Io.KnownBytes.{Keeps}
use Rattle.outside_std.proofs.pipes.write_to_child.Given as goal

abbrev pub invariant-looks : goal.invariant-looks
invariant-looks g l = Keeps (g.W.Write.contents l.initial.writer) (g.W.Write.contents l.writer)

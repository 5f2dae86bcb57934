use Rattle.std.specs.Io.KnownBytes.{Keeps}
use Rattle.outside_std.proofs.pipes.read_from_child.Given as goal

abbrev pub invariant-looks : goal.invariant-looks
invariant-looks g l = Keeps (g.R.Read.remaining l.initial.reader) (g.R.Read.remaining l.reader)

use Rattle.std.proofs.Common.{length}
use Rattle.line_cutter.proofs.ChunkingLemmas.{IsTaking}
use Rattle.line_cutter.proofs.tests.taking.take_lines.Given as goal

abbrev pub invariant-lines : goal.invariant-lines
invariant-lines g l =
    IsTaking l.fn.piece (g.T.Taker.taken l.initial.taker) l.initial.cutter l.rest (g.T.Taker.taken l.taker) l.cutter

abbrev pub decreases-lines : goal.decreases-lines
decreases-lines g l = length l.rest

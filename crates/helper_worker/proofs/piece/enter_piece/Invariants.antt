use Rattle.std.proofs.Common.{length}
use Rattle.helper_worker.proofs.PieceLemmas.{TookFront}
use Rattle.helper_worker.proofs.piece.enter_piece.Given as goal

-- the lines that end in front of the rest were taken
abbrev pub invariant-lines : goal.invariant-lines
invariant-lines g l = TookFront l.initial.pass l.fn.h l.fn.inc l.fn.piece l.rest l.fn.cutter l.cutter l.pass

abbrev pub decreases-lines : goal.decreases-lines
decreases-lines g l = length l.rest

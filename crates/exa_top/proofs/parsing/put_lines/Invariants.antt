use Rattle.std.proofs.Common.{length}
use Rattle.exa_top.proofs.PieceLemmas.{PutFront}
use Rattle.exa_top.proofs.parsing.put_lines.Given as goal

-- the lines that end in front of the rest were put
abbrev pub invariant-lines : goal.invariant-lines
invariant-lines l = PutFront l.fn.piece l.rest l.fn.cutter l.cutter l.fn.text.items l.text.items

abbrev pub decreases-lines : goal.decreases-lines
decreases-lines l = length l.rest

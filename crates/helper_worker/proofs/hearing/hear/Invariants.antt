use Rattle.helper_worker.proofs.HeardLemmas.{HeardSoFar}
use Rattle.helper_worker.proofs.hearing.hear.Given as goal

-- the lines of what was given are taken
abbrev pub invariant-loop : goal.invariant-loop
invariant-loop g l =
    HeardSoFar l.initial.pass l.fn.h l.fn.inc (g.S.Source.given l.fn.source) (g.S.Source.given l.source) l.cutter l.pass

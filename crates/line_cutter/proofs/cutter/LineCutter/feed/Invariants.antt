use Rattle.std.proofs.Common.{length}
use Rattle.line_cutter.proofs.CuttingLemmas.{IsFeeding}
use Rattle.line_cutter.proofs.cutter.LineCutter.feed.Given as goal

abbrev pub invariant-parts : goal.invariant-parts
invariant-parts l = IsFeeding l.fn.piece l.initial.self l.rest l.self

abbrev pub decreases-parts : goal.decreases-parts
decreases-parts l = length l.rest

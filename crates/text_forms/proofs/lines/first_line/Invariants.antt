use Rattle.std.proofs.Common.{length}
use Rattle.text_forms.proofs.LineLemmas.{IsBehindParts}
use Rattle.text_forms.proofs.lines.first_line.Given as goal

abbrev pub invariant-parts : goal.invariant-parts
invariant-parts l = IsBehindParts l.bytes l.rest

abbrev pub decreases-parts : goal.decreases-parts
decreases-parts l = length l.rest

use Rattle.std.proofs.Common.{length}
use Rattle.text_forms.specs.Blanks.{IsBehindBlanks}
use Rattle.text_forms.proofs.word.without_blanks.Given as goal

abbrev pub invariant-blanks : goal.invariant-blanks
invariant-blanks l = IsBehindBlanks l.text l.rest

abbrev pub decreases-blanks : goal.decreases-blanks
decreases-blanks l = length l.rest

use Rattle.std.proofs.Common.{◌≢◌, All, take}
use Rattle.text_forms.proofs.cutting.cut.Given as goal

abbrev pub invariant-loop-i : goal.invariant-loop-i
invariant-loop-i l = All (λ b. b ≢ l.byte) (take l.i l.text)

use Rattle.std.proofs.Common.{◌≡◌, All, false, take}
use Rattle.text_forms.specs.Blanks.{is_blank_byte}
use Rattle.text_forms.proofs.word.word_len.Given as goal

abbrev pub invariant-loop-i : goal.invariant-loop-i
invariant-loop-i l = All (λ b. is_blank_byte b ≡ false) (take l.i l.text)

use Rattle.std.proofs.Common.{◌≡◌, false, sym, ◌∙◌, arith}
use Rattle.std.proofs.lemmas.List.Elements.{All-more}
use Rattle.text_forms.specs.Blanks.{is_blank_byte}
use Rattle.text_forms.proofs.word.word_len.Goals as goal

pub loop-i-preserved : goal.loop-i-preserved
loop-i-preserved c =
    All-more (λ b. is_blank_byte b ≡ false) c.args.text.now c.loop-i.i 0 (omega arith) c.loop-i.invariant
    (sym c.is_blank.ensures ∙ c.if-is_blank.false)

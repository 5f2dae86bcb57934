use Rattle.std.proofs.Common.{sym, ◌∙◌}
use Rattle.message_decoder.specs.Decoding.{passed_over, refused, told}
use Rattle.message_decoder.proofs.WritingLemmas.{writes_wider, wrote_none}
use Rattle.message_decoder.proofs.answering.answer_line.Goals as goal

pub returns-then-is_passed_over : goal.returns-then-is_passed_over
returns-then-is_passed_over g c =
    wrote_none _ _ (passed_over (sym c.is_passed_over.ensures ∙ c.if-is_passed_over.true))

pub returns-in-Ok : goal.returns-in-Ok
returns-in-Ok g c =
    writes_wider _ _ _ _ c.write_effects.result
    (λ text are. told c.in-Ok.effects text (sym c.is_passed_over.ensures ∙ c.if-is_passed_over.false)
    c.in-Ok.ensures are)
    c.write_effects.ensures

pub returns-in-Err : goal.returns-in-Err
returns-in-Err g c =
    writes_wider _ _ _ _ c.write_refusal.result
    (λ text is. refused c.in-Err.unread text (sym c.is_passed_over.ensures ∙ c.if-is_passed_over.false)
    c.in-Err.ensures is)
    c.write_refusal.ensures

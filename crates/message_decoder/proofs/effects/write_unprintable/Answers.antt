use Rattle.std.proofs.Common.{◌≡◌, ◌∙◌, ap}
use Rattle.std.proofs.lemmas.Result.{err_from_is_err_and}
use Rattle.text_printer.specs.Refusals.{unprintable_text}
use Rattle.message_decoder.specs.Decoding.{ended}
use Rattle.message_decoder.proofs.WritingLemmas.{broke_none, writes_wider}
use Rattle.message_decoder.proofs.effects.write_unprintable.Goals as goal

pub returns-in_err-remark : goal.returns-in_err-remark
returns-in_err-remark g c =
    let e = err_from_is_err_and c.from_residual.result c.from_residual.ensures.1 in
    rw (e.1, e.2) (broke_none _ _)

pub returns : goal.returns
returns g c =
    writes_wider _ (λ text. text ≡ ended unprintable_text) _ _ c.write_line.result
    (λ text is. is ∙ ap ended (c.from_vec.ensures ∙ c.in_ok-remark.ensures.items)) c.write_line.ensures

use Rattle.std.proofs.Common.{◌≡◌, ◌∙◌}
use Rattle.std.proofs.lemmas.Result.{err_from_is_err_and}
use Rattle.message_decoder.specs.Decoding.{ended}
use Rattle.message_decoder.proofs.WritingLemmas.{broke_none, writes_wider}
use Rattle.message_decoder.proofs.writing.write_line.Goals as goal

pub returns-in_err-push : goal.returns-in_err-push
returns-in_err-push g c =
    let e = err_from_is_err_and c.from_residual.result c.from_residual.ensures.1 in
    rw (e.1, e.2) (broke_none _ _)

pub returns : goal.returns
returns g c =
    writes_wider _ (λ text. text ≡ ended c.args.line) _ _ c.write.result
    (λ text is. is ∙ c.as_slice.ensures ∙ c.in_ok-push.ensures.ok) c.write.ensures

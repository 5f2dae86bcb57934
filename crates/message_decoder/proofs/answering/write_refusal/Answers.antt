use Rattle.std.proofs.lemmas.Result.{err_from_is_err_and}
use Rattle.message_decoder.proofs.WritingLemmas.{broke_none, writes_wider}
use Rattle.message_decoder.proofs.answering.write_refusal.Goals as goal

pub returns-in_err-remark : goal.returns-in_err-remark
returns-in_err-remark g c =
    let e = err_from_is_err_and c.from_residual.result c.from_residual.ensures.1 in
    rw (e.1, e.2) (broke_none _ _)

pub returns : goal.returns
returns g c =
    writes_wider _ _ _ _ c.write_line.result (λ text is. (c.in_ok-remark.remark, c.in_ok-remark.ensures, is))
    c.write_line.ensures

use Rattle.std.proofs.lemmas.Result.{err_from_is_err_and}
use Rattle.message_decoder.proofs.EffectLemmas.{gone_line}
use Rattle.message_decoder.proofs.WritingLemmas.{broke_none, writes_wider}
use Rattle.message_decoder.proofs.effects.write_gone_line.Goals as goal

pub returns-in_err-print_gone : goal.returns-in_err-print_gone
returns-in_err-print_gone g c =
    let e = err_from_is_err_and c.from_residual.result c.from_residual.ensures.1 in
    rw (e.1, e.2) (broke_none _ _)

pub returns : goal.returns
returns g c =
    writes_wider _ _ _ _ c.write_line.result
    (λ text is. gone_line c.args.key.now c.in_ok-print_gone.field-0 text c.in_ok-print_gone.ensures is)
    c.write_line.ensures

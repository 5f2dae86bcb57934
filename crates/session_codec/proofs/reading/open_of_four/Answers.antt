use Rattle.std.proofs.lemmas.Result.{err_from_is_err_and}
use Rattle.session_codec.proofs.ReadingLemmas.{four_err, four_none, four_some}
use Rattle.session_codec.proofs.reading.open_of_four.Goals as goal

pub returns-in_err-said : goal.returns-in_err-said
returns-in_err-said c =
    let e = err_from_is_err_and c.from_residual.result c.from_residual.ensures.1 in
    rw (e.1, e.2) (four_err c.args.own.now c.args.body.now _ c.in_err-said.ensures)

pub returns-in_default : goal.returns-in_default
returns-in_default c =
    four_none c.args.own.now c.args.body.now c.in_ok-said.said c.wants_as.result c.in_ok-said.ensures (cc)
    c.wants_as.ensures

pub returns : goal.returns
returns c =
    four_some c.args.own.now c.args.body.now c.in_ok-said.said c.in-Some.asn c.open_by.result c.judged.result
    c.in_ok-said.ensures (cc) c.open_by.ensures c.judged.ensures

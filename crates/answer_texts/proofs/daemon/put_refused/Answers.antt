use Rattle.std.proofs.Common.{◌≡◌, decimal}
use Rattle.config_model.specs.Kinds.{kind_word}
use Rattle.answer_texts.proofs.TextLemmas.{put_as, then}
use Rattle.answer_texts.proofs.daemon.put_refused.Goals as goal

pub returns : goal.returns
returns c =
    let line : decimal c.from.result ≡ decimal c.args.fault.line = cc c.from.ensures in
    let column : decimal c.from-2.result ≡ decimal c.args.fault.column = cc c.from-2.ensures in
    let kind : c.as_bytes.result.now ≡ kind_word c.args.fault.kind =
    cc (c.as_bytes.ensures.value, c.word.ensures)
    in
    (then c.in_ok-put.ensures.piece
    (then (put_as line c.in_ok-put_number.ensures.piece)
    (then c.in_ok-put-2.ensures.piece
    (then (put_as column c.in_ok-put_number-2.ensures.piece)
    (then c.in_ok-put-3.ensures.piece
    (then (put_as kind c.in_ok-put-4.ensures.piece)
    c.in_ok-put-5.ensures.piece)))))).after_is

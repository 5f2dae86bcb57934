use Rattle.std.proofs.Common.{◌≡◌}
use Rattle.hex.specs.Hex.{encode_upper}
use Rattle.answer_texts.specs.Texts.{place_text}
use Rattle.answer_texts.proofs.TextLemmas.{put_as, then}
use Rattle.answer_texts.proofs.neighbors.put_message.Goals as goal

pub returns : goal.returns
returns c =
    let place : c.place.result.now ≡ place_text c.args.last = cc c.place.ensures in
    let digits : c.as_bytes.result.now ≡ encode_upper c.args.bytes.now =
    cc (c.as_bytes.ensures.value, c.in_ok-digits.ensures)
    in
    (then c.in_ok-put.ensures.piece
    (then c.in_ok-put_number.ensures.piece
    (then (put_as place c.in_ok-put-2.ensures.piece)
    (then (put_as digits c.in_ok-put-3.ensures.piece)
    c.in_ok-put-4.ensures.piece)))).after_is

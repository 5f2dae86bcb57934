use Rattle.std.proofs.Common.{◌<◌, ◌+◌, ◌++◌, drop, length, take, refl, arith}
use Rattle.std.proofs.lemmas.Result.{err_from_is_err_and}
use Rattle.message_decoder.proofs.StreamLemmas.{buffer_stays, got_length, got_piece, got_within, piece_limit}
use Rattle.message_decoder.proofs.StreamLemmas.{reached_end, reached_failed, reached_limit, reached_more, reached_none}
use Rattle.message_decoder.proofs.StreamLemmas.{reached_stopped}
use Rattle.message_decoder.proofs.decoding.decode_all.Goals as goal

pub pieces-init : goal.pieces-init
pieces-init g c = record {
  within = omega arith;
  buffer = refl;
  reached = reached_none _ _ _ _ c.new.ensures.items;
}

pub returns-then-count-limit : goal.returns-then-count-limit
returns-then-count-limit g c =
    let into = c.read.new.into in
    let behind = drop c.min-room.result c.pieces.buffer in
    let got = got_length into behind c.in-Got.got c.in-Got.ensures.bytes.1 in
    piece_limit _ _ _ _ _ _ _ _ (take c.in-Got.got (into ++ behind)) _ _ c.pieces.invariant.reached
    (got_piece _ _ into behind c.in-Got.got c.in-Got.ensures.bytes.1 c.in-Got.ensures.bytes.2 c.in-Got.ensures.left
    c.in-Got.ensures.end c.in-Got.ensures.cause)
    (omega (arith, got, c.if-count-limit.true))

pub answer_piece-requires : goal.answer_piece-requires
answer_piece-requires g c =
    let into = c.read.new.into in
    let buffer = c.pieces.buffer in
    let got = got_length into (drop c.min-room.result buffer) c.in-Got.got c.in-Got.ensures.bytes.1 in
    let within = got_within c.pieces.count c.args.limit c.min-room.result c.in-Got.got into buffer c.min-room.ensures
    c.read.auto.into c.in-Got.ensures.bytes.1 c.pieces.invariant.within in
    record { few = omega (arith, got, within, c.pieces.invariant.reached.few) }

pub returns-in_err-answer_piece-in-Got : goal.returns-in_err-answer_piece-in-Got
returns-in_err-answer_piece-in-Got g c =
    let e = err_from_is_err_and c.from_residual.result c.from_residual.ensures.1 in
    let into = c.read.new.into in
    let buffer = c.pieces.buffer in
    let behind = drop c.min-room.result buffer in
    let got = got_length into behind c.in-Got.got c.in-Got.ensures.bytes.1 in
    let within = got_within c.pieces.count c.args.limit c.min-room.result c.in-Got.got into buffer c.min-room.ensures
    c.read.auto.into c.in-Got.ensures.bytes.1 c.pieces.invariant.within in
    let short : c.pieces.count + length (take c.in-Got.got (into ++ behind)) < c.args.limit =
    omega (arith, got, within, c.if-count-limit.false) in
    rw (e.1, e.2)
    (reached_stopped _ _ _ _ _ _ _ _ _ c.pieces.place.held.items (take c.in-Got.got (into ++ behind)) _
    c.pieces.place.number _ _ c.pieces.invariant.reached
    (got_piece _ _ into behind c.in-Got.got c.in-Got.ensures.bytes.1 c.in-Got.ensures.bytes.2 c.in-Got.ensures.left
    c.in-Got.ensures.end c.in-Got.ensures.cause)
    c.in_err-answer_piece-in-Got.ensures.took short)

pub pieces-preserved : goal.pieces-preserved
pieces-preserved g c =
    let into = c.read.new.into in
    let buffer = c.pieces.buffer in
    let behind = drop c.min-room.result buffer in
    let got = got_length into behind c.in-Got.got c.in-Got.ensures.bytes.1 in
    record {
      within = got_within c.pieces.count c.args.limit c.min-room.result c.in-Got.got into buffer c.min-room.ensures
          c.read.auto.into c.in-Got.ensures.bytes.1 c.pieces.invariant.within;
      buffer = buffer_stays _ c.min-room.result into buffer c.min-room.ensures c.read.auto.into
          c.pieces.invariant.buffer;
      reached =
          reached_more _ _ _ _ _ _ _ _ _ (take c.in-Got.got (into ++ behind)) _ _ _ _ c.pieces.invariant.reached
          (got_piece _ _ into behind c.in-Got.got c.in-Got.ensures.bytes.1 c.in-Got.ensures.bytes.2
          c.in-Got.ensures.left c.in-Got.ensures.end c.in-Got.ensures.cause)
          c.in_ok-answer_piece-in-Got.ensures.took c.in_ok-answer_piece-in-Got.ensures.count (omega (arith, got));
    }

pub returns-in-End : goal.returns-in-End
returns-in-End g c =
    let reached = c.pieces.invariant.reached in
    reached_end _ _ _ _ _ _ _ _ _ _ _ c.answer_last.result reached c.pieces-test.true
    (record {
      given = c.in-End.ensures.bytes;
      left = c.in-End.ensures.left.0;
      none = c.in-End.ensures.left.1;
      ended = c.in-End.ensures.end;
      unfailed = c.in-End.ensures.cause;
    })
    (c.answer_last.ensures reached.bytes reached.text reached.decoded)

pub returns-in-Failed : goal.returns-in-Failed
returns-in-Failed g c =
    reached_failed _ _ _ _ _ _ _ _ _ _ c.pieces.invariant.reached c.pieces-test.true c.in-Failed.ensures.bytes
    c.in-Failed.ensures.left c.in-Failed.ensures.cause

pub returns : goal.returns
returns g c =
    let within = c.pieces.invariant.within in
    let past = c.pieces-test.false in
    reached_limit _ _ _ _ _ _ _ _ _ c.pieces.invariant.reached (omega (arith, within, past))

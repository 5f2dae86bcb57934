use Rattle.std.proofs.Common.{◌<◌, ◌+◌, ◌++◌, ap, drop, length, take, refl, arith}
use Rattle.std.proofs.lemmas.Result.{err_from_is_err_and}
use Rattle.line_cutter.specs.Cutting.{standing}
use Rattle.script_play.specs.Streams.{input_limit}
use Rattle.script_play.proofs.InputLemmas.{input_ended, input_failed, input_full, input_long, input_more, input_none}
use Rattle.script_play.proofs.InputLemmas.{input_stopped}
use Rattle.script_play.proofs.StreamLemmas.{buffer_stays, got_few, got_length, got_piece, got_within}
use Rattle.script_play.proofs.answering.answer_all.Goals as goal

pub pieces-init : goal.pieces-init
pieces-init g c = record {
  within = omega arith;
  buffer = refl;
  none = ap standing c.requires;
  reached = λ cfg H stands. input_none cfg H _ _ _ _ c.requires stands;
}

pub returns-then-count-eq-MAX_INPUT : goal.returns-then-count-eq-MAX_INPUT
returns-then-count-eq-MAX_INPUT g c = λ cfg H stands.
    let into = c.read.new.into in
    let buffer = c.pieces.buffer in
    let behind = drop c.min-room.result buffer in
    let got = got_length into behind c.in-Got.got c.in-Got.ensures.bytes.1 in
    let few = got_few _ c.min-room.result c.in-Got.got into buffer c.min-room.ensures c.read.auto.into
    c.in-Got.ensures.bytes.1 in
    let full = c.if-count-eq-MAX_INPUT.true in
    input_long cfg H _ _ _ _ _ _ _ (take c.in-Got.got (into ++ behind)) _ (c.pieces.invariant.reached cfg H stands)
    (got_piece _ _ into behind c.in-Got.got c.in-Got.ensures.bytes.1 c.in-Got.ensures.bytes.2 c.in-Got.ensures.left
    c.in-Got.ensures.end c.in-Got.ensures.cause)
    (omega (arith, got, full)) (omega (arith, got, few))

pub returns-in_err-answer_piece-in-Got : goal.returns-in_err-answer_piece-in-Got
returns-in_err-answer_piece-in-Got g c =
    let e = err_from_is_err_and c.from_residual.result c.from_residual.ensures.1 in
    let into = c.read.new.into in
    let buffer = c.pieces.buffer in
    let behind = drop c.min-room.result buffer in
    let got = got_length into behind c.in-Got.got c.in-Got.ensures.bytes.1 in
    let within = got_within c.pieces.count input_limit c.min-room.result c.in-Got.got into buffer c.min-room.ensures
    c.read.auto.into c.in-Got.ensures.bytes.1 c.pieces.invariant.within in
    let full = c.if-count-eq-MAX_INPUT.false in
    let short : c.pieces.count + length (take c.in-Got.got (into ++ behind)) < input_limit =
    omega (arith, got, within, full) in
    λ cfg H stands.
    rw (e.1, e.2)
    (input_stopped cfg H _ c.answer_piece.new.cutter _ c.answer_piece.new.player _ _ _ _ _ _
    (take c.in-Got.got (into ++ behind)) _ _ (c.pieces.invariant.reached cfg H stands)
    (got_piece _ _ into behind c.in-Got.got c.in-Got.ensures.bytes.1 c.in-Got.ensures.bytes.2 c.in-Got.ensures.left
    c.in-Got.ensures.end c.in-Got.ensures.cause)
    c.in_err-answer_piece-in-Got.ensures.answers short)

pub pieces-preserved : goal.pieces-preserved
pieces-preserved g c =
    let into = c.read.new.into in
    let buffer = c.pieces.buffer in
    let behind = drop c.min-room.result buffer in
    let got = got_length into behind c.in-Got.got c.in-Got.ensures.bytes.1 in
    record {
      within = got_within c.pieces.count input_limit c.min-room.result c.in-Got.got into buffer c.min-room.ensures
          c.read.auto.into c.in-Got.ensures.bytes.1 c.pieces.invariant.within;
      buffer = buffer_stays _ c.min-room.result into buffer c.min-room.ensures c.read.auto.into
          c.pieces.invariant.buffer;
      none = c.in_ok-answer_piece-in-Got.ensures.none;
      reached = λ cfg H stands.
          input_more cfg H _ _ _ _ _ _ _ _ _ _ (take c.in-Got.got (into ++ behind)) _ _
          (c.pieces.invariant.reached cfg H stands)
          (got_piece _ _ into behind c.in-Got.got c.in-Got.ensures.bytes.1 c.in-Got.ensures.bytes.2
          c.in-Got.ensures.left c.in-Got.ensures.end c.in-Got.ensures.cause)
          c.in_ok-answer_piece-in-Got.ensures.answers c.in_ok-answer_piece-in-Got.ensures.none (omega (arith, got));
    }

pub returns-in-End : goal.returns-in-End
returns-in-End g c = λ cfg H stands.
    input_ended cfg H _ _ _ _ _ _ _ _ (c.pieces.invariant.reached cfg H stands) c.pieces-test.true
    (record {
      given = c.in-End.ensures.bytes;
      left = c.in-End.ensures.left.0;
      none = c.in-End.ensures.left.1;
      ended = c.in-End.ensures.end;
      unfailed = c.in-End.ensures.cause;
    })

pub returns-in-Failed : goal.returns-in-Failed
returns-in-Failed g c = λ cfg H stands.
    input_failed cfg H _ _ _ _ _ _ _ _ (c.pieces.invariant.reached cfg H stands) c.pieces-test.true
    c.in-Failed.ensures.bytes c.in-Failed.ensures.left c.in-Failed.ensures.cause

pub returns : goal.returns
returns g c = λ cfg H stands.
    let within = c.pieces.invariant.within in
    let past = c.pieces-test.false in
    input_full cfg H _ _ _ _ _ _ _ (c.pieces.invariant.reached cfg H stands) (omega (arith, within, past))

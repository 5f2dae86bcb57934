use Rattle.std.proofs.Common.{◌<◌, ◌+◌, ◌++◌, ap, drop, length, take, refl, arith}
use Rattle.line_cutter.specs.Cutting.{standing}
use Rattle.script_play.proofs.StreamLemmas.{buffer_stays, got_few, got_length, got_piece, got_within}
use Rattle.exa_top.specs.Top.{input_limit}
use Rattle.exa_top.proofs.InputLemmas.{input_ended, input_long, never_begun, piece_long, piece_stopped, read_failed}
use Rattle.exa_top.proofs.InputLemmas.{told_more, told_none}
use Rattle.exa_top.proofs.parsing.parse.Goals as goal

pub pieces-init : goal.pieces-init
pieces-init g c = record {
  within = omega arith;
  buffer = refl;
  none = ap standing c.in-Ok.ensures;
  told = told_none _ _ _ c.in-Ok.ensures;
}

pub returns-then-count-eq-MAX_INPUT : goal.returns-then-count-eq-MAX_INPUT
returns-then-count-eq-MAX_INPUT g c =
    let into = c.read.new.into in
    let buffer = c.pieces.buffer in
    let behind = drop c.min-room.result buffer in
    let got = got_length into behind c.in-Got.got c.in-Got.ensures.bytes.1 in
    let few = got_few _ c.min-room.result c.in-Got.got into buffer c.min-room.ensures c.read.auto.into
    c.in-Got.ensures.bytes.1 in
    let full = c.if-count-eq-MAX_INPUT.true in
    piece_long _ _ _ _ _ _ (take c.in-Got.got (into ++ behind)) _ c.pieces.invariant.told
    (got_piece _ _ into behind c.in-Got.got c.in-Got.ensures.bytes.1 c.in-Got.ensures.bytes.2 c.in-Got.ensures.left
    c.in-Got.ensures.end c.in-Got.ensures.cause)
    (omega (arith, got, full)) (omega (arith, got, few))

pub returns-in_default : goal.returns-in_default
returns-in_default g c = never_begun _ _

pub returns-in-Err : goal.returns-in-Err
returns-in-Err g c =
    let into = c.read.new.into in
    let buffer = c.pieces.buffer in
    let behind = drop c.min-room.result buffer in
    let got = got_length into behind c.in-Got.got c.in-Got.ensures.bytes.1 in
    let few = got_few _ c.min-room.result c.in-Got.got into buffer c.min-room.ensures c.read.auto.into
    c.in-Got.ensures.bytes.1 in
    let within = got_within c.pieces.count input_limit c.min-room.result c.in-Got.got into buffer c.min-room.ensures
    c.read.auto.into c.in-Got.ensures.bytes.1 c.pieces.invariant.within in
    let full = c.if-count-eq-MAX_INPUT.false in
    let short : c.pieces.count + length (take c.in-Got.got (into ++ behind)) < input_limit =
    omega (arith, got, within, full) in
    piece_stopped _ c.tell_piece.new.cutter _ _ _ _ _ _ (take c.in-Got.got (into ++ behind)) _ c.in-Err.status
    c.pieces.invariant.told
    (got_piece _ _ into behind c.in-Got.got c.in-Got.ensures.bytes.1 c.in-Got.ensures.bytes.2 c.in-Got.ensures.left
    c.in-Got.ensures.end c.in-Got.ensures.cause)
    short (omega (arith, got, few)) c.in-Err.ensures

pub pieces-preserved : goal.pieces-preserved
pieces-preserved g c =
    let into = c.read.new.into in
    let buffer = c.pieces.buffer in
    let behind = drop c.min-room.result buffer in
    let got = got_length into behind c.in-Got.got c.in-Got.ensures.bytes.1 in
    record {
      within = got_within c.pieces.count input_limit c.min-room.result c.in-Got.got into buffer c.min-room.ensures
          c.read.auto.into c.in-Got.ensures.bytes.1 c.pieces.invariant.within;
      buffer = buffer_stays _ c.min-room.result into buffer c.min-room.ensures c.read.auto.into
          c.pieces.invariant.buffer;
      none = c.in_default-tell_piece.ensures.none;
      told =
          told_more _ _ _ _ _ _ _ _ (take c.in-Got.got (into ++ behind)) _ _ c.pieces.invariant.told
          (got_piece _ _ into behind c.in-Got.got c.in-Got.ensures.bytes.1 c.in-Got.ensures.bytes.2
          c.in-Got.ensures.left c.in-Got.ensures.end c.in-Got.ensures.cause)
          c.in_default-tell_piece.ensures (omega (arith, got));
    }

pub returns-in-End : goal.returns-in-End
returns-in-End g c =
    input_ended _ _ _ _ _ _ _ c.pieces.invariant.told c.pieces-test.true
    (record {
      given = c.in-End.ensures.bytes;
      left = c.in-End.ensures.left.0;
      none = c.in-End.ensures.left.1;
      ended = c.in-End.ensures.end;
      unfailed = c.in-End.ensures.cause;
    })

pub returns-in-Failed : goal.returns-in-Failed
returns-in-Failed g c =
    read_failed _ _ _ _ _ _ _ c.pieces.invariant.told c.pieces-test.true c.in-Failed.ensures.bytes
    c.in-Failed.ensures.left c.in-Failed.ensures.cause

pub returns : goal.returns
returns g c =
    let within = c.pieces.invariant.within in
    let past = c.pieces-test.false in
    input_long _ _ _ _ _ _ c.pieces.invariant.told (omega (arith, within, past))

use Rattle.std.proofs.Common.{◌<◌, ◌+◌, ◌-◌, ◌++◌, ◌∙◌, drop, length, take, refl, arith, List, ℕ}
use Rattle.std.proofs.lemmas.Result.{err_from_is_err_and}
use Rattle.outside.specs.Seen.{sink_seen, source_seen}
use Rattle.script_play.specs.Streams.{input_limit}
use Rattle.script_play.proofs.LentLemmas.{lent_on, lent_same}
use Rattle.script_play.proofs.StreamLemmas.{buffer_stays, got_few, got_length, got_piece, got_within, piece_limit}
use Rattle.script_play.proofs.StreamLemmas.{reached_end, reached_failed, reached_limit, reached_more, reached_none}
use Rattle.script_play.proofs.StreamLemmas.{reached_stopped}
use Rattle.script_play.proofs.playing.play_all.Goals as goal

pub pieces-init : goal.pieces-init
pieces-init g c = record {
  within = omega arith;
  buffer = refl;
  reached = reached_none _ _ _ _ _ _ _ c.in_ok-player.ensures c.new-2.ensures.items;
  content = refl;
  back = lent_same _;
}

pub returns-then-count-eq-MAX_INPUT-clause-plays : goal.returns-then-count-eq-MAX_INPUT-clause-plays
returns-then-count-eq-MAX_INPUT-clause-plays g c =
    let into : List ℕ = c.read.new.into in
    let behind : List ℕ = drop c.min-room.result c.pieces.buffer in
    let got = got_length into behind c.in-Got.got c.in-Got.ensures.bytes.1 in
    let few = got_few (input_limit - c.pieces.count) c.min-room.result c.in-Got.got into c.pieces.buffer
    c.min-room.ensures c.read.auto.into c.in-Got.ensures.bytes.1 in
    piece_limit _ _ _ (source_seen g.S.Source.given g.S.Source.left g.S.Source.ended g.S.Source.faults c.pieces.input)
    _ _ _ _ _ c.pieces.player c.pieces.place.held.items (take c.in-Got.got (into ++ behind)) c.pieces.place.number
    c.pieces.count c.pieces.invariant.reached
    (got_piece _ _ into behind c.in-Got.got c.in-Got.ensures.bytes.1 c.in-Got.ensures.bytes.2 c.in-Got.ensures.left
    c.in-Got.ensures.end c.in-Got.ensures.cause)
    (omega (arith, got, few)) (omega (arith, got, c.if-count-eq-MAX_INPUT.true))

pub pieces-preserved : goal.pieces-preserved
pieces-preserved g c =
    let into : List ℕ = c.read.new.into in
    let buffer : List ℕ = c.pieces.buffer in
    let behind : List ℕ = drop c.min-room.result buffer in
    let got = got_length into behind c.in-Got.got c.in-Got.ensures.bytes.1 in
    record {
      within = got_within c.pieces.count input_limit c.min-room.result c.in-Got.got into buffer c.min-room.ensures
          c.read.auto.into c.in-Got.ensures.bytes.1 c.pieces.invariant.within;
      buffer = buffer_stays (input_limit - c.pieces.count) c.min-room.result into buffer c.min-room.ensures
          c.read.auto.into c.pieces.invariant.buffer;
      reached = reached_more (g.F.Files.content c.args.files.now) (g.F.Files.content c.pieces.files) _ _
          (source_seen g.S.Source.given g.S.Source.left g.S.Source.ended g.S.Source.faults c.pieces.input) _ _
          (sink_seen g.K.Sink.taken g.K.Sink.faults c.pieces.output) _ _ (g.F.Files.faults c.pieces.files) _
          c.pieces.player _ c.pieces.place.held.items _ (take c.in-Got.got (into ++ behind)) c.pieces.place.number _
          c.pieces.count _ c.pieces.invariant.reached
          (got_piece _ _ into behind c.in-Got.got c.in-Got.ensures.bytes.1 c.in-Got.ensures.bytes.2
          c.in-Got.ensures.left c.in-Got.ensures.end c.in-Got.ensures.cause)
          c.pieces.invariant.content c.in_ok-play_piece-in-Got.ensures.plays
          c.in_ok-play_piece-in-Got.ensures.count (omega (arith, got));
      content = c.in_ok-play_piece-in-Got.ensures.content ∙ c.pieces.invariant.content;
      back = lent_on _ _ _ c.pieces.invariant.back c.in_ok-play_piece-in-Got.ensures.back;
    }

pub returns-in_err-play_piece-in-Got-clause-plays : goal.returns-in_err-play_piece-in-Got-clause-plays
returns-in_err-play_piece-in-Got-clause-plays g c =
    let e = err_from_is_err_and c.from_residual-in_err-play_piece-in-Got.result
    c.from_residual-in_err-play_piece-in-Got.ensures.1 in
    let into : List ℕ = c.read.new.into in
    let buffer : List ℕ = c.pieces.buffer in
    let behind : List ℕ = drop c.min-room.result buffer in
    let got = got_length into behind c.in-Got.got c.in-Got.ensures.bytes.1 in
    let within = got_within c.pieces.count input_limit c.min-room.result c.in-Got.got into buffer c.min-room.ensures
    c.read.auto.into c.in-Got.ensures.bytes.1 c.pieces.invariant.within in
    let short : c.pieces.count + length (take c.in-Got.got (into ++ behind)) < input_limit =
    omega (arith, got, within, c.if-count-eq-MAX_INPUT.false) in
    rw (e.1, e.2)
    (reached_stopped (g.F.Files.content c.args.files.now) (g.F.Files.content c.pieces.files) _ _
    (source_seen g.S.Source.given g.S.Source.left g.S.Source.ended g.S.Source.faults c.pieces.input) _ _
    (sink_seen g.K.Sink.taken g.K.Sink.faults c.pieces.output) _ _ (g.F.Files.faults c.pieces.files) _
    c.pieces.player c.play_piece.new.player c.pieces.place.held.items c.play_piece.new.place.held.items
    (take c.in-Got.got (into ++ behind)) c.pieces.place.number c.play_piece.new.place.number c.pieces.count _
    c.pieces.invariant.reached
    (got_piece _ _ into behind c.in-Got.got c.in-Got.ensures.bytes.1 c.in-Got.ensures.bytes.2 c.in-Got.ensures.left
    c.in-Got.ensures.end c.in-Got.ensures.cause)
    c.pieces.invariant.content c.in_err-play_piece-in-Got.ensures.plays short)

pub returns-in-End-clause-plays : goal.returns-in-End-clause-plays
returns-in-End-clause-plays g c =
    reached_end (g.F.Files.content c.args.files.now) (g.F.Files.content c.pieces.files) _ _
    (source_seen g.S.Source.given g.S.Source.left g.S.Source.ended g.S.Source.faults c.pieces.input) _ _
    (sink_seen g.K.Sink.taken g.K.Sink.faults c.pieces.output) _ _ (g.F.Files.faults c.pieces.files) _
    c.pieces.player c.pieces.place.held.items c.pieces.place.number c.pieces.count c.play_last.result
    c.pieces.invariant.reached c.pieces-test.true
    (record {
      given = c.in-End.ensures.bytes;
      left = c.in-End.ensures.left.0;
      none = c.in-End.ensures.left.1;
      ended = c.in-End.ensures.end;
      unfailed = c.in-End.ensures.cause;
    })
    c.pieces.invariant.content c.play_last.ensures.plays

pub returns-in-End-clause-back : goal.returns-in-End-clause-back
returns-in-End-clause-back g c = lent_on _ _ _ c.pieces.invariant.back c.play_last.ensures.back

pub returns-in-Failed-clause-plays : goal.returns-in-Failed-clause-plays
returns-in-Failed-clause-plays g c =
    reached_failed _ _ _
    (source_seen g.S.Source.given g.S.Source.left g.S.Source.ended g.S.Source.faults c.pieces.input) _ _ _ _ _
    c.pieces.player c.pieces.place.held.items c.pieces.place.number c.pieces.count
    c.pieces.invariant.reached c.pieces-test.true c.in-Failed.ensures.bytes c.in-Failed.ensures.left
    c.in-Failed.ensures.cause

pub returns-clause-plays : goal.returns-clause-plays
returns-clause-plays g c =
    let within = c.pieces.invariant.within in
    let past = c.pieces-test.false in
    reached_limit _ _ _ _ _ _ _ _ c.pieces.player c.pieces.place.held.items c.pieces.place.number c.pieces.count
    c.pieces.invariant.reached (omega (arith, within, past))

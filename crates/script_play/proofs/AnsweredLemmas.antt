-- Lines that end in a piece, answered one by one.
use Rattle.std.proofs.Common.{ℕ, ◌≡◌, ◌⊎◌, Bool, true, false, cond, List, [], ◌∷◌, ◌++◌, length, take, drop, Option}
use Rattle.std.proofs.Common.{Some, None}
use Rattle.std.proofs.Common.{Ok, Err, ap, sym, ◌∙◌, refl, subst, append_assoc, append-nil, arith, inl, inr}
use Rattle.std.specs.Option.{option_to_list}
use Rattle.std.proofs.lemmas.List.{take-append-drop, take_all}
use Rattle.outside.specs.Seen.{SinkSeen}
use Rattle.text_forms.specs.Lines.{Line, Text, TooLong, lines, without_return}
use Rattle.line_cutter.specs.Chunking.{HasCut}
use Rattle.line_cutter.specs.Cutting.{Cutting, advanced, count_of, fed, fresh, standing}
use Rattle.line_cutter.proofs.ChunkingLemmas.{cut_passes, cut_takes}
use Rattle.line_cutter.proofs.UnfinishedLemmas.{lines_stay}
use Rattle.text_history.specs.Encodes.{AddsAnswer}
use Rattle.script_play.specs.declared.halt.Halt.{Halt}
use Rattle.script_play.specs.declared.player.Player.{Player}
use Rattle.script_play.specs.Encoding.{AnswersLine, AnswersPiece}
use Rattle.script_play.proofs.AddedLemmas.{added_both, added_none, added_one, front_both, front_one, writes_later}

-- what is gone of a piece, and what is left
parts : (piece gone rest : List ℕ) (count : ℕ) → piece ≡ gone ++ rest
    → piece ≡ (gone ++ take count rest) ++ drop count rest
parts piece gone rest count is =
    is ∙ ap (λ (last : List ℕ). gone ++ last) (sym (take-append-drop count rest))
    ∙ sym (append_assoc gone (take count rest) (drop count rest))

-- once the line that stands is passed, none does
advanced_none : (now : Cutting) (ended : Bool) → now.ended ≡ ended → standing (advanced now) ≡ None
advanced_none now true is = ap (λ ended. standing (cond ended fresh now)) is
advanced_none now false is =
    ap (λ ended. standing (cond ended fresh now)) is
    ∙ ap (λ ended. cond ended (Some (cond now.long TooLong (Text (without_return now.bytes)))) None) is

-- a rest of which no line stands is taken whole
whole_taken : (count : ℕ) (rest : List ℕ) (after : Cutting) → (count ≡ length rest) ⊎ (after.ended ≡ true)
    → after.ended ≡ false → take count rest ≡ rest
whole_taken count rest after (inl all) open_now = take_all count rest (omega (arith, all))
whole_taken count rest after (inr stands) open_now = absurd (cc)

-- the front of a piece was taken, and this rest of it is left
pub record AnsweredFront (piece rest : List ℕ) (held held' : Cutting) (was player : Player) (sink sink' : SinkSeen)
    : Type 0 where
  pub gone : List ℕ
  pub piece_is : piece ≡ gone ++ rest
  pub none : standing held' ≡ None
  pub answers : AnswersPiece gone held held' was player sink sink' (Ok tt)

pub front_none : (piece : List ℕ) (held : Cutting) (player : Player) (sink : SinkSeen) → standing held ≡ None
    → AnsweredFront piece piece held held player player sink sink
front_none piece held player sink none = record {
  gone = [];
  piece_is = refl;
  none = none;
  answers = λ cfg bytes passed H cut stands.
      record {
        more = [];
        cut =
            subst (λ (all : List ℕ). HasCut all (passed ++ []) held) (sym (append-nil bytes))
            (subst (λ (all : List Line). HasCut bytes all held) (sym (append-nil passed)) cut);
        answered = added_none AddsAnswer cfg H player sink stands;
      };
}

-- bytes of the rest are taken
answers_fed : (gone rest : List ℕ) (held held' after : Cutting) (count : ℕ) (was player : Player)
    (sink sink' : SinkSeen) → AnswersPiece gone held held' was player sink sink' (Ok tt) → count ≡ count_of rest held'
    → after ≡ fed rest held' → AnswersPiece (gone ++ take count rest) held after was player sink sink' (Ok tt)
answers_fed gone rest held held' after count was player sink sink' answers counted is cfg bytes passed H cut stands =
    let front = answers cfg bytes passed H cut stands in
    record {
      more = front.more;
      cut =
          subst (λ (all : List ℕ). HasCut all (passed ++ front.more) after) (append_assoc bytes gone (take count rest))
          (subst (λ (now : Cutting). HasCut ((bytes ++ gone) ++ take count rest) (passed ++ front.more) now) (sym is)
          (subst (λ n. HasCut ((bytes ++ gone) ++ take n rest) (passed ++ front.more) (fed rest held')) (sym counted)
          (cut_takes (bytes ++ gone) (passed ++ front.more) held' rest front.cut)));
      answered = front.answered;
    }

-- the line that stands then was answered, and is passed
answers_passed : (front : List ℕ) (line : Line) (held after held' : Cutting) (was between player : Player)
    (sink mid sink' : SinkSeen) → AnswersPiece front held after was between sink mid (Ok tt)
    → Some line ≡ standing after → held' ≡ advanced after → AnswersLine line between player mid sink' (Ok tt)
    → AnswersPiece front held held' was player sink sink' (Ok tt)
answers_passed front line held after held' was between player sink mid sink' answers stood passes one cfg bytes passed H
    cut stands =
    let before = answers cfg bytes passed H cut stands in
    record {
      more = before.more ++ line ∷ [];
      cut =
          subst (λ (all : List Line). HasCut (bytes ++ front) all held') (append_assoc passed before.more (line ∷ []))
          (subst (λ (now : Cutting). HasCut (bytes ++ front) ((passed ++ before.more) ++ line ∷ []) now) (sym passes)
          (subst (λ (some : Option Line). HasCut (bytes ++ front) ((passed ++ before.more) ++ option_to_list some)
          (advanced after)) (sym stood)
          (cut_passes (bytes ++ front) (passed ++ before.more) after before.cut)));
      answered =
          added_both AddsAnswer cfg H before.more (line ∷ []) between player sink mid sink' before.answered
          (added_one AddsAnswer cfg (before.answered.added ++ H) line player mid sink'
          (one cfg (before.answered.added ++ H) before.answered.stands));
    }

-- it wasn't answered whole
answers_stopped : (piece front behind : List ℕ) (line : Line) (held after last : Cutting)
    (was between player now : Player) (sink mid sink' : SinkSeen) (halted : Halt) → piece ≡ front ++ behind
    → AnswersPiece front held after was between sink mid (Ok tt) → Some line ≡ standing after
    → AnswersLine line between player mid sink' (Err halted)
    → AnswersPiece piece held last was now sink sink' (Err halted)
answers_stopped piece front behind line held after last was between player now sink mid sink' halted is answers stood
    one
    cfg bytes passed H cut stands =
    let before = answers cfg bytes passed H cut stands in
    let stay = lines_stay (bytes ++ front) behind in
    let part = one cfg (before.answered.added ++ H) before.answered.stands in (
      record {
        more = before.more ++ line ∷ stay.0;
        lines_are =
            ap lines (ap (λ (end : List ℕ). bytes ++ end) is ∙ sym (append_assoc bytes front behind)) ∙ stay.1
            ∙ ap (λ (all : List Line). all ++ stay.0)
            (before.cut.lines_are
            ∙ ap (λ (some : Option Line). (passed ++ before.more) ++ option_to_list some) (sym stood)
            ∙ append_assoc passed before.more (line ∷ []))
            ∙ append_assoc passed (before.more ++ line ∷ []) stay.0
            ∙ ap (λ (all : List Line). passed ++ all) (append_assoc before.more (line ∷ []) stay.0);
        answered =
            front_both AddsAnswer cfg H before.more (line ∷ stay.0) between sink mid sink' before.answered
            (front_one AddsAnswer cfg (before.answered.added ++ H) line stay.0 mid sink' part.0);
      },
      writes_later sink mid sink' halted before.answered.wrote.same part.1,
    )

pub front_goes_on : (piece rest left : List ℕ) (line : Line) (held held' after held'' : Cutting) (count : ℕ)
    (was between player : Player) (sink mid sink' : SinkSeen)
    → AnsweredFront piece rest held held' was between sink mid → count ≡ count_of rest held' → after ≡ fed rest held'
    → left ≡ drop count rest → Some line ≡ standing after → held'' ≡ advanced after
    → AnswersLine line between player mid sink' (Ok tt)
    → AnsweredFront piece left held held'' was player sink sink'
front_goes_on piece rest left line held held' after held'' count was between player sink mid sink' took counted is
    left_is
    stood passes one =
    record {
      gone = took.gone ++ take count rest;
      piece_is =
          parts piece took.gone rest count took.piece_is
          ∙ ap (λ (end : List ℕ). (took.gone ++ take count rest) ++ end) (sym left_is);
      none = ap standing passes ∙ advanced_none after after.ended refl;
      answers =
          answers_passed (took.gone ++ take count rest) line held after held'' was between player sink mid sink'
          (answers_fed took.gone rest held held' after count was between sink mid took.answers counted is) stood passes
          one;
    }

pub front_stopped : (piece rest : List ℕ) (line : Line) (held held' after last : Cutting) (count : ℕ)
    (was between player now : Player) (sink mid sink' : SinkSeen) (halted : Halt)
    → AnsweredFront piece rest held held' was between sink mid → count ≡ count_of rest held' → after ≡ fed rest held'
    → Some line ≡ standing after → AnswersLine line between player mid sink' (Err halted)
    → AnswersPiece piece held last was now sink sink' (Err halted)
front_stopped piece rest line held held' after last count was between player now sink mid sink' halted took counted is
    stood one =
    answers_stopped piece (took.gone ++ take count rest) (drop count rest) line held after last was between player now
    sink
    mid sink' halted (parts piece took.gone rest count took.piece_is)
    (answers_fed took.gone rest held held' after count was between sink mid took.answers counted is) stood one

pub front_all : (piece rest : List ℕ) (held held' after : Cutting) (count : ℕ) (was player : Player)
    (sink sink' : SinkSeen) → AnsweredFront piece rest held held' was player sink sink' → count ≡ count_of rest held'
    → after ≡ fed rest held' → (count ≡ length rest) ⊎ (after.ended ≡ true) → after.ended ≡ false
    → AnswersPiece piece held after was player sink sink' (Ok tt)
front_all piece rest held held' after count was player sink sink' took counted is whole open_now =
    subst (λ (all : List ℕ). AnswersPiece all held after was player sink sink' (Ok tt))
    (ap (λ (end : List ℕ). took.gone ++ end) (whole_taken count rest after whole open_now) ∙ sym took.piece_is)
    (answers_fed took.gone rest held held' after count was player sink sink' took.answers counted is)

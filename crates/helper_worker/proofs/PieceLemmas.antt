-- Lines that end in a piece, entered one by one.
use Rattle.std.proofs.Common.{ℕ, ◌≡◌, ◌⊎◌, Bool, true, false, cond, List, [], ◌∷◌, ◌++◌, length, take, drop, Option}
use Rattle.std.proofs.Common.{Some, None}
use Rattle.std.proofs.Common.{ap, sym, ◌∙◌, refl, subst, append_assoc, append-nil, arith, inl, inr}
use Rattle.std.specs.Option.{option_to_list}
use Rattle.std.proofs.lemmas.List.{take-append-drop, take_all}
use Rattle.text_forms.specs.Lines.{Line, Text, TooLong, lines, without_return}
use Rattle.line_cutter.specs.Chunking.{HasCut}
use Rattle.line_cutter.specs.Cutting.{Cutting, advanced, count_of, fed, fresh, standing}
use Rattle.line_cutter.proofs.ChunkingLemmas.{cut_passes, cut_takes}
use Rattle.line_cutter.proofs.UnfinishedLemmas.{lines_stay}
use Rattle.book_history.specs.Entries.{Entry}
use Rattle.book_gate.specs.Known.{Known}
use Rattle.helper_worker.specs.Lines.{EntersLine, EntersPiece}
use Rattle.helper_worker.proofs.RunLemmas.{lines_both, lines_none}

-- what is gone of a piece, and what is left
parts : (piece gone rest : List ℕ) (count : ℕ) → piece ≡ gone ++ rest
    → piece ≡ (gone ++ take count rest) ++ drop count rest
parts piece gone rest count is =
    is ∙ ap (λ (last : List ℕ). gone ++ last) (sym (take-append-drop count rest))
    ∙ sym (append_assoc gone (take count rest) (drop count rest))

-- once the line that stands is passed, none does
advanced_none : (now : Cutting) (ended : Bool) → now.ended ≡ ended → standing (advanced now) ≡ None
advanced_none now true is = ap (λ ended. standing (cond ended fresh now)) is
advanced_none now false is =
    ap (λ ended. standing (cond ended fresh now)) is
    ∙ ap (λ ended. cond ended (Some (cond now.long TooLong (Text (without_return now.bytes)))) None) is

-- a rest of which no line stands is taken whole
whole_taken : (count : ℕ) (rest : List ℕ) (then : Cutting) → (count ≡ length rest) ⊎ (then.ended ≡ true)
    → then.ended ≡ false → take count rest ≡ rest
whole_taken count rest then (inl all) open_now = take_all count rest (omega (arith, all))
whole_taken count rest then (inr stands) open_now = absurd (cc)

module _ {A : Type 0} where
  -- the front of a piece was taken, and this rest of it is left
  pub record TookFront (pass : Known A Entry) (h inc : ℕ) (piece rest : List ℕ) (held held' : Cutting)
      (later : Known A Entry) : Type 0 where
    pub gone : List ℕ
    pub piece_is : piece ≡ gone ++ rest
    pub none : standing held' ≡ None
    pub gate : later.gate ≡ pass.gate
    pub enters : EntersPiece pass h inc held gone true held' later

  pub front_none : (pass : Known A Entry) (h inc : ℕ) (piece : List ℕ) (held : Cutting) → standing held ≡ None
      → TookFront pass h inc piece piece held held pass
  front_none pass h inc piece held none =
      record {
        gone = [];
        piece_is = refl;
        none = none;
        gate = refl;
        enters = λ bytes passed cut.
            record {
              more = [];
              cut = subst (λ (all : List ℕ). HasCut all (passed ++ []) held) (sym (append-nil bytes))
                  (subst (λ (all : List Line). HasCut bytes all held) (sym (append-nil passed)) cut);
              enters = lines_none pass h inc;
            };
      }

  -- bytes of the rest are taken
  enters_fed : (pass later : Known A Entry) (h inc : ℕ) (gone rest : List ℕ) (held held' then : Cutting) (count : ℕ)
      → EntersPiece pass h inc held gone true held' later → count ≡ count_of rest held' → then ≡ fed rest held'
      → EntersPiece pass h inc held (gone ++ take count rest) true then later
  enters_fed pass later h inc gone rest held held' then count enters counted is bytes passed cut =
      let front = enters bytes passed cut in
      record {
        more = front.more;
        cut =
            subst (λ (all : List ℕ). HasCut all (passed ++ front.more) then) (append_assoc bytes gone (take count rest))
            (subst (λ (after : Cutting). HasCut ((bytes ++ gone) ++ take count rest) (passed ++ front.more) after)
            (sym is)
            (subst (λ n. HasCut ((bytes ++ gone) ++ take n rest) (passed ++ front.more) (fed rest held')) (sym counted)
            (cut_takes (bytes ++ gone) (passed ++ front.more) held' rest front.cut)));
        enters = front.enters;
      }

  -- the line that stands then was taken, and is passed
  enters_passed : (pass between later : Known A Entry) (h inc : ℕ) (front : List ℕ) (line : Line)
      (held then held' : Cutting) → EntersPiece pass h inc held front true then between → Some line ≡ standing then
      → held' ≡ advanced then → EntersLine between h inc line true later
      → EntersPiece pass h inc held front true held' later
  enters_passed pass between later h inc front line held then held' enters stands passes one bytes passed cut =
      let before = enters bytes passed cut in
      record {
        more = before.more ++ line ∷ [];
        cut =
            subst (λ (all : List Line). HasCut (bytes ++ front) all held') (append_assoc passed before.more (line ∷ []))
            (subst (λ (after : Cutting). HasCut (bytes ++ front) ((passed ++ before.more) ++ line ∷ []) after)
            (sym passes)
            (subst (λ (some : Option Line). HasCut (bytes ++ front) ((passed ++ before.more) ++ option_to_list some)
            (advanced then)) (sym stands)
            (cut_passes (bytes ++ front) (passed ++ before.more) then before.cut)));
        enters = lines_both pass between later h inc before.more (line ∷ []) false before.enters one;
      }

  -- it came too late
  enters_late : (pass between later : Known A Entry) (h inc : ℕ) (piece front behind : List ℕ) (line : Line)
      (held then last : Cutting) → piece ≡ front ++ behind → EntersPiece pass h inc held front true then between
      → Some line ≡ standing then → EntersLine between h inc line false later
      → EntersPiece pass h inc held piece false last later
  enters_late pass between later h inc piece front behind line held then last is enters stands one bytes passed cut =
      let before = enters bytes passed cut in
      let stay = lines_stay (bytes ++ front) behind in
      record {
        front = before.more ++ line ∷ [];
        behind = stay.0;
        lines_are =
            ap lines (ap (λ (last : List ℕ). bytes ++ last) is ∙ sym (append_assoc bytes front behind)) ∙ stay.1
            ∙ ap (λ (all : List Line). all ++ stay.0)
            (before.cut.lines_are
            ∙ ap (λ (some : Option Line). (passed ++ before.more) ++ option_to_list some) (sym stands)
            ∙ append_assoc passed before.more (line ∷ []))
            ∙ append_assoc passed (before.more ++ line ∷ []) stay.0;
        enters = lines_both pass between later h inc before.more (line ∷ []) true before.enters one;
      }

  pub front_more : (pass between later : Known A Entry) (h inc : ℕ) (piece rest left : List ℕ) (line : Line)
      (held held' then held'' : Cutting) (count : ℕ) → TookFront pass h inc piece rest held held' between
      → count ≡ count_of rest held' → then ≡ fed rest held' → left ≡ drop count rest → Some line ≡ standing then
      → held'' ≡ advanced then → EntersLine between h inc line true later
      → TookFront pass h inc piece left held held'' later
  front_more pass between later h inc piece rest left line held held' then held'' count took counted is left_is stands
      passes one =
      record {
        gone = took.gone ++ take count rest;
        piece_is = parts piece took.gone rest count took.piece_is
            ∙ ap (λ (last : List ℕ). (took.gone ++ take count rest) ++ last) (sym left_is);
        none = ap standing passes ∙ advanced_none then then.ended refl;
        gate = ap (λ (known : Known A Entry). known.gate) one.makes.same ∙ took.gate;
        enters = enters_passed pass between later h inc (took.gone ++ take count rest) line held then held''
            (enters_fed pass between h inc took.gone rest held held' then count took.enters counted is) stands passes
            one;
      }

  pub front_late : (pass between later : Known A Entry) (h inc : ℕ) (piece rest : List ℕ) (line : Line)
      (held held' then last : Cutting) (count : ℕ) → TookFront pass h inc piece rest held held' between
      → count ≡ count_of rest held' → then ≡ fed rest held' → Some line ≡ standing then
      → EntersLine between h inc line false later → EntersPiece pass h inc held piece false last later
  front_late pass between later h inc piece rest line held held' then last count took counted is stands one =
      enters_late pass between later h inc piece (took.gone ++ take count rest) (drop count rest) line held then last
      (parts piece took.gone rest count took.piece_is)
      (enters_fed pass between h inc took.gone rest held held' then count took.enters counted is) stands one

  pub front_all : (pass later : Known A Entry) (h inc : ℕ) (piece rest : List ℕ) (held held' then : Cutting) (count : ℕ)
      → TookFront pass h inc piece rest held held' later → count ≡ count_of rest held' → then ≡ fed rest held'
      → (count ≡ length rest) ⊎ (then.ended ≡ true) → then.ended ≡ false
      → EntersPiece pass h inc held piece true then later
  front_all pass later h inc piece rest held held' then count took counted is whole open_now =
      subst (λ (all : List ℕ). EntersPiece pass h inc held all true then later)
      (ap (λ (last : List ℕ). took.gone ++ last) (whole_taken count rest then whole open_now) ∙ sym took.piece_is)
      (enters_fed pass later h inc took.gone rest held held' then count took.enters counted is)

-- A stream that is cut into lines while it comes.
use Rattle.std.proofs.Common.{ℕ, suc, ◌≡◌, ◌==◌, Bool, true, false, cond, ltb, List, [], ◌∷◌, ◌++◌, length, take, drop}
use Rattle.std.proofs.Common.{Option, Some, None, ap, sym, ◌∙◌, refl, subst, arith, append_assoc, inl, inr, ◌⊎◌}
use Rattle.std.specs.Option.{option_to_list}
use Rattle.std.proofs.lemmas.Bool.{eqb-true, ltb-false}
use Rattle.std.proofs.lemmas.List.{append-nil, take_all, take-append-drop}
use Rattle.text_forms.specs.Lines.{Line, Text, TooLong, without_return, line_or_none, lines}
use Rattle.line_cutter.specs.Contents.{content_of, is_blank_content}
use Rattle.line_cutter.specs.Unfinished.{unfinished}
use Rattle.line_cutter.specs.Cutting.{Cutting, fresh, waiting, standing, grown, closed, after, fed, count_of, advanced}
use Rattle.line_cutter.specs.Chunking.{HasCut}
use Rattle.line_cutter.proofs.ContentLemmas.{content_blank}
use Rattle.line_cutter.proofs.UnfinishedLemmas.{unfinished_feed, unfinished_other, lines_feed, lines_other}
use Rattle.line_cutter.proofs.CuttingLemmas.{grown_two, grown_none, fed_open, count_open, fed_ended, count_ended}

-- the line of a part is the one that stands once its line feed came
text_kept : (part : List ℕ) (long : Bool) → ltb 65535 (length part) ≡ long
    → cond long TooLong (Text (without_return part)) ≡ cond long TooLong (Text (without_return (take 65535 part)))
text_kept part true is = refl
text_kept part false is =
    ap (λ (bytes : List ℕ). Text (without_return bytes)) (sym (take_all 65535 part (ltb-false 65535 (length part) is)))

stands_at : (part : List ℕ) (blank : Bool) → is_blank_content (content_of part) ≡ blank
    → option_to_list (standing (closed (waiting part)))
    ≡ cond blank [] (cond (ltb 65535 (length part)) TooLong (Text (without_return (take 65535 part))) ∷ [])
stands_at part true is = rw is refl
stands_at part false is = rw is refl

line_stands : (part : List ℕ) → line_or_none part ≡ option_to_list (standing (closed (waiting part)))
unfolding line_or_none
line_stands part =
    ap (λ blank. cond blank [] (cond (ltb 65535 (length part)) TooLong (Text (without_return part)) ∷ []))
    (content_blank part)
    ∙ ap (λ line. cond (is_blank_content (content_of part)) [] (line ∷ []))
    (text_kept part (ltb 65535 (length part)) refl)
    ∙ sym (stands_at part (is_blank_content (content_of part)) refl)

-- once its line is passed nothing is held
none_left : (part : List ℕ) (blank : Bool) → is_blank_content (content_of part) ≡ blank
    → advanced (closed (waiting part)) ≡ fresh
none_left part true is = rw is refl
none_left part false is = rw is refl

-- a byte behind a part that waits
cut_feed : (taken : List ℕ) (passed : List Line) → lines taken ≡ passed
    → HasCut (taken ++ 10 ∷ []) passed (closed (waiting (unfinished taken)))
cut_feed taken passed are =
    record {
      lines_are = lines_feed taken ∙ ap (λ (front : List Line). front ++ line_or_none (unfinished taken)) are
          ∙ ap (λ (made : List Line). passed ++ made) (line_stands (unfinished taken));
      rest_is = none_left (unfinished taken) (is_blank_content (content_of (unfinished taken))) refl
          ∙ sym (grown_none fresh) ∙ ap waiting (sym (unfinished_feed taken));
    }

cut_other : (taken : List ℕ) (passed : List Line) (b : ℕ) → (b == 10) ≡ false → lines taken ≡ passed
    → HasCut (taken ++ b ∷ []) passed (grown (b ∷ []) (waiting (unfinished taken)))
cut_other taken passed b other are =
    record {
      lines_are = lines_other taken b other ∙ are ∙ sym (append-nil passed);
      rest_is = sym (grown_two (unfinished taken) (b ∷ []) fresh) ∙ ap waiting (sym (unfinished_other taken b other));
    }

cut_behind : (taken : List ℕ) (passed : List Line) (b : ℕ) (feed : Bool) → (b == 10) ≡ feed → lines taken ≡ passed
    → HasCut (taken ++ b ∷ []) passed (after b (waiting (unfinished taken)))
cut_behind taken passed b true is are =
    subst (λ n. HasCut (taken ++ n ∷ []) passed (after n (waiting (unfinished taken)))) (sym (eqb-true b 10 is))
    (cut_feed taken passed are)
cut_behind taken passed b false is are = rw is (cut_other taken passed b is are)

-- where no line stands, all lines were passed, and what is held waits
pub cut_ends : (taken : List ℕ) (passed : List Line) (now : Cutting) → HasCut taken passed now
    → standing now ≡ None → lines taken ≡ passed
cut_ends taken passed now cut none =
    cut.lines_are ∙ ap (λ (line : Option Line). passed ++ option_to_list line) none ∙ append-nil passed

cut_byte : (taken : List ℕ) (passed : List Line) (now : Cutting) (b : ℕ) → HasCut taken passed now
    → now.ended ≡ false → HasCut (taken ++ b ∷ []) passed (after b now)
cut_byte taken passed now b cut open_now =
    let none : standing now ≡ None = rw open_now refl in
    let same : advanced now ≡ now = ap (λ ended. cond ended fresh now) open_now in
    let is : waiting (unfinished taken) ≡ now = sym cut.rest_is ∙ same in
    subst (λ (now : Cutting). HasCut (taken ++ b ∷ []) passed (after b now)) is
    (cut_behind taken passed b (b == 10) refl (cut_ends taken passed now cut none))

-- those bytes of a piece that are taken
takes_more : (taken piece : List ℕ) (passed : List Line) (b n : ℕ) (then : Cutting)
    → HasCut ((taken ++ b ∷ []) ++ take n piece) passed then
    → HasCut (taken ++ take (suc n) (b ∷ piece)) passed then
takes_more taken piece passed b n then cut =
    subst (λ (bytes : List ℕ). HasCut bytes passed then) (append_assoc taken (b ∷ []) (take n piece)) cut

takes_none : (taken : List ℕ) (passed : List Line) (now : Cutting) → HasCut taken passed now
    → HasCut (taken ++ []) passed now
takes_none taken passed now cut = subst (λ (bytes : List ℕ). HasCut bytes passed now) (sym (append-nil taken)) cut

takes_as : (taken bytes : List ℕ) (passed : List Line) (n : ℕ) (now : Cutting) (m : ℕ) (then : Cutting)
    → HasCut (taken ++ take n bytes) passed now → n ≡ m → now ≡ then → HasCut (taken ++ take m bytes) passed then
takes_as taken bytes passed n now m then cut same_count same_cutter =
    subst (HasCut (taken ++ take m bytes) passed) same_cutter
    (subst (λ k. HasCut (taken ++ take k bytes) passed now) same_count cut)

takes_at : (taken : List ℕ) (passed : List Line) (now : Cutting) (b : ℕ) (piece : List ℕ) (ended : Bool)
    → now.ended ≡ ended → HasCut taken passed now
    → (now.ended ≡ false → HasCut ((taken ++ b ∷ []) ++ take (count_of piece (after b now)) piece) passed
    (fed piece (after b now)))
    → HasCut (taken ++ take (count_of (b ∷ piece) now) (b ∷ piece)) passed (fed (b ∷ piece) now)
takes_at taken passed now b piece true is cut later =
    takes_as taken (b ∷ piece) passed 0 now (count_of (b ∷ piece) now) (fed (b ∷ piece) now)
    (takes_none taken passed now cut) (sym (count_ended (b ∷ piece) now is)) (sym (fed_ended (b ∷ piece) now is))
takes_at taken passed now b piece false is cut later =
    takes_as taken (b ∷ piece) passed (suc (count_of piece (after b now))) (fed piece (after b now))
    (count_of (b ∷ piece) now) (fed (b ∷ piece) now)
    (takes_more taken piece passed b (count_of piece (after b now)) (fed piece (after b now)) (later is))
    (sym (count_open b piece now is)) (sym (fed_open b piece now is))

pub cut_takes : (taken : List ℕ) (passed : List Line) (now : Cutting) (piece : List ℕ)
    → HasCut taken passed now → HasCut (taken ++ take (count_of piece now) piece) passed (fed piece now)
cut_takes taken passed now [] cut = takes_none taken passed now cut
cut_takes taken passed now (b ∷ piece) cut =
    takes_at taken passed now b piece now.ended refl cut
    (λ open_now. cut_takes (taken ++ b ∷ []) passed (after b now) piece (cut_byte taken passed now b cut open_now))

-- once the line that stands is passed, none does
advanced_at : (now : Cutting) (ended : Bool) → now.ended ≡ ended → (standing (advanced now) ≡ None)
    × (advanced (advanced now) ≡ advanced now)
advanced_at now true is =
    let same : advanced now ≡ fresh = ap (λ ended. cond ended fresh now) is in
    (ap standing same, ap advanced same ∙ sym same)
advanced_at now false is =
    let same : advanced now ≡ now = ap (λ ended. cond ended fresh now) is in
    let none : standing now ≡ None = rw is refl in
    (ap standing same ∙ none, ap advanced same)

-- the line that stands is passed
pub cut_passes : (taken : List ℕ) (passed : List Line) (now : Cutting) → HasCut taken passed now
    → HasCut taken (passed ++ option_to_list (standing now)) (advanced now)
cut_passes taken passed now cut =
    let all : List Line = passed ++ option_to_list (standing now) in
    let then = advanced_at now now.ended refl in
    record {
      lines_are = cut.lines_are ∙ sym (append-nil all)
          ∙ ap (λ (line : Option Line). all ++ option_to_list line) (sym then.0);
      rest_is = then.1 ∙ cut.rest_is;
    }

-- at the beginning nothing was taken
pub cut_begins : HasCut [] [] fresh
cut_begins = record { lines_are = refl; rest_is = sym (grown_none fresh) }

-- A worker takes the lines of a piece one by one, and this rest is left: what had come before is followed by what is
-- gone of the piece.
pub record IsTaking (piece : List ℕ) (before : List Line) (first : Cutting) (rest : List ℕ) (passed : List Line)
    (now : Cutting) : Type 0 where
  pub none : standing now ≡ None
  pub gone : List ℕ
  pub piece_is : piece ≡ gone ++ rest
  pub cut : (front : List ℕ) → HasCut front before first → HasCut (front ++ gone) passed now

pub taking_none : (piece : List ℕ) (before : List Line) (first : Cutting) → standing first ≡ None
    → IsTaking piece before first piece before first
taking_none piece before first none = record {
  none = none;
  gone = [];
  piece_is = refl;
  cut = λ front cut. takes_none front before first cut;
}

-- bytes of the rest are taken
fed_front : (front gone rest : List ℕ) (passed : List Line) (now : Cutting) → HasCut (front ++ gone) passed now
    → HasCut (front ++ (gone ++ take (count_of rest now) rest)) passed (fed rest now)
fed_front front gone rest passed now cut =
    subst (λ (bytes : List ℕ). HasCut bytes passed (fed rest now))
    (append_assoc front gone (take (count_of rest now) rest)) (cut_takes (front ++ gone) passed now rest cut)

-- a line stands then, and is passed
taking_more : (piece : List ℕ) (before : List Line) (first : Cutting) (rest : List ℕ) (passed : List Line)
    (now : Cutting) (line : Line) → IsTaking piece before first rest passed now → standing (fed rest now) ≡ Some line
    → IsTaking piece before first (drop (count_of rest now) rest) (passed ++ line ∷ []) (advanced (fed rest now))
taking_more piece before first rest passed now line taking stands =
    let count : ℕ = count_of rest now in
    let then : Cutting = fed rest now in
    record {
      none = (advanced_at then then.ended refl).0;
      gone = taking.gone ++ take count rest;
      piece_is = taking.piece_is ∙ ap (λ (bytes : List ℕ). taking.gone ++ bytes) (sym (take-append-drop count rest))
          ∙ sym (append_assoc taking.gone (take count rest) (drop count rest));
      cut = λ front cut.
          subst (λ (line : Option Line). HasCut (front ++ (taking.gone ++ take count rest))
          (passed ++ option_to_list line) (advanced then)) stands
          (cut_passes (front ++ (taking.gone ++ take count rest)) passed then
          (fed_front front taking.gone rest passed now (taking.cut front cut)));
    }

-- none stands then, and the whole piece is gone
taking_ends : (piece : List ℕ) (before : List Line) (first : Cutting) (rest : List ℕ) (passed : List Line)
    (now : Cutting) → IsTaking piece before first rest passed now → count_of rest now ≡ length rest
    → (front : List ℕ) → HasCut front before first → HasCut (front ++ piece) passed (fed rest now)
taking_ends piece before first rest passed now taking all front cut =
    subst (λ (bytes : List ℕ). HasCut (front ++ bytes) passed (fed rest now))
    (ap (λ (bytes : List ℕ). taking.gone ++ bytes) (take_all (count_of rest now) rest (omega arith))
    ∙ sym taking.piece_is)
    (fed_front front taking.gone rest passed now (taking.cut front cut))

-- the same, of what a worker's calls answered
pub taking_next : (piece : List ℕ) (before : List Line) (first : Cutting) (rest : List ℕ) (passed : List Line)
    (now : Cutting) (line : Line) (count : ℕ) (left : List ℕ) (passed' : List Line) (then now' : Cutting)
    → IsTaking piece before first rest passed now → count ≡ count_of rest now → then ≡ fed rest now
    → left ≡ drop count rest → Some line ≡ standing then → passed' ≡ passed ++ line ∷ [] → now' ≡ advanced then
    → IsTaking piece before first left passed' now'
taking_next piece before first rest passed now line count left passed' then now' taking counted is left_is stands took
    passes =
    let more = taking_more piece before first rest passed now line taking (ap standing (sym is) ∙ sym stands) in
    let behind : drop (count_of rest now) rest ≡ left = sym (left_is ∙ ap (λ n. drop n rest) counted) in
    subst (IsTaking piece before first left passed') (sym (passes ∙ ap advanced is))
    (subst (λ (lines : List Line). IsTaking piece before first left lines (advanced (fed rest now))) (sym took)
    (subst (λ (bytes : List ℕ). IsTaking piece before first bytes (passed ++ line ∷ []) (advanced (fed rest now)))
    behind more))

not_ended : (now : Cutting) (ended : Bool) → now.ended ≡ ended → standing now ≡ None → now.ended ≡ false
not_ended now true is none =
    absurd (let some : standing now ≡ Some (cond now.long TooLong (Text (without_return now.bytes))) =
    ap (λ ended. cond ended (Some (cond now.long TooLong (Text (without_return now.bytes)))) None) is in cc)
not_ended now false is none = is

all_taken : (count len : ℕ) (ended : Bool) → (count ≡ len) ⊎ (ended ≡ true) → ended ≡ false → count ≡ len
all_taken count len ended (inl all) open_now = all
all_taken count len ended (inr stands) open_now = absurd (cc)

pub taking_end : (piece : List ℕ) (before : List Line) (first : Cutting) (rest : List ℕ) (passed : List Line)
    (now : Cutting) (count : ℕ) (then : Cutting) → IsTaking piece before first rest passed now
    → count ≡ count_of rest now → then ≡ fed rest now → (count ≡ length rest) ⊎ (then.ended ≡ true)
    → None ≡ standing then → (front : List ℕ) → HasCut front before first → HasCut (front ++ piece) passed then
taking_end piece before first rest passed now count then taking counted is whole none front cut =
    let open_now : then.ended ≡ false = not_ended then then.ended refl (sym none) in
    let all : count_of rest now ≡ length rest =
    sym counted ∙ all_taken count (length rest) then.ended whole open_now in
    subst (HasCut (front ++ piece) passed) (sym is)
    (taking_ends piece before first rest passed now taking all front cut)

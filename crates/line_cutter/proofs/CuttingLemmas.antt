-- A cutter that takes bytes.
use Rattle.std.proofs.Common.{ℕ, zero, suc, ◌≡◌, ◌≢◌, ◌+◌, ◌-◌, ◌<◌, ◌≤◌, ◌==◌, Bool, true, false, ◌||◌, cond, ltb}
use Rattle.std.proofs.Common.{List, [], ◌∷◌, ◌++◌, length, take, All, ap, sym, ◌∙◌, refl, inl, inr, arith, append_assoc}
use Rattle.std.proofs.Common.{length-append, subst, lt-ltb, le-ltb, ◌⊎◌}
use Rattle.std.proofs.lemmas.Bool.{cases_lt}
use Rattle.std.proofs.lemmas.Bool.Decides.{eqb_tells}
use Rattle.std.proofs.lemmas.List.{append-nil, length-take}
use Rattle.std.proofs.lemmas.List.Sums.{fold-append}
use Rattle.text_forms.proofs.CutLemmas.{Lacks, lacks_from_all}
use Rattle.line_cutter.specs.declared.content.Content.{Content}
use Rattle.line_cutter.specs.Contents.{content_after}
use Rattle.line_cutter.specs.Cutting.{Cutting, room_of, grown, closed, after, fed, count_of}

differs : (left right : ℕ) → left ≢ right → (left == right) ≡ false
differs left right unlike =
    elim (eqb_tells left right) [ inl equal ↦ absurd (unlike equal.1) | inr unequal ↦ unequal.0 ]

take_none : (n : ℕ) → take {A = ℕ} n [] ≡ []
take_none zero = refl
take_none (suc n) = refl

-- the front of two lists
take_two : (n : ℕ) (xs ys : List ℕ) → take n (xs ++ ys) ≡ take n xs ++ take (n - length xs) ys
take_two n [] ys =
    ap (λ m. take m ys) (let same : n ≡ n - 0 = omega arith in same)
    ∙ ap (λ (front : List ℕ). front ++ take (n - 0) ys) (sym (take_none n))
take_two zero (x ∷ xs) ys = ap (λ m. take m ys) (let same : 0 ≡ 0 - length (x ∷ xs) = omega arith in same)
take_two (suc n) (x ∷ xs) ys =
    ap (λ (front : List ℕ). x ∷ front) (take_two n xs ys)
    ∙ ap (λ m. x ∷ (take n xs ++ take m ys))
    (let same : n - length xs ≡ suc n - length (x ∷ xs) = omega arith in same)

-- whether a number passes a room, in two steps
passes_past : (room first second : ℕ) → room < first
    → ltb room (first + second) ≡ (ltb room first || ltb (room - first) second)
passes_past room first second past =
    let whole : ltb room (first + second) ≡ true = lt-ltb _ _ (omega arith) in
    let front : ltb room first ≡ true = lt-ltb _ _ past in
    rw (whole, front) refl

passes_within : (room first second : ℕ) → first ≤ room → ((room - first < second) ⊎ (second ≤ room - first))
    → ltb room (first + second) ≡ (ltb room first || ltb (room - first) second)
passes_within room first second within (inl past) =
    let whole : ltb room (first + second) ≡ true = lt-ltb _ _ (omega arith) in
    let front : ltb room first ≡ false = le-ltb _ _ within in
    let back : ltb (room - first) second ≡ true = lt-ltb _ _ past in
    rw (whole, front, back) refl
passes_within room first second within (inr fits) =
    let whole : ltb room (first + second) ≡ false = le-ltb _ _ (omega arith) in
    let front : ltb room first ≡ false = le-ltb _ _ within in
    let back : ltb (room - first) second ≡ false = le-ltb _ _ fits in
    rw (whole, front, back) refl

passes_two : (long : Bool) (room first second : ℕ) → (long || ltb room (first + second))
    ≡ ((long || ltb room first) || ltb (room - first) second)
passes_two true room first second = refl
passes_two false room first second =
    elim (cases_lt room first) [
      | inl past ↦ passes_past room first second past
      | inr within ↦ passes_within room first second within (cases_lt (room - first) second)
    ]

-- the room that is left
room_left : (now : Cutting) (piece : List ℕ) → room_of (grown piece now) ≡ room_of now - length piece
room_left now piece =
    omega (arith, length-append now.bytes (take (room_of now) piece), length-take (room_of now) piece)

same_cutting : (bytes bytes' : List ℕ) (long long' : Bool) (content content' : Content) (ended : Bool)
    → bytes ≡ bytes' → long ≡ long' → content ≡ content'
    → (let left : Cutting = record { bytes = bytes; long = long; content = content; ended = ended } in left)
    ≡ record { bytes = bytes'; long = long'; content = content'; ended = ended }
same_cutting bytes bytes' long long' content content' ended is is' is'' = cc

-- bytes that come in two pieces
pub grown_two : (first second : List ℕ) (now : Cutting) → grown (first ++ second) now ≡ grown second (grown first now)
grown_two first second now =
    let room : room_of (grown first now) ≡ room_of now - length first = room_left now first in
    let bytes : now.bytes ++ take (room_of now) (first ++ second)
    ≡ (now.bytes ++ take (room_of now) first) ++ take (room_of (grown first now)) second =
    ap (λ (more : List ℕ). now.bytes ++ more) (take_two (room_of now) first second)
    ∙ sym (append_assoc now.bytes (take (room_of now) first) (take (room_of now - length first) second))
    ∙ ap (λ n. (now.bytes ++ take (room_of now) first) ++ take n second) (sym room) in
    let long : (now.long || ltb (room_of now) (length (first ++ second)))
    ≡ ((now.long || ltb (room_of now) (length first)) || ltb (room_of (grown first now)) (length second)) =
    ap (λ n. now.long || ltb (room_of now) n) (length-append first second)
    ∙ passes_two now.long (room_of now) (length first) (length second)
    ∙ ap (λ n. (now.long || ltb (room_of now) (length first)) || ltb n (length second)) (sym room) in
    same_cutting _ _ _ _ _ _ now.ended bytes long (fold-append content_after now.content first second)

or_false : (test : Bool) → (test || false) ≡ test
or_false true = refl
or_false false = refl

-- no bytes
pub grown_none : (now : Cutting) → grown [] now ≡ now
grown_none now =
    let bytes : now.bytes ++ take {A = ℕ} (room_of now) [] ≡ now.bytes =
    ap (λ (more : List ℕ). now.bytes ++ more) (take_none (room_of now)) ∙ append-nil now.bytes in
    let long : (now.long || ltb (room_of now) 0) ≡ now.long =
    ap (λ test. now.long || test) (le-ltb (room_of now) 0 (omega arith)) ∙ or_false now.long in
    same_cutting _ _ _ _ _ _ now.ended bytes long refl

-- a byte that comes while no line stands
pub fed_open : (b : ℕ) (bytes : List ℕ) (now : Cutting) → now.ended ≡ false
    → fed (b ∷ bytes) now ≡ fed bytes (after b now)
fed_open b bytes now open_now = ap (λ ended. cond ended now (fed bytes (after b now))) open_now

pub count_open : (b : ℕ) (bytes : List ℕ) (now : Cutting) → now.ended ≡ false
    → count_of (b ∷ bytes) now ≡ suc (count_of bytes (after b now))
count_open b bytes now open_now = ap (λ ended. cond ended 0 (suc (count_of bytes (after b now)))) open_now

-- what a cutter is and how many bytes it took behind some bytes of a part
record IsGrown (part rest : List ℕ) (now : Cutting) : Type 0 where
  pub same : fed (part ++ rest) now ≡ fed rest (grown part now)
  pub count : count_of (part ++ rest) now ≡ length part + count_of rest (grown part now)

grown_step : (b : ℕ) (part rest : List ℕ) (now : Cutting) → (b == 10) ≡ false → now.ended ≡ false
    → IsGrown part rest (grown (b ∷ []) now) → IsGrown (b ∷ part) rest now
grown_step b part rest now other open_now later =
    let step : after b now ≡ grown (b ∷ []) now = ap (λ feed. cond feed (closed now) (grown (b ∷ []) now)) other in
    let all : grown part (grown (b ∷ []) now) ≡ grown (b ∷ part) now = sym (grown_two (b ∷ []) part now) in
    record {
      same = fed_open b (part ++ rest) now open_now ∙ ap (fed (part ++ rest)) step ∙ later.same ∙ ap (fed rest) all;
      count = omega (
        arith,
        count_open b (part ++ rest) now open_now,
        ap (count_of (part ++ rest)) step,
        later.count,
        ap (count_of rest) all,
      );
    }

fed_part : (part rest : List ℕ) (now : Cutting) → Lacks 10 part → now.ended ≡ false → IsGrown part rest now
fed_part [] rest now lacks open_now =
    record {
      same = ap (fed rest) (sym (grown_none now));
      count = omega (arith, ap (count_of rest) (sym (grown_none now)));
    }
fed_part (b ∷ part) rest now lacks open_now =
    grown_step b part rest now (differs b 10 lacks.0) open_now
    (fed_part part rest (grown (b ∷ []) now) lacks.1 open_now)

-- while a line stands nothing is taken
pub fed_ended : (piece : List ℕ) (now : Cutting) → now.ended ≡ true → fed piece now ≡ now
fed_ended [] now ended = refl
fed_ended (b ∷ piece) now ended = rw ended refl

pub count_ended : (piece : List ℕ) (now : Cutting) → now.ended ≡ true → count_of piece now ≡ 0
count_ended [] now ended = refl
count_ended (b ∷ piece) now ended = rw ended refl

-- a line feed
fed_feed : (rest : List ℕ) (now : Cutting) → now.ended ≡ false → fed (10 ∷ rest) now ≡ fed rest (closed now)
fed_feed rest now open_now = fed_open 10 rest now open_now

count_feed : (rest : List ℕ) (now : Cutting) → now.ended ≡ false
    → count_of (10 ∷ rest) now ≡ suc (count_of rest (closed now))
count_feed rest now open_now = count_open 10 rest now open_now

-- a rest that has no line feed
fed_rest : (rest : List ℕ) (now : Cutting) → Lacks 10 rest → now.ended ≡ false → fed rest now ≡ grown rest now
fed_rest rest now lacks open_now =
    ap (λ (bytes : List ℕ). fed bytes now) (sym (append-nil rest)) ∙ (fed_part rest [] now lacks open_now).same

count_rest : (rest : List ℕ) (now : Cutting) → Lacks 10 rest → now.ended ≡ false
    → count_of rest now ≡ length rest
count_rest rest now lacks open_now =
    omega (
      arith,
      ap (λ (bytes : List ℕ). count_of bytes now) (append-nil rest),
      (fed_part rest [] now lacks open_now).count,
    )

-- a cutter takes a piece, of which this rest is left
pub record IsFeeding (piece : List ℕ) (first : Cutting) (rest : List ℕ) (now : Cutting) : Type 0 where
  pub open_now : now.ended ≡ false
  pub within : length rest ≤ length piece
  pub same : fed piece first ≡ fed rest now
  pub count : count_of piece first + length rest ≡ length piece + count_of rest now

pub feeding_none : (piece : List ℕ) (now : Cutting) → now.ended ≡ false → IsFeeding piece now piece now
feeding_none piece now open_now = record {
  open_now = open_now;
  within = omega arith;
  same = refl;
  count = omega arith;
}

-- a part and its line feed are taken: the piece goes on with the rest
pub record IsBehind (piece : List ℕ) (first : Cutting) (rest : List ℕ) (now : Cutting) : Type 0 where
  pub shorter : length rest < length piece
  pub same : fed piece first ≡ fed rest now
  pub count : count_of piece first + length rest ≡ length piece + count_of rest now

closed_behind : (piece : List ℕ) (first : Cutting) (all part rest : List ℕ) (now : Cutting)
    → IsFeeding piece first all now → all ≡ part ++ 10 ∷ rest → All (λ b. b ≢ 10) part
    → IsBehind piece first rest (closed (grown part now))
closed_behind piece first all part rest now feeding is no_feed =
    let parts : IsGrown part (10 ∷ rest) now = fed_part part (10 ∷ rest) now (lacks_from_all 10 part no_feed)
    feeding.open_now in
    let len : length all ≡ length part + suc (length rest) = ap length is ∙ length-append part (10 ∷ rest) in
    record {
      shorter = omega (arith, feeding.within);
      same = feeding.same ∙ ap (λ (bytes : List ℕ). fed bytes now) is ∙ parts.same
          ∙ fed_feed rest (grown part now) feeding.open_now;
      count = omega (
        arith,
        feeding.count,
        ap (λ (bytes : List ℕ). count_of bytes now) is,
        parts.count,
        count_feed rest (grown part now) feeding.open_now,
      );
    }

pub behind_part : (piece : List ℕ) (first : Cutting) (all part rest : List ℕ) (now grow close : Cutting)
    → IsFeeding piece first all now → all ≡ part ++ 10 ∷ rest → All (λ b. b ≢ 10) part → grow ≡ grown part now
    → close ≡ closed grow → IsBehind piece first rest close
behind_part piece first all part rest now grow close feeding is no_feed grow_is close_is =
    subst (IsBehind piece first rest) (sym (close_is ∙ ap closed grow_is))
    (closed_behind piece first all part rest now feeding is no_feed)

-- a line stands then
pub behind_count : (piece : List ℕ) (first : Cutting) (rest : List ℕ) (now : Cutting) → IsBehind piece first rest now
    → now.ended ≡ true → length piece - length rest ≡ count_of piece first
behind_count piece first rest now behind ended =
    omega (arith, behind.shorter, behind.count, count_ended rest now ended)

pub behind_same : (piece : List ℕ) (first : Cutting) (rest : List ℕ) (now : Cutting) → IsBehind piece first rest now
    → now.ended ≡ true → now ≡ fed piece first
behind_same piece first rest now behind ended = sym (behind.same ∙ fed_ended rest now ended)

-- none stands then
pub behind_feeding : (piece : List ℕ) (first : Cutting) (rest : List ℕ) (now : Cutting)
    → IsBehind piece first rest now → now.ended ≡ false → IsFeeding piece first rest now
behind_feeding piece first rest now behind open_now = record {
  open_now = open_now;
  within = omega (arith, behind.shorter);
  same = behind.same;
  count = behind.count;
}

-- the rest has no line feed
pub rest_count : (piece : List ℕ) (first : Cutting) (rest : List ℕ) (now : Cutting) → IsFeeding piece first rest now
    → All (λ b. b ≢ 10) rest → length piece ≡ count_of piece first
rest_count piece first rest now feeding none =
    omega (arith, feeding.count, count_rest rest now (lacks_from_all 10 rest none) feeding.open_now)

pub rest_same : (piece : List ℕ) (first : Cutting) (rest : List ℕ) (now : Cutting) → IsFeeding piece first rest now
    → All (λ b. b ≢ 10) rest → grown rest now ≡ fed piece first
rest_same piece first rest now feeding none =
    sym (feeding.same ∙ fed_rest rest now (lacks_from_all 10 rest none) feeding.open_now)

-- The lines of a stream that comes a byte at a time.
use Rattle.std.proofs.Common.{ℕ, ◌≡◌, ◌==◌, Bool, true, false, ◌||◌, cond, List, [], ◌∷◌, ◌++◌, ap, sym, ◌∙◌, refl}
use Rattle.std.proofs.Common.{append_assoc, subst}
use Rattle.std.specs.List.{flat_map}
use Rattle.std.proofs.lemmas.Bool.{eqb-true}
use Rattle.std.proofs.lemmas.Grind.{flat_map-append}
use Rattle.std.proofs.lemmas.List.{append-nil}
use Rattle.text_forms.specs.Lines.{Line, onto_first, ended_parts, line_or_none, lines}
use Rattle.line_cutter.specs.Unfinished.{has_feed, unfinished}

-- a stream without a line feed
no_parts_at : (b : ℕ) (bs : List ℕ) (feed : Bool) → (b == 10) ≡ feed → (feed || has_feed bs) ≡ false
    → (has_feed bs ≡ false → ended_parts bs ≡ []) → ended_parts (b ∷ bs) ≡ []
no_parts_at b bs true is none later = absurd (cc)
no_parts_at b bs false is none later = rw is (ap (onto_first b) (later none))

no_parts : (bytes : List ℕ) → has_feed bytes ≡ false → ended_parts bytes ≡ []
no_parts [] none = refl
no_parts (b ∷ bs) none = no_parts_at b bs (b == 10) refl none (no_parts bs)

all_unfinished : (bytes : List ℕ) → has_feed bytes ≡ false → unfinished bytes ≡ bytes
all_unfinished [] none = refl
all_unfinished (b ∷ bs) none = rw none refl

-- a byte put before the first of some lists, and before the first of none
first_grows : (b : ℕ) (bs : List ℕ) (parts more : List (List ℕ)) → ended_parts bs ≡ parts
    → (ended_parts bs ≡ [] → ⊥) → onto_first b (parts ++ more) ≡ onto_first b parts ++ more
first_grows b bs [] more is some = absurd (some is)
first_grows b bs (part ∷ parts) more is some = refl

some_parts_at : (b : ℕ) (bs : List ℕ) (feed : Bool) (parts : List (List ℕ)) → (b == 10) ≡ feed
    → (feed || has_feed bs) ≡ true → ended_parts bs ≡ parts → (has_feed bs ≡ true → ended_parts bs ≡ [] → ⊥)
    → cond feed ([] ∷ parts) (onto_first b parts) ≡ [] → ⊥
some_parts_at b bs true parts is some ended later none = absurd (cc)
some_parts_at b bs false [] is some ended later none = later some ended
some_parts_at b bs false (part ∷ parts) is some ended later none = absurd (cc)

some_parts : (bytes : List ℕ) → has_feed bytes ≡ true → ended_parts bytes ≡ [] → ⊥
some_parts [] some none = absurd (cc)
some_parts (b ∷ bs) some none = some_parts_at b bs (b == 10) (ended_parts bs) refl some refl (some_parts bs) none

-- a line feed ends the unfinished part
feed_at : (b : ℕ) (bs : List ℕ) (feed later : Bool) → (b == 10) ≡ feed → has_feed bs ≡ later
    → ended_parts (bs ++ 10 ∷ []) ≡ ended_parts bs ++ unfinished bs ∷ []
    → ended_parts ((b ∷ bs) ++ 10 ∷ []) ≡ ended_parts (b ∷ bs) ++ unfinished (b ∷ bs) ∷ []
feed_at b bs true later is some rest = rw is (ap (λ (parts : List (List ℕ)). [] ∷ parts) rest)
feed_at b bs false true is some rest =
    rw (is, some) (ap (onto_first b) rest
    ∙ first_grows b bs (ended_parts bs) (unfinished bs ∷ []) refl (some_parts bs some))
feed_at b bs false false is some rest =
    rw (is, some) (ap (onto_first b) (rest ∙ ap (λ (parts : List (List ℕ)). parts ++ unfinished bs ∷ [])
    (no_parts bs some)) ∙ ap (λ (part : List ℕ). (b ∷ part) ∷ []) (all_unfinished bs some)
    ∙ ap (λ (parts : List (List ℕ)). onto_first b parts ++ (b ∷ bs) ∷ []) (sym (no_parts bs some)))

ended_feed : (bytes : List ℕ) → ended_parts (bytes ++ 10 ∷ []) ≡ ended_parts bytes ++ unfinished bytes ∷ []
ended_feed [] = refl
ended_feed (b ∷ bs) = feed_at b bs (b == 10) (has_feed bs) refl refl (ended_feed bs)

-- another byte ends none
ended_other : (bytes : List ℕ) (c : ℕ) → (c == 10) ≡ false → ended_parts (bytes ++ c ∷ []) ≡ ended_parts bytes
ended_other [] c other = rw other refl
ended_other (b ∷ bs) c other =
    ap (λ (parts : List (List ℕ)). cond (b == 10) ([] ∷ parts) (onto_first b parts)) (ended_other bs c other)

feed_last : (bytes : List ℕ) → has_feed (bytes ++ 10 ∷ []) ≡ true
feed_last [] = refl
feed_last (b ∷ bs) = rw (feed_last bs) (or_true (b == 10)) where
  or_true : (test : Bool) → (test || true) ≡ true
  or_true true = refl
  or_true false = refl

feed_other : (bytes : List ℕ) (c : ℕ) → (c == 10) ≡ false → has_feed (bytes ++ c ∷ []) ≡ has_feed bytes
feed_other [] c other = rw other refl
feed_other (b ∷ bs) c other = ap (λ any. (b == 10) || any) (feed_other bs c other)

-- behind a line feed nothing is unfinished
pub unfinished_feed : (bytes : List ℕ) → unfinished (bytes ++ 10 ∷ []) ≡ []
unfinished_feed [] = refl
unfinished_feed (b ∷ bs) =
    ap (λ any. cond any (unfinished (bs ++ 10 ∷ [])) (b ∷ (bs ++ 10 ∷ []))) (feed_last (b ∷ bs))
    ∙ unfinished_feed bs

-- another byte is unfinished too
other_behind : (any : Bool) (front all : List ℕ) (c : ℕ)
    → cond any (front ++ c ∷ []) (all ++ c ∷ []) ≡ cond any front all ++ c ∷ []
other_behind true front all c = refl
other_behind false front all c = refl

pub unfinished_other : (bytes : List ℕ) (c : ℕ) → (c == 10) ≡ false
    → unfinished (bytes ++ c ∷ []) ≡ unfinished bytes ++ c ∷ []
unfinished_other [] c other = rw other refl
unfinished_other (b ∷ bs) c other =
    ap (λ any. cond any (unfinished (bs ++ c ∷ [])) (b ∷ (bs ++ c ∷ []))) (feed_other (b ∷ bs) c other)
    ∙ ap (λ (front : List ℕ). cond (has_feed (b ∷ bs)) front (b ∷ (bs ++ c ∷ []))) (unfinished_other bs c other)
    ∙ other_behind (has_feed (b ∷ bs)) (unfinished bs) (b ∷ bs) c

-- a line feed makes the line of the unfinished part
pub lines_feed : (bytes : List ℕ) → lines (bytes ++ 10 ∷ []) ≡ lines bytes ++ line_or_none (unfinished bytes)
lines_feed bytes =
    ap (flat_map line_or_none) (ended_feed bytes)
    ∙ flat_map-append line_or_none (ended_parts bytes) (unfinished bytes ∷ [])
    ∙ ap (λ (made : List Line). lines bytes ++ made) (append-nil (line_or_none (unfinished bytes)))

-- another byte makes none
pub lines_other : (bytes : List ℕ) (c : ℕ) → (c == 10) ≡ false → lines (bytes ++ c ∷ []) ≡ lines bytes
lines_other bytes c other = ap (flat_map line_or_none) (ended_other bytes c other)

-- the lines of a stream stay when more comes
stays_behind : (bytes more : List ℕ) (c : ℕ) (made : List Line) → lines (bytes ++ c ∷ []) ≡ lines bytes ++ made
    → (others : List Line) × (lines ((bytes ++ c ∷ []) ++ more) ≡ lines (bytes ++ c ∷ []) ++ others)
    → (others : List Line) × (lines (bytes ++ c ∷ more) ≡ lines bytes ++ others)
stays_behind bytes more c made here later = (
  made ++ later.0,
  ap lines (sym (append_assoc bytes (c ∷ []) more)) ∙ later.1
      ∙ ap (λ (front : List Line). front ++ later.0) here ∙ append_assoc (lines bytes) made later.0,
)

stays_at : (bytes more : List ℕ) (c : ℕ) (feed : Bool) → (c == 10) ≡ feed
    → (others : List Line) × (lines ((bytes ++ c ∷ []) ++ more) ≡ lines (bytes ++ c ∷ []) ++ others)
    → (others : List Line) × (lines (bytes ++ c ∷ more) ≡ lines bytes ++ others)
stays_at bytes more c true is later =
    stays_behind bytes more c (line_or_none (unfinished bytes))
    (subst (λ n. lines (bytes ++ n ∷ []) ≡ lines bytes ++ line_or_none (unfinished bytes)) (sym (eqb-true c 10 is))
    (lines_feed bytes)) later
stays_at bytes more c false is later =
    stays_behind bytes more c [] (lines_other bytes c is ∙ sym (append-nil (lines bytes))) later

pub lines_stay : (bytes more : List ℕ) → (others : List Line) × (lines (bytes ++ more) ≡ lines bytes ++ others)
lines_stay bytes [] = ([], ap lines (append-nil bytes) ∙ sym (append-nil (lines bytes)))
lines_stay bytes (c ∷ more) = stays_at bytes more c (c == 10) refl (lines_stay (bytes ++ c ∷ []) more)

-- Lists one behind the other in which no number stands twice.
use Rattle.std.proofs.Common.{◌≡◌, ℕ, true, false, List, [], ◌∷◌, ◌++◌, eqb, refl, ap, arith, cond}
use Rattle.std.proofs.lemmas.Grind.{common_steps}
use Rattle.std.proofs.lemmas.Bool.{false≢true}
use Rattle.linked_pending.specs.Listing.{has, AreApart, without}
use Rattle.linked_pending.proofs.ListingLemmas.{has-append, has_first, has_rest}

pub without-append : (item : ℕ) (items others : List ℕ) → without item (items ++ others) ≡ without item items
    ++ without item others
without-append item [] others = refl
without-append item (first ∷ rest) others =
    elim (eqb item first) as (λ test. cond test (without item (rest ++ others)) (first ∷ without item (rest ++ others))
    ≡ cond test (without item rest) (first ∷ without item rest) ++ without item others) [
      | true ↦ without-append item rest others
      | false ↦ ap (λ places. first ∷ places) (without-append item rest others)
    ]

pub apart_tail : (items others : List ℕ) → AreApart (items ++ others) → AreApart others
apart_tail [] others apart = apart
apart_tail (first ∷ rest) others apart = apart_tail rest others apart.1

pub apart_disjoint : (items others : List ℕ) → AreApart (items ++ others) → (item : ℕ) → has item items ≡ true
    → has item others ≡ false
apart_disjoint [] others apart item there = absurd (false≢true there)
apart_disjoint (first ∷ rest) others apart item there =
    grind (arith, common_steps, apart.0, has-append first rest others, apart_disjoint rest others apart.1 item)

-- other numbers behind a list, which aren't in it
pub apart_replace : (items others new : List ℕ) → AreApart (items ++ others) → AreApart new
    → ((item : ℕ) → has item items ≡ true → has item new ≡ false) → AreApart (items ++ new)
apart_replace [] others new apart apart_new disjoint = apart_new
apart_replace (first ∷ rest) others new apart apart_new disjoint = (
  grind (
    arith,
    common_steps,
    apart.0,
    has-append first rest others,
    has-append first rest new,
    disjoint first (has_first first rest),
  ),
  apart_replace rest others new apart.1 apart_new (λ item there. disjoint item (has_rest item first rest there)),
)

pub apart-append : (items others : List ℕ) → AreApart items → AreApart others
    → ((item : ℕ) → has item items ≡ true → has item others ≡ false) → AreApart (items ++ others)
apart-append [] others apart apart_others disjoint = apart_others
apart-append (first ∷ rest) others apart apart_others disjoint = (
  grind (arith, common_steps, apart.0, has-append first rest others, disjoint first (has_first first rest)),
  apart-append rest others apart.1 apart_others (λ item there. disjoint item (has_rest item first rest there)),
)

-- a number between two lists, which is in neither
pub apart_insert : (items others : List ℕ) (item : ℕ) → AreApart (items ++ others) → has item (items ++ others) ≡ false
    → AreApart ((items ++ item ∷ []) ++ others)
apart_insert [] others item apart absent = (absent, apart)
apart_insert (first ∷ rest) others item apart absent = (
  grind (
    arith,
    common_steps,
    apart.0,
    absent,
    has-append first rest others,
    has-append first (rest ++ item ∷ []) others,
    has-append first rest (item ∷ []),
  ),
  apart_insert rest others item apart.1 (grind (arith, common_steps, absent)),
)

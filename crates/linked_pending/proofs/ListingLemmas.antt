-- Lists of numbers, with one put in and with one taken out.
use Rattle.std.proofs.Common.{◌≡◌, ◌≢◌, ℕ, ◌+◌, true, false, cond, ◌||◌, List, [], ◌∷◌, ◌++◌, length, eqb, refl, sym}
use Rattle.std.proofs.Common.{ap, ◌∙◌, arith}
use Rattle.std.proofs.lemmas.Grind.{common_steps}
use Rattle.std.proofs.lemmas.Bool.{false≢true}
use Rattle.linked_pending.specs.Listing.{Listing, has, AreApart, without, put_before}

-- the list of these numbers, with this room
abbrev pub listing : ℕ → List ℕ → Listing
listing room items = record { room = room; items = items }

pub has_first : (first : ℕ) (rest : List ℕ) → has first (first ∷ rest) ≡ true
has_first first rest = grind (arith, common_steps)

pub has_rest : (item first : ℕ) (rest : List ℕ) → has item rest ≡ true → has item (first ∷ rest) ≡ true
has_rest item first rest there = grind (arith, common_steps)

pub has-append : (item : ℕ) (items others : List ℕ) → has item (items ++ others) ≡ (has item items || has item others)
has-append item [] others = refl
has-append item (first ∷ rest) others = grind (arith, common_steps, has-append item rest others)

-- a number of the list isn't one that isn't in it
pub differs : (item gone : ℕ) (items : List ℕ) → has gone items ≡ false → has item items ≡ true → item ≢ gone
differs item gone items absent there same = false≢true (sym absent ∙ ap (λ number. has number items) (sym same) ∙ there)

pub without_absent : (item : ℕ) (items : List ℕ) → has item items ≡ false → without item items ≡ items
without_absent item [] absent = refl
without_absent item (first ∷ rest) absent =
    let absent_rest : has item rest ≡ false = grind (arith, common_steps) in
    let same_rest = without_absent item rest absent_rest in
    grind (arith, common_steps)

pub length-without : (item : ℕ) (items : List ℕ) → AreApart items → has item items ≡ true
    → length (without item items) + 1 ≡ length items
length-without item [] apart there = grind (arith, common_steps)
length-without item (first ∷ rest) apart there =
    let here : eqb item first ≡ true → without item rest ≡ rest = λ (same : _).
    without_absent item rest (grind (arith, common_steps, apart.0)) in
    let later : eqb item first ≡ false → length (without item rest) + 1 ≡ length rest = λ (other : _).
    length-without item rest apart.1 (grind (arith, common_steps)) in
    grind (arith, common_steps, here, later)

pub length-put_before : (spot item : ℕ) (items : List ℕ) → length (put_before spot item items) ≡ length items + 1
length-put_before spot item [] = grind (arith, common_steps)
length-put_before spot item (first ∷ rest) = grind (arith, common_steps, length-put_before spot item rest)

pub has-without : (item gone : ℕ) (items : List ℕ) → has item (without gone items)
    ≡ cond (eqb item gone) false (has item items)
has-without item gone [] = grind (arith, common_steps)
has-without item gone (first ∷ rest) = grind (arith, common_steps, has-without item gone rest)

pub has-put_before : (item spot new : ℕ) (items : List ℕ) → has item (put_before spot new items)
    ≡ (eqb item new || has item items)
has-put_before item spot new [] = grind (arith, common_steps)
has-put_before item spot new (first ∷ rest) = grind (arith, common_steps, has-put_before item spot new rest)

pub apart-without : (gone : ℕ) (items : List ℕ) → AreApart items → AreApart (without gone items)
apart-without gone [] apart = tt
apart-without gone (first ∷ rest) apart =
    elim (eqb gone first) as (λ test. AreApart (cond test (without gone rest) (first ∷ without gone rest))) [
      | true ↦ apart-without gone rest apart.1
      | false ↦ (grind (arith, common_steps, has-without first gone rest, apart.0), apart-without gone rest apart.1)
    ]

pub apart-put_before : (spot new : ℕ) (items : List ℕ) → AreApart items → has new items ≡ false
    → AreApart (put_before spot new items)
apart-put_before spot new [] apart absent = (refl, tt)
apart-put_before spot new (first ∷ rest) apart absent =
    let absent_rest : has new rest ≡ false = grind (arith, common_steps) in
    let first_once : has first (put_before spot new rest) ≡ false =
    grind (arith, common_steps, has-put_before first spot new rest, apart.0) in
    elim (eqb spot first) as (λ test. AreApart (cond test (new ∷ first ∷ rest) (first ∷ put_before spot new rest))) [
      | true ↦ (absent, (apart.0, apart.1))
      | false ↦ (first_once, apart-put_before spot new rest apart.1 absent_rest)
    ]

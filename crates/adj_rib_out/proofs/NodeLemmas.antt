-- How many nodes there are, by the places of keys.
use Rattle.std.proofs.Common.{◌≡◌, ◌≢◌, ℕ, ◌+◌, ◌≤◌, Bool, true, false, List, [], ◌∷◌, cond}
use Rattle.std.proofs.Common.{Option, Some, None, zero, suc, refl, sym, ap, ap₂, subst, ◌∙◌, arith}
use Rattle.std.specs.Prelude.{count_by}
use Rattle.std.proofs.lemmas.List.Recursion.{is_count_by}
use Rattle.route_values.specs.declared.attrs.WireAttrs.{WireAttrs}
use Rattle.route_values.specs.declared.key.Key.{Key}
use Rattle.adj_rib_out.specs.State.{Row, Route}
use Rattle.adj_rib_out.proofs.RowLemmas.{none_some}
use Rattle.adj_rib_out.specs.Places.{key_at, rows_from, row_of}

abbrev pub one : Bool → ℕ
one test = cond test 1 0

-- how many keys stand at places that pass a test
abbrev pub count_places : (ℕ → Bool) → List (Option Key) → ℕ → ℕ
count_places test [] first = 0
count_places test (None ∷ keys) first = count_places test keys (first + 1)
count_places test (Some key ∷ keys) first = one (test first) + count_places test keys (first + 1)

tally : (Option Row → Bool) → List (Option Row) → ℕ
tally is_row [] = 0
tally is_row (row ∷ rows) = cond (is_row row) (1 + tally is_row rows) (tally is_row rows)

tally_step : (test : Bool) (n : ℕ) → cond test (1 + n) n ≡ one test + n
tally_step true n = omega arith
tally_step false n = omega arith

module _ (route : ℕ → Option Route) (told : ℕ → Option WireAttrs) (is_row : Option Row → Bool) (test : ℕ → Bool)
    (none : is_row None ≡ false) where
  later : (k : Option Key) (keys : List (Option Key)) (first : ℕ)
      → ((n : ℕ) (key : Key) → key_at (k ∷ keys) n ≡ Some key
      → is_row (Some (row_of key (route (first + n)) (told (first + n)))) ≡ test (first + n))
      → (n : ℕ) (key : Key) → key_at keys n ≡ Some key
      → is_row (Some (row_of key (route (first + 1 + n)) (told (first + 1 + n)))) ≡ test (first + 1 + n)
  later k keys first same n key stands = subst (λ (p : ℕ). is_row (Some (row_of key (route p) (told p))) ≡ test p)
      (omega arith) (same (suc n) key stands)

  first_row : (k : Key) (keys : List (Option Key)) (first : ℕ)
      → ((n : ℕ) (key : Key) → key_at (Some k ∷ keys) n ≡ Some key
      → is_row (Some (row_of key (route (first + n)) (told (first + n)))) ≡ test (first + n))
      → is_row (Some (row_of k (route first) (told first))) ≡ test first
  first_row k keys first same = subst (λ (p : ℕ). is_row (Some (row_of k (route p) (told p))) ≡ test p)
      (omega arith) (same 0 k refl)

  tally_rows : (keys : List (Option Key)) (first : ℕ)
      → ((n : ℕ) (key : Key) → key_at keys n ≡ Some key
      → is_row (Some (row_of key (route (first + n)) (told (first + n)))) ≡ test (first + n))
      → tally is_row (rows_from route told keys first) ≡ count_places test keys first
  unfolding tally
  tally_rows [] first same = refl
  tally_rows (None ∷ keys) first same =
      ap (λ (t : Bool). cond t (1 + tally is_row (rows_from route told keys (first + 1)))
      (tally is_row (rows_from route told keys (first + 1)))) none
      ∙ tally_rows keys (first + 1) (λ n key stands. later None keys first same n key stands)
  tally_rows (Some k ∷ keys) first same =
      tally_step (is_row (Some (row_of k (route first) (told first)))) (tally is_row
      (rows_from route told keys (first + 1)))
      ∙ ap₂ (λ (a b : ℕ). a + b) (ap one (first_row k keys first same))
      (tally_rows keys (first + 1) (λ n key stands. later (Some k) keys first same n key stands))

  pub count_rows : (keys : List (Option Key)) (first : ℕ)
      → ((n : ℕ) (key : Key) → key_at keys n ≡ Some key
      → is_row (Some (row_of key (route (first + n)) (told (first + n)))) ≡ test (first + n))
      → count_by is_row (rows_from route told keys first) ≡ count_places test keys first
  unfolding tally
  count_rows keys first same = sym (is_count_by (tally is_row) is_row refl (λ row rows. refl)
      (rows_from route told keys first)) ∙ tally_rows keys first same

one_fewer : (new old : Bool) → (new ≡ true → old ≡ true) → one new ≤ one old
one_fewer false old fewer = omega arith
one_fewer true old fewer = subst (λ (test : Bool). 1 ≤ one test) (sym (fewer refl)) (omega arith)

module _ (old new : ℕ → Bool) where
  pub count_same : (keys : List (Option Key)) (first : ℕ) → ((place : ℕ) → first ≤ place → new place ≡ old place)
      → count_places new keys first ≡ count_places old keys first
  count_same [] first same = refl
  count_same (None ∷ keys) first same = count_same keys (first + 1) (λ p from. same p (omega arith))
  count_same (Some k ∷ keys) first same = ap₂ (λ (a b : ℕ). a + b) (ap one (same first (omega arith)))
      (count_same keys (first + 1) (λ p from. same p (omega arith)))

  pub count_fewer : (keys : List (Option Key)) (first : ℕ) → ((place : ℕ) → new place ≡ true → old place ≡ true)
      → count_places new keys first ≤ count_places old keys first
  count_fewer [] first fewer = omega arith
  count_fewer (None ∷ keys) first fewer = count_fewer keys (first + 1) fewer
  count_fewer (Some k ∷ keys) first fewer =
      let rest = count_fewer keys (first + 1) fewer in
      let here = one_fewer (new first) (old first) (fewer first) in
      omega arith

  -- places are changed at one key's alone
  pub count_changed : (keys : List (Option Key)) (first n place : ℕ) (key : Key) → key_at keys n ≡ Some key
      → place ≡ first + n → ((p : ℕ) → p ≢ place → new p ≡ old p)
      → count_places new keys first + one (old place) ≡ count_places old keys first + one (new place)
  count_changed [] first n place key stands is same = absurd (none_some stands)
  count_changed (None ∷ keys) first zero place key stands is same = absurd (none_some stands)
  count_changed (Some k ∷ keys) first zero place key stands is same =
      let rest = count_same keys (first + 1) (λ p from. same p (omega arith)) in
      let at : first ≡ place = (omega arith) in
      subst (λ (p : ℕ). one (new first) + count_places new keys (first + 1) + one (old p)
      ≡ one (old first) + count_places old keys (first + 1) + one (new p)) at (omega arith)
  count_changed (None ∷ keys) first (suc n) place key stands is same =
      count_changed keys (first + 1) n place key stands (omega arith) same
  count_changed (Some k ∷ keys) first (suc n) place key stands is same =
      let rest = count_changed keys (first + 1) n place key stands (omega arith) same in
      let here = ap one (same first (omega arith)) in
      omega arith

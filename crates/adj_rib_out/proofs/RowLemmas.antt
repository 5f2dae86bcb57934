-- Rows of keys at places.
use Rattle.std.proofs.Common.{◌≡◌, ◌==◌, ℕ, ◌+◌, ◌<◌, Bool, true, false, List, [], ◌∷◌, cond, Option, Some, None}
use Rattle.std.proofs.Common.{zero, suc, map, length, refl, sym, ap, subst, ◌∙◌, arith}
use Rattle.std.specs.Prelude.{is_some, slice_get}
use Rattle.std.specs.Option.{option_and_then, option_map}
use Rattle.std.proofs.lemmas.Bool.{false≢true, eq-eqb, ne_eqb}
use Rattle.route_values.specs.declared.attrs.WireAttrs.{WireAttrs}
use Rattle.route_values.specs.declared.key.Key.{Key}
use Rattle.route_values.specs.Key.{same_key}
use Rattle.route_values.proofs.KeyLemmas.{same_key_is, same_key-self}
use Rattle.adj_rib_out.specs.State.{Row, Route, row_at}
use Rattle.adj_rib_out.specs.Nodes.{pair_of, AreApart}
use Rattle.adj_rib_out.specs.Places.{key_at, is_key, place_from, place_of, rows_from, row_of, StandOnce}

pub some_is : {X : Type 0} {m n : X} → Some m ≡ Some n → m ≡ n
some_is {X} {m} {n} same = cc

pub none_some : {X : Type 0} {x : X} → None ≡ Some x → ⊥
none_some {X} {x} same = cc

pub none_of : {X : Type 0} (o : Option X) → is_some o ≡ false → o ≡ None
none_of None is = refl
none_of (Some x) is = absurd (false≢true (sym is))

-- ---- what rows have of a key is what its place has

module _ (route : ℕ → Option Route) (told : ℕ → Option WireAttrs) (key : Key) where
  pub route_rows : (keys : List (Option Key)) (first : ℕ)
      → option_and_then (λ (row : Row). row.route) (row_at (rows_from route told keys first) key)
      ≡ option_and_then route (place_from keys key first)
  route_rows [] first = refl
  route_rows (None ∷ keys) first = route_rows keys (first + 1)
  route_rows (Some k ∷ keys) first = elim (same_key k key) as (λ test.
      option_and_then (λ (row : Row). row.route) (cond test (Some (row_of k (route first) (told first)))
      (row_at (rows_from route told keys (first + 1)) key))
      ≡ option_and_then route (cond test (Some first) (place_from keys key (first + 1)))) [
        | true ↦ refl
        | false ↦ route_rows keys (first + 1)
      ]

  pub told_rows : (keys : List (Option Key)) (first : ℕ)
      → option_and_then (λ (row : Row). row.told) (row_at (rows_from route told keys first) key)
      ≡ option_and_then told (place_from keys key first)
  told_rows [] first = refl
  told_rows (None ∷ keys) first = told_rows keys (first + 1)
  told_rows (Some k ∷ keys) first = elim (same_key k key) as (λ test.
      option_and_then (λ (row : Row). row.told) (cond test (Some (row_of k (route first) (told first)))
      (row_at (rows_from route told keys (first + 1)) key))
      ≡ option_and_then told (cond test (Some first) (place_from keys key (first + 1)))) [
        | true ↦ refl
        | false ↦ told_rows keys (first + 1)
      ]

  pub ready_rows : (keys : List (Option Key)) (first : ℕ)
      → is_some (row_at (rows_from route told keys first) key) ≡ is_some (place_from keys key first)
  ready_rows [] first = refl
  ready_rows (None ∷ keys) first = ready_rows keys (first + 1)
  ready_rows (Some k ∷ keys) first = elim (same_key k key) as (λ test.
      is_some (cond test (Some (row_of k (route first) (told first)))
      (row_at (rows_from route told keys (first + 1)) key))
      ≡ is_some (cond test (Some first) (place_from keys key (first + 1)))) [
        | true ↦ refl
        | false ↦ ready_rows keys (first + 1)
      ]

-- ---- places

-- a place that is found is one of the key
record IsFound (keys : List (Option Key)) (key : Key) (first place : ℕ) : Type 0 where
  pub offset : ℕ
  pub is : place ≡ first + offset
  pub stands : key_at keys offset ≡ Some key

behind : (k : Option Key) (keys : List (Option Key)) (key : Key) (first place : ℕ)
    → IsFound keys key (first + 1) place → IsFound (k ∷ keys) key first place
behind k keys key first place found = record {
  offset = suc found.offset;
  is = let is = found.is in omega arith;
  stands = found.stands;
}

found_from : (keys : List (Option Key)) (key : Key) (first place : ℕ) → place_from keys key first ≡ Some place
    → IsFound keys key first place
found_from [] key first place is = absurd (cc)
found_from (None ∷ keys) key first place is =
    behind None keys key first place (found_from keys key (first + 1) place is)
found_from (Some k ∷ keys) key first place is = elim (same_key k key) as (λ test. same_key k key ≡ test
    → cond test (Some first) (place_from keys key (first + 1)) ≡ Some place
    → IsFound (Some k ∷ keys) key first place) [
      | true ↦ λ same here. record {
        offset = 0;
        is = let here : first ≡ place = some_is here in omega arith;
        stands = ap (λ (j : Key). Some j) (same_key_is k key same);
      }
      | false ↦ λ differs there.
          behind (Some k) keys key first place (found_from keys key (first + 1) place there)
    ] refl is

-- a key that doesn't stand first stands behind
key_behind : (k : Key) (keys : List (Option Key)) (key : Key) (place : ℕ) → same_key k key ≡ false
    → key_at (Some k ∷ keys) place ≡ Some key → (n : ℕ) × (key_at keys n ≡ Some key)
key_behind k keys key zero differs is = absurd (false≢true (sym differs
    ∙ subst (λ (j : Key). same_key k j ≡ true) (some_is is) (same_key-self k)))
key_behind k keys key (suc place) differs is = (place, is)

-- a key that stands is found
pub stands_from : (keys : List (Option Key)) (key : Key) (first place : ℕ) → key_at keys place ≡ Some key
    → (p : ℕ) × (place_from keys key first ≡ Some p)
stands_from [] key first place is = absurd (cc)
stands_from (None ∷ keys) key first zero is = absurd (cc)
stands_from (None ∷ keys) key first (suc place) is = stands_from keys key (first + 1) place is
stands_from (Some k ∷ keys) key first place is = elim (same_key k key) as (λ test. same_key k key ≡ test
    → (p : ℕ) × (cond test (Some first) (place_from keys key (first + 1)) ≡ Some p)) [
      | true ↦ λ same. (first, refl)
      | false ↦ λ differs. let there = key_behind k keys key place differs is in
          stands_from keys key (first + 1) there.0 there.1
    ] refl

pub found : (keys : List (Option Key)) (key : Key) (place : ℕ) → place_of keys key ≡ Some place
    → key_at keys place ≡ Some key
found keys key place is =
    let at = found_from keys key 0 place is in
    let same : at.offset ≡ place = (let is = at.is in omega arith) in
    subst (λ (p : ℕ). key_at keys p ≡ Some key) same at.stands

pub stands : (keys : List (Option Key)) (key : Key) (place : ℕ) → StandOnce keys → key_at keys place ≡ Some key
    → place_of keys key ≡ Some place
stands keys key place once is =
    let at = stands_from keys key 0 place is in
    at.1 ∙ ap (λ (p : ℕ). Some p) (once at.0 place key (found keys key at.0 at.1) is)

pub within : (keys : List (Option Key)) (key : Key) (place : ℕ) → key_at keys place ≡ Some key
    → place < length keys
within [] key place is = absurd (cc)
within (k ∷ keys) key zero is = omega arith
within (k ∷ keys) key (suc place) is = let below = within keys key place is in omega arith

-- ---- one place changes

module _ (keys : List (Option Key)) (once : StandOnce keys) (key : Key) (place : ℕ)
    (stands_here : place_of keys key ≡ Some place) where
  same_as : (k : Key) (p : ℕ) → place_of keys k ≡ Some p → p ≡ place → same_key key k ≡ true
  same_as k p is same =
      let here = found keys key place stands_here in
      let there = subst (λ (q : ℕ). key_at keys q ≡ Some k) same (found keys k p is) in
      subst (λ (j : Key). same_key key j ≡ true) (some_is (sym here ∙ there)) (same_key-self key)

  pub same_place : (k : Key) (p : ℕ) → place_of keys k ≡ Some p → (p == place) ≡ same_key key k
  same_place k p is = elim (same_key key k) as (λ test. same_key key k ≡ test → (p == place) ≡ test) [
    | true ↦ λ same. eq-eqb p place (some_is (sym is
        ∙ subst (λ (j : Key). place_of keys j ≡ Some place) (same_key_is key k same) stands_here))
    | false ↦ λ differs. ne_eqb p place (λ same. false≢true (sym differs ∙ same_as k p is same))
  ] refl

  pub changed : {X : Type 0} (old new : ℕ → Option X) (value : Option X)
      → ((p : ℕ) → new p ≡ cond (p == place) value (old p)) → (k : Key)
      → option_and_then new (place_of keys k) ≡ cond (same_key key k) value (option_and_then old (place_of keys k))
  changed old new value changes k = elim (place_of keys k) as (λ o. place_of keys k ≡ o
      → option_and_then new o ≡ cond (same_key key k) value (option_and_then old o)) [
        | None ↦ λ is. elim (same_key key k) as (λ test. same_key key k ≡ test
            → None ≡ cond test value None) [
              | true ↦ λ same. absurd (none_some (sym is
                  ∙ subst (λ (j : Key). place_of keys j ≡ Some place) (same_key_is key k same) stands_here))
              | false ↦ λ differs. refl
            ] refl
        | Some p ↦ λ is. changes p ∙ ap (λ (test : Bool). cond test value (old p)) (same_place k p is)
      ] refl

-- ---- rows by their places

module _ (route : ℕ → Option Route) (told : ℕ → Option WireAttrs) where
  -- the pair of a key with the route of a place
  abbrev pub pair_by : ℕ → Key → Option (Key × Route)
  pair_by place key = option_map {U = Key × Route} (λ r. (key, r)) (route place)

  pub keys_of_rows : (keys : List (Option Key)) (first : ℕ)
      → map (option_map (λ (row : Row). row.key)) (rows_from route told keys first) ≡ keys
  keys_of_rows [] first = refl
  keys_of_rows (None ∷ keys) first = ap (λ (ks : List (Option Key)). None ∷ ks) (keys_of_rows keys (first + 1))
  keys_of_rows (Some k ∷ keys) first = ap (λ (ks : List (Option Key)). Some k ∷ ks) (keys_of_rows keys (first + 1))

  pub length_of_rows : (keys : List (Option Key)) (first : ℕ) → length (rows_from route told keys first) ≡ length keys
  length_of_rows [] first = refl
  length_of_rows (None ∷ keys) first = let rest = length_of_rows keys (first + 1) in omega arith
  length_of_rows (Some k ∷ keys) first = let rest = length_of_rows keys (first + 1) in omega arith

  pair_behind : (keys : List (Option Key)) (first place : ℕ)
      → option_and_then (pair_by (first + 1 + place)) (key_at keys place)
      ≡ option_and_then (pair_by (first + suc place)) (key_at keys place)
  pair_behind keys first place = ap (λ (n : ℕ). option_and_then (pair_by n) (key_at keys place)) (omega arith)

  pub pair_rows : (keys : List (Option Key)) (first place : ℕ)
      → option_and_then pair_of (slice_get (rows_from route told keys first) place)
      ≡ option_and_then (pair_by (first + place)) (key_at keys place)
  pair_rows [] first place = refl
  pair_rows (None ∷ keys) first zero = refl
  pair_rows (None ∷ keys) first (suc place) = pair_rows keys (first + 1) place ∙ pair_behind keys first place
  pair_rows (Some k ∷ keys) first zero = ap (λ (n : ℕ). pair_by n k) (omega arith)
  pair_rows (Some k ∷ keys) first (suc place) = pair_rows keys (first + 1) place ∙ pair_behind keys first place

  pub key_of_row : (keys : List (Option Key)) (first place : ℕ) (row : Row)
      → slice_get (rows_from route told keys first) place ≡ Some (Some row) → key_at keys place ≡ Some row.key
  key_of_row [] first place row is = absurd (cc)
  key_of_row (None ∷ keys) first zero row is = absurd (cc)
  key_of_row (None ∷ keys) first (suc place) row is = key_of_row keys (first + 1) place row is
  key_of_row (Some k ∷ keys) first zero row is = ap (λ (r : Row). Some r.key) (some_is (some_is is))
  key_of_row (Some k ∷ keys) first (suc place) row is = key_of_row keys (first + 1) place row is

  pub rows_apart : (keys : List (Option Key)) → StandOnce keys → AreApart (rows_from route told keys 0)
  rows_apart keys once i j a b at_i at_j same = once i j b.key (key_of_row keys 0 i a at_i
      ∙ ap (λ (k : Key). Some k) (same_key_is a.key b.key same)) (key_of_row keys 0 j b at_j)

-- ---- a scan

pub scanned : (k : Option Key) (keys : List (Option Key)) (key : Key) (first : ℕ)
    → place_from (k ∷ keys) key first ≡ cond (is_key k key) (Some first) (place_from keys key (first + 1))
scanned None keys key first = refl
scanned (Some k) keys key first = refl

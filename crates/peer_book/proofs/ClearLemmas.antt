-- A table from which all routes are taken.
use Rattle.std.proofs.Common.{◌≡◌, ℕ, ◌+◌, ◌<◌, ◌≤◌, zero, suc, Bool, true, false, List, [], ◌∷◌, length, Some, None}
use Rattle.std.proofs.Common.{refl}
use Rattle.std.proofs.Common.{sym, ap, ◌∙◌, arith, inl, inr, eqb-true}
use Rattle.std.proofs.lemmas.Bool.{eqb-false}
use Rattle.std.specs.Prelude.{◌⊎◌, ◌==◌, map, slice_get, Option, is_some, if◌then◌else◌}
use Rattle.std.specs.Option.{option_map, option_and_then}
use Rattle.std.proofs.lemmas.Option.{same_Some}
use Rattle.route_values.specs.declared.key.Key.{Key}
use Rattle.route_values.specs.Key.{same_key}
use Rattle.route_values.proofs.KeyLemmas.{same_key-self}
use Rattle.adj_rib_out.specs.State.{State, Row, Route, row_at, route_at}
use Rattle.adj_rib_out.specs.Calls.{Sets}
use Rattle.adj_rib_out.specs.Nodes.{pair_of, pair_at, AreApart}
use Rattle.peer_book.specs.Clearing.{UnsetsTo, UnsetsAll}

abbrev keys_at : List (Option Row) → List (Option Key)
keys_at rows = map (option_map (λ (row : Row). row.key)) rows

-- the row that stood at a place
pub record Was (old : List (Option Row)) (place : ℕ) (row : Row) : Type 0 where
  pub was : Row
  pub at : slice_get old place ≡ Some (Some was)
  pub same : was.key ≡ row.key

first_was : (x y : Option Row) (row : Row) → option_map (λ (r : Row). r.key) x ≡ option_map (λ (r : Row). r.key) y
    → x ≡ Some row → (was : Row) × (y ≡ Some was) × (was.key ≡ row.key)
first_was x None row same is =
    let none : Some row.key ≡ None = sym (ap (option_map (λ (r : Row). r.key)) is) ∙ same in absurd cc
first_was x (Some was) row same is =
    (was, refl, same_Some _ _ (sym same ∙ ap (option_map (λ (r : Row). r.key)) is))

head_of : {A : Type 0} → A → List A → A
head_of other [] = other
head_of other (x ∷ xs) = x

tail_of : {A : Type 0} → List A → List A
tail_of [] = []
tail_of (x ∷ xs) = xs

pub row_was : (old new : List (Option Row)) (place : ℕ) (row : Row) → keys_at new ≡ keys_at old
    → slice_get new place ≡ Some (Some row) → Was old place row
row_was old [] place row same is = absurd cc
row_was [] (x ∷ xs) place row same is = absurd cc
row_was (y ∷ ys) (x ∷ xs) zero row same is =
    let heads : option_map (λ (r : Row). r.key) x ≡ option_map (λ (r : Row). r.key) y = cc in
    let found = first_was x y row heads (same_Some _ _ is) in
    record { was = found.0; at = ap Some found.1; same = found.2 }
row_was (y ∷ ys) (x ∷ xs) (suc place) row same is =
    let tails : keys_at xs ≡ keys_at ys = cc in
    let later = row_was ys xs place row tails is in
    record { was = later.was; at = later.at; same = later.same }

-- the row of a key stands at a place
pub record Found (rows : List (Option Row)) (key : Key) (row : Row) : Type 0 where
  pub place : ℕ
  pub at : slice_get rows place ≡ Some (Some row)
  pub same : same_key row.key key ≡ true

later_found : (x : Option Row) (rows : List (Option Row)) (key : Key) (row : Row) → Found rows key row
    → Found (x ∷ rows) key row
later_found x rows key row found = record { place = suc found.place; at = found.at; same = found.same }

pub row_found : (rows : List (Option Row)) (key : Key) (row : Row) → row_at rows key ≡ Some row → Found rows key row
row_found [] key row is = absurd cc
row_found (None ∷ rows) key row is = later_found None rows key row (row_found rows key row is)
row_found (Some first ∷ rows) key row is =
    elim (same_key first.key key) as (λ b. same_key first.key key ≡ b
    → (if b then Some first else row_at rows key) ≡ Some row → Found (Some first ∷ rows) key row) [
      | true ↦ λ same at.
          let one : first ≡ row = same_Some _ _ at in
          record { place = 0; at = ap (λ r. Some (Some r)) one; same = ap (λ r. same_key r.key key) (sym one) ∙ same }
      | false ↦ λ other at. later_found (Some first) rows key row (row_found rows key row at)
    ] refl is

row_there : (rows : List (Option Row)) (place : ℕ) (row : Row) → slice_get rows place ≡ Some (Some row)
    → is_some (row_at rows row.key) ≡ true
row_there [] place row is = cc
row_there (None ∷ rows) zero row is = absurd (let none : ◌≡◌ {A = Option Row} None (Some row) = same_Some _ _ is in cc)
row_there (None ∷ rows) (suc place) row is = row_there rows place row is
row_there (Some first ∷ rows) zero row is =
    let one : ◌≡◌ {A = Option Row} (Some first) (Some row) = same_Some _ _ is in
    let same : first ≡ row = same_Some _ _ one in
    ap (λ b. is_some (if b then Some first else row_at rows row.key))
    (ap (λ r. same_key r.key row.key) same ∙ same_key-self row.key)
row_there (Some first ∷ rows) (suc place) row is =
    elim (same_key first.key row.key) as (λ b. is_some (if b then Some first else row_at rows row.key) ≡ true) [
      | true ↦ refl
      | false ↦ row_there rows place row is
    ]

some_is : {A : Type 0} (o : Option A) → is_some o ≡ true → (a : A) × (o ≡ Some a)
some_is None h = absurd cc
some_is (Some a) h = (a, refl)

-- where keys stand once, the row at a place is its key's
pub row_here : (rows : List (Option Row)) (place : ℕ) (row : Row) → AreApart rows
    → slice_get rows place ≡ Some (Some row) → row_at rows row.key ≡ Some row
row_here rows place row apart is =
    let other = some_is (row_at rows row.key) (row_there rows place row is) in
    let found = row_found rows row.key other.0 other.1 in
    let same : found.place ≡ place = apart found.place place other.0 row found.at is found.same in
    let one : ◌≡◌ {A = Option (Option Row)} (Some (Some other.0)) (Some (Some row)) =
    sym found.at ∙ ap (slice_get rows) same ∙ is in
    other.1 ∙ same_Some _ _ one

pub route_here : (state : State) (place : ℕ) (row : Row) → AreApart state.rows
    → slice_get state.rows place ≡ Some (Some row) → route_at state row.key ≡ row.route
route_here state place row apart is =
    ap (option_and_then (λ (r : Row). r.route)) (row_here state.rows place row apart is)

pub apart_same : (old new : List (Option Row)) → keys_at new ≡ keys_at old → AreApart old → AreApart new
apart_same old new same apart i j a b at_i at_j alike =
    let was_a = row_was old new i a same at_i in
    let was_b = row_was old new j b same at_j in
    apart i j was_a.was was_b.was was_a.at was_b.at
    (ap (λ k. same_key k was_b.was.key) was_a.same ∙ ap (same_key a.key) was_b.same ∙ alike)

-- ---- one place

none_pair : (row : Row) → pair_of (Some row) ≡ None → row.route ≡ None
none_pair row is = none_route row.route is
  where
    none_route : (route : Option Route)
        → option_map {T = Route} {U = Key × Route} (λ r. (row.key, r)) route ≡ None → route ≡ None
    none_route None h = refl
    none_route (Some r) h = absurd cc

pub at_or_below : (p place : ℕ) → p < place + 1 → (p ≡ place) ⊎ (p < place)
at_or_below p place within = at_place (p == place) refl
  where
    at_place : (b : Bool) → (p == place) ≡ b → (p ≡ place) ⊎ (p < place)
    at_place true e = inl (eqb-true p place e)
    at_place false e = let apart = eqb-false p place e in inr (omega (arith, apart))

pub unset_none : (start mid : State) (place : ℕ) → UnsetsTo start mid place → pair_at mid place ≡ None
    → UnsetsTo start mid (place + 1)
unset_none start mid place before none = record {
  side = before.side;
  ready = before.ready;
  session = before.session;
  batch = before.batch;
  gone = λ p row within at. elim (at_or_below p place within) [
    | inl same ↦ none_pair row (sym (ap (option_and_then pair_of) (ap (slice_get mid.rows) (sym same) ∙ at)) ∙ none)
    | inr below ↦ before.gone p row below at
  ];
}

-- the key of a pair is that of its row
pub pair_key : (row : Option (Option Row)) (key : Key)
    → option_map (λ (p : Key × Route). p.0) (option_and_then pair_of row) ≡ Some key
    → (r : Row) × (row ≡ Some (Some r)) × (r.key ≡ key)
pair_key None key is = absurd cc
pair_key (Some None) key is = absurd cc
pair_key (Some (Some r)) key is = (r, refl, by_route r.route is)
  where
    by_route : (route : Option Route)
        → option_map (λ (p : Key × Route). p.0) (option_map {T = Route} {U = Key × Route} (λ x.
        (r.key, x)) route) ≡ Some key → r.key ≡ key
    by_route None is = absurd cc
    by_route (Some x) is = same_Some _ _ is

pub unset_some : (start mid new : State) (place : ℕ) (key : Key) → AreApart mid.rows → UnsetsTo start mid place
    → option_map (λ (p : Key × Route). p.0) (pair_at mid place) ≡ Some key → Sets mid new key None
    → UnsetsTo start new (place + 1)
unset_some start mid new place key apart before is sets = record {
  side = sets.side ∙ before.side;
  ready = record {
    places = sets.ready.places ∙ before.ready.places;
    keys = λ k. sets.ready.keys k ∙ before.ready.keys k;
    values = λ n. sets.ready.values n ∙ before.ready.values n;
  };
  session = record {
    session = sets.session.session ∙ before.session.session;
    told = λ k. sets.session.told k ∙ before.session.told k;
  };
  batch = record {
    left = sets.batch.left ∙ before.batch.left;
    markers = sets.batch.markers ∙ before.batch.markers;
  };
  gone = gone;
}
  where
    apart_new : AreApart new.rows
    apart_new = apart_same mid.rows new.rows sets.ready.places apart

    here : (p : ℕ) (row : Row) → slice_get new.rows p ≡ Some (Some row)
        → row.route ≡ (if same_key key row.key then None else route_at mid row.key)
    here p row at = sym (route_here new p row apart_new at) ∙ sets.routes row.key

    gone : (p : ℕ) (row : Row) → p < place + 1 → slice_get new.rows p ≡ Some (Some row) → row.route ≡ None
    gone p row within at =
        let was = row_was mid.rows new.rows p row sets.ready.places at in
        elim (at_or_below p place within) [
          | inl same ↦
              let pair = pair_key (slice_get mid.rows place) key is in
              let one : ◌≡◌ {A = Option (Option Row)} (Some (Some was.was)) (Some (Some pair.0)) =
              sym was.at ∙ ap (slice_get mid.rows) same ∙ pair.1 in
              let row_is : was.was ≡ pair.0 = same_Some _ _ (same_Some _ _ one) in
              let key_is : key ≡ row.key = sym pair.2 ∙ ap (λ (r : Row). r.key) (sym row_is) ∙ was.same in
              here p row at ∙ ap (λ b. if b then None else route_at mid row.key)
              (ap (λ k. same_key k row.key) key_is ∙ same_key-self row.key)
          | inr below ↦
              let none : route_at mid row.key ≡ None =
              ap (route_at mid) (sym was.same) ∙ route_here mid p was.was apart was.at
              ∙ before.gone p was.was below was.at in
              here p row at ∙ elim (same_key key row.key) as (λ b. (if b then None else route_at mid row.key) ≡ None) [
                | true ↦ refl
                | false ↦ none
              ]
        ]

-- ---- all places

pub unset_start : (state : State) → UnsetsTo state state 0
unset_start state = record {
  side = refl;
  ready = record { places = refl; keys = λ key. refl; values = λ number. refl };
  session = record { session = refl; told = λ key. refl };
  batch = record { left = refl; markers = refl };
  gone = λ p row within at. absurd (omega arith);
}

pub get_within : {A : Type 0} (items : List A) (place : ℕ) (item : A) → slice_get items place ≡ Some item
    → place < length items
get_within [] place item is = absurd cc
get_within (x ∷ xs) zero item is = omega arith
get_within (x ∷ xs) (suc place) item is = let later = get_within xs place item is in omega arith

pub unset_whole : (start new : State) (place : ℕ) → length start.rows ≤ place → UnsetsTo start new place
    → UnsetsAll start new
unset_whole start new place whole before = record {
  side = before.side;
  routes = λ key. by_row key (row_at new.rows key) refl;
  ready = before.ready;
  session = before.session;
  batch = before.batch;
}
  where
    by_row : (key : Key) (row : Option Row) → row_at new.rows key ≡ row → route_at new key ≡ None
    by_row key None at = ap (option_and_then (λ (r : Row). r.route)) at
    by_row key (Some row) at =
        let found = row_found new.rows key row at in
        let was = row_was start.rows new.rows found.place row before.ready.places found.at in
        let within = get_within start.rows found.place (Some was.was) was.at in
        ap (option_and_then (λ (r : Row). r.route)) at
        ∙ before.gone found.place row (omega (arith, within, whole)) found.at

pub pair_none : {A B : Type 0} (f : A → B) (o : Option A) → None ≡ option_map f o → o ≡ None
pair_none f None is = refl
pair_none f (Some a) is = absurd (let no_way : ◌≡◌ {A = Option _} None (Some (f a)) = is in cc)

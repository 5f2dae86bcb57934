-- A table from which the static routes are taken that a section lacks.
use Rattle.std.proofs.Common.{◌≡◌, ℕ, ◌+◌, ◌<◌, ◌≤◌, Bool, true, false, List, length, Some, None, refl, sym, ap}
use Rattle.std.proofs.Common.{◌∙◌, subst, arith, inl, inr}
use Rattle.std.specs.Prelude.{◌⊎◌, slice_get, Option, is_some, if◌then◌else◌}
use Rattle.std.specs.Option.{option_map, option_and_then}
use Rattle.std.specs.List.{AllByRecursion}
use Rattle.std.proofs.lemmas.Option.{same_Some}
use Rattle.route_values.specs.declared.key.Key.{Key}
use Rattle.route_values.specs.Key.{same_key}
use Rattle.route_values.proofs.KeyLemmas.{same_key_is, same_key-self}
use Rattle.adj_rib_out.specs.State.{State, Row, Route, row_at, route_at}
use Rattle.adj_rib_out.specs.Batch.{AreOnce}
use Rattle.adj_rib_out.specs.Calls.{Sets}
use Rattle.adj_rib_out.specs.Nodes.{pair_of, pair_at, AreApart}
use Rattle.peer_book.specs.Keeping.{gone_key, Drops, DropsTo}
use Rattle.peer_book.specs.Numbers.{is_gone}
use Rattle.peer_book.specs.Slot.{IsSayable, IsSound}
use Rattle.peer_book.proofs.ClearLemmas.{row_found, row_was, route_here, apart_same, at_or_below, get_within}

pub drop_start : (numbers : List (Key × ℕ)) (state : State) → DropsTo numbers state state 0
drop_start numbers state = record {
  side = refl;
  routes = λ key. inl refl;
  gone = λ p row within at. absurd (omega arith);
  ready = record { places = refl; keys = λ key. refl; values = λ number. refl };
  session = record { session = refl; told = λ key. refl };
  batch = record { left = refl; markers = refl };
}

-- ---- one place

-- the route of a row that no key is told of stays
stays_at : (numbers : List (Key × ℕ)) (row : Row) → gone_key numbers (pair_of (Some row)) ≡ None
    → is_gone numbers row.key row.route ≡ false
stays_at numbers row is = by_route row.route is
  where
    by_gone : (gone : Bool) → ◌≡◌ {A = Option Key} (if gone then Some row.key else None) None → gone ≡ false
    by_gone true at = absurd (let no_way : ◌≡◌ {A = Option Key} (Some row.key) None = at in cc)
    by_gone false at = refl

    by_route : (route : Option Route)
        → gone_key numbers (option_map {T = Route} {U = Key × Route} (λ r. (row.key, r)) route) ≡ None
        → is_gone numbers row.key route ≡ false
    by_route None at = refl
    by_route (Some route) at = by_gone (is_gone numbers row.key (Some route)) at

pub drop_none : (numbers : List (Key × ℕ)) (start mid : State) (place : ℕ) → DropsTo numbers start mid place
    → None ≡ gone_key numbers (pair_at mid place) → DropsTo numbers start mid (place + 1)
drop_none numbers start mid place before none = record {
  side = before.side;
  routes = before.routes;
  gone = λ p row within at. elim (at_or_below p place within) [
    | inl same ↦ stays_at numbers row
        (ap (λ (found : Option (Option Row)). gone_key numbers (option_and_then pair_of found))
        (sym (ap (slice_get mid.rows) (sym same) ∙ at)) ∙ sym none)
    | inr below ↦ before.gone p row below at
  ];
  ready = before.ready;
  session = before.session;
  batch = before.batch;
}

-- a key that is told is that of a row whose route goes
pub record Goes (numbers : List (Key × ℕ)) (found : Option (Option Row)) (key : Key) : Type 0 where
  pub row : Row
  pub at : found ≡ Some (Some row)
  pub key_is : row.key ≡ key
  pub gone : is_gone numbers key row.route ≡ true

pub goes_at : (numbers : List (Key × ℕ)) (found : Option (Option Row)) (key : Key)
    → Some key ≡ gone_key numbers (option_and_then pair_of found) → Goes numbers found key
goes_at numbers None key is = absurd (let no_way : ◌≡◌ {A = Option Key} (Some key) None = is in cc)
goes_at numbers (Some None) key is = absurd (let no_way : ◌≡◌ {A = Option Key} (Some key) None = is in cc)
goes_at numbers (Some (Some row)) key is = by_route row.route refl is
  where
    by_gone : (route : Route) (gone : Bool) → is_gone numbers row.key (Some route) ≡ gone → row.route ≡ Some route
        → ◌≡◌ {A = Option Key} (Some key) (if gone then Some row.key else None) → Goes numbers (Some (Some row)) key
    by_gone route true goes stands at =
        let same : row.key ≡ key = sym (same_Some _ _ at) in
        record {
          row = row;
          at = refl;
          key_is = same;
          gone = ap (is_gone numbers key) stands ∙ ap (λ (k : Key). is_gone numbers k (Some route)) (sym same) ∙ goes;
        }
    by_gone route false goes stands at =
        absurd (let no_way : ◌≡◌ {A = Option Key} (Some key) None = at in cc)

    by_route : (route : Option Route) → row.route ≡ route
        → Some key ≡ gone_key numbers (option_map {T = Route} {U = Key × Route} (λ r. (row.key, r)) route)
        → Goes numbers (Some (Some row)) key
    by_route None stands at = absurd (let no_way : ◌≡◌ {A = Option Key} (Some key) None = at in cc)
    by_route (Some route) stands at = by_gone route (is_gone numbers row.key (Some route)) refl stands at

pub drop_some : (numbers : List (Key × ℕ)) (start mid new : State) (place : ℕ) (key : Key) → AreApart mid.rows
    → DropsTo numbers start mid place → Some key ≡ gone_key numbers (pair_at mid place) → Sets mid new key None
    → DropsTo numbers start new (place + 1)
drop_some numbers start mid new place key apart before is sets = record {
  side = sets.side ∙ before.side;
  routes = routes;
  gone = gone;
  ready = record {
    places = sets.ready.places ∙ before.ready.places;
    keys = λ k. sets.ready.keys k ∙ before.ready.keys k;
    values = λ n. sets.ready.values n ∙ before.ready.values n;
  };
  session = record {
    session = sets.session.session ∙ before.session.session;
    told = λ k. sets.session.told k ∙ before.session.told k;
  };
  batch = record {
    left = sets.batch.left ∙ before.batch.left;
    markers = sets.batch.markers ∙ before.batch.markers;
  };
}
  where
    goes : Goes numbers (slice_get mid.rows place) key
    goes = goes_at numbers (slice_get mid.rows place) key is

    -- the route of the key in between
    was_gone : is_gone numbers key (route_at mid key) ≡ true
    was_gone =
        ap (is_gone numbers key) (ap (route_at mid) (sym goes.key_is) ∙ route_here mid place goes.row apart goes.at)
        ∙ goes.gone

    start_gone : is_gone numbers key (route_at start key) ≡ true
    start_gone = elim (before.routes key) [
      | inl same ↦ ap (is_gone numbers key) (sym same) ∙ was_gone
      | inr went ↦ went.1
    ]

    by_same : (k : Key) (b : Bool) → same_key key k ≡ b
        → (route_at new k ≡ route_at start k)
        ⊎ ((route_at new k ≡ None) × (is_gone numbers k (route_at start k) ≡ true))
    by_same k true same =
        let is_key = same_key_is key k same in
        inr (
          sets.routes k ∙ ap (λ b. if b then None else route_at mid k) same,
          ap (λ (j : Key). is_gone numbers j (route_at start j)) (sym is_key) ∙ start_gone,
        )
    by_same k false other =
        let stays : route_at new k ≡ route_at mid k =
        sets.routes k ∙ ap (λ b. if b then None else route_at mid k) other in
        elim (before.routes k) [
          | inl same ↦ inl (stays ∙ same)
          | inr went ↦ inr (stays ∙ went.0, went.1)
        ]

    routes : (k : Key) → (route_at new k ≡ route_at start k)
        ⊎ ((route_at new k ≡ None) × (is_gone numbers k (route_at start k) ≡ true))
    routes k = by_same k (same_key key k) refl

    apart_new : AreApart new.rows
    apart_new = apart_same mid.rows new.rows sets.ready.places apart

    here : (p : ℕ) (row : Row) → slice_get new.rows p ≡ Some (Some row)
        → row.route ≡ (if same_key key row.key then None else route_at mid row.key)
    here p row at = sym (route_here new p row apart_new at) ∙ sets.routes row.key

    gone : (p : ℕ) (row : Row) → p < place + 1 → slice_get new.rows p ≡ Some (Some row)
        → is_gone numbers row.key row.route ≡ false
    gone p row within at =
        let was = row_was mid.rows new.rows p row sets.ready.places at in
        elim (at_or_below p place within) [
          | inl same ↦
              let one : ◌≡◌ {A = Option (Option Row)} (Some (Some was.was)) (Some (Some goes.row)) =
              sym was.at ∙ ap (slice_get mid.rows) same ∙ goes.at in
              let row_is : was.was ≡ goes.row = same_Some _ _ (same_Some _ _ one) in
              let key_is : key ≡ row.key = sym goes.key_is ∙ ap (λ (r : Row). r.key) (sym row_is) ∙ was.same in
              ap (is_gone numbers row.key) (here p row at ∙ ap (λ b. if b then None else route_at mid row.key)
              (ap (λ k. same_key k row.key) key_is ∙ same_key-self row.key))
          | inr below ↦
              let stays : is_gone numbers row.key (route_at mid row.key) ≡ false =
              ap (is_gone numbers row.key) (ap (route_at mid) (sym was.same) ∙ route_here mid p was.was apart was.at)
              ∙ ap (λ (k : Key). is_gone numbers k was.was.route) (sym was.same) ∙ before.gone p was.was below was.at in
              ap (is_gone numbers row.key) (here p row at)
              ∙ elim (same_key key row.key) as (λ b. is_gone numbers row.key (if b then None else route_at mid row.key)
              ≡ false) [
                | true ↦ refl
                | false ↦ stays
              ]
        ]

-- ---- all places

pub drop_whole : (numbers : List (Key × ℕ)) (start new : State) (place : ℕ) → length start.rows ≤ place
    → DropsTo numbers start new place → Drops numbers start new
drop_whole numbers start new place whole before = record {
  side = before.side;
  routes = λ key. elim (before.routes key) [
    | inl same ↦ same ∙ ap (λ b. if b then None else route_at start key)
        (sym (ap (is_gone numbers key) (sym same) ∙ by_row key (row_at new.rows key) refl))
    | inr went ↦ went.0 ∙ ap (λ b. if b then None else route_at start key) (sym went.1)
  ];
  ready = before.ready;
  session = before.session;
  batch = before.batch;
}
  where
    by_row : (key : Key) (row : Option Row) → row_at new.rows key ≡ row → is_gone numbers key (route_at new key) ≡ false
    by_row key None at = ap (λ (found : Option Row). is_gone numbers key (option_and_then (λ
        (r : Row). r.route) found)) at
    by_row key (Some row) at =
        let found = row_found new.rows key row at in
        let was = row_was start.rows new.rows found.place row before.ready.places found.at in
        let within = get_within start.rows found.place (Some was.was) was.at in
        ap (λ (one : Option Row). is_gone numbers key (option_and_then (λ (r : Row). r.route) one)) at
        ∙ ap (λ (k : Key). is_gone numbers k row.route) (sym (same_key_is row.key key found.same))
        ∙ before.gone found.place row (omega (arith, within, whole)) found.at

-- a route that stands behind it stood before
pub stood_before : (numbers : List (Key × ℕ)) (old new : State) (key : Key) (route : Route) → Drops numbers old new
    → route_at new key ≡ Some route → route_at old key ≡ Some route
stood_before numbers old new key route drops is =
    elim (is_gone numbers key (route_at old key)) as (λ b. (if b then None else route_at old key) ≡ Some route
    → route_at old key ≡ Some route) [
      | true ↦ λ at. absurd (let no_way : ◌≡◌ {A = Option Route} None (Some route) = at in cc)
      | false ↦ λ at. at
    ] (sym (drops.routes key) ∙ is)

pub sound_drops : (numbers : List (Key × ℕ)) (old new : State) → IsSound old → Drops numbers old new → IsSound new
sound_drops numbers old new sound drops = record {
  routes = λ key route is. sound.routes key route (stood_before numbers old new key route drops is);
  sent = λ key route is. sound.sent key route (stood_before numbers old new key route drops is)
      ∙ ap (Rattle.route_values.specs.Sent.sent route.written) (sym drops.side);
  told = λ session key is there.
      sound.told session key (sym drops.session.session ∙ is) (sym (ap is_some (drops.session.told key)) ∙ there);
  left = λ session is. subst (AllByRecursion (IsSayable session.caps)) (sym drops.batch.left)
      (sound.left session (sym drops.session.session ∙ is));
  once = subst AreOnce (sym drops.batch.left) sound.once;
}

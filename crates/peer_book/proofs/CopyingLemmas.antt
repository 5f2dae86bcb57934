-- Routes that are copied to a table that sends otherwise.
use Rattle.std.proofs.Common.{◌≡◌, ℕ, ◌+◌, ◌<◌, ◌≤◌, ◌^◌, zero, suc, Bool, true, false, List, [], ◌∷◌, length, Some}
use Rattle.std.proofs.Common.{None, take, refl, sym, ap, ◌∙◌, subst, arith}
use Rattle.std.specs.Prelude.{◌||◌, slice_get, Option, unwrap_or, IfSome, if◌then◌else◌}
use Rattle.std.specs.Option.{option_map, option_and_then}
use Rattle.std.specs.List.{AllByRecursion}
use Rattle.std.proofs.lemmas.List.{take_all}
use Rattle.std.proofs.lemmas.Option.{same_Some}
use Rattle.route_values.specs.declared.addr.Family.{Family}
use Rattle.route_values.specs.declared.attrs.Attrs.{Attrs}
use Rattle.route_values.specs.declared.attrs.Hop.{Hop}
use Rattle.route_values.specs.declared.attrs.Hop.TheVariants.{Own, Is}
use Rattle.route_values.specs.declared.key.Key.{Key}
use Rattle.route_values.specs.declared.path.Segment.{Segment}
use Rattle.route_values.specs.declared.settings.Side.{Side}
use Rattle.route_values.specs.Addr.{family_of, bits_of, number_of}
use Rattle.route_values.specs.Key.{family_of_key, same_key}
use Rattle.route_values.specs.Limits.{numbers_in}
use Rattle.route_values.specs.Sent.{sent, hop_sent, path_sent, is_internal}
use Rattle.route_values.proofs.KeyLemmas.{same_key_is}
use Rattle.update_grammar.specs.Values.{IsNumber, IsSegment}
use Rattle.update_grammar.specs.Written.{IsHop}
use Rattle.batch_cutter.specs.Heads.{IsRoute}
use Rattle.adj_rib_out.specs.State.{State, Row, Route, row_at, route_at, value_at, route_of}
use Rattle.adj_rib_out.specs.Calls.{Readies}
use Rattle.adj_rib_out.specs.Nodes.{pair_of, pair_at, AreApart}
use Rattle.peer_history.specs.Table as history
use Rattle.peer_book.specs.Copying.{route_below, Copies, CopiesTo, PutsAsked}
use Rattle.peer_book.specs.Slot.{IsRoutable, IsSound}
use Rattle.peer_book.specs.Stands.{asked}
use Rattle.peer_book.specs.Tables.{SetsEach, AreKeys}
use Rattle.peer_book.proofs.KeptLemmas.{FitsEach, sound_calm, sound_sets}
use Rattle.peer_book.proofs.StaticsLemmas.{calm_readies, ready_value}
use Rattle.peer_book.proofs.ClearLemmas.{route_here}
use Rattle.peer_book.proofs.CountingLemmas.{apart_rest}

-- ---- what is sent otherwise

module _ (family : Family) (old new : Side) (same : family_of new.local ≡ family_of old.local)
    (fits : number_of new.local < 2 ^ bits_of (family_of new.local)) (small : IsNumber new.local_as) where
  hop_moved : (hop : Hop) → IsHop family (hop_sent hop old) → IsHop family (hop_sent hop new)
  hop_moved Own is =
      let of_family : family_of new.local ≡ family = same ∙ is.of_family in
      record { of_family = of_family; fits = subst (λ f. number_of new.local < 2 ^ bits_of f) of_family fits }
  hop_moved (Is addr) is = is

  unwritten : (internal : Bool) → AllByRecursion IsSegment
      (if internal then [] else (record { set = false; numbers = new.local_as ∷ [] } ∷ []))
  unwritten true = tt
  unwritten false = (record { filled = omega arith; short = omega arith; numbers = (small, tt) }, tt)

  few : (internal : Bool)
      → numbers_in (if internal then [] else (record { set = false; numbers = new.local_as ∷ [] } ∷ [])) ≤ 255
  few true = omega arith
  few false = omega arith

  path_moved : (path : Option (List Segment)) → AllByRecursion IsSegment (path_sent path old)
      → AllByRecursion IsSegment (path_sent path new)
  path_moved (Some path) is = is
  path_moved None is = unwritten (is_internal new)

  path_few : (path : Option (List Segment)) → numbers_in (path_sent path old) ≤ 255
      → numbers_in (path_sent path new) ≤ 255
  path_few (Some path) is = is
  path_few None is = few (is_internal new)

  preferred : (internal : Bool) (written : Option ℕ) → IfSome written IsNumber
      → IfSome (if internal then Some (unwrap_or written 100) else None) IsNumber
  preferred false written is = tt
  preferred true None is = omega arith
  preferred true (Some number) is = is

  -- a route that is sent by one side is a route where it is sent by another
  pub route_moved : (written : Attrs) → IfSome written.local_pref IsNumber → IsRoute family (sent written old)
      → IsRoute family (sent written new)
  route_moved written number is = record {
    sendable = record {
      hop = hop_moved written.hop is.sendable.hop;
      path = path_moved written.path is.sendable.path;
      med = is.sendable.med;
      local_pref = preferred (is_internal new) written.local_pref number;
      aggregator = is.sendable.aggregator;
      communities = is.sendable.communities;
      originator = is.sendable.originator;
      clusters = is.sendable.clusters;
      extended = is.sendable.extended;
      large = is.sendable.large;
    };
    within = record {
      numbers = path_few written.path is.within.numbers;
      communities = is.within.communities;
      clusters = is.within.clusters;
      extended = is.within.extended;
      large = is.within.large;
    };
  }

-- ---- one route

module _ (old mid new : State) (key : Key) (route : Route) (number : ℕ)
    (ready : Readies old mid (key ∷ []) route.written number)
    (sets : SetsEach mid new (key ∷ []) (option_map (λ w. route_of mid.side w route.owner) (value_at mid number))) where
  route_is : option_map (λ w. route_of mid.side w route.owner) (value_at mid number)
      ≡ Some (route_of mid.side route.written route.owner)
  route_is = ap (option_map (λ w. route_of mid.side w route.owner))
      (ready_value old mid (key ∷ []) route.written number ready)

  pub puts_asked : PutsAsked key route old new
  puts_asked = record {
    side = sets.side ∙ ready.routes.side;
    routes = λ k. ap (option_map asked) (sets.routes k)
        ∙ elim (same_key key k) as (λ b. option_map asked (if b || false
        then option_map (λ w. route_of mid.side w route.owner) (value_at mid number) else route_at mid k)
        ≡ (if b then Some (asked route) else option_map asked (route_at old k))) [
          | true ↦ ap (option_map asked) route_is
          | false ↦ ap (option_map asked) (ready.routes.routes k)
        ];
    session = record {
      session = sets.session.session ∙ ready.session.session;
      told = λ k. sets.session.told k ∙ ready.session.told k;
    };
    batch = record {
      left = sets.batch.left ∙ ready.batch.left;
      markers = sets.batch.markers ∙ ready.batch.markers;
    };
  }

  module _ (are : AreKeys (key ∷ [])) (fits : IsRoute (family_of_key key) (sent route.written old.side)) where
    fits_asked : FitsEach mid (key ∷ []) (option_map (λ w. route_of mid.side w route.owner) (value_at mid number))
    fits_asked k one named is =
        let same : route_of mid.side route.written route.owner ≡ one = same_Some _ _ (sym route_is ∙ is) in
        subst (λ (r : Route). IsRoutable k r.attrs × (r.attrs ≡ sent r.written mid.side)) same (
          record { is_key = are k named; route = by_same (same_key key k) refl named },
          refl,
        )
      where
        by_same : (b : Bool) → same_key key k ≡ b → (b || false) ≡ true
            → IsRoute (family_of_key k) (sent route.written mid.side)
        by_same true same there =
            subst (λ (j : Key). IsRoute (family_of_key j) (sent route.written mid.side)) (same_key_is key k same)
            (subst (λ side. IsRoute (family_of_key key) (sent route.written side)) (sym ready.routes.side) fits)
        by_same false other there = absurd (let no_way : false ≡ true = there in cc)

    pub sound_asked : IsSound old → IsSound new
    sound_asked sound =
        sound_sets mid new (key ∷ []) _
        (sound_calm old mid sound (calm_readies old mid (key ∷ []) route.written number ready)) sets fits_asked

-- ---- one place

-- the route of a key where one more place is looked at
abbrev below_at : Option (Option Row) → Key → Option Route → Option Route
below_at None key before = before
below_at (Some None) key before = before
below_at (Some (Some row)) key before = if same_key row.key key then row.route else before

abbrev route_in : List (Option Row) → Key → Option Route
route_in rows key = option_and_then (λ (row : Row). row.route) (row_at rows key)

in_row : (row : Row) (rows : List (Option Row)) (key : Key) (same : Bool) → same_key row.key key ≡ same
    → route_in (Some row ∷ rows) key ≡ (if same then row.route else route_in rows key)
in_row row rows key true is = ap (λ b. option_and_then (λ
    (r : Row). r.route) (if b then Some row else row_at rows key)) is
in_row row rows key false is = ap (λ b. option_and_then (λ
    (r : Row). r.route) (if b then Some row else row_at rows key)) is

below_more : (rows : List (Option Row)) (place : ℕ) (key : Key) → AreApart rows
    → route_in (take (suc place) rows) key ≡ below_at (slice_get rows place) key (route_in (take place rows) key)
below_more [] zero key apart = refl
below_more [] (suc place) key apart = refl
below_more (None ∷ rows) zero key apart = refl
below_more (Some row ∷ rows) zero key apart = in_row row [] key (same_key row.key key) refl
below_more (None ∷ rows) (suc place) key apart = below_more rows place key (apart_rest None rows apart)
below_more (Some row ∷ rows) (suc place) key apart =
    by_same (same_key row.key key) refl (below_more rows place key (apart_rest (Some row) rows apart))
  where
    -- another row has another key
    by_found : (found : Option (Option Row)) → slice_get rows place ≡ found → same_key row.key key ≡ true
        → row.route ≡ below_at found key row.route
    by_found None at same = refl
    by_found (Some None) at same = refl
    by_found (Some (Some other)) at same =
        elim (same_key other.key key) as (λ b. same_key other.key key ≡ b
        → row.route ≡ (if b then other.route else row.route)) [
          | true ↦ λ alike.
              let one : same_key row.key other.key ≡ true =
              ap (same_key row.key) (same_key_is other.key key alike) ∙ same in
              let never : 0 ≡ suc place = apart 0 (suc place) row other refl at one in
              absurd (omega (arith, never))
          | false ↦ λ differs. refl
        ] refl

    by_same : (same : Bool) → same_key row.key key ≡ same
        → route_in (take (suc place) rows) key ≡ below_at (slice_get rows place) key (route_in (take place rows) key)
        → route_in (Some row ∷ take (suc place) rows) key
        ≡ below_at (slice_get rows place) key (route_in (Some row ∷ take place rows) key)
    by_same true is later =
        in_row row (take (suc place) rows) key true is ∙ by_found (slice_get rows place) refl is
        ∙ ap (below_at (slice_get rows place) key) (sym (in_row row (take place rows) key true is))
    by_same false is later =
        in_row row (take (suc place) rows) key false is ∙ later
        ∙ ap (below_at (slice_get rows place) key) (sym (in_row row (take place rows) key false is))

after_place : (place : ℕ) → place + 1 ≡ suc place
after_place place = omega arith

below_next : (given : State) (place : ℕ) (key : Key) → AreApart given.rows
    → route_below given (place + 1) key ≡ below_at (slice_get given.rows place) key (route_below given place key)
below_next given place key apart =
    ap (λ n. route_in (take n given.rows) key) (after_place place) ∙ below_more given.rows place key apart

-- where no pair stands none is added
no_pair : (given : State) (found : Option (Option Row)) (place : ℕ) (key : Key) (before : Option Route)
    → slice_get given.rows place ≡ found → option_and_then pair_of found ≡ None
    → (route_at given key ≡ None → before ≡ None) → AreApart given.rows → below_at found key before ≡ before
no_pair given None place key before at is none apart = refl
no_pair given (Some None) place key before at is none apart = refl
no_pair given (Some (Some row)) place key before at is none apart =
    elim (same_key row.key key) as (λ b. same_key row.key key ≡ b → (if b then row.route else before) ≡ before) [
      | true ↦ λ same.
          let gone : row.route ≡ None = none_route row.route is in
          let no_route : route_at given key ≡ None =
          ap (route_at given) (sym (same_key_is row.key key same)) ∙ route_here given place row apart at ∙ gone in
          gone ∙ sym (none no_route)
      | false ↦ λ other. refl
    ] refl
  where
    none_route : (route : Option Route)
        → option_map {T = Route} {U = Key × Route} (λ r. (row.key, r)) route ≡ None → route ≡ None
    none_route None h = refl
    none_route (Some r) h = absurd (let no_way : ◌≡◌ {A = Option (Key × Route)} (Some (row.key, r)) None = h in cc)

-- a route below a place is one of the table
in_less : (rows : List (Option Row)) (place : ℕ) (key : Key) → AreApart rows → route_in rows key ≡ None
    → route_in (take place rows) key ≡ None
in_less rows zero key apart none = refl
in_less [] (suc place) key apart none = refl
in_less (None ∷ rows) (suc place) key apart none = in_less rows place key (apart_rest None rows apart) none
in_less (Some row ∷ rows) (suc place) key apart none =
    by_same (same_key row.key key) refl (in_less rows place key (apart_rest (Some row) rows apart))
  where
    by_same : (same : Bool) → same_key row.key key ≡ same
        → (route_in rows key ≡ None → route_in (take place rows) key ≡ None)
        → route_in (Some row ∷ take place rows) key ≡ None
    by_same true is later = in_row row (take place rows) key true is ∙ sym (in_row row rows key true is) ∙ none
    by_same false is later =
        in_row row (take place rows) key false is ∙ later (sym (in_row row rows key false is) ∙ none)

pub copies_none : (given table : State) → ((key : Key) → route_at table key ≡ None) → CopiesTo given table table 0
copies_none given table none = record {
  side = refl;
  routes = λ key. ap (option_map asked) (none key);
  session = record { session = refl; told = λ key. refl };
  batch = record { left = refl; markers = refl };
}

pub copies_skip : (given start mid : State) (place : ℕ) → AreApart given.rows → CopiesTo given start mid place
    → pair_at given place ≡ None → CopiesTo given start mid (place + 1)
copies_skip given start mid place apart before none = record {
  side = before.side;
  routes = λ key. before.routes key ∙ ap (option_map asked) (sym (below_next given place key apart
      ∙ no_pair given (slice_get given.rows place) place key (route_below given place key) refl none
      (in_less given.rows place key apart) apart));
  session = before.session;
  batch = before.batch;
}

-- a pair is that of its row
pub record IsPairOf (found : Option (Option Row)) (key : Key) (route : Route) : Type 0 where
  pub row : Row
  pub at : found ≡ Some (Some row)
  pub key_is : row.key ≡ key
  pub route_is : row.route ≡ Some route

pub pair_row : (found : Option (Option Row)) (key : Key) (route : Route)
    → option_and_then pair_of found ≡ Some (key, route) → IsPairOf found key route
pair_row None key route is =
    absurd (let no_way : ◌≡◌ {A = Option (Key × Route)} None (Some (key, route)) = is in cc)
pair_row (Some None) key route is =
    absurd (let no_way : ◌≡◌ {A = Option (Key × Route)} None (Some (key, route)) = is in cc)
pair_row (Some (Some row)) key route is = by_route row.route refl is
  where
    by_route : (stands : Option Route) → row.route ≡ stands
        → option_map {T = Route} {U = Key × Route} (λ r. (row.key, r)) stands ≡ Some (key, route)
        → IsPairOf (Some (Some row)) key route
    by_route None at made = absurd (let no_way : ◌≡◌ {A = Option (Key × Route)} None (Some (key, route)) = made in cc)
    by_route (Some r) at made =
        let pair : ◌≡◌ {A = Key × Route} (row.key, r) (key, route) = same_Some _ _ made in
        record {
          row = row;
          at = refl;
          key_is = ap (λ (p : Key × Route). p.0) pair;
          route_is = at ∙ ap (λ (p : Key × Route). Some p.1) pair;
        }

pub copies_next : (given start mid new : State) (place : ℕ) (key : Key) (route : Route) → AreApart given.rows
    → CopiesTo given start mid place → pair_at given place ≡ Some (key, route) → PutsAsked key route mid new
    → CopiesTo given start new (place + 1)
copies_next given start mid new place key route apart before is puts = record {
  side = puts.side ∙ before.side;
  routes = λ k.
      let pair = pair_row (slice_get given.rows place) key route is in
      puts.routes k
      ∙ ap (λ (r : Option history.Route). if same_key key k then Some (asked route) else r) (before.routes k)
      ∙ by_same k pair (same_key key k) refl
      ∙ ap (λ (found : Option (Option Row)). option_map asked (below_at found k (route_below given place k)))
      (sym pair.at)
      ∙ ap (option_map asked) (sym (below_next given place k apart));
  session = record {
    session = puts.session.session ∙ before.session.session;
    told = λ k. puts.session.told k ∙ before.session.told k;
  };
  batch = record {
    left = puts.batch.left ∙ before.batch.left;
    markers = puts.batch.markers ∙ before.batch.markers;
  };
}
  where
    by_same : (k : Key) (pair : IsPairOf (slice_get given.rows place) key route) (b : Bool) → same_key key k ≡ b
        → (if b then Some (asked route) else option_map asked (route_below given place k))
        ≡ option_map asked (if same_key pair.row.key k then pair.row.route else route_below given place k)
    by_same k pair true same =
        sym (ap (λ c. option_map asked (if c then pair.row.route else route_below given place k))
        (ap (λ (j : Key). same_key j k) pair.key_is ∙ same) ∙ ap (option_map asked) pair.route_is)
    by_same k pair false other =
        sym (ap (λ c. option_map asked (if c then pair.row.route else route_below given place k))
        (ap (λ (j : Key). same_key j k) pair.key_is ∙ other))

pub copies_whole : (given start new : State) (place : ℕ) → length given.rows ≤ place → CopiesTo given start new place
    → Copies given start new
copies_whole given start new place whole before = record {
  side = before.side;
  routes = λ key. before.routes key
      ∙ ap (λ rows. option_map asked (route_in rows key)) (take_all place given.rows whole);
  session = before.session;
  batch = before.batch;
}

-- the route of a pair is that of its key
pub pair_route : (given : State) (place : ℕ) (key : Key) (route : Route) → AreApart given.rows
    → pair_at given place ≡ Some (key, route) → route_at given key ≡ Some route
pair_route given place key route apart is =
    let pair = pair_row (slice_get given.rows place) key route is in
    ap (route_at given) (sym pair.key_is) ∙ route_here given place pair.row apart pair.at ∙ pair.route_is

-- and can be announced by the table's side
pub pair_sent : (given : State) (key : Key) (route : Route) → IsSound given → route_at given key ≡ Some route
    → IsRoute (family_of_key key) (sent route.written given.side)
pair_sent given key route sound is =
    subst (IsRoute (family_of_key key)) (sound.sent key route is) (sound.routes key route is).route

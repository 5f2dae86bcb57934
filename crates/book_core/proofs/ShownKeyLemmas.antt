-- The keys of a table's routes that are shown, place by place and in their order.
use Rattle.std.proofs.Common.{◌≡◌, ℕ, ◌+◌, ◌<◌, ◌≤◌, Bool, true, false, List, [], ◌∷◌, ◌++◌, length, Some, None, take}
use Rattle.std.proofs.Common.{get_or, refl, sym, ap, ◌∙◌, subst, arith}
use Rattle.std.proofs.lemmas.List.{append-nil, length-append, take_all, take_more}
use Rattle.std.proofs.lemmas.List.Concat.{flat_map-append}
use Rattle.std.proofs.lemmas.Option.{slice_get-get_or}
use Rattle.std.specs.List.{AllByRecursion, flat_map}
use Rattle.std.specs.List.Sorted.{IsPermutation, IsSorted}
use Rattle.std.specs.Option.{option_and_then, option_map, option_to_list}
use Rattle.std.specs.Prelude.{◌&&◌, filter, Option, is_some, if◌then◌else◌}
use Rattle.route_values.specs.declared.key.Key.{Key}
use Rattle.route_values.specs.declared.settings.Settings.{Settings}
use Rattle.route_values.specs.contracts.key.KeyOrd.TheImpl.{ghosts as key_order}
use Rattle.route_values.specs.Key.{same_key}
use Rattle.route_values.specs.Prefix.{Block}
use Rattle.route_values.proofs.ComparedLemmas.{key_orders}
use Rattle.route_values.proofs.KeyLemmas.{same_key_is}
use Rattle.adj_rib_out.specs.Nodes.{pair_at, pair_of, AreApart}
use Rattle.adj_rib_out.specs.State as table
use Rattle.adj_rib_out.specs.State.{State, Row, route_at, row_at}
use Rattle.peer_book.specs.Slot.{Slot}
use Rattle.peer_book.specs.Stands.{Stands, asked}
use Rattle.peer_book.proofs.CountingLemmas.{apart_rest, none_behind, once, same_lengths}
use Rattle.peer_history.specs.Keys.{times_named}
use Rattle.peer_history.specs.Ordered.{asked_for, in_order, wanted_keys}
use Rattle.peer_history.specs.Steps.{Step}
use Rattle.peer_history.specs.Table.{Route, settings_in, want}
use Rattle.peer_history.proofs.KeyLemmas.{times_named-append}
use Rattle.peer_history.proofs.OrderedLemmas.{wanted_are_listed}
use Rattle.book_history.specs.Shows.{is_within, shown_as, shown_of}
use Rattle.book_core.specs.Showing.{key_shown, keys_shown, shown_each, shown_if, shown_one}
use Rattle.book_core.proofs.KeyOrderLemmas.{filter_rises, moved_named, one_list, order_rises, sorted_rises}

-- the key of a row that is shown, and those of several
abbrev pub row_key : Option Block → Option Row → List Key
row_key within row = option_to_list (key_shown within (pair_of row))

abbrev pub row_keys : Option Block → List (Option Row) → List Key
row_keys within rows = flat_map (row_key within) rows

-- ---- one place more

pub keys_next : (within : Option Block) (state : State) (place : ℕ) → place < length state.rows
    → row_keys within (take (place + 1) state.rows)
    ≡ row_keys within (take place state.rows) ++ option_to_list (key_shown within (pair_at state place))
keys_next within state place below =
    let row = get_or state.rows place None in
    ap (row_keys within) (take_more state.rows place None below)
    ∙ flat_map-append (row_key within) (take place state.rows) (row ∷ [])
    ∙ ap (λ (keys : List Key). row_keys within (take place state.rows) ++ keys)
    (append-nil (row_key within row)
    ∙ ap (λ (at : Option (Option Row)). option_to_list (key_shown within (option_and_then pair_of at)))
    (sym (slice_get-get_or state.rows place None below)))

pub listed_next : (within : Option Block) (state : State) (place : ℕ) (key : Option Key) (keys after : List Key)
    → place < length state.rows → key ≡ key_shown within (pair_at state place)
    → keys ≡ row_keys within (take place state.rows) → after ≡ keys ++ option_to_list key
    → after ≡ row_keys within (take (place + 1) state.rows)
listed_next within state place key keys after below told listed adds =
    adds
    ∙ ap (λ (ks : List Key). ks ++ option_to_list key) listed
    ∙ ap (λ (k : Option Key). row_keys within (take place state.rows) ++ option_to_list k) told
    ∙ sym (keys_next within state place below)

one_long : (key : Option Key) → length (option_to_list key) ≡ once (is_some key)
one_long None = refl
one_long (Some key) = refl

module _ (within : Option Block) (state : State) (place count : ℕ) (key : Option Key)
    (below : place < length state.rows) (told : key ≡ key_shown within (pair_at state place))
    (counted : count ≡ length (row_keys within (take place state.rows))) where
  more : length (row_keys within (take (place + 1) state.rows)) ≡ count + once (is_some key)
  more =
      let whole = ap length (keys_next within state place below) in
      let split = length-append (row_keys within (take place state.rows))
      (option_to_list (key_shown within (pair_at state place))) in
      let one = one_long (key_shown within (pair_at state place)) in
      let same = ap (λ (k : Option Key). once (is_some k)) told in
      omega (arith, whole, split, one, same, counted)

  pub counted_one : is_some key ≡ true → count + 1 ≡ length (row_keys within (take (place + 1) state.rows))
  counted_one is = let one = ap once is in let all = more in omega (arith, one, all)

  pub counted_none : is_some key ≡ false → count ≡ length (row_keys within (take (place + 1) state.rows))
  counted_none is = let none = ap once is in let all = more in omega (arith, none, all)

-- ---- each key stands once

first_times : (within : Option Block) (row : Row) (key : Key) → same_key row.key key ≡ true
    → times_named (row_key within (Some row)) key ≡ once (is_some row.route && is_within within key)
first_times within row key same = by_route row.route
  where
    by_within : (passes is : Bool) → passes ≡ is
        → times_named (option_to_list (if passes then Some row.key else None)) key ≡ once is
    by_within true true agree = ap (λ (b : Bool). once b + 0) same
    by_within false false agree = refl
    by_within true false agree = absurd (let never : true ≡ false = agree in cc)
    by_within false true agree = absurd (let never : false ≡ true = agree in cc)

    by_route : (route : Option table.Route) → times_named (option_to_list (key_shown within (option_map (λ r.
        (row.key, r)) route))) key ≡ once (is_some route && is_within within key)
    by_route None = refl
    by_route (Some route) =
        by_within (is_within within row.key) (is_within within key)
        (ap (is_within within) (same_key_is row.key key same))

other_times : (within : Option Block) (row : Row) (key : Key) → same_key row.key key ≡ false
    → times_named (row_key within (Some row)) key ≡ 0
other_times within row key other = by_route row.route
  where
    by_within : (passes : Bool) → times_named (option_to_list (if passes then Some row.key else None)) key ≡ 0
    by_within true = ap (λ (b : Bool). once b + 0) other
    by_within false = refl

    by_route : (route : Option table.Route) → times_named (option_to_list (key_shown within (option_map (λ r.
        (row.key, r)) route))) key ≡ 0
    by_route None = refl
    by_route (Some route) = by_within (is_within within row.key)

abbrev route_in : Option Row → Option table.Route
route_in row = option_and_then (λ r. r.route) row

row_times : (within : Option Block) (rows : List (Option Row)) (key : Key) → AreApart rows
    → times_named (row_keys within rows) key ≡ once (is_some (route_in (row_at rows key)) && is_within within key)
row_times within [] key apart = refl
row_times within (None ∷ rows) key apart = row_times within rows key (apart_rest None rows apart)
row_times within (Some row ∷ rows) key apart =
    let rest = row_times within rows key (apart_rest (Some row) rows apart) in
    let split = times_named-append (row_key within (Some row)) (row_keys within rows) key in
    elim (same_key row.key key) as (λ same. same_key row.key key ≡ same
    → times_named (row_key within (Some row) ++ row_keys within rows) key
    ≡ once (is_some (route_in (if same then Some row else row_at rows key)) && is_within within key)) [
      | true ↦ λ same.
          let none : times_named (row_keys within rows) key ≡ 0 =
          rest ∙ ap (λ (found : Option Row). once (is_some (route_in found) && is_within within key))
          (none_behind row rows key apart same) in
          let first = first_times within row key same in
          omega (arith, none, first, split)
      | false ↦ λ other.
          let first = other_times within row key other in
          omega (arith, rest, first, split)
    ] refl

-- ---- the keys of a slot that are shown

filter_times : (test : Key → Bool) (keys : List Key) (key : Key)
    → times_named (filter test keys) key ≡ (if test key then times_named keys key else 0)
filter_times test [] key = by_test (test key)
  where
    by_test : (so : Bool) → ◌≡◌ {A = ℕ} 0 (if so then 0 else 0)
    by_test true = refl
    by_test false = refl
filter_times test (k ∷ ks) key =
    by_same (same_key k key) (test k) (test key) refl
    (λ same. ap test (same_key_is k key same)) (filter_times test ks key)
  where
    by_same : (same passes is : Bool) → same_key k key ≡ same → (same_key k key ≡ true → passes ≡ is)
        → times_named (filter test ks) key ≡ (if is then times_named ks key else 0)
        → times_named (if passes then k ∷ filter test ks else filter test ks) key
        ≡ (if is then once (same_key k key) + times_named ks key else 0)
    by_same same true true at agree rest = omega (arith, rest)
    by_same same false false at agree rest = rest
    by_same true true false at agree rest = absurd (let never : true ≡ false = agree at in cc)
    by_same true false true at agree rest = absurd (let never : false ≡ true = agree at in cc)
    by_same false true false at agree rest = let none = ap once at in omega (arith, rest, none)
    by_same false false true at agree rest = let none = ap once at in omega (arith, rest, none)

some_asked : (route : Option table.Route) → is_some (option_map asked route) ≡ is_some route
some_asked None = refl
some_asked (Some route) = refl

pub same_times : (within : Option Block) (steps : List Step) (slot : Slot) (key : Key) → AreApart slot.table.rows
    → Stands steps slot
    → times_named (row_keys within slot.table.rows) key ≡ times_named (keys_shown within steps) key
same_times within steps slot key apart stands =
    let wanted : is_some (route_at slot.table key) ≡ is_some (want steps key) =
    sym (some_asked (route_at slot.table key)) ∙ ap (λ (r : Option Route). is_some r) (stands.routes key) in
    row_times within slot.table.rows key apart
    ∙ ap (λ (b : Bool). once (b && is_within within key)) wanted
    ∙ by_within (is_some (want steps key)) (is_within within key)
    ∙ sym (ap (λ (n : ℕ). if is_within within key then n else 0) (wanted_are_listed steps key))
    ∙ sym (filter_times (is_within within) (wanted_keys steps) key)
  where
    by_within : (so passes : Bool) → once (so && passes) ≡ (if passes then once so else 0)
    by_within true true = refl
    by_within true false = refl
    by_within false true = refl
    by_within false false = refl

-- there are as many as are counted
pub keys_counted : (within : Option Block) (steps : List Step) (slot : Slot) (count place : ℕ)
    → AreApart slot.table.rows → length slot.table.rows ≤ place
    → count ≡ length (row_keys within (take place slot.table.rows)) → Stands steps slot
    → count ≡ length (keys_shown within steps)
keys_counted within steps slot count place apart whole counted stands =
    counted
    ∙ ap (λ (rows : List (Option Row)). length (row_keys within rows)) (take_all place slot.table.rows whole)
    ∙ same_lengths (row_keys within slot.table.rows) (keys_shown within steps)
    (λ key. same_times within steps slot key apart stands)

few : (so : Bool) → once so ≤ 1
few true = omega arith
few false = omega arith

-- they are those that are listed, once these are sorted
pub keys_listed : (within : Option Block) (steps : List Step) (slot : Slot) (keys sorted : List Key) (place : ℕ)
    → AreApart slot.table.rows → length slot.table.rows ≤ place
    → keys ≡ row_keys within (take place slot.table.rows) → IsPermutation keys sorted
    → IsSorted key_order.cmp sorted → Stands steps slot → sorted ≡ keys_shown within steps
keys_listed within steps slot keys sorted place apart whole listed moved up stands =
    let all : keys ≡ row_keys within slot.table.rows =
    listed ∙ ap (row_keys within) (take_all place slot.table.rows whole) in
    let named : (key : Key) → times_named sorted key ≡ times_named (row_keys within slot.table.rows) key =
    λ key. moved_named keys sorted key moved ∙ ap (λ (ks : List Key). times_named ks key) all in
    one_list sorted (keys_shown within steps)
    (sorted_rises sorted (subst (λ cmp. IsSorted cmp sorted) key_orders up) (λ key.
    let one = few (is_some (route_at slot.table key) && is_within within key) in
    let same = named key in
    let is = row_times within slot.table.rows key apart in
    omega (arith, one, same, is)))
    (filter_rises (is_within within) (wanted_keys steps)
    (filter_rises (λ k. is_some (want steps k)) (in_order (asked_for steps)) (order_rises (asked_for steps))))
    (λ key. named key ∙ same_times within steps slot key apart stands)

-- ---- each of them has a route

abbrev AreWanted : List Step → List Key → Type 0
AreWanted steps keys = AllByRecursion (λ key. is_some (want steps key) ≡ true) keys

wanted_filtered : (steps : List Step) (test : Key → Bool) (keys : List Key) → AreWanted steps keys
    → AreWanted steps (filter test keys)
wanted_filtered steps test [] are = tt
wanted_filtered steps test (k ∷ ks) are =
    elim (test k) as (λ so. AreWanted steps (if so then k ∷ filter test ks else filter test ks)) [
      | true ↦ (are.0, wanted_filtered steps test ks are.1)
      | false ↦ wanted_filtered steps test ks are.1
    ]

wanted_kept : (steps : List Step) (keys : List Key) → AreWanted steps (filter (λ k. is_some (want steps k)) keys)
wanted_kept steps [] = tt
wanted_kept steps (k ∷ ks) = by_want (wanted_kept steps ks) (is_some (want steps k)) refl
  where
    kept : List Key
    kept = filter (λ j. is_some (want steps j)) ks

    by_want : AreWanted steps kept → (so : Bool) → is_some (want steps k) ≡ so
        → AreWanted steps (if so then k ∷ kept else kept)
    by_want rest true at = (at, rest)
    by_want rest false at = rest

each_long : (settings : Settings) (steps : List Step) (keys : List Key) → AreWanted steps keys
    → length (shown_each settings steps keys) ≡ length keys
each_long settings steps [] are = refl
each_long settings steps (k ∷ ks) are =
    let split = length-append (shown_one settings steps k) (shown_each settings steps ks) in
    let rest = each_long settings steps ks are.1 in
    let one : length (shown_one settings steps k) ≡ 1 = by_route (want steps k) are.0 in
    omega (arith, split, rest, one)
  where
    by_route : (route : Option Route) → is_some route ≡ true
        → length (option_to_list (option_map (shown_as settings k) route)) ≡ 1
    by_route None is = absurd (let never : false ≡ true = is in cc)
    by_route (Some route) is = refl

pub shown_long : (within : Option Block) (steps : List Step) (settings : Settings)
    → length (shown_each settings steps (keys_shown within steps)) ≡ length (keys_shown within steps)
shown_long within steps settings =
    each_long settings steps (keys_shown within steps)
    (wanted_filtered steps (is_within within) (wanted_keys steps) (wanted_kept steps (in_order (asked_for steps))))

-- as many routes are shown of a chosen slot with a neighbour as keys
pub counted_all : (within : Option Block) (steps : List Step) (own : Settings) (so : Bool)
    (settings : Option Settings) (count : ℕ) → so ≡ true → settings ≡ Some own → settings ≡ settings_in steps
    → count ≡ length (keys_shown within steps) → count ≡ length (shown_if so within steps)
counted_all within steps own so settings count chosen is told counted =
    counted ∙ sym (shown_long within steps own)
    ∙ ap (λ (s : Option Settings). length (shown_of within steps s)) (sym is ∙ told)
    ∙ ap (λ (b : Bool). length (shown_if b within steps)) (sym chosen)

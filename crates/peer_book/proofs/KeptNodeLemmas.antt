-- The route nodes of a slot whose static routes change.
use Rattle.std.proofs.Common.{◌≡◌, ℕ, ◌+◌, ◌<◌, ◌≤◌, Bool, true, false, not, List, [], ◌∷◌, ◌++◌, length, Some, None}
use Rattle.std.proofs.Common.{get_or, take, refl, sym, ap, ◌∙◌, subst, arith}
use Rattle.std.specs.Prelude.{◌&&◌, ◌||◌, count_by, slice_get, slice_index_or, unwrap_or, Option, is_some}
use Rattle.std.specs.Prelude.{if◌then◌else◌}
use Rattle.std.specs.List.{AllByRecursion, IsDistinct}
use Rattle.std.specs.Map.{keys_of}
use Rattle.std.specs.Option.{option_map, option_and_then}
use Rattle.std.proofs.lemmas.Bool.{both_ways}
use Rattle.std.proofs.lemmas.List.{length-append}
use Rattle.std.proofs.lemmas.List.Recursion.{is_count_by}
use Rattle.std.proofs.lemmas.List.Sums.{count_by_more_no, count_by_more_yes}
use Rattle.std.proofs.lemmas.Option.{unwrap_or-slice_get}
use Rattle.route_values.specs.contracts.key.KeyPartialEq.TheImpl.{ghosts}
use Rattle.route_values.specs.declared.key.Key.{Key}
use Rattle.route_values.specs.declared.settings.Settings.{Settings}
use Rattle.route_values.specs.Caps.{Caps}
use Rattle.route_values.specs.Key.{same_key}
use Rattle.route_values.proofs.ComparedLemmas.{key_tests}
use Rattle.route_values.proofs.KeyLemmas.{same_key_is, same_key-self}
use Rattle.adj_rib_out.specs.State.{State, Row, Route, route_at, is_ready}
use Rattle.adj_rib_out.specs.Nodes.{pair_of, pair_at, is_kept, is_node, is_node_row, nodes, AreApart}
use Rattle.peer_history.specs.Cuts.{IsLegal}
use Rattle.peer_history.specs.Keys.{times_named}
use Rattle.peer_history.specs.Laws.{NodesAreListed, Settled}
use Rattle.peer_history.specs.Nodes.{is_held}
use Rattle.peer_history.specs.Ordered.{node_keys}
use Rattle.peer_history.specs.Sessions.{live}
use Rattle.peer_history.specs.Steps.{Step, Static}
use Rattle.peer_history.specs.Steps.Step.{Kept}
use Rattle.peer_history.specs.Table.{is_of_helper, static_at, want}
use Rattle.peer_history.specs.Table as wanted
use Rattle.peer_history.proofs.KeyLemmas.{times_named-append}
use Rattle.peer_book.specs.Keeping.{kept_by}
use Rattle.peer_book.specs.Nodes.{is_lost, is_lost_row, lost, is_gained, gained}
use Rattle.peer_book.specs.Numbers.{number_at, is_gone, is_static, AreNumbered}
use Rattle.peer_book.specs.Slot.{Slot, IsKept}
use Rattle.peer_book.specs.Stands.{asked, Stands}
use Rattle.peer_book.proofs.ClearLemmas.{route_here}
use Rattle.peer_book.proofs.CopyingLemmas.{pair_row, pair_route}
use Rattle.peer_book.proofs.CountingLemmas.{once, same_lengths, row_keys, rows_those, count_rows}
use Rattle.peer_book.proofs.KeepingLemmas.{helpers_same}
use Rattle.peer_book.proofs.NodeLemmas.{kept_same, node_same, NodesReady}

-- ---- keys with numbers

same_sym : (a b : Key) → same_key a b ≡ same_key b a
same_sym a b = by_two (same_key a b) (same_key b a) refl refl
  where
    by_two : (one other : Bool) → same_key a b ≡ one → same_key b a ≡ other → one ≡ other
    by_two true true at back = refl
    by_two false false at back = refl
    by_two true false at back =
        absurd (both_ways (same_key b a) back (ap (same_key b) (same_key_is a b at) ∙ same_key-self b))
    by_two false true at back =
        absurd (both_ways (same_key a b) at (ap (same_key a) (same_key_is b a back) ∙ same_key-self a))

-- the keys that aren't nodes yet
abbrev pub added : State → List (Key × ℕ) → List Key
added state [] = []
added state (e ∷ es) = if is_gained state e then e.0 ∷ added state es else added state es

pub added_count : (state : State) (numbers : List (Key × ℕ)) → length (added state numbers) ≡ gained numbers state
added_count state = is_count_by (λ numbers. length (added state numbers)) (is_gained state) refl by_entry
  where
    by_so : (so : Bool) (key : Key) (keys : List Key) → length (if so then key ∷ keys else keys)
        ≡ (if so then 1 + length keys else length keys)
    by_so true key keys = omega arith
    by_so false key keys = refl

    by_entry : (entry : Key × ℕ) (numbers : List (Key × ℕ)) → length (added state (entry ∷ numbers))
        ≡ (if is_gained state entry then 1 + length (added state numbers) else length (added state numbers))
    by_entry entry numbers = by_so (is_gained state entry) entry.0 (added state numbers)

-- a key that differs from each has no number
none_found : (key other : Key) (numbers : List (Key × ℕ))
    → AllByRecursion (λ k. same_key key k ≡ false) (keys_of numbers)
    → same_key key other ≡ true → number_at numbers other ≡ None
none_found key other [] apart same = refl
none_found key other (e ∷ es) apart same =
    let differs : same_key other e.0 ≡ false =
    ap (λ k. same_key k e.0) (sym (same_key_is key other same)) ∙ apart.0 in
    ap (λ b. if b then Some e.1 else number_at es other) differs ∙ none_found key other es apart.1 same

pub added_times : (state : State) (numbers : List (Key × ℕ)) (key : Key) → IsDistinct same_key (keys_of numbers)
    → times_named (added state numbers) key ≡ once (not (is_node state key) && is_some (number_at numbers key))
unfolding IsDistinct
added_times state [] key distinct = by_node (is_node state key)
  where
    by_node : (node : Bool) → 0 ≡ once (not node && false)
    by_node true = refl
    by_node false = refl
added_times state (e ∷ es) key distinct = by_same (same_key e.0 key) refl (added_times state es key distinct.1)
  where
    by_node : (node : Bool) → once (not node && false) ≡ 0
    by_node true = refl
    by_node false = refl

    passed : (new : Bool) (keys : List Key) → same_key e.0 key ≡ false
        → times_named (if new then e.0 ∷ keys else keys) key ≡ times_named keys key
    passed true keys other = let no_one : once (same_key e.0 key) ≡ 0 = ap once other in omega (arith, no_one)
    passed false keys other = refl

    taken : (new : Bool) (keys : List Key) → same_key e.0 key ≡ true → times_named keys key ≡ 0
        → times_named (if new then e.0 ∷ keys else keys) key ≡ once (new && true)
    taken true keys same none = let one : once (same_key e.0 key) ≡ 1 = ap once same in omega (arith, one, none)
    taken false keys same none = none

    by_same : (same : Bool) → same_key e.0 key ≡ same
        → times_named (added state es) key ≡ once (not (is_node state key) && is_some (number_at es key))
        → times_named (if not (is_node state e.0) then e.0 ∷ added state es else added state es) key
        ≡ once (not (is_node state key) && is_some (if same_key key e.0 then Some e.1 else number_at es key))
    by_same true at rest =
        let none = none_found e.0 key es distinct.0 at in
        let no_more : times_named (added state es) key ≡ 0 =
        rest ∙ ap (λ (n : Option ℕ). once (not (is_node state key) && is_some n)) none ∙ by_node (is_node state key) in
        ap (λ k. times_named (if not (is_node state k) then e.0 ∷ added state es else added state es) key)
        (same_key_is e.0 key at)
        ∙ taken (not (is_node state key)) (added state es) at no_more
        ∙ ap (λ b. once (not (is_node state key) && is_some (if b then Some e.1 else number_at es key)))
        (sym (same_sym key e.0 ∙ at))
    by_same false at rest =
        passed (not (is_node state e.0)) (added state es) at ∙ rest
        ∙ ap (λ b. once (not (is_node state key) && is_some (if b then Some e.1 else number_at es key)))
        (sym (same_sym key e.0 ∙ at))

-- what the map says of its keys, by the definition's test
pub keys_differ : (keys : List Key) → IsDistinct ghosts.eq keys → IsDistinct same_key keys
keys_differ keys distinct =
    let P : (Key → Key → Bool) → Type 0 = λ eq. IsDistinct eq keys in subst P key_tests distinct

-- ---- keys that are lost

-- a key that is lost was a node
lost_node : (numbers : List (Key × ℕ)) (key : Key) (route : Option Route) (held : Bool)
    → (is_gone numbers key route && not held) ≡ true → (is_some route || held) ≡ true
lost_node numbers key None held is = absurd (let no_way : false ≡ true = is in cc)
lost_node numbers key (Some route) held is = refl

-- a narrower test passes no more rows
rows_fewer : (narrow wide : Key → Bool) → ((key : Key) → narrow key ≡ true → wide key ≡ true)
    → (rows : List (Option Row)) → length (row_keys narrow rows) ≤ length (row_keys wide rows)
rows_fewer narrow wide within [] = omega arith
rows_fewer narrow wide within (None ∷ rows) = rows_fewer narrow wide within rows
rows_fewer narrow wide within (Some row ∷ rows) =
    by_row (narrow row.key) (wide row.key) row.key (row_keys narrow rows) (row_keys wide rows) (within row.key)
    (rows_fewer narrow wide within rows)
  where
    by_row : (less more : Bool) (key : Key) (some others : List Key) → (less ≡ true → more ≡ true)
        → length some ≤ length others
        → length (if less then key ∷ some else some) ≤ length (if more then key ∷ others else others)
    by_row true true key some others so rest = omega (arith, rest)
    by_row true false key some others so rest = absurd (let no_way : false ≡ true = so refl in cc)
    by_row false true key some others so rest = omega (arith, rest)
    by_row false false key some others so rest = rest

pub lost_few : (numbers : List (Key × ℕ)) (state : State) → lost numbers state ≤ nodes state
lost_few numbers state =
    let gone = count_rows (is_lost numbers state) (is_lost_row numbers state) refl (λ row. refl) state.rows in
    let all = count_rows (is_node state) (is_node_row state) refl (λ row. refl) state.rows in
    let few = rows_fewer (is_lost numbers state) (is_node state) (λ key.
    lost_node numbers key (route_at state key) (is_kept state key)) state.rows in
    omega (arith, gone, all, few)

-- ---- the whole

-- what a session needs doesn't go by a new section
held_kept : (settings : Settings) (statics : List Static) (steps : List Step) (key : Key) (up : Option Caps)
    → is_held up (Kept settings statics ∷ steps) key ≡ is_held up steps key
held_kept settings statics steps key None = refl
held_kept settings statics steps key (Some caps) = refl

-- a key that is lost isn't a node behind a new section, and one that is gained wasn't before
balanced : (numbers : List (Key × ℕ)) (statics : List Static) (key : Key) (route : Option Route) (held : Bool)
    → is_some (number_at numbers key) ≡ is_some (static_at statics key)
    → once (is_gone numbers key route && not held)
    + once (is_some (kept_by statics key (option_map asked route)) || held)
    ≡ once (is_some route || held) + once (not (is_some route || held) && is_some (number_at numbers key))
balanced numbers statics key None held same =
    ap (λ b. 0 + once (b || held)) (sym same) ∙ by_bits held (is_some (number_at numbers key))
  where
    by_bits : (h n : Bool) → 0 + once (n || h) ≡ once h + once (not h && n)
    by_bits true true = refl
    by_bits true false = refl
    by_bits false true = refl
    by_bits false false = refl
balanced numbers statics key (Some route) held same =
    ap (λ h. once ((is_static route.owner && not (is_some (number_at numbers key))) && not held)
    + once (is_some (if h then option_map asked (Some route) else static_at statics key) || held))
    (helpers_same (Some route)) ∙ by_owner (is_static route.owner)
  where
    by_bits : (n h : Bool) → once (not n && not h) + once (n || h) ≡ 1
    by_bits true true = refl
    by_bits true false = refl
    by_bits false true = refl
    by_bits false false = refl

    by_owner : (fixed : Bool)
        → once ((fixed && not (is_some (number_at numbers key))) && not held)
        + once (is_some (if not fixed then option_map asked (Some route) else static_at statics key) || held)
        ≡ once (true || held) + once (not (true || held) && is_some (number_at numbers key))
    by_owner true =
        ap (λ b. once (not (is_some (number_at numbers key)) && not held) + once (b || held)) (sym same)
        ∙ by_bits (is_some (number_at numbers key)) held
    by_owner false = refl

-- the nodes behind a new section and those that are lost are as many as those before it and those that are gained
pub kept_nodes : NodesAreListed → Settled → (steps : List Step) (slot : Slot) (settings : Settings)
    (statics : List Static) (numbers : List (Key × ℕ)) → AreApart slot.table.rows → NodesReady slot.table
    → IsDistinct same_key (keys_of numbers) → IsKept slot → IsLegal steps → Stands steps slot
    → AreNumbered slot.table statics numbers
    → lost numbers slot.table + length (node_keys (Kept settings statics ∷ steps))
    ≡ length (node_keys steps) + gained numbers slot.table
kept_nodes listed law steps slot settings statics numbers apart ready distinct kept legal stands are =
    let table = slot.table in
    let gone = row_keys (is_lost numbers table) table.rows in
    let after = node_keys (Kept settings statics ∷ steps) in
    let before = node_keys steps in
    let new = added table numbers in
    let all : length (gone ++ after) ≡ length (before ++ new) = same_lengths (gone ++ after) (before ++ new) agree in
    let gone_count : length gone ≡ lost numbers table =
    count_rows (is_lost numbers table) (is_lost_row numbers table) refl (λ row. refl) table.rows in
    let new_count = added_count table numbers in
    let left = length-append gone after in
    let right = length-append before new in
    omega (arith, all, gone_count, new_count, left, right)
  where
    lost_ready : (key : Key) → is_lost numbers slot.table key ≡ true → is_ready slot.table key ≡ true
    lost_ready key is =
        ready key (lost_node numbers key (route_at slot.table key) (is_kept slot.table key) is)

    agree : (key : Key)
        → times_named (row_keys (is_lost numbers slot.table) slot.table.rows
        ++ node_keys (Kept settings statics ∷ steps)) key
        ≡ times_named (node_keys steps ++ added slot.table numbers) key
    agree key =
        let held = is_kept slot.table key in
        let left = times_named-append (row_keys (is_lost numbers slot.table) slot.table.rows)
        (node_keys (Kept settings statics ∷ steps)) key in
        let right = times_named-append (node_keys steps) (added slot.table numbers) key in
        let gone = rows_those (is_lost numbers slot.table) slot.table.rows apart lost_ready key in
        let after = listed (Kept settings statics ∷ steps) legal key
        ∙ ap (λ b. once (is_some (want (Kept settings statics ∷ steps) key) || b))
        (held_kept settings statics steps key (live steps) ∙ sym (kept_same law steps slot legal kept stands key))
        ∙ ap (λ (w : Option wanted.Route). once (is_some (kept_by statics key w) || held)) (sym (stands.routes key)) in
        let before = listed steps legal key ∙ ap once (sym (node_same law steps slot legal kept stands key)) in
        let new = added_times slot.table numbers key distinct in
        let balance = balanced numbers statics key (route_at slot.table key) held (are.all key) in
        omega (arith, left, right, gone, after, before, new, balance)

-- ---- the counts

-- what stands at a place of a list of rows, or no row
row_or : (rows : List (Option Row)) (place : ℕ) (found : Option (Option Row)) → slice_get rows place ≡ found
    → slice_index_or rows place None ≡ unwrap_or found None
row_or rows place found at =
    sym (unwrap_or-slice_get rows place None) ∙ ap (λ (o : Option (Option Row)). unwrap_or o None) at

-- whether a key is lost, by the pair that stands at a place
pub lost_at : (numbers : List (Key × ℕ)) (state : State) (place : ℕ) (key : Key) (route : Route) → AreApart state.rows
    → pair_at state place ≡ Some (key, route)
    → is_lost_row numbers state (slice_index_or state.rows place None)
    ≡ ((is_static route.owner && not (is_some (number_at numbers key))) && not (is_kept state key))
lost_at numbers state place key route apart is =
    let pair = pair_row (slice_get state.rows place) key route is in
    ap (is_lost_row numbers state) (row_or state.rows place (Some (Some pair.row)) pair.at)
    ∙ ap (is_lost numbers state) pair.key_is
    ∙ ap (λ (r : Option Route). is_gone numbers key r && not (is_kept state key))
    (pair_route state place key route apart is)

pub lost_none : (numbers : List (Key × ℕ)) (state : State) (place : ℕ) → AreApart state.rows
    → pair_at state place ≡ None → is_lost_row numbers state (slice_index_or state.rows place None) ≡ false
lost_none numbers state place apart is = by_found (slice_get state.rows place) refl is
  where
    by_route : (row : Row) (route : Option Route) → row.route ≡ route
        → option_map {T = Route} {U = Key × Route} (λ r. (row.key, r)) route ≡ None → row.route ≡ None
    by_route row None at none = at
    by_route row (Some route) at none =
        absurd (let no_way : ◌≡◌ {A = Option (Key × Route)} (Some (row.key, route)) None = none in cc)

    by_found : (found : Option (Option Row)) → slice_get state.rows place ≡ found
        → option_and_then pair_of found ≡ None
        → is_lost_row numbers state (slice_index_or state.rows place None) ≡ false
    by_found None at none = ap (is_lost_row numbers state) (row_or state.rows place None at)
    by_found (Some None) at none = ap (is_lost_row numbers state) (row_or state.rows place (Some None) at)
    by_found (Some (Some row)) at none =
        let gone : route_at state row.key ≡ None =
        route_here state place row apart at ∙ by_route row row.route refl none in
        ap (is_lost_row numbers state) (row_or state.rows place (Some (Some row)) at)
        ∙ ap (λ (r : Option Route). is_gone numbers row.key r && not (is_kept state row.key)) gone

-- one place more
module _ {X : Type 0} (test : X → Bool) (items : List X) (other : X) (count place : ℕ) (one : Bool)
    (within : place < length items) (told : one ≡ test (get_or items place other))
    (counted : count ≡ count_by test (take place items)) where
  by_test : (passes : Bool) → test (get_or items place other) ≡ passes
      → count_by test (take place items) + once passes ≡ count_by test (take (place + 1) items)
  by_test true is = sym (count_by_more_yes test items place other within is)
  by_test false is =
      let more = count_by_more_no test items place other within is in omega (arith, more)

  pub counted_next : (next : ℕ) → next ≡ count + once one → next ≡ count_by test (take (place + 1) items)
  counted_next next more =
      let split = by_test (test (get_or items place other)) refl in
      let same : once one ≡ once (test (get_or items place other)) = ap once told in
      omega (arith, more, split, same, counted)

  at_most_one : (so : Bool) → once so ≤ 1
  at_most_one true = omega arith
  at_most_one false = omega arith

  pub counted_small : (next : ℕ) → next ≡ count + once one → count ≤ place → next ≤ place + 1
  counted_small next more few = let small = at_most_one one in omega (arith, more, few, small)

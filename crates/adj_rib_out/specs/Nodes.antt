-- What is asked of a table: its pairs by their places, what is due, and the route nodes, which are the keys that
-- something is kept for.
use Rattle.std.specs.Prelude.{ℕ, ◌≡◌, ◌||◌, Bool, true, false, List, [], ◌∷◌, Option, Some, None, is_some}
use Rattle.std.specs.Prelude.{slice_get, count_by}
use Rattle.std.specs.Option.{option_map, option_and_then}
use Rattle.route_values.specs.declared.addr.Family.{Family}
use Rattle.route_values.specs.declared.key.Key.{Key}
use Rattle.route_values.specs.Key.{same_key}
use Rattle.adj_rib_out.specs.State.{State, Row, Route, Item, route_at, told_at}
use Rattle.adj_rib_out.specs.Batch.{item_at}

-- the pair of a row: its key and its route, where the table has one
abbrev pub pair_of : Option Row → Option (Key × Route)
pair_of None = None
pair_of (Some row) = option_map (λ route. (row.key, route)) row.route

-- the pair that stands at a place
abbrev pub pair_at : State → ℕ → Option (Key × Route)
pair_at state place = option_and_then pair_of (slice_get state.rows place)

-- what is due next: an item that is left, a marker where no key is left, or nothing where no batch is open
pub data Next : Type 0 where
  Says : Item → Next
  Ends : Family → Next
  Nothing : Next

abbrev pub next_of : List Item → List Family → Next
next_of (item ∷ items) markers = Says item
next_of [] (family ∷ families) = Ends family
next_of [] [] = Nothing

-- whether an item announces its key
abbrev pub announces : Option Item → Bool
announces None = false
announces (Some item) = is_some item.says

-- whether the key would be a node without the table: the session was sent it, or is to be by the open batch
abbrev pub is_kept : State → Key → Bool
is_kept state key = is_some (told_at state key) || announces (item_at state.left key)

-- whether the key is a node
abbrev pub is_node : State → Key → Bool
is_node state key = is_some (route_at state key) || is_kept state key

-- whether a row is a node's
abbrev pub is_node_row : State → Option Row → Bool
is_node_row state None = false
is_node_row state (Some row) = is_node state row.key

-- how many nodes there are
abbrev pub nodes : State → ℕ
nodes state = count_by (is_node_row state) state.rows

-- a key has a row at one place
abbrev pub AreApart : List (Option Row) → Type 0
AreApart rows = (i j : ℕ) (a b : Row) → slice_get rows i ≡ Some (Some a) → slice_get rows j ≡ Some (Some b)
    → same_key a.key b.key ≡ true → i ≡ j

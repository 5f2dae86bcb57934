-- Route nodes that an announcement or a reload adds to those of a slot, or takes from them.
use Rattle.std.specs.Prelude.{ℕ, ◌&&◌, ◌||◌, Bool, false, not, List, [], ◌∷◌, count_by, if◌then◌else◌}
use Rattle.std.specs.Prelude.{◌≡◌, ◌<◌, length, take, slice_index_or, Option, Some, None}
use Rattle.route_values.specs.declared.key.Key.{Key}
use Rattle.adj_rib_out.specs.State.{State, Row, route_at}
use Rattle.adj_rib_out.specs.Nodes.{is_kept, is_node}
use Rattle.peer_history.specs.Keys.{is_named}
use Rattle.peer_book.specs.Numbers.{is_gone}

-- the keys of a list that aren't nodes yet, each once
abbrev pub new_keys : (Key → Bool) → List Key → List Key
new_keys is [] = []
new_keys is (k ∷ ks) = if is k || is_named ks k then new_keys is ks else k ∷ new_keys is ks

-- no key is named before its place
abbrev pub AreFirst : List Key → Type 0
AreFirst keys = (place : ℕ) (key : Key) → place < length keys
    → is_named (take place keys) (slice_index_or keys place key) ≡ false

-- Whether a key is no node any longer where just the static routes with numbers stay: its route goes, and neither was
-- it sent nor is it to be by the open batch.
abbrev pub is_lost : List (Key × ℕ) → State → Key → Bool
is_lost numbers state key = is_gone numbers key (route_at state key) && not (is_kept state key)

abbrev pub is_lost_row : List (Key × ℕ) → State → Option Row → Bool
is_lost_row numbers state None = false
is_lost_row numbers state (Some row) = is_lost numbers state row.key

-- how many such keys there are
abbrev pub lost : List (Key × ℕ) → State → ℕ
lost numbers state = count_by (is_lost_row numbers state) state.rows

-- whether a key with a number is no node yet, and how many such keys there are
abbrev pub is_gained : State → Key × ℕ → Bool
is_gained state entry = not (is_node state entry.0)

abbrev pub gained : List (Key × ℕ) → State → ℕ
gained numbers state = count_by (is_gained state) numbers

-- Which keys of a table are nodes, and how many.
use Rattle.std.proofs.Common.{◌≡◌, ℕ, Bool, false}
use Rattle.std.proofs.Common.{Option, Some, None, refl, ap, ap₂, subst, ◌∙◌, arith}
use Rattle.std.specs.Prelude.{is_some, ◌||◌}
use Rattle.std.specs.Option.{option_map, option_and_then}
use Rattle.route_values.specs.declared.key.Key.{Key}
use Rattle.slot_batches.specs.Left.{value_left}
use Rattle.adj_rib_out.specs.Nodes.{announces, is_kept, is_node, is_node_row, nodes}
use Rattle.adj_rib_out.specs.Places.{place_of}
use Rattle.adj_rib_out.specs.Kept.{Parts, Values, IsTable, seen, route_by, told_by, attrs_under}
use Rattle.adj_rib_out.proofs.RowLemmas.{stands}
use Rattle.adj_rib_out.proofs.PartLemmas.{route_seen, told_seen, item_seen, none_seen, left_by}
use Rattle.adj_rib_out.proofs.NodeLemmas.{count_places, count_rows}

-- whether the open batch announces attributes by a number
abbrev pub said_by : Values → Option ℕ → Bool
said_by values None = false
said_by values (Some number) = is_some (attrs_under values number)

abbrev pub kept_by : Parts → ℕ → Bool
kept_by parts place = is_some (told_by parts place) || said_by parts.values (value_left parts.slots.left place)

abbrev pub node_by : Parts → ℕ → Bool
node_by parts place = is_some (route_by parts place) || kept_by parts place

is_some_mapped : {X Y : Type 0} (f : X → Y) (o : Option X) → is_some (option_map f o) ≡ is_some o
is_some_mapped f None = refl
is_some_mapped f (Some x) = refl

announced : (values : Values) (key : Key) (number : Option ℕ)
    → announces (left_by values key number) ≡ said_by values number
announced values key None = refl
announced values key (Some n) = is_some_mapped (λ a. (n, a)) (attrs_under values n)

module _ (parts : Parts) (table : IsTable parts) (key : Key) where
  pub kept_seen : (place : ℕ) → place_of parts.keys key ≡ Some place
      → is_kept (seen parts) key ≡ kept_by parts place
  kept_seen place here = ap₂ (λ (a b : Bool). a || b)
      (ap is_some (told_seen parts key ∙ ap (option_and_then (told_by parts)) here))
      (ap announces (item_seen parts.keys table.once parts.values key place here parts.slots.left table.left)
      ∙ announced parts.values key (value_left parts.slots.left place))

  pub node_seen : (place : ℕ) → place_of parts.keys key ≡ Some place
      → is_node (seen parts) key ≡ node_by parts place
  node_seen place here = ap₂ (λ (a b : Bool). a || b)
      (ap is_some (route_seen parts key ∙ ap (option_and_then (route_by parts)) here)) (kept_seen place here)

  pub not_kept : place_of parts.keys key ≡ None → is_kept (seen parts) key ≡ false
  not_kept none = ap₂ (λ (a b : Bool). a || b)
      (ap is_some (told_seen parts key ∙ ap (option_and_then (told_by parts)) none))
      (ap announces (none_seen parts.keys table.once parts.values key none parts.slots.left table.left))

  pub no_node : place_of parts.keys key ≡ None → is_node (seen parts) key ≡ false
  no_node none = ap₂ (λ (a b : Bool). a || b)
      (ap is_some (route_seen parts key ∙ ap (option_and_then (route_by parts)) none)) (not_kept none)

pub nodes_seen : (parts : Parts) → IsTable parts → nodes (seen parts) ≡ count_places (node_by parts) parts.keys 0
nodes_seen parts table = count_rows (route_by parts) (told_by parts) (is_node_row (seen parts)) (node_by parts) refl
    parts.keys 0 (λ n key here. subst (λ (p : ℕ). is_node (seen parts) key ≡ node_by parts p) (omega arith)
    (node_seen parts table key n (stands parts.keys key n table.once here)))

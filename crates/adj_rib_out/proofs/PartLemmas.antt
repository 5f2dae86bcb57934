-- What is seen of a table, by the places of its keys.
use Rattle.std.proofs.Common.{◌≡◌, ◌==◌, ℕ, Bool, true, false, List, [], ◌∷◌}
use Rattle.std.proofs.Common.{cond, map, Option, Some, None, zero, suc, refl, sym, ap, subst, ◌∙◌, arith}
use Rattle.std.specs.Prelude.{is_some, slice_get, slice_index_or, ◌||◌}
use Rattle.std.specs.Option.{option_map, option_and_then}
use Rattle.linked_pending.specs.Listing.{has}
use Rattle.route_values.specs.declared.attrs.Attrs.{Attrs}
use Rattle.route_values.specs.declared.key.Key.{Key}
use Rattle.route_values.specs.Key.{same_key}
use Rattle.slot_batches.specs.Left.{slots_of, value_left}
use Rattle.slot_batches.specs.declared.slots.Item.{Item as SlotItem}
use Rattle.adj_rib_out.specs.State.{State, Route, Item, is_ready, route_at, told_at, value_at}
use Rattle.adj_rib_out.specs.Batch.{item_at, is_left}
use Rattle.adj_rib_out.specs.Places.{key_at, place_of, StandOnce}
use Rattle.adj_rib_out.specs.Kept.{Parts, Values, seen, route_by, told_by, items_seen, item_for, attrs_under, says_by}
use Rattle.adj_rib_out.specs.Kept.{written_under, AreLeft}
use Rattle.adj_rib_out.specs.Nodes.{pair_at}
use Rattle.adj_rib_out.specs.Told.{pair_if}
use Rattle.adj_rib_out.proofs.RowLemmas.{pair_rows, route_rows, told_rows, ready_rows, stands, same_place, none_some}
use Rattle.route_values.proofs.KeyLemmas.{same_key_is}

module _ (parts : Parts) (key : Key) where
  pub route_seen : route_at (seen parts) key ≡ option_and_then (route_by parts) (place_of parts.keys key)
  route_seen = route_rows (route_by parts) (told_by parts) key parts.keys 0

  pub told_seen : told_at (seen parts) key ≡ option_and_then (told_by parts) (place_of parts.keys key)
  told_seen = told_rows (route_by parts) (told_by parts) key parts.keys 0

  pub ready_seen : is_ready (seen parts) key ≡ is_some (place_of parts.keys key)
  ready_seen = ready_rows (route_by parts) (told_by parts) key parts.keys 0

under_mapped : {X Y : Type 0} (f : X → Y) (xs : List (Option X)) (n : ℕ)
    → option_and_then (λ (y : Option Y). y) (slice_get (map (option_map f) xs) n)
    ≡ option_map f (slice_index_or xs n None)
under_mapped f [] n = refl
under_mapped f (x ∷ xs) zero = refl
under_mapped f (x ∷ xs) (suc n) = under_mapped f xs n

pub value_seen : (parts : Parts) (number : ℕ)
    → value_at (seen parts) number ≡ option_map (λ (x : Attrs × ℕ). x.0) (written_under parts.values number)
value_seen parts number = under_mapped (λ (x : Attrs × ℕ). x.0) parts.values.written number

-- ---- what is left

-- what the open batch says of the key at a place
abbrev pub left_by : Values → Key → Option ℕ → Option Item
left_by values key number =
    option_map (λ n. record { key = key; says = says_by n (attrs_under values n) }) number

item_step : (values : Values) (k key : Key) (item : SlotItem) (items : List SlotItem) (rest : List Item) (place : ℕ)
    → (place == item.slot) ≡ same_key k key → item_at rest key ≡ left_by values key (value_left items place)
    → item_at (item_for values item k ∷ rest) key
    ≡ left_by values key (cond (place == item.slot) (Some item.value) (value_left items place))
item_step values k key item items rest place test later = elim (same_key k key) as (λ t. same_key k key ≡ t
    → elim t [ true ↦ Some (item_for values item k) | false ↦ item_at rest key ]
    ≡ left_by values key (cond (place == item.slot) (Some item.value) (value_left items place))) [
      | true ↦ λ same. ap (λ (j : Key). Some (item_for values item j)) (same_key_is k key same)
          ∙ ap (λ (t : Bool). left_by values key (cond t (Some item.value) (value_left items place)))
          (sym (test ∙ same))
      | false ↦ λ differs. later
          ∙ ap (λ (t : Bool). left_by values key (cond t (Some item.value) (value_left items place)))
          (sym (test ∙ differs))
    ] refl

module _ (keys : List (Option Key)) (once : StandOnce keys) (values : Values) (key : Key) (place : ℕ)
    (here : place_of keys key ≡ Some place) where
  pub item_seen : (items : List SlotItem) → AreLeft keys values items
      → item_at (items_seen keys values items) key ≡ left_by values key (value_left items place)
  item_seen [] left = refl
  item_seen (item ∷ items) left =
      subst (λ (o : Option Key). item_at (elim o [
        | Some k ↦ item_for values item k ∷ items_seen keys values items
        | None ↦ items_seen keys values items
      ]) key ≡ left_by values key (cond (place == item.slot) (Some item.value) (value_left items place)))
      (sym left.0.stands) (item_step values left.0.key key item items (items_seen keys values items) place
      (same_place keys once left.0.key item.slot (stands keys left.0.key item.slot once left.0.stands) key place here)
      (item_seen items left.1))

not_here : (keys : List (Option Key)) → StandOnce keys → (key : Key) → place_of keys key ≡ None → (k : Key) (place : ℕ)
    → key_at keys place ≡ Some k → same_key k key ≡ false
not_here keys once key none k place here = elim (same_key k key) as (λ t. same_key k key ≡ t → t ≡ false) [
  | true ↦ λ same. absurd (none_some (sym none
      ∙ subst (λ (j : Key). place_of keys j ≡ Some place) (same_key_is k key same) (stands keys k place once here)))
  | false ↦ λ differs. refl
] refl

none_step : (values : Values) (k key : Key) (item : SlotItem) (rest : List Item) → same_key k key ≡ false
    → item_at rest key ≡ None → item_at (item_for values item k ∷ rest) key ≡ None
none_step values k key item rest differs later =
    ap (λ (t : Bool). elim t [ true ↦ Some (item_for values item k) | false ↦ item_at rest key ]) differs ∙ later

pub none_seen : (keys : List (Option Key)) (once : StandOnce keys) (values : Values) (key : Key)
    → place_of keys key ≡ None → (items : List SlotItem) → AreLeft keys values items
    → item_at (items_seen keys values items) key ≡ None
none_seen keys once values key none [] left = refl
none_seen keys once values key none (item ∷ items) left =
    subst (λ (o : Option Key). item_at (elim o [
      | Some k ↦ item_for values item k ∷ items_seen keys values items
      | None ↦ items_seen keys values items
    ]) key ≡ None) (sym left.0.stands) (none_step values left.0.key key item (items_seen keys values items)
    (not_here keys once key none left.0.key item.slot left.0.stands)
    (none_seen keys once values key none items left.1))

pub is_left_item : (items : List Item) (key : Key) → is_left items key ≡ is_some (item_at items key)
is_left_item [] key = refl
is_left_item (item ∷ items) key = elim (same_key item.key key) as (λ test. (test || is_left items key)
    ≡ is_some (elim test [ true ↦ Some item | false ↦ item_at items key ])) [
      | true ↦ refl
      | false ↦ is_left_item items key
    ]

pub left_slot : (items : List SlotItem) (slot : ℕ) → has slot (slots_of items) ≡ is_some (value_left items slot)
left_slot [] slot = refl
left_slot (item ∷ items) slot = elim (slot == item.slot) as (λ t. (t || has slot (slots_of items))
    ≡ is_some (cond t (Some item.value) (value_left items slot))) [
      | true ↦ refl
      | false ↦ left_slot items slot
    ]

-- ---- what is asked

module _ (p : Parts) (state : State) (view : seen p ≡ state) where
  pub route_is : (key : Key) (place : ℕ) → place_of p.keys key ≡ Some place → route_at state key ≡ route_by p place
  route_is key place here = sym (ap (λ (s : State). route_at s key) view) ∙ route_seen p key
      ∙ ap (option_and_then (route_by p)) here

  pub no_route : (key : Key) → place_of p.keys key ≡ None → route_at state key ≡ None
  no_route key none = sym (ap (λ (s : State). route_at s key) view) ∙ route_seen p key
      ∙ ap (option_and_then (route_by p)) none

  paired : (key : Option Key) (route : Option Route)
      → option_and_then (λ (k : Key). option_map {U = Key × Route} (λ r. (k, r)) route) key ≡ pair_if key route
  paired None route = refl
  paired (Some key) None = refl
  paired (Some key) (Some route) = refl

  pub pair_is : (place : ℕ) → pair_at state place ≡ pair_if (key_at p.keys place) (route_by p place)
  pair_is place = sym (ap (λ (s : State). pair_at s place) view)
      ∙ pair_rows (route_by p) (told_by p) p.keys 0 place
      ∙ ap (λ (n : ℕ). option_and_then (λ (k : Key). option_map {U = Key × Route} (λ r. (k, r)) (route_by p n))
      (key_at p.keys place)) (omega arith)
      ∙ paired (key_at p.keys place) (route_by p place)

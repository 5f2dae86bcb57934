-- Whether a key is kept, by the numbers of its slot.
use Rattle.std.proofs.Common.{◌≡◌, ◌==◌, ℕ, ◌<◌, Bool, true, false, List, [], ◌∷◌, cond, Option, Some, None, arith}
use Rattle.std.proofs.Common.{length, refl, sym, ap, ap₂, subst, ◌∙◌}
use Rattle.std.specs.Prelude.{is_some, nat_lt, ◌||◌}
use Rattle.std.proofs.lemmas.Grind.{common_steps}
use Rattle.linked_pending.specs.Links.{link}
use Rattle.route_values.specs.declared.key.Key.{Key}
use Rattle.slot_batches.specs.Left.{value_left}
use Rattle.slot_batches.specs.declared.slots.Item.{Item as SlotItem}
use Rattle.adj_rib_out.specs.State.{State, route_of}
use Rattle.adj_rib_out.specs.Nodes.{is_kept, is_node}
use Rattle.adj_rib_out.specs.Places.{place_of}
use Rattle.adj_rib_out.specs.Kept.{Parts, Values, IsTable, IsNumber, AreLeft, seen, attrs_under, parity, has_value}
use Rattle.adj_rib_out.specs.Kept.{keeps}
use Rattle.adj_rib_out.specs.Kept.{chosen_at, route_in, written_under}
use Rattle.adj_rib_out.specs.declared.chosen.Chosen.{Chosen}
use Rattle.adj_rib_out.proofs.PartLemmas.{route_is}
use Rattle.adj_rib_out.proofs.SetLemmas.{some_mapped}
use Rattle.adj_rib_out.proofs.RowLemmas.{found, within, none_some, some_is}
use Rattle.adj_rib_out.proofs.NumberLemmas.{attrs_of_none, attrs_of_value}
use Rattle.adj_rib_out.proofs.SeenNodeLemmas.{kept_seen, not_kept, no_node, said_by}

pub some_value : (values : Values) (parity number : ℕ) → IsNumber values parity number
    → is_some (attrs_under values number) ≡ nat_lt 1 number
some_value values parity number is = elim (nat_lt 1 number) as (λ t. nat_lt 1 number ≡ t
    → is_some (attrs_under values number) ≡ t) [
      | true ↦ λ test. let above : 1 < number = grind (arith, common_steps) in
          ap is_some (attrs_of_value values number above) ∙ is.stands above
      | false ↦ λ test. let below : number < 2 = grind (arith, common_steps) in
          ap is_some (attrs_of_none values number below)
    ] refl

left_value : (keys : List (Option Key)) (values : Values) (items : List SlotItem) → AreLeft keys values items
    → (slot number : ℕ) → value_left items slot ≡ Some number → (parity : ℕ) × IsNumber values parity number
left_value keys values [] left slot number is = absurd (none_some is)
left_value keys values (item ∷ rest) left slot number is = elim (slot == item.slot) as (λ t.
    cond t (Some item.value) (value_left rest slot) ≡ Some number → (parity : ℕ) × IsNumber values parity number) [
      | true ↦ λ here. (parity left.0.key, subst (IsNumber values (parity left.0.key)) (some_is here) left.0.number)
      | false ↦ λ later. left_value keys values rest left.1 slot number later
    ] is

left_said : (keys : List (Option Key)) (values : Values) (items : List SlotItem) → AreLeft keys values items
    → (slot : ℕ) (o : Option ℕ) → value_left items slot ≡ o → said_by values o ≡ has_value o
left_said keys values items left slot None is = refl
left_said keys values items left slot (Some number) is =
    let number_is = left_value keys values items left slot number is in
    some_value values number_is.0 number number_is.1

module _ (p : Parts) (table : IsTable p) (state : State) (view : seen p ≡ state) (key : Key) where
  pub kept_is : (place : ℕ) → place_of p.keys key ≡ Some place → keeps p.slots place ≡ is_kept state key
  kept_is place here = ap₂ (λ (a b : Bool). a || b)
      (sym (some_value p.values (parity key) (link p.slots.sents place)
      (table.taken place key (found p.keys key place here)).sent))
      (sym (left_said p.keys p.values p.slots.left table.left place (value_left p.slots.left place) refl))
      ∙ sym (kept_seen p table key place here) ∙ ap (λ (s : State). is_kept s key) view

  pub kept_nowhere : place_of p.keys key ≡ None → is_kept state key ≡ false
  kept_nowhere none = sym (ap (λ (s : State). is_kept s key) view) ∙ not_kept p table key none

  pub below_nows : (place : ℕ) → place_of p.keys key ≡ Some place → place < length p.slots.nows
  below_nows place here = subst (λ n. place < n) (sym table.nows_length) (within p.keys key place
      (found p.keys key place here))

pub some_route : (p : Parts) (table : IsTable p) (place : ℕ) (o : Option Chosen) → chosen_at p.routes place ≡ o
    → is_some (route_in p.values o) ≡ is_some o
some_route p table place None is = refl
some_route p table place (Some chosen) is =
    some_mapped (λ v. route_of p.values.side v.0 chosen.owner) (written_under p.values chosen.value)
    ∙ table.chosen place chosen is

module _ (p : Parts) (table : IsTable p) (state : State) (view : seen p ≡ state) (key : Key) where
  pub node_is : (place : ℕ) → place_of p.keys key ≡ Some place → (chosen kept : Bool)
      → chosen ≡ is_some (chosen_at p.routes place) → kept ≡ keeps p.slots place
      → (chosen || kept) ≡ is_node state key
  node_is place here chosen kept is_chosen kept_here = ap₂ (λ (a b : Bool). a || b)
      (is_chosen ∙ sym (some_route p table place (chosen_at p.routes place) refl)
      ∙ sym (ap is_some (route_is p state view key place here)))
      (kept_here ∙ kept_is p table state view key place here)

  pub node_nowhere : place_of p.keys key ≡ None → is_node state key ≡ false
  node_nowhere none = sym (ap (λ (s : State). is_node s key) view) ∙ no_node p table key none

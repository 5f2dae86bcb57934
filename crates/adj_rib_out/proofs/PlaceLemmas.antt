-- What stands at one place of a table, and how the count of nodes moves where an item is passed.
use Rattle.std.proofs.Common.{◌≡◌, ◌==◌, ℕ, ◌+◌, ◌<◌, Bool, true, false, List, [], ◌∷◌, cond}
use Rattle.std.proofs.Common.{Option, Some, None, zero, suc, length, refl, sym, ap, ap₂, subst, ◌∙◌, arith, drop}
use Rattle.std.specs.Prelude.{is_some, not, slice_get, slice_set, slice_index_or, ◌||◌, ◌&&◌, MatchOption}
use Rattle.std.specs.Option.{option_map}
use Rattle.std.proofs.lemmas.Bool.{false≢true, eqb-true}
use Rattle.linked_pending.specs.Links.{link}
use Rattle.route_values.specs.declared.attrs.WireAttrs.{WireAttrs}
use Rattle.route_values.specs.declared.key.Key.{Key}
use Rattle.slot_batches.specs.Left.{value_left}
use Rattle.slot_batches.specs.Slots.{Slots}
use Rattle.slot_batches.specs.declared.slots.Item.{Item as SlotItem}
use Rattle.adj_rib_out.specs.State.{State, Row, Route, is_ready}
use Rattle.adj_rib_out.specs.Nodes.{is_node, is_node_row, nodes}
use Rattle.adj_rib_out.specs.Places.{key_at, place_of, rows_from, row_of}
use Rattle.adj_rib_out.specs.Kept.{Parts, Values, IsTable, AreLeft, seen, route_by, told_by, chosen_at, keeps}
use Rattle.adj_rib_out.specs.Kept.{has_value}
use Rattle.adj_rib_out.specs.Kept.{markers_of}
use Rattle.adj_rib_out.proofs.RowLemmas.{stands, within, none_some, some_is}
use Rattle.adj_rib_out.proofs.NumberLemmas.{not_above}
use Rattle.adj_rib_out.proofs.PartLemmas.{ready_seen}
use Rattle.adj_rib_out.proofs.SeenNodeLemmas.{node_by, node_seen, no_node, nodes_seen}
use Rattle.adj_rib_out.proofs.AskedLemmas.{node_is}
use Rattle.adj_rib_out.proofs.PassLemmas.{passed, passed_counts, HasPassed, made, made_kept, unmarked, unmarked_kept}

-- ---- what stands at a place

module _ (route : ℕ → Option Route) (told : ℕ → Option WireAttrs) where
  abbrev row_by : ℕ → Key → Row
  row_by place key = row_of key (route place) (told place)

  row_behind : (keys : List (Option Key)) (first place : ℕ)
      → option_map (row_by (first + 1 + place)) (key_at keys place)
      ≡ option_map (row_by (first + suc place)) (key_at keys place)
  row_behind keys first place = ap (λ (n : ℕ). option_map (row_by n) (key_at keys place)) (omega arith)

  row_place : (keys : List (Option Key)) (first place : ℕ)
      → slice_index_or (rows_from route told keys first) place None
      ≡ option_map (row_by (first + place)) (key_at keys place)
  row_place [] first place = refl
  row_place (None ∷ keys) first zero = refl
  row_place (None ∷ keys) first (suc place) = row_place keys (first + 1) place ∙ row_behind keys first place
  row_place (Some k ∷ keys) first zero = ap (λ (n : ℕ). Some (row_by n k)) (omega arith)
  row_place (Some k ∷ keys) first (suc place) = row_place keys (first + 1) place ∙ row_behind keys first place

not_left : (keys : List (Option Key)) (values : Values) (items : List SlotItem) → AreLeft keys values items
    → (place : ℕ) → key_at keys place ≡ None → value_left items place ≡ None
not_left keys values [] left place none = refl
not_left keys values (item ∷ rest) left place none = elim (place == item.slot) as (λ t. (place == item.slot) ≡ t
    → cond t (Some item.value) (value_left rest place) ≡ None) [
      | true ↦ λ same. absurd (none_some (sym none
          ∙ subst (λ (j : ℕ). key_at keys j ≡ Some left.0.key) (sym (eqb-true place item.slot same)) left.0.stands))
      | false ↦ λ differs. not_left keys values rest left.1 place none
    ] refl

-- whether a place has a value, or a value of its slot was sent or is left to be
abbrev pub stands_by : Parts → ℕ → Bool
stands_by p place = is_some (chosen_at p.routes place) || keeps p.slots place

module _ (p : Parts) (table : IsTable p) where
  vacant_none : (place : ℕ) → key_at p.keys place ≡ None → stands_by p place ≡ false
  vacant_none place none =
      let vacant = table.vacant place none in
      ap₂ (λ (a b : Bool). a || b) (ap is_some vacant.chosen) (ap₂ (λ (a b : Bool). a || b)
      (not_above (link p.slots.sents place) (subst (λ n. n < 2) (sym vacant.sent) vacant.now))
      (ap has_value (not_left p.keys p.values p.slots.left table.left place none)))

  stands_row : (place : ℕ) (o : Option Key) → key_at p.keys place ≡ o
      → stands_by p place ≡ is_node_row (seen p) (option_map (row_by (route_by p) (told_by p) place) o)
  stands_row place None none = vacant_none place none
  stands_row place (Some key) here = node_is p table (seen p) refl key place (stands p.keys key place table.once here)
      (is_some (chosen_at p.routes place)) (keeps p.slots place) refl refl

  pub stands_is : (state : State) → seen p ≡ state → (place : ℕ)
      → stands_by p place ≡ is_node_row state (slice_index_or state.rows place None)
  stands_is state view place =
      let from_first : place ≡ 0 + place = omega arith in
      stands_row place (key_at p.keys place) refl
      ∙ ap (λ (n : ℕ). is_node_row (seen p) (option_map (row_by (route_by p) (told_by p) n) (key_at p.keys place)))
      from_first
      ∙ sym (ap (is_node_row (seen p)) (row_place (route_by p) (told_by p) p.keys 0 place))
      ∙ ap (λ (s : State). is_node_row s (slice_index_or s.rows place None)) view

  stands_node : (key : Key) (place : ℕ) → key_at p.keys place ≡ Some key → stands_by p place ≡ node_by p place
  stands_node key place here =
      let at = stands p.keys key place table.once here in
      node_is p table (seen p) refl key place at (is_some (chosen_at p.routes place)) (keeps p.slots place) refl refl
      ∙ node_seen p table key place at

  ready_of : (key : Key) (o : Option ℕ) → place_of p.keys key ≡ o → is_node (seen p) key ≡ true
      → is_ready (seen p) key ≡ true
  ready_of key None none node = absurd (false≢true (sym (no_node p table key none) ∙ node))
  ready_of key (Some place) here node = ready_seen p key ∙ ap is_some here

  -- a node stands ready
  pub node_ready : (state : State) → seen p ≡ state → (key : Key) → is_node state key ≡ true
      → is_ready state key ≡ true
  node_ready state view key = subst (λ (s : State). is_node s key ≡ true → is_ready s key ≡ true) view
      (ready_of key (place_of p.keys key) refl)

-- ---- what is passed

first_within : (keys : List (Option Key)) (values : Values) (left : List SlotItem) → AreLeft keys values left
    → (item : SlotItem) → slice_get left 0 ≡ Some item → item.slot < length keys
first_within keys values [] left item is = absurd (none_some is)
first_within keys values (first ∷ rest) left item is = subst (λ (i : SlotItem). i.slot < length keys) (some_is is)
    (within keys left.0.key first.slot left.0.stands)

pub within_old : (p : Parts) → IsTable p → (item : SlotItem) → slice_get p.slots.left 0 ≡ Some item
    → item.slot < length p.slots.nows
within_old p table item here = subst (λ n. item.slot < n) (sym table.nows_length)
    (first_within p.keys p.values p.slots.left table.left item here)

module _ (p : Parts) (table : IsTable p) (state : State) (view : seen p ≡ state) (slots : Slots)
    (pass : HasPassed p.slots slots) (item : SlotItem) (here : slice_get p.slots.left 0 ≡ Some item) where
  abbrev pub after : Parts
  after = made p table state view slots pass (ap is_some here)

  after_kept : IsTable after
  after_kept = made_kept p table state view slots pass (ap is_some here)

  pub within_new : item.slot < length slots.nows
  within_new = subst (λ n. item.slot < n) (sym after_kept.nows_length)
      (first_within p.keys p.values p.slots.left table.left item here)

  module _ (first : SlotItem) (rest : List SlotItem) (is : p.slots.left ≡ first ∷ rest) where
    first_is : item ≡ first
    first_is = some_is (sym here ∙ ap (λ (l : List SlotItem). slice_get l 0) is)

    after_is : after ≡ passed p table first rest is
    after_is = ap (λ (s : Slots). record p { slots = s }) (subst (λ (o : Option SlotItem).
        MatchOption o (slots ≡ p.slots) (λ i. slots ≡ record p.slots {
          sents = slice_set p.slots.sents i.slot i.value;
          left = drop 1 p.slots.left;
        })) (ap (λ (l : List SlotItem). slice_get l 0) is) pass)

    first_left : AreLeft p.keys p.values (first ∷ rest)
    first_left = subst (AreLeft p.keys p.values) is table.left

    counts : (was now : Bool) → was ≡ stands_by p item.slot → now ≡ stands_by after item.slot
        → nodes (seen after) + cond (was && not now) 1 0 ≡ nodes state
    counts was now was_is now_is = ap (λ (q : Parts). nodes (seen q) + cond (was && not now) 1 0) after_is
        ∙ passed_counts p table first rest is was now
        (was_is ∙ ap (λ (i : SlotItem). stands_by p i.slot) first_is
        ∙ stands_node p table first_left.0.key first.slot first_left.0.stands)
        (now_is ∙ ap (λ (i : SlotItem). stands_by after i.slot) first_is
        ∙ stands_node after after_kept first_left.0.key first.slot first_left.0.stands
        ∙ ap (λ (q : Parts). node_by q first.slot) after_is)
        ∙ ap nodes view

  counts_by : (left : List SlotItem) → p.slots.left ≡ left → (was now : Bool) → was ≡ stands_by p item.slot
      → now ≡ stands_by after item.slot → nodes (seen after) + cond (was && not now) 1 0 ≡ nodes state
  counts_by [] is = absurd (none_some (sym (ap (λ (l : List SlotItem). slice_get l 0) is) ∙ here))
  counts_by (first ∷ rest) is = counts first rest is

  pub after_counts : (was now gone : Bool) → was ≡ stands_by p item.slot → now ≡ stands_by after item.slot
      → gone ≡ (was && not now) → nodes (seen after) + cond gone 1 0 ≡ nodes state
  after_counts was now gone was_is now_is gone_is = ap (λ (t : Bool). nodes (seen after) + cond t 1 0) gone_is
      ∙ counts_by p.slots.left refl was now was_is now_is

plus_zero : (n : ℕ) → n + 0 ≡ n
plus_zero n = omega arith

module _ (p : Parts) (table : IsTable p) (state : State) (view : seen p ≡ state)
    (none : is_some (slice_get p.slots.left 0) ≡ false) (ipv4 ipv6 : Bool)
    (fewer : markers_of ipv4 ipv6 ≡ drop 1 (markers_of p.ipv4_marker p.ipv6_marker)) where
  pub unmarked_counts : nodes (seen (unmarked p table state view none ipv4 ipv6 fewer)) + cond false 1 0 ≡ nodes state
  unmarked_counts = plus_zero (nodes (seen (unmarked p table state view none ipv4 ipv6 fewer)))
      ∙ nodes_seen (unmarked p table state view none ipv4 ipv6 fewer)
      (unmarked_kept p table state view none ipv4 ipv6 fewer) ∙ sym (nodes_seen p table) ∙ ap nodes view

-- the marker that stands first is gone
pub first_gone : (ipv4 ipv6 both : Bool) → both ≡ (ipv4 && ipv6)
    → markers_of false both ≡ drop 1 (markers_of ipv4 ipv6)
first_gone true true both is = ap (markers_of false) is
first_gone true false both is = ap (markers_of false) is
first_gone false true both is = ap (markers_of false) is
first_gone false false both is = ap (markers_of false) is

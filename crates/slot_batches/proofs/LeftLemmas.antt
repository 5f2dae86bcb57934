-- What is left of an open batch, as the groups that are frozen.
use Rattle.std.proofs.Common.{◌≡◌, ℕ, ◌-◌, ◌/◌, ◌%◌, ◌≤◌, ◌||◌, Bool, true, false, Some, None, Option, cond}
use Rattle.std.proofs.Common.{List, [], ◌∷◌, ◌++◌, drop, eqb, refl, sym, ap, ap₂, subst, ◌∙◌, inl, inr, arith}
use Rattle.std.specs.Prelude.{slice_get}
use Rattle.std.specs.Option.{option_map}
use Rattle.std.proofs.lemmas.Grind.{common_steps}
use Rattle.std.proofs.lemmas.Bool.{eq-eqb, ne_eqb, cases_eq, false≢true}
use Rattle.linked_pending.specs.declared.pending.Place.{Place}
use Rattle.linked_pending.specs.Listing.{has, AreApart, without}
use Rattle.linked_pending.specs.Group.{Group, without_node, unless_empty, group_of, front_of, nodes_of}
use Rattle.linked_pending.specs.Layout.{has_group, has_node, is_empty, AreFull}
use Rattle.linked_pending.proofs.ListingLemmas.{without_absent, has-append}
use Rattle.linked_pending.proofs.ApartLemmas.{apart_tail, apart_disjoint}
use Rattle.linked_pending.proofs.GroupLemmas.{has-nodes_of, without_node_absent}
use Rattle.slot_batches.specs.declared.slots.Item.{Item}
use Rattle.slot_batches.specs.Left.{item_of, value_left, slots_of, values_of, ComesNextOrNever, AreTogether}
use Rattle.slot_batches.specs.Left.{items_with, items_of}
use Rattle.slot_batches.specs.Owing.{node_of}

-- nodes of one side, each of a slot
abbrev pub AreOfSide : ℕ → List ℕ → Type 0
AreOfSide side nodes = (node : ℕ) → has node nodes ≡ true → (2 ≤ node) × (node % 2 ≡ side)

-- a slot's node among nodes, and the slot among theirs
slot_test : (side slot node : ℕ) → 2 ≤ node → node % 2 ≡ side
    → eqb slot (node / 2 - 1) ≡ eqb (node_of side slot) node
slot_test side slot node above parity = elim (cases_eq slot (node / 2 - 1)) [
  | inl same ↦ eq-eqb slot (node / 2 - 1) same ∙ sym (eq-eqb (node_of side slot) node (omega arith))
  | inr differs ↦ ne_eqb slot (node / 2 - 1) differs
      ∙ sym (ne_eqb (node_of side slot) node (λ same. differs (omega arith)))
]

first_of_side : (side first : ℕ) (rest : List ℕ) → AreOfSide side (first ∷ rest) → (2 ≤ first) × (first % 2 ≡ side)
first_of_side side first rest of_side = of_side first (grind (arith, common_steps))

rest_of_side : (side first : ℕ) (rest : List ℕ) → AreOfSide side (first ∷ rest) → AreOfSide side rest
rest_of_side side first rest of_side node there = of_side node (grind (arith, common_steps))

value_left-items_with : (side slot number : ℕ) (nodes : List ℕ) (later : List Item) → AreOfSide side nodes
    → value_left (items_with number nodes later) slot
    ≡ cond (has (node_of side slot) nodes) (Some number) (value_left later slot)
value_left-items_with side slot number [] later of_side = refl
value_left-items_with side slot number (node ∷ nodes) later of_side =
    let first = first_of_side side node nodes of_side in
    ap (λ test. cond test (Some number) (value_left (items_with number nodes later) slot))
    (slot_test side slot node first.0 first.1)
    ∙ ap (cond (eqb (node_of side slot) node) (Some number))
    (value_left-items_with side slot number nodes later (rest_of_side side node nodes of_side))
    ∙ grind (arith, common_steps)

group_of_side : (side : ℕ) (first : Group) (rest : List Group) → AreOfSide side (nodes_of (first ∷ rest))
    → AreOfSide side first.nodes × AreOfSide side (nodes_of rest)
group_of_side side first rest of_side = (
  λ node there. of_side node (grind (arith, common_steps, has-append node first.nodes (nodes_of rest))),
  λ node there. of_side node (grind (arith, common_steps, has-append node first.nodes (nodes_of rest))),
)

-- the value that is left of a slot is its node's group
pub value_left-items_of : (side slot : ℕ) (groups : List Group) → AreOfSide side (nodes_of groups)
    → value_left (items_of groups) slot ≡ group_of (node_of side slot) groups
value_left-items_of side slot [] of_side = refl
value_left-items_of side slot (first ∷ rest) of_side =
    let parts = group_of_side side first rest of_side in
    value_left-items_with side slot first.number first.nodes (items_of rest) parts.0
    ∙ ap (cond (has (node_of side slot) first.nodes) (Some first.number))
    (value_left-items_of side slot rest parts.1)

-- the slots that are left are those of the nodes
slots_of-items_with : (side slot number : ℕ) (nodes : List ℕ) (later : List Item) → AreOfSide side nodes
    → has slot (slots_of (items_with number nodes later))
    ≡ (has (node_of side slot) nodes || has slot (slots_of later))
slots_of-items_with side slot number [] later of_side = refl
slots_of-items_with side slot number (node ∷ nodes) later of_side =
    let first = first_of_side side node nodes of_side in
    ap (λ test. test || has slot (slots_of (items_with number nodes later)))
    (slot_test side slot node first.0 first.1)
    ∙ ap (λ test. eqb (node_of side slot) node || test)
    (slots_of-items_with side slot number nodes later (rest_of_side side node nodes of_side))
    ∙ grind (arith, common_steps)

pub slots_of-items_of : (side slot : ℕ) (groups : List Group) → AreOfSide side (nodes_of groups)
    → has slot (slots_of (items_of groups)) ≡ has_node (node_of side slot) groups
slots_of-items_of side slot [] of_side = refl
slots_of-items_of side slot (first ∷ rest) of_side =
    let parts = group_of_side side first rest of_side in
    slots_of-items_with side slot first.number first.nodes (items_of rest) parts.0
    ∙ ap (λ test. has (node_of side slot) first.nodes || test) (slots_of-items_of side slot rest parts.1)

-- each slot is left once
apart-items_with : (side number : ℕ) (nodes : List ℕ) (later : List Item) → AreOfSide side nodes → AreApart nodes
    → ((slot : ℕ) → has (node_of side slot) nodes ≡ true → has slot (slots_of later) ≡ false)
    → AreApart (slots_of later) → AreApart (slots_of (items_with number nodes later))
apart-items_with side number [] later of_side apart disjoint others = others
apart-items_with side number (node ∷ nodes) later of_side apart disjoint others =
    let first = first_of_side side node nodes of_side in
    let parity = first.1 in
    let above = first.0 in
    let is : node_of side (node / 2 - 1) ≡ node = omega arith in
    let absent : has (node_of side (node / 2 - 1)) nodes ≡ false = ap (λ n. has n nodes) is ∙ apart.0 in
    let here : has (node_of side (node / 2 - 1)) (node ∷ nodes) ≡ true =
    ap (λ n. has n (node ∷ nodes)) is ∙ grind (arith, common_steps) in (
      slots_of-items_with side (node / 2 - 1) number nodes later (rest_of_side side node nodes of_side)
          ∙ ap₂ (λ (a b : Bool). a || b) absent (disjoint (node / 2 - 1) here),
      apart-items_with side number nodes later (rest_of_side side node nodes of_side) apart.1
          (λ slot there. disjoint slot (grind (arith, common_steps))) others,
    )

apart_front : (items others : List ℕ) → AreApart (items ++ others) → AreApart items
apart_front [] others apart = tt
apart_front (first ∷ rest) others apart = (
  grind (arith, common_steps, apart.0, has-append first rest others),
  apart_front rest others apart.1,
)

pub apart-items_of : (side : ℕ) (groups : List Group) → AreOfSide side (nodes_of groups) → AreApart (nodes_of groups)
    → AreApart (slots_of (items_of groups))
apart-items_of side [] of_side apart = tt
apart-items_of side (first ∷ rest) of_side apart =
    let parts = group_of_side side first rest of_side in
    apart-items_with side first.number first.nodes (items_of rest) parts.0
    (apart_front first.nodes (nodes_of rest) apart)
    (λ slot there. slots_of-items_of side slot rest parts.1 ∙ sym (has-nodes_of (node_of side slot) rest)
    ∙ apart_disjoint first.nodes (nodes_of rest) apart (node_of side slot) there)
    (apart-items_of side rest parts.1 (apart_tail first.nodes (nodes_of rest) apart))

-- equal values stand together
missed-items_with : (value number : ℕ) (nodes : List ℕ) (later : List Item) → eqb value number ≡ false
    → has value (values_of later) ≡ false → has value (values_of (items_with number nodes later)) ≡ false
missed-items_with value number [] later differs missed = missed
missed-items_with value number (node ∷ nodes) later differs missed =
    grind (arith, common_steps, missed-items_with value number nodes later differs missed)

missed-items_of : (value : ℕ) (groups : List Group) → has_group value groups ≡ false
    → has value (values_of (items_of groups)) ≡ false
missed-items_of value [] missed = refl
missed-items_of value (first ∷ rest) missed =
    missed-items_with value first.number first.nodes (items_of rest) (grind (arith, common_steps))
    (missed-items_of value rest (grind (arith, common_steps)))

never : (value : ℕ) (later : List ℕ) → has value later ≡ false → ComesNextOrNever value later
never value [] missed = tt
never value (next ∷ later) missed = inr missed

together-items_with : (number : ℕ) (nodes : List ℕ) (later : List Item) → has number (values_of later) ≡ false
    → AreTogether (values_of later) → AreTogether (values_of (items_with number nodes later))
together-items_with number [] later missed others = others
together-items_with number (node ∷ []) later missed others = (never number (values_of later) missed, others)
together-items_with number (node ∷ next ∷ nodes) later missed others =
    (inl refl, together-items_with number (next ∷ nodes) later missed others)

pub together-items_of : (groups : List Group) → AreFull groups → AreTogether (values_of (items_of groups))
together-items_of [] full = tt
together-items_of (first ∷ rest) full =
    together-items_with first.number first.nodes (items_of rest) (missed-items_of first.number rest full.1)
    (together-items_of rest full.2)

-- nothing is left just where nothing is frozen
pub none_left : (groups : List Group) → AreFull groups → items_of groups ≡ [] → groups ≡ []
none_left [] full none = refl
none_left (first ∷ rest) full none = by first.nodes refl
  where
    by : (nodes : List ℕ) → first.nodes ≡ nodes → first ∷ rest ≡ []
    by [] empty = absurd (false≢true (sym full.0 ∙ ap is_empty empty))
    by (node ∷ nodes) some =
        let is : items_with first.number (node ∷ nodes) (items_of rest) ≡ [] =
        sym (ap (λ (ns : List ℕ). items_with first.number ns (items_of rest)) some) ∙ none in
        absurd (cc)

-- the front is the first item
pub front_is_first : (groups : List Group) → AreFull groups
    → slice_get (items_of groups) 0 ≡ option_map (λ (p : Place). item_of (p.node / 2 - 1) p.group) (front_of groups)
front_is_first [] full = refl
front_is_first (first ∷ rest) full = by first.nodes refl
  where
    by : (nodes : List ℕ) → first.nodes ≡ nodes → slice_get (items_with first.number first.nodes (items_of rest)) 0
        ≡ option_map (λ (p : Place). item_of (p.node / 2 - 1) p.group) (front_of (first ∷ rest))
    by [] empty = absurd (false≢true (sym full.0 ∙ ap is_empty empty))
    by (node ∷ nodes) some =
        ap (λ (ns : List ℕ). slice_get (items_with first.number ns (items_of rest)) 0) some
        ∙ sym (ap (λ (ns : List ℕ). option_map (λ (p : Place). item_of (p.node / 2 - 1) p.group)
        (option_map (λ n. record { group = first.number; node = n }) (slice_get ns 0))) some)

-- once the front has left, the other items are left
items_unless_empty : (number : ℕ) (nodes : List ℕ) (others : List Group)
    → items_of (unless_empty number nodes others) ≡ items_with number nodes (items_of others)
items_unless_empty number [] others = refl
items_unless_empty number (first ∷ rest) others = refl

abbrev node_or_none : Option Place → ℕ
node_or_none None = 0
node_or_none (Some place) = place.node

pub items_passed : (groups : List Group) (place : Place) → AreFull groups → AreApart (nodes_of groups)
    → front_of groups ≡ Some place → items_of (without_node place.node groups) ≡ drop 1 (items_of groups)
items_passed [] place full apart front = absurd (cc)
items_passed (first ∷ rest) place full apart front = by first.nodes refl
  where
    by : (nodes : List ℕ) → first.nodes ≡ nodes
        → items_of (without_node place.node (first ∷ rest))
        ≡ drop 1 (items_with first.number first.nodes (items_of rest))
    by [] empty = absurd (false≢true (sym full.0 ∙ ap is_empty empty))
    by (node ∷ nodes) some =
        let here : Some (record { group = first.number; node = node }) ≡ Some place =
        sym (ap (λ (ns : List ℕ). option_map (λ n. record { group = first.number; node = n }) (slice_get ns 0)) some)
        ∙ front in
        let is : node ≡ place.node = ap node_or_none here in
        let apart_here : AreApart (node ∷ nodes ++ nodes_of rest) =
        subst (λ (ns : List ℕ). AreApart (ns ++ nodes_of rest)) some apart in
        let absent : (has node nodes || has node (nodes_of rest)) ≡ false =
        sym (has-append node nodes (nodes_of rest)) ∙ apart_here.0 in
        let no_more : without node nodes ≡ nodes = without_absent node nodes (grind (arith, common_steps)) in
        let not_later : without_node node rest ≡ rest = without_node_absent node rest full.2
        (sym (has-nodes_of node rest) ∙ grind (arith, common_steps)) in
        let taken : without node (node ∷ nodes) ≡ nodes =
        ap (λ test. cond test (without node nodes) (node ∷ without node nodes)) (eq-eqb node node refl) ∙ no_more in
        ap (λ n. items_of (without_node n (first ∷ rest))) (sym is)
        ∙ items_unless_empty first.number (without node first.nodes) (without_node node rest)
        ∙ ap (λ (ns : List ℕ). items_with first.number (without node ns) (items_of (without_node node rest))) some
        ∙ ap₂ (λ (ns : List ℕ) (others : List Group). items_with first.number ns (items_of others)) taken not_later
        ∙ sym (ap (λ (ns : List ℕ). drop 1 (items_with first.number ns (items_of rest))) some)

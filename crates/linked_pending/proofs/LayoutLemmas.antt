-- Groups in one flat list: what it shows, and how a node joins.
use Rattle.std.proofs.Common.{◌≡◌, ◌≢◌, ℕ, ◌+◌, ◌-◌, ◌*◌, ◌/◌, ◌%◌, true, false, cond, ◌||◌, List, [], ◌∷◌, ◌++◌, eqb}
use Rattle.std.proofs.Common.{refl, sym, ap, ◌∙◌, arith}
use Rattle.std.proofs.lemmas.Grind.{common_steps}
use Rattle.std.proofs.lemmas.Bool.{false≢true, eq-eqb, ne_eqb}
use Rattle.linked_pending.specs.Listing.{has, put_before}
use Rattle.linked_pending.specs.Group.{Group, group_with, with_node}
use Rattle.linked_pending.specs.Layout.{node_place, end_place, node_places, flat, opened, onto_first, parse, has_group}
use Rattle.linked_pending.specs.Layout.{has_node}
use Rattle.linked_pending.proofs.ListingLemmas.{has-put_before}

-- places of nodes are odd, and places of ends are even and not 0
pub end_even : (number : ℕ) → eqb ((2 * number + 2) % 2) 0 ≡ true
end_even number = eq-eqb _ _ (omega arith)

pub node_odd : (node : ℕ) → eqb ((2 * node + 1) % 2) 0 ≡ false
node_odd node = ne_eqb _ _ (λ even. absurd (omega arith))

pub ends_eq : (number other : ℕ) → eqb (2 * number + 2) (2 * other + 2) ≡ eqb number other
ends_eq number other = grind (arith, common_steps)

pub nodes_eq : (node other : ℕ) → eqb (2 * node + 1) (2 * other + 1) ≡ eqb node other
nodes_eq node other = grind (arith, common_steps)

pub end_node_eq : (number node : ℕ) → eqb (2 * number + 2) (2 * node + 1) ≡ false
end_node_eq number node = ne_eqb _ _ (λ same. absurd (omega arith))

pub node_end_eq : (number node : ℕ) → eqb (2 * node + 1) (2 * number + 2) ≡ false
node_end_eq number node = ne_eqb _ _ (λ same. absurd (omega arith))

parse-end : (number : ℕ) (others : List ℕ) → parse (end_place number ∷ others) ≡ group_with number [] ∷ parse others
parse-end number others =
    let number_is : (2 * number + 2) / 2 - 1 ≡ number = omega arith in
    rw (end_even number) (ap (λ shown. group_with shown [] ∷ parse others) number_is)

parse-node_places : (number : ℕ) (nodes others : List ℕ) → parse (node_places nodes (end_place number ∷ others))
    ≡ group_with number nodes ∷ parse others
parse-node_places number [] others = parse-end number others
parse-node_places number (first ∷ rest) others =
    let node_is : (2 * first + 1) / 2 ≡ first = omega arith in
    rw (node_odd first) (rw node_is (ap (onto_first first) (parse-node_places number rest others)))

pub parse-flat : (groups : List Group) → parse (flat groups) ≡ groups
parse-flat [] = refl
parse-flat (first ∷ rest) = parse-node_places first.number first.nodes (flat rest)
    ∙ ap (λ others. first ∷ others) (parse-flat rest)

has_end_node_places : (number : ℕ) (nodes others : List ℕ) → has (end_place number) (node_places nodes others)
    ≡ has (end_place number) others
has_end_node_places number [] others = refl
has_end_node_places number (first ∷ rest) others = rw (end_node_eq number first)
    (has_end_node_places number rest others)

pub has_end : (number : ℕ) (groups : List Group) → has (end_place number) (flat groups) ≡ has_group number groups
has_end number [] = refl
has_end number (first ∷ rest) =
    has_end_node_places number first.nodes _ ∙ rw (ends_eq number first.number)
    (ap (λ later. eqb number first.number || later) (has_end number rest))

has_place_node_places : (node : ℕ) (nodes others : List ℕ) → has (node_place node) (node_places nodes others)
    ≡ (has node nodes || has (node_place node) others)
has_place_node_places node [] others = refl
has_place_node_places node (first ∷ rest) others = rw (nodes_eq node first)
    (grind (arith, common_steps, has_place_node_places node rest others))

pub has_place : (node : ℕ) (groups : List Group) → has (node_place node) (flat groups) ≡ has_node node groups
has_place node [] = refl
has_place node (first ∷ rest) =
    has_place_node_places node first.nodes _ ∙ rw (node_end_eq first.number node)
    (ap (λ later. has node first.nodes || later) (has_place node rest))

-- a place put before a group's end
put_node_places : (number place other : ℕ) (nodes others : List ℕ)
    → put_before (end_place number) place (node_places nodes (end_place other ∷ others))
    ≡ cond (eqb number other) (node_places nodes (place ∷ end_place other ∷ others))
    (node_places nodes (end_place other ∷ put_before (end_place number) place others))
put_node_places number place other [] others = rw (ends_eq number other) refl
put_node_places number place other (first ∷ rest) others = rw (end_node_eq number first)
    (grind (arith, common_steps, put_node_places number place other rest others))

node_places_last : (node : ℕ) (nodes others : List ℕ) → node_places (nodes ++ node ∷ []) others
    ≡ node_places nodes (node_place node ∷ others)
node_places_last node [] others = refl
node_places_last node (first ∷ rest) others = ap (λ places. node_place first ∷ places)
    (node_places_last node rest others)

flat_joined : (number node : ℕ) (groups : List Group) → has_group number groups ≡ true
    → put_before (end_place number) (node_place node) (flat groups) ≡ flat (with_node number node groups)
flat_joined number node [] found = absurd (false≢true found)
flat_joined number node (first ∷ rest) found =
    put_node_places number (node_place node) first.number first.nodes (flat rest)
    ∙ elim (eqb number first.number) as (λ test. eqb number first.number ≡ test
    → cond test (node_places first.nodes (node_place node ∷ end_place first.number ∷ flat rest))
    (node_places first.nodes (end_place first.number ∷ put_before (end_place number) (node_place node) (flat rest)))
    ≡ flat (cond test (group_with first.number (first.nodes ++ node ∷ []) ∷ rest)
    (first ∷ with_node number node rest))) [
      | true ↦ λ same. sym (node_places_last node first.nodes _)
      | false ↦ λ other. ap (λ places. node_places first.nodes (end_place first.number ∷ places))
          (flat_joined number node rest (grind (arith, common_steps)))
    ] refl

-- a new group's end behind all others
put_zero_node_places : (place : ℕ) (nodes others : List ℕ) → put_before 0 place (node_places nodes others)
    ≡ node_places nodes (put_before 0 place others)
put_zero_node_places place [] others = refl
put_zero_node_places place (first ∷ rest) others =
    let not_root : eqb 0 (2 * first + 1) ≡ false = ne_eqb _ _ (λ same. absurd (omega arith)) in
    rw not_root (ap (λ places. node_place first ∷ places) (put_zero_node_places place rest others))

flat_new : (number : ℕ) (groups : List Group) → put_before 0 (end_place number) (flat groups)
    ≡ flat (groups ++ group_with number [] ∷ [])
flat_new number [] = refl
flat_new number (first ∷ rest) =
    let not_root : eqb 0 (2 * first.number + 2) ≡ false = ne_eqb _ _ (λ same. absurd (omega arith)) in
    put_zero_node_places _ first.nodes _ ∙ rw not_root (ap (λ places.
    node_places first.nodes (end_place first.number ∷ places)) (flat_new number rest))

with_node_new : (number node : ℕ) (groups : List Group) → has_group number groups ≡ false
    → with_node number node (groups ++ group_with number [] ∷ []) ≡ with_node number node groups
with_node_new number node [] missed = rw (eq-eqb number number refl) refl
with_node_new number node (first ∷ rest) missed =
    elim (eqb number first.number) as (λ test. eqb number first.number ≡ test
    → cond test (group_with first.number (first.nodes ++ node ∷ []) ∷ (rest ++ group_with number [] ∷ []))
    (first ∷ with_node number node (rest ++ group_with number [] ∷ []))
    ≡ cond test (group_with first.number (first.nodes ++ node ∷ []) ∷ rest) (first ∷ with_node number node rest)) [
      | true ↦ λ same. absurd (false≢true (grind (arith, common_steps)))
      | false ↦ λ other. ap (λ later. first ∷ later) (with_node_new number node rest (grind (arith, common_steps)))
    ] refl

has_group_new : (number : ℕ) (groups : List Group) → has_group number (groups ++ group_with number [] ∷ []) ≡ true
has_group_new number [] = rw (eq-eqb number number refl) refl
has_group_new number (first ∷ rest) = grind (arith, common_steps, has_group_new number rest)

-- a node joins: its group's end is there, or put behind all others, and then the node is put before it
pub flat-with_node : (number node : ℕ) (groups : List Group) → put_before (end_place number) (node_place node)
    (opened (end_place number) (flat groups)) ≡ flat (with_node number node groups)
flat-with_node number node groups =
    elim (has (end_place number) (flat groups)) as (λ test. has (end_place number) (flat groups) ≡ test
    → put_before (end_place number) (node_place node) (cond test (flat groups)
    (put_before 0 (end_place number) (flat groups))) ≡ flat (with_node number node groups)) [
      | true ↦ λ there. flat_joined number node groups (sym (has_end number groups) ∙ there)
      | false ↦ λ absent.
          ap (put_before (end_place number) (node_place node)) (flat_new number groups)
          ∙ flat_joined number node _ (has_group_new number groups)
          ∙ ap flat (with_node_new number node groups (sym (has_end number groups) ∙ absent))
    ] refl

pub opened_there : (end : ℕ) (places : List ℕ) → has end (opened end places) ≡ true
opened_there end places =
    elim (has end places) as (λ test. has end places ≡ test → has end (cond test places (put_before 0 end places))
    ≡ true) [
      | true ↦ λ there. there
      | false ↦ λ absent. has-put_before end 0 end places ∙ grind (arith, common_steps)
    ] refl

pub opened_absent : (end place : ℕ) (places : List ℕ) → place ≢ end → has place places ≡ false
    → has place (opened end places) ≡ false
opened_absent end place places other absent =
    elim (has end places) as (λ test. has place (cond test places (put_before 0 end places)) ≡ false) [
      | true ↦ absent
      | false ↦ has-put_before place 0 end places ∙ grind (arith, common_steps, absent, ne_eqb place end other)
    ]

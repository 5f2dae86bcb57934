-- Groups in one flat list: how a node leaves.
use Rattle.std.proofs.Common.{◌≡◌, ℕ, ◌%◌, Bool, true, false, cond, ◌||◌, List, [], ◌∷◌, eqb, refl, sym, ap, ap₂, ◌∙◌}
use Rattle.std.proofs.Common.{arith}
use Rattle.std.proofs.lemmas.Grind.{common_steps}
use Rattle.std.proofs.lemmas.Bool.{eqb-true, eqb-false, false≢true}
use Rattle.linked_pending.specs.Listing.{has, without, before_from}
use Rattle.linked_pending.specs.Links.{link}
use Rattle.linked_pending.specs.Group.{Group, group_with, unless_empty, without_node}
use Rattle.linked_pending.specs.Layout.{node_place, end_place, node_places, flat, has_group, has_node, is_empty}
use Rattle.linked_pending.specs.Layout.{AreFull, AreMembers}
use Rattle.linked_pending.proofs.ListingLemmas.{without_absent}
use Rattle.linked_pending.proofs.GroupLemmas.{unless_empty_full, unless_empty_empty, absent_from_missed_group}
use Rattle.linked_pending.proofs.GroupLemmas.{without_node_absent}
use Rattle.linked_pending.proofs.LayoutLemmas.{end_even, node_odd, ends_eq, nodes_eq, end_node_eq, node_end_eq, has_end}

-- the last of the places, or where they begin
abbrev last_place : ℕ → List ℕ → ℕ
last_place start [] = start
last_place start (first ∷ rest) = last_place (node_place first) rest

last_odd : (node : ℕ) (nodes : List ℕ) → eqb (last_place (node_place node) nodes % 2) 0 ≡ false
last_odd node [] = node_odd node
last_odd node (first ∷ rest) = last_odd first rest

last_even : (start : ℕ) (nodes : List ℕ) → eqb (start % 2) 0 ≡ true
    → eqb (last_place start nodes % 2) 0 ≡ is_empty nodes
last_even start [] even = even
last_even start (first ∷ rest) even = last_odd first rest

before_node_places : (start number other : ℕ) (nodes others : List ℕ)
    → before_from start (end_place number) (node_places nodes (end_place other ∷ others))
    ≡ cond (eqb number other) (last_place start nodes) (before_from (end_place other) (end_place number) others)
before_node_places start number other [] others = rw (ends_eq number other) refl
before_node_places start number other (first ∷ rest) others =
    rw (end_node_eq number first) (before_node_places (node_place first) number other rest others)

-- whether the group has no node
abbrev pub is_empty_at : ℕ → List Group → Bool
is_empty_at number [] = true
is_empty_at number (first ∷ rest) = cond (eqb number first.number) (is_empty first.nodes) (is_empty_at number rest)

-- the place before a group's end tells whether the group is empty
pub even_before : (start number : ℕ) (groups : List Group) → eqb (start % 2) 0 ≡ true → has_group number groups ≡ true
    → eqb (before_from start (end_place number) (flat groups) % 2) 0 ≡ is_empty_at number groups
even_before start number [] even found = absurd (false≢true found)
even_before start number (first ∷ rest) even found =
    ap (λ place. eqb (place % 2) 0) (before_node_places start number first.number first.nodes (flat rest))
    ∙ elim (eqb number first.number) as (λ test. eqb number first.number ≡ test
    → eqb (cond test (last_place start first.nodes) (before_from (end_place first.number) (end_place number)
    (flat rest)) % 2) 0 ≡ cond test (is_empty first.nodes) (is_empty_at number rest)) [
      | true ↦ λ same. last_even start first.nodes even
      | false ↦ λ other. even_before (end_place first.number) number rest (end_even first.number)
          (grind (arith, common_steps))
    ] refl

-- the groups without a node, where an empty group stays
abbrev pub drop_node : ℕ → List Group → List Group
drop_node node [] = []
drop_node node (first ∷ rest) = group_with first.number (without node first.nodes) ∷ drop_node node rest

without_place_node_places : (node : ℕ) (nodes others : List ℕ)
    → without (node_place node) (node_places nodes others) ≡ node_places (without node nodes)
    (without (node_place node) others)
without_place_node_places node [] others = refl
without_place_node_places node (first ∷ rest) others =
    rw (nodes_eq node first) (elim (eqb node first) as (λ test.
    cond test (without (node_place node) (node_places rest others))
    (node_place first ∷ without (node_place node) (node_places rest others))
    ≡ node_places (cond test (without node rest) (first ∷ without node rest)) (without (node_place node) others)) [
      | true ↦ without_place_node_places node rest others
      | false ↦ ap (λ places. node_place first ∷ places) (without_place_node_places node rest others)
    ])

pub flat-drop_node : (node : ℕ) (groups : List Group) → without (node_place node) (flat groups)
    ≡ flat (drop_node node groups)
flat-drop_node node [] = refl
flat-drop_node node (first ∷ rest) =
    without_place_node_places node first.nodes _
    ∙ rw (node_end_eq first.number node) (ap (λ places. node_places (without node first.nodes)
    (end_place first.number ∷ places)) (flat-drop_node node rest))

pub has_group-drop_node : (number node : ℕ) (groups : List Group)
    → has_group number (drop_node node groups) ≡ has_group number groups
has_group-drop_node number node [] = refl
has_group-drop_node number node (first ∷ rest) = ap (λ later. eqb number first.number || later)
    (has_group-drop_node number node rest)

drop_node_absent : (node : ℕ) (groups : List Group) → has_node node groups ≡ false → drop_node node groups ≡ groups
drop_node_absent node [] absent = refl
drop_node_absent node (first ∷ rest) absent =
    ap₂ (λ (nodes : List ℕ) (others : List Group). group_with first.number nodes ∷ others)
    (without_absent node first.nodes (grind (arith, common_steps)))
    (drop_node_absent node rest (grind (arith, common_steps)))

empty_is : (nodes : List ℕ) → is_empty nodes ≡ true → nodes ≡ []
empty_is [] empty = refl
empty_is (first ∷ rest) empty = absurd (false≢true empty)

absent_from_other_group : (table : List ℕ) (node : ℕ) (group : Group)
    → ((other : ℕ) → has other group.nodes ≡ true → link table other ≡ group.number)
    → eqb (link table node) group.number ≡ false → has node group.nodes ≡ false
absent_from_other_group table node group own missed =
    elim (has node group.nodes) as (λ test. has node group.nodes ≡ test → test ≡ false) [
      | true ↦ λ there. absurd (eqb-false _ _ missed (own node there))
      | false ↦ λ absent. refl
    ] refl

-- the node's group keeps a node
pub drop_node_kept : (table : List ℕ) (node : ℕ) (groups : List Group) → AreFull groups → AreMembers table groups
    → is_empty_at (link table node) (drop_node node groups) ≡ false → drop_node node groups ≡ without_node node groups
drop_node_kept table node [] full members kept = refl
drop_node_kept table node (first ∷ rest) full members kept =
    elim (eqb (link table node) first.number) as (λ test. eqb (link table node) first.number ≡ test
    → cond test (is_empty (without node first.nodes)) (is_empty_at (link table node) (drop_node node rest)) ≡ false
    → group_with first.number (without node first.nodes) ∷ drop_node node rest
    ≡ unless_empty first.number (without node first.nodes) (without_node node rest)) [
      | true ↦ λ found some.
          let same = eqb-true _ _ found in
          let absent = absent_from_missed_group table node rest members.1
          (ap (λ number. has_group number rest) same ∙ full.1) in
          ap (λ others. group_with first.number (without node first.nodes) ∷ others)
          (drop_node_absent node rest absent ∙ sym (without_node_absent node rest full.2 absent))
          ∙ sym (unless_empty_full first.number (without node first.nodes) _ some)
      | false ↦ λ missed some.
          let absent : has node first.nodes ≡ false = absent_from_other_group table node first members.0 missed in
          let same = without_absent node first.nodes absent in
          ap (λ others. group_with first.number (without node first.nodes) ∷ others)
          (drop_node_kept table node rest full.2 members.1 some)
          ∙ sym (unless_empty_full first.number (without node first.nodes) _ (ap is_empty same ∙ full.0))
    ] refl kept

-- the node's group goes
without_end_node_places : (number other : ℕ) (nodes others : List ℕ)
    → without (end_place number) (node_places nodes (end_place other ∷ others))
    ≡ cond (eqb number other) (node_places nodes (without (end_place number) others))
    (node_places nodes (end_place other ∷ without (end_place number) others))
without_end_node_places number other [] others = rw (ends_eq number other) refl
without_end_node_places number other (first ∷ rest) others = rw (end_node_eq number first)
    (grind (arith, common_steps, without_end_node_places number other rest others))

pub drop_node_gone : (table : List ℕ) (node : ℕ) (groups : List Group) → AreFull groups → AreMembers table groups
    → has_group (link table node) groups ≡ true → is_empty_at (link table node) (drop_node node groups) ≡ true
    → without (end_place (link table node)) (flat (drop_node node groups)) ≡ flat (without_node node groups)
drop_node_gone table node [] full members found empty = absurd (false≢true found)
drop_node_gone table node (first ∷ rest) full members found empty =
    without_end_node_places (link table node) first.number (without node first.nodes) (flat (drop_node node rest))
    ∙ elim (eqb (link table node) first.number) as (λ test. eqb (link table node) first.number ≡ test
    → cond test (is_empty (without node first.nodes)) (is_empty_at (link table node) (drop_node node rest)) ≡ true
    → cond test (node_places (without node first.nodes) (without (end_place (link table node))
    (flat (drop_node node rest)))) (node_places (without node first.nodes)
    (end_place first.number ∷ without (end_place (link table node)) (flat (drop_node node rest))))
    ≡ flat (unless_empty first.number (without node first.nodes) (without_node node rest))) [
      | true ↦ λ here none.
          let same = eqb-true _ _ here in
          let missed : has_group (link table node) rest ≡ false = ap (λ number. has_group number rest) same ∙ full.1 in
          let absent = absent_from_missed_group table node rest members.1 missed in
          let no_end : has (end_place (link table node)) (flat (drop_node node rest)) ≡ false =
          has_end (link table node) (drop_node node rest) ∙ has_group-drop_node (link table node) node rest
          ∙ missed in
          ap (λ (nodes : List ℕ). node_places nodes (without (end_place (link table node))
          (flat (drop_node node rest)))) (empty_is (without node first.nodes) none)
          ∙ without_absent _ _ no_end ∙ ap flat (drop_node_absent node rest absent
          ∙ sym (without_node_absent node rest full.2 absent))
          ∙ sym (ap flat (unless_empty_empty first.number (without node first.nodes) (without_node node rest) none))
      | false ↦ λ later none.
          let same = without_absent node first.nodes (absent_from_other_group table node first members.0 later) in
          ap (λ places. node_places (without node first.nodes) (end_place first.number ∷ places))
          (drop_node_gone table node rest full.2 members.1 (grind (arith, common_steps)) none)
          ∙ sym (ap flat (unless_empty_full first.number (without node first.nodes) (without_node node rest)
          (ap is_empty same ∙ full.0)))
    ] refl empty

-- Groups after a node has joined, and after one has left.
use Rattle.std.proofs.Common.{◌≡◌, ℕ, true, false, Some, None, cond, ◌||◌, List, [], ◌∷◌, ◌++◌, set, eqb, refl, sym, ap}
use Rattle.std.proofs.Common.{ap₂, ◌∙◌, subst, arith}
use Rattle.std.proofs.lemmas.Grind.{common_steps}
use Rattle.std.proofs.lemmas.Bool.{eqb-true, false≢true}
use Rattle.linked_pending.specs.Listing.{has, AreApart, without}
use Rattle.linked_pending.specs.Links.{link}
use Rattle.linked_pending.specs.Group.{Group, group_with, with_node, unless_empty, without_node, group_of, nodes_of}
use Rattle.linked_pending.specs.Layout.{has_group, has_node, is_empty, AreFull, AreMembers}
use Rattle.linked_pending.proofs.ListingLemmas.{has-append, has-without, without_absent, differs, apart-without}
use Rattle.linked_pending.proofs.ApartLemmas.{without-append, apart_tail, apart_disjoint, apart_replace, apart_insert}
use Rattle.linked_pending.proofs.CrossedLemmas.{link-set_other}

has_last : (node last : ℕ) (nodes : List ℕ) → has node (nodes ++ last ∷ []) ≡ (eqb node last || has node nodes)
has_last node last nodes = has-append node nodes (last ∷ []) ∙ grind (arith, common_steps)

last_full : (node : ℕ) (nodes : List ℕ) → is_empty (nodes ++ node ∷ []) ≡ false
last_full node [] = refl
last_full node (first ∷ rest) = refl

pub has-nodes_of : (node : ℕ) (groups : List Group) → has node (nodes_of groups) ≡ has_node node groups
has-nodes_of node [] = refl
has-nodes_of node (first ∷ rest) = has-append node first.nodes (nodes_of rest)
    ∙ ap (λ later. has node first.nodes || later) (has-nodes_of node rest)

-- a node has joined
pub has_group-with_node : (other number node : ℕ) (groups : List Group)
    → has_group other (with_node number node groups) ≡ (eqb other number || has_group other groups)
has_group-with_node other number node [] = grind (arith, common_steps)
has_group-with_node other number node (first ∷ rest) = grind (
  arith,
  common_steps,
  has_group-with_node other number node rest,
)

pub has_node-with_node : (other number node : ℕ) (groups : List Group)
    → has_node other (with_node number node groups) ≡ (eqb other node || has_node other groups)
has_node-with_node other number node [] = grind (arith, common_steps)
has_node-with_node other number node (first ∷ rest) = grind (
  arith,
  common_steps,
  has_last other node first.nodes,
  has_node-with_node other number node rest,
)

pub full-with_node : (number node : ℕ) (groups : List Group) → AreFull groups → AreFull (with_node number node groups)
full-with_node number node [] full = (refl, refl, tt)
full-with_node number node (first ∷ rest) full =
    elim (eqb number first.number) as (λ test. eqb number first.number ≡ test
    → AreFull (cond test (group_with first.number (first.nodes ++ node ∷ []) ∷ rest)
    (first ∷ with_node number node rest))) [
      | true ↦ λ found. (last_full node first.nodes, full.1, full.2)
      | false ↦ λ missed. (
        full.0,
        grind (
          arith,
          common_steps,
          has_group-with_node first.number number node rest,
          full.1,
        ),
        full-with_node number node rest full.2,
      )
    ] refl

pub members-with_node : (table : List ℕ) (number node : ℕ) (groups : List Group) → link table node ≡ number
    → AreMembers table groups → AreMembers table (with_node number node groups)
members-with_node table number node [] own members = (
  λ other there.
      ap (link table) (eqb-true other node (grind (arith, common_steps))) ∙ own,
  tt,
)
members-with_node table number node (first ∷ rest) own members =
    elim (eqb number first.number) as (λ test. eqb number first.number ≡ test
    → AreMembers table (cond test (group_with first.number (first.nodes ++ node ∷ []) ∷ rest)
    (first ∷ with_node number node rest))) [
      | true ↦ λ found. (
        λ other there. grind (
          arith,
          common_steps,
          has_last other node first.nodes,
          members.0 other,
          eqb-true other node,
          eqb-true number first.number found,
        ),
        members.1,
      )
      | false ↦ λ missed. (members.0, members-with_node table number node rest own members.1)
    ] refl

pub apart-with_node : (number node : ℕ) (groups : List Group) → AreApart (nodes_of groups)
    → has_node node groups ≡ false → AreApart (nodes_of (with_node number node groups))
apart-with_node number node [] apart absent = (refl, tt)
apart-with_node number node (first ∷ rest) apart absent =
    let absent_rest : has_node node rest ≡ false = grind (arith, common_steps) in
    let disjoint : (other : ℕ) → has other first.nodes ≡ true
    → has other (nodes_of (with_node number node rest)) ≡ false = λ other there.
    let later : has_node other rest ≡ false = sym (has-nodes_of other rest)
    ∙ apart_disjoint first.nodes (nodes_of rest) apart other there in
    has-nodes_of other (with_node number node rest) ∙ has_node-with_node other number node rest
    ∙ grind (arith, common_steps, later, eqb-true other node) in
    elim (eqb number first.number) as (λ test. AreApart (nodes_of
    (cond test (group_with first.number (first.nodes ++ node ∷ []) ∷ rest) (first ∷ with_node number node rest)))) [
      | true ↦ apart_insert first.nodes (nodes_of rest) node apart (has-nodes_of node (first ∷ rest) ∙ absent)
      | false ↦ apart_replace first.nodes (nodes_of rest) (nodes_of (with_node number node rest)) apart
          (apart-with_node number node rest (apart_tail first.nodes (nodes_of rest) apart) absent_rest) disjoint
    ]

-- each node's group afterwards, in the words of the contracts, for the proofs of callers
pub group_of-with_node : (other number node : ℕ) (groups : List Group) → has_node node groups ≡ false
    → group_of other (with_node number node groups) ≡ cond (eqb other node) (Some number) (group_of other groups)
group_of-with_node other number node [] absent = grind (arith, common_steps)
group_of-with_node other number node (first ∷ rest) absent =
    elim (eqb number first.number) as (λ test. eqb number first.number ≡ test
    → group_of other (cond test (group_with first.number (first.nodes ++ node ∷ []) ∷ rest)
    (first ∷ with_node number node rest)) ≡ cond (eqb other node) (Some number)
    (cond (has other first.nodes) (Some first.number) (group_of other rest))) [
      | true ↦ λ found. grind (
        arith,
        common_steps,
        has_last other node first.nodes,
        eqb-true number first.number found,
        eqb-true other node,
      )
      | false ↦ λ missed. grind (arith, common_steps, group_of-with_node other number node rest, eqb-true other node)
    ] refl

-- a node has left
pub unless_empty_full : (number : ℕ) (nodes : List ℕ) (others : List Group) → is_empty nodes ≡ false
    → unless_empty number nodes others ≡ group_with number nodes ∷ others
unless_empty_full number [] others full = absurd (false≢true (sym full))
unless_empty_full number (first ∷ rest) others full = refl

pub unless_empty_empty : (number : ℕ) (nodes : List ℕ) (others : List Group) → is_empty nodes ≡ true
    → unless_empty number nodes others ≡ others
unless_empty_empty number [] others empty = refl
unless_empty_empty number (first ∷ rest) others empty = absurd (false≢true empty)

has_group_unless_empty : (other number : ℕ) (nodes : List ℕ) (others : List Group) → has_group other others ≡ false
    → eqb other number ≡ false → has_group other (unless_empty number nodes others) ≡ false
has_group_unless_empty other number [] others absent apart = absent
has_group_unless_empty other number (first ∷ rest) others absent apart = grind (arith, common_steps)

pub has_group-without_node : (other node : ℕ) (groups : List Group) → has_group other groups ≡ false
    → has_group other (without_node node groups) ≡ false
has_group-without_node other node [] absent = refl
has_group-without_node other node (first ∷ rest) absent =
    has_group_unless_empty other first.number (without node first.nodes) (without_node node rest)
    (has_group-without_node other node rest (grind (arith, common_steps))) (grind (arith, common_steps))

pub has_group_before : (other node : ℕ) (groups : List Group) → has_group other (without_node node groups) ≡ true
    → has_group other groups ≡ true
has_group_before other node groups there = elim (has_group other groups) as
    (λ test. has_group other groups ≡ test → test ≡ true) [
      | true ↦ λ found. refl
      | false ↦ λ missed. absurd (false≢true (sym (has_group-without_node other node groups missed) ∙ there))
    ] refl

has_node_unless_empty : (other number : ℕ) (nodes : List ℕ) (others : List Group)
    → has_node other (unless_empty number nodes others) ≡ (has other nodes || has_node other others)
has_node_unless_empty other number [] others = refl
has_node_unless_empty other number (first ∷ rest) others = refl

pub has_node-without_node : (other node : ℕ) (groups : List Group)
    → has_node other (without_node node groups) ≡ cond (eqb other node) false (has_node other groups)
has_node-without_node other node [] = grind (arith, common_steps)
has_node-without_node other node (first ∷ rest) =
    has_node_unless_empty other first.number (without node first.nodes) (without_node node rest)
    ∙ grind (arith, common_steps, has-without other node first.nodes, has_node-without_node other node rest)

full_unless_empty : (number : ℕ) (nodes : List ℕ) (others : List Group) → has_group number others ≡ false
    → AreFull others → AreFull (unless_empty number nodes others)
full_unless_empty number [] others absent full = full
full_unless_empty number (first ∷ rest) others absent full = (refl, absent, full)

pub full-without_node : (node : ℕ) (groups : List Group) → AreFull groups → AreFull (without_node node groups)
full-without_node node [] full = tt
full-without_node node (first ∷ rest) full =
    full_unless_empty first.number (without node first.nodes) (without_node node rest)
    (has_group-without_node first.number node rest full.1) (full-without_node node rest full.2)

members_unless_empty : (table : List ℕ) (number : ℕ) (nodes : List ℕ) (others : List Group)
    → ((node : ℕ) → has node nodes ≡ true → link table node ≡ number) → AreMembers table others
    → AreMembers table (unless_empty number nodes others)
members_unless_empty table number [] others own members = members
members_unless_empty table number (first ∷ rest) others own members = (own, members)

pub members-without_node : (table : List ℕ) (node : ℕ) (groups : List Group) → AreMembers table groups
    → AreMembers table (without_node node groups)
members-without_node table node [] members = tt
members-without_node table node (first ∷ rest) members =
    members_unless_empty table first.number (without node first.nodes) (without_node node rest)
    (λ other there. members.0 other (grind (arith, common_steps, has-without other node first.nodes)))
    (members-without_node table node rest members.1)

nodes_of_unless_empty : (number : ℕ) (nodes : List ℕ) (others : List Group)
    → nodes_of (unless_empty number nodes others) ≡ nodes ++ nodes_of others
nodes_of_unless_empty number [] others = refl
nodes_of_unless_empty number (first ∷ rest) others = refl

pub nodes_of-without_node : (node : ℕ) (groups : List Group) → nodes_of (without_node node groups)
    ≡ without node (nodes_of groups)
nodes_of-without_node node [] = refl
nodes_of-without_node node (first ∷ rest) =
    nodes_of_unless_empty first.number (without node first.nodes) (without_node node rest)
    ∙ ap (λ later. without node first.nodes ++ later) (nodes_of-without_node node rest)
    ∙ sym (without-append node first.nodes (nodes_of rest))

pub apart-without_node : (node : ℕ) (groups : List Group) → AreApart (nodes_of groups)
    → AreApart (nodes_of (without_node node groups))
apart-without_node node groups apart = subst AreApart (sym (nodes_of-without_node node groups))
    (apart-without node (nodes_of groups) apart)

group_of_unless_empty : (other number : ℕ) (nodes : List ℕ) (others : List Group)
    → group_of other (unless_empty number nodes others) ≡ cond (has other nodes) (Some number) (group_of other others)
group_of_unless_empty other number [] others = refl
group_of_unless_empty other number (first ∷ rest) others = refl

pub group_of-without_node : (other node : ℕ) (groups : List Group)
    → group_of other (without_node node groups) ≡ cond (eqb other node) None (group_of other groups)
group_of-without_node other node [] = grind (arith, common_steps)
group_of-without_node other node (first ∷ rest) =
    group_of_unless_empty other first.number (without node first.nodes) (without_node node rest)
    ∙ grind (arith, common_steps, has-without other node first.nodes, group_of-without_node other node rest)

pub group_of_left : (node : ℕ) (groups : List Group) → group_of node (without_node node groups) ≡ None
group_of_left node groups = group_of-without_node node node groups ∙ grind (arith, common_steps)

-- which group a node is in
pub group_of_member : (table : List ℕ) (node : ℕ) (groups : List Group) → AreMembers table groups
    → group_of node groups ≡ cond (has_node node groups) (Some (link table node)) None
group_of_member table node [] members = refl
group_of_member table node (first ∷ rest) members = grind (
  arith,
  common_steps,
  members.0 node,
  group_of_member table node rest members.1,
)

pub absent_from_no_group : (node : ℕ) (groups : List Group) → group_of node groups ≡ None → has_node node groups ≡ false
absent_from_no_group node [] none = refl
absent_from_no_group node (first ∷ rest) none = grind (arith, common_steps, absent_from_no_group node rest)

pub no_group_from_absent : (node : ℕ) (groups : List Group) → has_node node groups ≡ false → group_of node groups ≡ None
no_group_from_absent node [] absent = refl
no_group_from_absent node (first ∷ rest) absent = grind (arith, common_steps, no_group_from_absent node rest)

-- a node of no group of that number isn't in the groups
pub absent_from_missed_group : (table : List ℕ) (node : ℕ) (groups : List Group) → AreMembers table groups
    → has_group (link table node) groups ≡ false → has_node node groups ≡ false
absent_from_missed_group table node [] members missed = refl
absent_from_missed_group table node (first ∷ rest) members missed =
    let later = absent_from_missed_group table node rest members.1 (grind (arith, common_steps)) in
    elim (has node first.nodes) as (λ test. has node first.nodes ≡ test → (test || has_node node rest) ≡ false) [
      | true ↦ λ there. absurd (false≢true (sym missed ∙ grind (arith, common_steps, members.0 node there)))
      | false ↦ λ absent. later
    ] refl

pub group_of_there : (table : List ℕ) (node : ℕ) (groups : List Group) → AreMembers table groups
    → has_node node groups ≡ true → has_group (link table node) groups ≡ true
group_of_there table node groups members there = elim (has_group (link table node) groups) as
    (λ test. has_group (link table node) groups ≡ test → test ≡ true) [
      | true ↦ λ found. refl
      | false ↦ λ missed. absurd (false≢true (sym (absent_from_missed_group table node groups members missed) ∙ there))
    ] refl

-- a node that isn't in the groups is given another group
pub members_set : (table : List ℕ) (node number : ℕ) (groups : List Group) → has_node node groups ≡ false
    → AreMembers table groups → AreMembers (set table node number) groups
members_set table node number [] absent members = tt
members_set table node number (first ∷ rest) absent members = (
  λ other there. link-set_other table node number other (differs other node first.nodes (grind (arith, common_steps))
      there) ∙ members.0 other there,
  members_set table node number rest (grind (arith, common_steps)) members.1,
)

-- a node that isn't in the groups changes nothing by leaving
pub without_node_absent : (node : ℕ) (groups : List Group) → AreFull groups → has_node node groups ≡ false
    → without_node node groups ≡ groups
without_node_absent node [] full absent = refl
without_node_absent node (first ∷ rest) full absent =
    let same = without_absent node first.nodes (grind (arith, common_steps)) in
    ap₂ (λ (nodes : List ℕ) (others : List Group). unless_empty first.number nodes others) same
    (without_node_absent node rest full.2 (grind (arith, common_steps)))
    ∙ unless_empty_full first.number first.nodes rest full.0

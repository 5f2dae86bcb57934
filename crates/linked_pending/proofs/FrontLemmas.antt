-- What the front of a list of groups shows, and what always holds of the two lists.
use Rattle.std.proofs.Common.{◌≡◌, ◌≢◌, ℕ, ◌/◌, ◌<◌, true, false, Some, ◌||◌, List, [], ◌∷◌, ◌++◌, length, eqb, refl}
use Rattle.std.proofs.Common.{sym, ap, ◌∙◌, arith}
use Rattle.std.proofs.lemmas.Grind.{common_steps}
use Rattle.std.proofs.lemmas.Bool.{false≢true}
use Rattle.std.proofs.lemmas.List.Elements.{All-from_recursion}
use Rattle.std.specs.Cmp.{nat_eq_equiv}
use Rattle.std.specs.Prelude.{Option, All, map, slice_get, unwrap_or}
use Rattle.std.proofs.lemmas.Map.Views.{All-from_any}
use Rattle.std.specs.Option.{option_map}
use Rattle.std.specs.List.{AllByRecursion}
use Rattle.linked_pending.specs.declared.pending.Place.{Place}
use Rattle.linked_pending.specs.Listing.{Listing, has, AreApart, first_or}
use Rattle.linked_pending.specs.Links.{link}
use Rattle.linked_pending.specs.Group.{Group, group_with, front_of, group_of, nodes_of}
use Rattle.linked_pending.specs.Layout.{end_place, node_places, flat, parse, has_group, has_node, is_empty, AreFull}
use Rattle.linked_pending.specs.Layout.{AreMembers}
use Rattle.linked_pending.specs.Pending.{IsOrderly, IsQueue, AreQueues}
use Rattle.linked_pending.proofs.ListingLemmas.{has_first, has-append}
use Rattle.linked_pending.proofs.ChainLemmas.{distinct_from_apart}
use Rattle.linked_pending.proofs.ApartLemmas.{apart-append}
use Rattle.linked_pending.proofs.GroupLemmas.{has-nodes_of}

-- the node of a place, in the group that the table gives it
abbrev pub shown : List ℕ → ℕ → Option Place
shown table place = Some (record { group = link table (place / 2); node = place / 2 })

first_shown : (table : List ℕ) (number : ℕ) (nodes others : List ℕ) (place : ℕ) → is_empty nodes ≡ false
    → ((node : ℕ) → has node nodes ≡ true → link table node ≡ number)
    → first_or 0 (node_places nodes (end_place number ∷ others)) ≡ place
    → (shown table place ≡ option_map (λ node. record { group = number; node = node }) (slice_get nodes 0))
    × (has (place / 2) nodes ≡ true)
first_shown table number [] others place full own place_is = absurd (false≢true (sym full))
first_shown table number (first ∷ rest) others place full own place_is =
    let half : place / 2 ≡ first = omega arith in
    let number_is : link table first ≡ number = own first (has_first first rest) in
    rw half (rw number_is refl, grind (arith, common_steps))

front_flat : (table : List ℕ) (groups : List Group) (place : ℕ) → AreFull groups → AreMembers table groups
    → first_or 0 (flat groups) ≡ place → place ≢ 0 → (shown table place ≡ front_of groups)
    × (has_node (place / 2) groups ≡ true)
front_flat table [] place full members place_is linked = absurd (linked (sym place_is))
front_flat table (first ∷ rest) place full members place_is linked =
    let front = first_shown table first.number first.nodes (flat rest) place full.0 members.0 place_is in
    (front.0, grind (arith, common_steps, front.1))

no_groups : (groups : List Group) → ((number : ℕ) → has_group number groups ≡ true → ⊥) → groups ≡ []
no_groups [] none = refl
no_groups (first ∷ rest) none = absurd (none first.number (grind (arith, common_steps)))

-- a chain without room has no groups, nor has one that begins with its own place
pub empty_without_room : (table : List ℕ) (chain : Listing) → IsQueue table chain → chain.room ≡ 0
    → parse chain.items ≡ []
empty_without_room table chain queue no_room = no_groups (parse chain.items)
    (λ number there. let bound = queue.room number (queue.groups_in number there) in absurd (omega arith))

pub front_shown : (table : List ℕ) (chain : Listing) (place : ℕ) → IsQueue table chain → place ≡ first_or 0 chain.items
    → place ≢ 0 → (shown table place ≡ front_of (parse chain.items)) × (place / 2 < length table)
front_shown table chain place queue place_is linked =
    let front = front_flat table (parse chain.items) place queue.full queue.members
    (ap (first_or 0) (sym queue.is_flat) ∙ sym place_is) linked in
    (front.0, queue.nodes_in _ front.1)

-- the front is in the group that it names
first_member : (number : ℕ) (nodes : List ℕ) (rest : List Group) (place : Place)
    → Some place ≡ front_of (group_with number nodes ∷ rest) → group_of place.node (group_with number nodes ∷ rest)
    ≡ Some place.group
first_member number [] rest place front = absurd (cc)
first_member number (node ∷ nodes) rest place front =
    let shown_is : place ≡ record { group = number; node = node } =
    ap (λ (option : Option Place). unwrap_or option place) front in
    let node_is : place.node ≡ node = ap (λ (shown : Place). shown.node) shown_is in
    let group_is : number ≡ place.group = sym (ap (λ (shown : Place). shown.group) shown_is) in
    rw node_is (grind (arith, common_steps, group_is))

pub front_member : (groups : List Group) (place : Place) → Some place ≡ front_of groups
    → group_of place.node groups ≡ Some place.group
front_member [] place front = absurd (cc)
front_member (first ∷ rest) place front = first_member first.number first.nodes rest place front

-- the facts of the two lists in std's words
full_each : (groups : List Group) → AreFull groups → AllByRecursion (λ group. group.nodes ≢ []) groups
full_each [] full = tt
full_each (first ∷ rest) full = (λ empty. false≢true (sym full.0 ∙ ap is_empty empty), full_each rest full.2)

full_all : (groups : List Group) → AreFull groups → All (λ group. group.nodes ≢ []) groups
full_all groups full = All-from_recursion (λ group. group.nodes ≢ []) groups (full_each groups full)

has-numbers : (number : ℕ) (groups : List Group) → has number (map (λ (group : Group). group.number) groups)
    ≡ has_group number groups
has-numbers number [] = refl
has-numbers number (first ∷ rest) = ap (λ later. eqb number first.number || later) (has-numbers number rest)

apart-numbers : (groups : List Group) → AreFull groups → AreApart (map (λ (group : Group). group.number) groups)
apart-numbers [] full = tt
apart-numbers (first ∷ rest) full = (has-numbers first.number rest ∙ full.1, apart-numbers rest full.2)

each_within : (groups : List Group) (room : ℕ) → ((number : ℕ) → has_group number groups ≡ true → number < room)
    → AllByRecursion (λ group. group.number < room) groups
each_within [] room within = tt
each_within (first ∷ rest) room within = (
  within first.number (grind (arith, common_steps)),
  each_within rest room
      (λ number there. within number (grind (arith, common_steps))),
)

numbers_within : (groups : List Group) (room : ℕ) → ((number : ℕ) → has_group number groups ≡ true → number < room)
    → All (λ group. group.number < room) groups
numbers_within groups room within = All-from_recursion (λ group. group.number < room) groups
    (each_within groups room within)

either_within : (waiting frozen : List Group) (room : ℕ) → ((node : ℕ) → has_node node waiting ≡ true → node < room)
    → ((node : ℕ) → has_node node frozen ≡ true → node < room)
    → All (λ node. node < room) (nodes_of waiting ++ nodes_of frozen)
either_within waiting frozen room waiting_in frozen_in =
    All-from_any nat_eq_equiv (λ node. node < room) (nodes_of waiting ++ nodes_of frozen) (λ node there.
    grind (
      arith,
      common_steps,
      there,
      has-append node (nodes_of waiting) (nodes_of frozen),
      has-nodes_of node waiting,
      has-nodes_of node frozen,
      waiting_in node,
      frozen_in node,
    ))

pub orderly : (table : List ℕ) (waiting frozen : Listing) → AreQueues table waiting frozen
    → IsOrderly (record { room = length table; waiting = parse waiting.items; frozen = parse frozen.items })
orderly table waiting frozen queues = record {
  waiting_full = full_all _ queues.first.full;
  frozen_full = full_all _ queues.second.full;
  waiting_once = distinct_from_apart _ (apart-numbers _ queues.first.full);
  frozen_once = distinct_from_apart _ (apart-numbers _ queues.second.full);
  nodes_once = distinct_from_apart _ (apart-append _ _ queues.first.apart queues.second.apart (λ node there.
      has-nodes_of node (parse frozen.items) ∙ queues.once node
      (sym (has-nodes_of node (parse waiting.items)) ∙ there)));
  waiting_within = numbers_within (parse waiting.items) (length table) queues.first.groups_in;
  frozen_within = numbers_within (parse frozen.items) (length table) queues.second.groups_in;
  nodes_within = either_within (parse waiting.items) (parse frozen.items) (length table)
      queues.first.nodes_in queues.second.nodes_in;
}

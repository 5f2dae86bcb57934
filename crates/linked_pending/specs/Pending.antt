-- Two lists of groups, those that wait and those that are frozen, in two chains beside a table of groups.
use Rattle.std.specs.Prelude.{◌≡◌, ◌≢◌, ℕ, ◌<◌, ◌*◌, ◌+◌, ◌^◌, true, false, nat_eq, List, [], ◌++◌, length, map, All}
use Rattle.std.specs.List.{IsDistinct}
use Rattle.linked_pending.specs.Listing.{Listing, AreApart}
use Rattle.linked_pending.specs.Group.{Group, nodes_of}
use Rattle.linked_pending.specs.Layout.{flat, parse, has_group, has_node, AreFull, AreMembers}

-- the room, which bounds the numbers of nodes and of groups, and the two lists of groups
pub record Queues : Type 0 where
  pub room : ℕ
  pub waiting : List Group
  pub frozen : List Group

-- no group is empty or stands twice in a list, no node stands twice in the two lists, and all are below the room
pub record IsOrderly (queues : Queues) : Type 0 where
  pub waiting_full : All (λ group. group.nodes ≢ []) queues.waiting
  pub frozen_full : All (λ group. group.nodes ≢ []) queues.frozen
  pub waiting_once : IsDistinct nat_eq (map (λ (group : Group). group.number) queues.waiting)
  pub frozen_once : IsDistinct nat_eq (map (λ (group : Group). group.number) queues.frozen)
  pub nodes_once : IsDistinct nat_eq (nodes_of queues.waiting ++ nodes_of queues.frozen)
  pub waiting_within : All (λ group. group.number < queues.room) queues.waiting
  pub frozen_within : All (λ group. group.number < queues.room) queues.frozen
  pub nodes_within : All (λ node. node < queues.room) (nodes_of queues.waiting ++ nodes_of queues.frozen)

-- the chain is a flat list of groups, by the table that gives each node's group
pub record IsQueue (table : List ℕ) (chain : Listing) : Type 0 where
  pub room : (number : ℕ) → number < length table → 2 * number + 2 < chain.room
  pub is_flat : chain.items ≡ flat (parse chain.items)
  pub full : AreFull (parse chain.items)
  pub apart : AreApart (nodes_of (parse chain.items))
  pub members : AreMembers table (parse chain.items)
  pub groups_in : (number : ℕ) → has_group number (parse chain.items) ≡ true → number < length table
  pub nodes_in : (node : ℕ) → has_node node (parse chain.items) ≡ true → node < length table

-- both chains are such lists, and no node is in both
pub record AreQueues (table : List ℕ) (waiting frozen : Listing) : Type 0 where
  pub fits : 2 * length table < 2 ^ 32
  pub first : IsQueue table waiting
  pub second : IsQueue table frozen
  pub once : (node : ℕ) → has_node node (parse waiting.items) ≡ true → has_node node (parse frozen.items) ≡ false

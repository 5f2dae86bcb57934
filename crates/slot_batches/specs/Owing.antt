-- How slots are kept over two lists of groups. A slot has two nodes, of which one can wait while the other is frozen;
-- the side says which parity waits. Nodes 0 and 1 are no slot's.
use Rattle.std.specs.Prelude.{◌≡◌, ℕ, ◌+◌, ◌-◌, ◌*◌, ◌/◌, ◌%◌, ◌^◌, ◌<◌, ◌≤◌, ◌⊎◌, Bool, true, List, length}
use Rattle.std.specs.Prelude.{if◌then◌else◌, Option, Some, None}
use Rattle.linked_pending.specs.Links.{link}
use Rattle.linked_pending.specs.Listing.{AreApart}
use Rattle.linked_pending.specs.Group.{Group, group_of, nodes_of}
use Rattle.linked_pending.specs.Layout.{has_node, AreFull}
use Rattle.linked_pending.specs.Pending.{Queues}
use Rattle.slot_batches.specs.Slots.{owes, flag_of}

-- a slot's node of one side
abbrev pub node_of : ℕ → ℕ → ℕ
node_of side slot = 2 * slot + 2 + side

-- a number, or another where there is none
abbrev pub or_else : Option ℕ → ℕ → ℕ
or_else None other = other
or_else (Some number) other = number

-- what the peer has of a slot once the open batch is through
abbrev pub expected : List ℕ → List Group → ℕ → ℕ → ℕ
expected sents frozen side slot = or_else (group_of (node_of (1 - side) slot) frozen) (link sents slot)

-- a node of one side of a slot
pub record IsNode (side slots node : ℕ) : Type 0 where
  pub above : 2 ≤ node
  pub parity : node % 2 ≡ side
  pub slot : node / 2 < slots + 1

-- what holds of the lists and the groups, whichever slots wait
pub record IsKept (nows sents : List ℕ) (queues : Queues) (side : ℕ) : Type 0 where
  pub fits : queues.room < 2 ^ 63
  pub sides : side ≤ 1
  pub same_length : length sents ≡ length nows
  pub nodes : (slot : ℕ) → slot < length nows → 2 * slot + 3 < queues.room
  pub values : (slot : ℕ) → slot < length nows → link nows slot < queues.room
  pub parity : (slot : ℕ) → slot < length nows → link sents slot % 2 ≡ link nows slot % 2
  pub frozen_parity : (slot number : ℕ) → slot < length nows
      → group_of (node_of (1 - side) slot) queues.frozen ≡ Some number → number % 2 ≡ link nows slot % 2
  pub waiting_in : (node : ℕ) → has_node node queues.waiting ≡ true → (node < 2) ⊎ IsNode side (length nows) node
  pub frozen_in : (node : ℕ) → has_node node queues.frozen ≡ true → IsNode (1 - side) (length nows) node
  pub waiting_full : AreFull queues.waiting
  pub frozen_full : AreFull queues.frozen
  pub waiting_apart : AreApart (nodes_of queues.waiting)
  pub frozen_apart : AreApart (nodes_of queues.frozen)

-- a slot waits, with the value that it is to have, just where that is owed after the open batch
abbrev pub Waits : List ℕ → List ℕ → Queues → ℕ → ℕ → Bool → Type 0
Waits nows sents queues side slot again =
    group_of (node_of side slot) queues.waiting
    ≡ (if owes (expected sents queues.frozen side slot) (link nows slot) again then Some (link nows slot) else None)

-- each slot waits as it is owed, by a test that tells which are to be sent again
abbrev pub AllWaitBy : List ℕ → List ℕ → Queues → ℕ → (ℕ → Bool) → Type 0
AllWaitBy nows sents queues side again =
    (slot : ℕ) → slot < length nows → Waits nows sents queues side slot (again slot)

-- the same by the two flags
abbrev pub AllWait : List ℕ → List ℕ → Queues → ℕ → Bool → Bool → Type 0
AllWait nows sents queues side even odd =
    AllWaitBy nows sents queues side (λ slot. flag_of even odd (link nows slot))

-- nodes 0 and 1 wait no longer, and all else is as before
pub record HasUnmarked (old new : Queues) : Type 0 where
  pub room : new.room ≡ old.room
  pub frozen : new.frozen ≡ old.frozen
  pub groups : (node : ℕ) → 2 ≤ node → group_of node new.waiting ≡ group_of node old.waiting
  pub nodes : (node : ℕ) → has_node node new.waiting ≡ true → (2 ≤ node) × (has_node node old.waiting ≡ true)
  pub full : AreFull old.waiting → AreFull new.waiting
  pub apart : AreApart (nodes_of old.waiting) → AreApart (nodes_of new.waiting)

-- nodes 0 and 1 may wait, and all else is as before
pub record HasMarked (old new : Queues) : Type 0 where
  pub room : new.room ≡ old.room
  pub frozen : new.frozen ≡ old.frozen
  pub groups : (node : ℕ) → 2 ≤ node → group_of node new.waiting ≡ group_of node old.waiting
  pub nodes : (node : ℕ) → has_node node new.waiting ≡ true → (node < 2) ⊎ (has_node node old.waiting ≡ true)
  pub full : AreFull old.waiting → AreFull new.waiting
  pub apart : AreApart (nodes_of old.waiting) → AreApart (nodes_of new.waiting)

-- no node of the slot is in a group
pub record IsOut (queues : Queues) (slot : ℕ) : Type 0 where
  pub even_waiting : group_of (node_of 0 slot) queues.waiting ≡ None
  pub odd_waiting : group_of (node_of 1 slot) queues.waiting ≡ None
  pub even_frozen : group_of (node_of 0 slot) queues.frozen ≡ None
  pub odd_frozen : group_of (node_of 1 slot) queues.frozen ≡ None

-- the slots below a number have no value and stand in no group, and the others have what they had
pub record HasEmptied (nows later sents sent_later : List ℕ) (old new : Queues) (slots : ℕ) : Type 0 where
  pub same_length : length later ≡ length nows
  pub sent_length : length sent_later ≡ length nows
  pub room : new.room ≡ old.room
  pub values : (slot : ℕ) → slot < slots → link later slot ≡ link nows slot % 2
  pub nothing_sent : (slot : ℕ) → slot < slots → link sent_later slot ≡ link nows slot % 2
  pub others : (slot : ℕ) → slots ≤ slot → link later slot ≡ link nows slot
  pub out : (slot : ℕ) → slot < slots → IsOut new slot
  pub kept : (side : ℕ) → IsKept nows sents old side → IsKept later sent_later new side

-- What a slot's node leaves of the groups when it leaves them or joins them.
use Rattle.std.proofs.Common.{◌≡◌, ◌≢◌, ℕ, ◌<◌, ◌⊎◌, ◌||◌, true, false, Some, None, cond, List}
use Rattle.std.proofs.Common.{length, refl, sym, ap, subst, ◌∙◌, inl, inr, arith}
use Rattle.std.proofs.lemmas.Grind.{common_steps}
use Rattle.std.proofs.lemmas.Bool.{ne_eqb, cases_eq, eq-eqb}
use Rattle.linked_pending.specs.Listing.{AreApart}
use Rattle.linked_pending.specs.Group.{Group, with_node, without_node, group_of, nodes_of}
use Rattle.linked_pending.specs.Layout.{has_node, AreFull}
use Rattle.linked_pending.specs.Pending.{Queues}
use Rattle.linked_pending.proofs.GroupLemmas.{has_node-with_node, has_node-without_node, full-with_node}
use Rattle.linked_pending.proofs.GroupLemmas.{full-without_node, apart-with_node, apart-without_node}
use Rattle.linked_pending.proofs.GroupLemmas.{group_of-with_node, group_of-without_node, no_group_from_absent}
use Rattle.slot_batches.specs.Owing.{node_of, IsNode, IsKept}

-- the same lists, where other groups wait
abbrev pub with_waiting : Queues → List Group → Queues
with_waiting queues waiting = record { room = queues.room; waiting = waiting; frozen = queues.frozen }

-- the nodes of groups that may wait
abbrev pub MayWait : ℕ → ℕ → List Group → Type 0
MayWait side slots groups =
    (node : ℕ) → has_node node groups ≡ true → (node < 2) ⊎ IsNode side slots node

pub kept_waiting : (nows sents : List ℕ) (queues : Queues) (side : ℕ) (waiting : List Group)
    → IsKept nows sents queues side → MayWait side (length nows) waiting → AreFull waiting
    → AreApart (nodes_of waiting) → IsKept nows sents (with_waiting queues waiting) side
kept_waiting nows sents queues side waiting kept within full apart = record {
  fits = kept.fits;
  sides = kept.sides;
  same_length = kept.same_length;
  nodes = kept.nodes;
  values = kept.values;
  parity = kept.parity;
  frozen_parity = kept.frozen_parity;
  waiting_in = within;
  frozen_in = kept.frozen_in;
  waiting_full = full;
  frozen_full = kept.frozen_full;
  waiting_apart = apart;
  frozen_apart = kept.frozen_apart;
}

pub may_wait-without_node : (side slots node : ℕ) (groups : List Group) → MayWait side slots groups
    → MayWait side slots (without_node node groups)
may_wait-without_node side slots node groups within other there =
    within other (grind (arith, common_steps, has_node-without_node other node groups))

pub may_wait-with_node : (side slots number node : ℕ) (groups : List Group)
    → ((node < 2) ⊎ IsNode side slots node) → MayWait side slots groups
    → MayWait side slots (with_node number node groups)
may_wait-with_node side slots number node groups new within other there = elim (cases_eq other node) [
  | inl same ↦ subst (λ m. (m < 2) ⊎ IsNode side slots m) (sym same) new
  | inr differs ↦ within other (sym (has_node-with_node other number node groups
      ∙ ap (λ test. test || has_node other groups) (ne_eqb other node differs)) ∙ there)
]

pub absent_once_left : (node : ℕ) (groups : List Group) → has_node node (without_node node groups) ≡ false
absent_once_left node groups = has_node-without_node node node groups ∙ grind (arith, common_steps)

pub group_of_other : (other number node : ℕ) (groups : List Group) → other ≢ node
    → group_of other (with_node number node (without_node node groups)) ≡ group_of other groups
group_of_other other number node groups differs =
    group_of-with_node other number node (without_node node groups) (absent_once_left node groups)
    ∙ ap (λ test. cond test (Some number) (group_of other (without_node node groups))) (ne_eqb other node differs)
    ∙ group_of-without_node other node groups
    ∙ ap (λ test. cond test None (group_of other groups)) (ne_eqb other node differs)

pub group_of_gone : (other node : ℕ) (groups : List Group) → other ≢ node
    → group_of other (without_node node groups) ≡ group_of other groups
group_of_gone other node groups differs = group_of-without_node other node groups
    ∙ ap (λ test. cond test None (group_of other groups)) (ne_eqb other node differs)

pub group_of_joined : (number node : ℕ) (groups : List Group)
    → group_of node (with_node number node (without_node node groups)) ≡ Some number
group_of_joined number node groups =
    group_of-with_node node number node (without_node node groups) (absent_once_left node groups)
    ∙ ap (λ test. cond test (Some number) (group_of node (without_node node groups))) (eq-eqb node node refl)

module _ (nows sents : List ℕ) (queues : Queues) (side slot : ℕ) (kept : IsKept nows sents queues side)
    (slot_in : slot < length nows) where
  -- the node that may wait is never frozen
  pub none_frozen : group_of (node_of side slot) queues.frozen ≡ None
  none_frozen = no_group_from_absent (node_of side slot) queues.frozen
      (elim (has_node (node_of side slot) queues.frozen) as
      (λ test. has_node (node_of side slot) queues.frozen ≡ test → test ≡ false) [
        | true ↦ λ there.
            let is = kept.frozen_in (node_of side slot) there in
            let parity = is.parity in
            let sides = kept.sides in
            absurd (omega arith)
        | false ↦ λ absent. refl
      ] refl)

  is_node : IsNode side (length nows) (node_of side slot)
  is_node =
      let sides = kept.sides in
      record { above = omega arith; parity = omega arith; slot = omega arith }

  pub left_kept : IsKept nows sents (with_waiting queues (without_node (node_of side slot) queues.waiting)) side
  left_kept = kept_waiting nows sents queues side _ kept
      (may_wait-without_node side (length nows) (node_of side slot) queues.waiting kept.waiting_in)
      (full-without_node (node_of side slot) queues.waiting kept.waiting_full)
      (apart-without_node (node_of side slot) queues.waiting kept.waiting_apart)

  pub joined_kept : (number : ℕ) → IsKept nows sents (with_waiting queues
      (with_node number (node_of side slot) (without_node (node_of side slot) queues.waiting))) side
  joined_kept number = kept_waiting nows sents queues side _ kept
      (may_wait-with_node side (length nows) number (node_of side slot) _ (inr is_node) left_kept.waiting_in)
      (full-with_node number (node_of side slot) _ left_kept.waiting_full)
      (apart-with_node number (node_of side slot) _ left_kept.waiting_apart
      (absent_once_left (node_of side slot) queues.waiting))

-- What waits becomes the open batch.
use Rattle.std.proofs.Common.{◌≡◌, ℕ, ◌+◌, ◌-◌, ◌*◌, ◌%◌, ◌<◌, ◌^◌, Bool, true, false, Some, None, Option, cond, List}
use Rattle.std.proofs.Common.{[]}
use Rattle.std.proofs.Common.{length, refl, sym, ap, ap₂, subst, ◌∙◌, inl, inr, arith}
use Rattle.std.proofs.lemmas.Grind.{common_steps}
use Rattle.std.proofs.lemmas.Bool.{false≢true}
use Rattle.linked_pending.specs.Links.{link}
use Rattle.linked_pending.specs.Listing.{has, AreApart}
use Rattle.linked_pending.specs.Group.{Group, group_of, nodes_of}
use Rattle.linked_pending.specs.Layout.{has_node, AreFull}
use Rattle.linked_pending.specs.Pending.{Queues}
use Rattle.linked_pending.proofs.GroupLemmas.{has-nodes_of}
use Rattle.slot_batches.specs.Left.{value_left, slots_of, items_of}
use Rattle.slot_batches.specs.Slots.{owes, flag_of}
use Rattle.slot_batches.specs.Owing.{node_of, or_else, expected, IsNode, IsKept, AllWait, HasMarked, HasUnmarked}
use Rattle.slot_batches.proofs.LeftLemmas.{AreOfSide, value_left-items_of, slots_of-items_of, apart-items_of}

-- the lists of which what waited is frozen
abbrev pub turned : Queues → Queues
turned queues = record { room = queues.room; waiting = []; frozen = queues.waiting }

-- a node of some slot's side
pub of_side : (side slots : ℕ) (groups : List Group)
    → ((node : ℕ) → has_node node groups ≡ true → IsNode side slots node) → AreOfSide side (nodes_of groups)
of_side side slots groups are node there =
    let is = are node (sym (has-nodes_of node groups) ∙ there) in
    (is.above, is.parity)

-- a batch that is through leaves nothing owed of a slot that it had, or of one that wasn't owed
settled : (was now : ℕ) (again : Bool)
    → owes (or_else (cond (owes was now again) (Some now) None) was) now false ≡ false
settled was now again = elim (owes was now again) as (λ test. owes was now again ≡ test
    → owes (or_else (cond test (Some now) None) was) now false ≡ false) [
      | true ↦ λ owed. grind (arith, common_steps)
      | false ↦ λ not_owed. grind (arith, common_steps)
    ] refl

some_now : (test : Bool) (now number : ℕ) → cond test (Some now) None ≡ Some number → now ≡ number
some_now true now number same = ap (λ (o : Option ℕ). or_else o 0) same
some_now false now number same = absurd (cc)

module _ (nows sents : List ℕ) (old mid new : Queues) (side : ℕ) (even odd : Bool) (kept : IsKept nows sents old side)
    (waits : AllWait nows sents old side even odd) (none : old.frozen ≡ []) (un : HasUnmarked old mid)
    (mark : HasMarked (turned mid) new) where
  -- with nothing frozen the peer has what was sent
  waited : (slot : ℕ) → slot < length nows → group_of (node_of side slot) old.waiting
      ≡ cond (owes (link sents slot) (link nows slot) (flag_of even odd (link nows slot))) (Some (link nows slot)) None
  waited slot within = waits slot within ∙ ap (λ (frozen : List Group). cond (owes (expected sents frozen side slot)
      (link nows slot) (flag_of even odd (link nows slot))) (Some (link nows slot)) None) none

  same_side : 1 - (1 - side) ≡ side
  same_side = let sides = kept.sides in omega arith

  -- the group of a slot's node in the batch
  frozen_group : (slot : ℕ) → group_of (node_of side slot) new.frozen ≡ group_of (node_of side slot) old.waiting
  frozen_group slot = ap (group_of (node_of side slot)) mark.frozen ∙ un.groups (node_of side slot) (omega arith)

  pub frozen_is : (slot : ℕ) → slot < length nows → group_of (node_of side slot) new.frozen
      ≡ cond (owes (link sents slot) (link nows slot) (flag_of even odd (link nows slot))) (Some (link nows slot)) None
  frozen_is slot within = frozen_group slot ∙ waited slot within

  pub frozen_nodes : (node : ℕ) → has_node node new.frozen ≡ true → IsNode side (length nows) node
  frozen_nodes node there =
      let was = un.nodes node (sym (ap (has_node node) mark.frozen) ∙ there) in
      let above = was.0 in
      elim (kept.waiting_in node was.1) [
        | inl below ↦ absurd (omega arith)
        | inr is ↦ is
      ]

  pub frozen_kept : IsKept nows sents new (1 - side)
  frozen_kept = record {
    fits = subst (λ n. n < 2 ^ 63) (sym (mark.room ∙ un.room)) kept.fits;
    sides = omega arith;
    same_length = kept.same_length;
    nodes = λ slot within. subst (λ n. 2 * slot + 3 < n) (sym (mark.room ∙ un.room)) (kept.nodes slot within);
    values = λ slot within. subst (λ n. link nows slot < n) (sym (mark.room ∙ un.room)) (kept.values slot within);
    parity = kept.parity;
    frozen_parity = λ slot number within is.
        let here = subst (λ s. group_of (node_of s slot) new.frozen ≡ Some number) same_side is in
        ap (λ n. n % 2) (sym (some_now _ (link nows slot) number (sym (frozen_is slot within) ∙ here)));
    waiting_in = λ node there. elim (mark.nodes node there) [
      | inl below ↦ inl below
      | inr before ↦ absurd (false≢true before)
    ];
    frozen_in = λ node there. subst (λ s. IsNode s (length nows) node) (sym same_side) (frozen_nodes node there);
    waiting_full = mark.full tt;
    frozen_full = subst AreFull (sym mark.frozen) (un.full kept.waiting_full);
    waiting_apart = mark.apart tt;
    frozen_apart = subst (λ (groups : List Group). AreApart (nodes_of groups)) (sym mark.frozen)
        (un.apart kept.waiting_apart);
  }

  nothing_waits : (slot : ℕ) → group_of (node_of (1 - side) slot) new.waiting ≡ None
  nothing_waits slot = mark.groups (node_of (1 - side) slot) (omega arith)

  flag_off : (value : ℕ) → flag_of false false value ≡ false
  flag_off value = grind (arith, common_steps)

  pub frozen_waits : AllWait nows sents new (1 - side) false false
  frozen_waits slot within =
      let is : expected sents new.frozen (1 - side) slot ≡ or_else (cond (owes (link sents slot) (link nows slot)
      (flag_of even odd (link nows slot))) (Some (link nows slot)) None) (link sents slot) =
      ap (λ s. or_else (group_of (node_of s slot) new.frozen) (link sents slot)) same_side
      ∙ ap (λ o. or_else o (link sents slot)) (frozen_is slot within) in
      let off = ap₂ (λ (was : ℕ) (again : Bool). owes was (link nows slot) again) is (flag_off (link nows slot))
      ∙ settled (link sents slot) (link nows slot) (flag_of even odd (link nows slot)) in
      nothing_waits slot ∙ sym (ap (λ test. cond test (Some (link nows slot)) None) off)

  frozen_side : AreOfSide side (nodes_of new.frozen)
  frozen_side = of_side side (length nows) new.frozen frozen_nodes

  pub left_owed : (slot : ℕ) → slot < length nows → value_left (items_of new.frozen) slot
      ≡ cond (owes (link sents slot) (link nows slot) (flag_of even odd (link nows slot))) (Some (link nows slot)) None
  left_owed slot within = value_left-items_of side slot new.frozen frozen_side ∙ frozen_is slot within

  pub left_within : (slot : ℕ) → has slot (slots_of (items_of new.frozen)) ≡ true → slot < length nows
  left_within slot there =
      let is = frozen_nodes (node_of side slot) (sym (slots_of-items_of side slot new.frozen frozen_side) ∙ there) in
      let below = is.slot in
      let sides = kept.sides in
      omega arith

  pub left_once : AreApart (slots_of (items_of new.frozen))
  left_once = apart-items_of side new.frozen frozen_side frozen_kept.frozen_apart

-- The first item of the open batch is passed.
use Rattle.std.proofs.Common.{◌≡◌, ◌≢◌, ℕ, ◌-◌, ◌/◌, ◌%◌, ◌<◌, Bool, true, false, Some, None, cond, List}
use Rattle.std.proofs.Common.{length, set, refl, sym, ap, ap₂, subst, ◌∙◌, inl, inr, arith}
use Rattle.std.proofs.lemmas.Grind.{common_steps}
use Rattle.std.proofs.lemmas.Bool.{cases_eq, eq-eqb, ne_eqb}
use Rattle.linked_pending.specs.Links.{link}
use Rattle.linked_pending.specs.Group.{Group, without_node, group_of}
use Rattle.linked_pending.specs.Layout.{has_node}
use Rattle.linked_pending.specs.Pending.{Queues}
use Rattle.linked_pending.proofs.CrossedLemmas.{link-set_same, link-set_other}
use Rattle.linked_pending.proofs.GroupLemmas.{has_node-without_node, full-without_node, apart-without_node}
use Rattle.linked_pending.proofs.GroupLemmas.{group_of-without_node, no_group_from_absent}
use Rattle.slot_batches.specs.Slots.{owes, flag_of}
use Rattle.slot_batches.specs.Owing.{node_of, or_else, expected, IsNode, IsKept, AllWait}

-- the lists without a frozen node
abbrev pub passed : Queues → ℕ → Queues
passed queues node = record {
  room = queues.room;
  waiting = queues.waiting;
  frozen = without_node node queues.frozen;
}

pub some_group : (node number : ℕ) (groups : List Group) → group_of node groups ≡ Some number
    → has_node node groups ≡ true
some_group node number groups is = elim (has_node node groups) as (λ test. has_node node groups ≡ test → test ≡ true) [
  | true ↦ λ there. refl
  | false ↦ λ absent.
      let none : None ≡ Some number = sym (no_group_from_absent node groups absent) ∙ is in
      absurd (cc)
] refl

module _ (nows sents : List ℕ) (queues : Queues) (side node number : ℕ) (kept : IsKept nows sents queues side)
    (front : group_of node queues.frozen ≡ Some number) where
  pub is_node : IsNode (1 - side) (length nows) node
  is_node = kept.frozen_in node (some_group node number queues.frozen front)

  pub slot_in : node / 2 - 1 < length nows
  slot_in =
      let above = is_node.above in
      let below = is_node.slot in
      omega arith

  node_is : node_of (1 - side) (node / 2 - 1) ≡ node
  node_is =
      let above = is_node.above in
      let parity = is_node.parity in
      let sides = kept.sides in
      omega arith

  pub not_waiting : group_of node queues.waiting ≡ None
  not_waiting = no_group_from_absent node queues.waiting (elim (has_node node queues.waiting) as
      (λ test. has_node node queues.waiting ≡ test → test ≡ false) [
        | true ↦ λ there.
            let above = is_node.above in
            let parity = is_node.parity in
            let sides = kept.sides in
            elim (kept.waiting_in node there) [
              | inl below ↦ absurd (omega arith)
              | inr other ↦ let otherwise = other.parity in absurd (omega arith)
            ]
        | false ↦ λ absent. refl
      ] refl)

  front_parity : number % 2 ≡ link nows (node / 2 - 1) % 2
  front_parity = kept.frozen_parity (node / 2 - 1) number slot_in
      (ap (λ n. group_of n queues.frozen) node_is ∙ front)

  sents_in : node / 2 - 1 < length sents
  sents_in = subst (λ n. node / 2 - 1 < n) (sym kept.same_length) slot_in

  -- what is left of another slot stays
  left_other : (slot : ℕ) → slot ≢ node / 2 - 1 → group_of (node_of (1 - side) slot) (without_node node queues.frozen)
      ≡ group_of (node_of (1 - side) slot) queues.frozen
  left_other slot differs =
      let is = node_is in
      let apart : node_of (1 - side) slot ≢ node = λ same. differs (omega arith) in
      group_of-without_node (node_of (1 - side) slot) node queues.frozen
      ∙ ap (λ test. cond test None (group_of (node_of (1 - side) slot) queues.frozen)) (ne_eqb _ _ apart)

  left_here : group_of (node_of (1 - side) (node / 2 - 1)) (without_node node queues.frozen) ≡ None
  left_here = ap (λ n. group_of n (without_node node queues.frozen)) node_is
      ∙ group_of-without_node node node queues.frozen
      ∙ ap (λ test. cond test None (group_of node queues.frozen)) (eq-eqb node node refl)

  -- and after the batch the peer has of each slot what it was to have
  expected_same : (slot : ℕ) → expected (set sents (node / 2 - 1) number) (without_node node queues.frozen) side slot
      ≡ expected sents queues.frozen side slot
  expected_same slot = elim (cases_eq slot (node / 2 - 1)) [
    | inl same ↦
        let sent = link-set_same sents (node / 2 - 1) number sents_in in
        let was : group_of (node_of (1 - side) (node / 2 - 1)) queues.frozen ≡ Some number =
        ap (λ n. group_of n queues.frozen) node_is ∙ front in
        subst (λ s. expected (set sents (node / 2 - 1) number) (without_node node queues.frozen) side s
        ≡ expected sents queues.frozen side s) (sym same)
        (ap (λ o. or_else o (link (set sents (node / 2 - 1) number) (node / 2 - 1))) left_here ∙ sent
        ∙ sym (ap (λ o. or_else o (link sents (node / 2 - 1))) was))
    | inr differs ↦ ap₂ or_else (left_other slot differs) (link-set_other sents (node / 2 - 1) number slot differs)
  ]

  pub passed_kept : IsKept nows (set sents (node / 2 - 1) number) (passed queues node) side
  passed_kept = record {
    fits = kept.fits;
    sides = kept.sides;
    same_length = grind (arith, common_steps, kept.same_length);
    nodes = kept.nodes;
    values = kept.values;
    parity = λ slot within. elim (cases_eq slot (node / 2 - 1)) [
      | inl same ↦ subst (λ s. link (set sents (node / 2 - 1) number) s % 2 ≡ link nows s % 2) (sym same)
          (ap (λ n. n % 2) (link-set_same sents (node / 2 - 1) number sents_in) ∙ front_parity)
      | inr differs ↦ ap (λ n. n % 2) (link-set_other sents (node / 2 - 1) number slot differs)
          ∙ kept.parity slot within
    ];
    frozen_parity = λ slot other within is. elim (cases_eq slot (node / 2 - 1)) [
      | inl same ↦
          let none : None ≡ Some other = sym left_here
          ∙ subst (λ s. group_of (node_of (1 - side) s) (without_node node queues.frozen) ≡ Some other) same is in
          absurd (cc)
      | inr differs ↦ kept.frozen_parity slot other within (sym (left_other slot differs) ∙ is)
    ];
    waiting_in = kept.waiting_in;
    frozen_in = λ other there. kept.frozen_in other
        (grind (arith, common_steps, has_node-without_node other node queues.frozen, there));
    waiting_full = kept.waiting_full;
    frozen_full = full-without_node node queues.frozen kept.frozen_full;
    waiting_apart = kept.waiting_apart;
    frozen_apart = apart-without_node node queues.frozen kept.frozen_apart;
  }

  pub passed_waits : (even odd : Bool) → AllWait nows sents queues side even odd
      → AllWait nows (set sents (node / 2 - 1) number) (passed queues node) side even odd
  passed_waits even odd waits slot within = waits slot within
      ∙ sym (ap (λ was. cond (owes was (link nows slot) (flag_of even odd (link nows slot)))
      (Some (link nows slot)) None)
      (expected_same slot))

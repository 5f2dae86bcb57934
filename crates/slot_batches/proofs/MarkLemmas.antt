-- What is left of the groups when nodes 0 and 1 leave them and join them again.
use Rattle.std.proofs.Common.{◌≡◌, ◌≢◌, ℕ, ◌<◌, ◌⊎◌, List, true, false, Some, None, cond}
use Rattle.std.proofs.Common.{sym, ap, subst, ◌∙◌, inl, inr, arith}
use Rattle.std.proofs.lemmas.Grind.{common_steps}
use Rattle.std.proofs.lemmas.Bool.{cases_eq, ne_eqb, eq-eqb, false≢true}
use Rattle.linked_pending.specs.Listing.{AreApart}
use Rattle.linked_pending.specs.Group.{Group, with_node, without_node, group_of, nodes_of}
use Rattle.linked_pending.specs.Layout.{has_node, AreFull}
use Rattle.linked_pending.specs.Pending.{Queues}
use Rattle.linked_pending.proofs.GroupLemmas.{has_node-with_node, has_node-without_node, full-with_node}
use Rattle.linked_pending.proofs.GroupLemmas.{full-without_node, apart-with_node, apart-without_node}
use Rattle.linked_pending.proofs.GroupLemmas.{group_of-with_node, absent_from_no_group}
use Rattle.slot_batches.specs.Owing.{HasMarked, HasUnmarked}
use Rattle.slot_batches.proofs.KeptLemmas.{group_of_gone}

-- a node of which two have left is another, and was there before
left_two : (node one two : ℕ) (groups : List Group) → has_node node (without_node two (without_node one groups)) ≡ true
    → (node ≢ one) × (node ≢ two) × (has_node node groups ≡ true)
left_two node one two groups there =
    let second = has_node-without_node node two (without_node one groups) in
    let first = has_node-without_node node one groups in (
      λ same.
          let is = eq-eqb node one same in
          absurd (false≢true (grind (arith, common_steps, second, first, is, there))),
      λ same. let is = eq-eqb node two same in absurd (false≢true (grind (arith, common_steps, second, is, there))),
      grind (arith, common_steps, second, first, there),
    )

pub unmarked : (old new : Queues) → new.room ≡ old.room → new.frozen ≡ old.frozen
    → new.waiting ≡ without_node 1 (without_node 0 old.waiting) → HasUnmarked old new
unmarked old new room frozen waiting = record {
  room = room;
  frozen = frozen;
  groups = λ node above. ap (group_of node) waiting
      ∙ group_of_gone node 1 (without_node 0 old.waiting) (λ same. absurd (omega arith))
      ∙ group_of_gone node 0 old.waiting (λ same. absurd (omega arith));
  nodes = λ node there.
      let parts = left_two node 0 1 old.waiting (sym (ap (has_node node) waiting) ∙ there) in
      let no_zero = parts.0 in
      let no_one = parts.1 in
      (omega arith, parts.2);
  full = λ full. subst AreFull (sym waiting) (full-without_node 1 (without_node 0 old.waiting)
      (full-without_node 0 old.waiting full));
  apart = λ apart. subst (λ (groups : List Group). AreApart (nodes_of groups)) (sym waiting)
      (apart-without_node 1 (without_node 0 old.waiting) (apart-without_node 0 old.waiting apart));
}

-- two nodes have joined
joined_two : (node : ℕ) (groups : List Group) → has_node node (with_node 1 1 (with_node 0 0 groups)) ≡ true
    → (node < 2) ⊎ (has_node node groups ≡ true)
joined_two node groups there = elim (cases_eq node 0) [
  | inl zero_is ↦ inl (omega arith)
  | inr no_zero ↦ elim (cases_eq node 1) [
    | inl one_is ↦ inl (omega arith)
    | inr no_one ↦
        let first = has_node-with_node node 0 0 groups in
        let second = has_node-with_node node 1 1 (with_node 0 0 groups) in
        let apart_zero = ne_eqb node 0 no_zero in
        let apart_one = ne_eqb node 1 no_one in
        inr (grind (arith, common_steps, first, second, apart_zero, apart_one, there))
  ]
]

module _ (old mid new : Queues) (was : HasUnmarked old mid) (no_zero : group_of 0 mid.waiting ≡ None)
    (no_one : group_of 1 mid.waiting ≡ None) (room : new.room ≡ mid.room) (frozen : new.frozen ≡ mid.frozen)
    (waiting : new.waiting ≡ with_node 1 1 (with_node 0 0 mid.waiting)) where
  absent_zero : has_node 0 mid.waiting ≡ false
  absent_zero = absent_from_no_group 0 mid.waiting no_zero

  absent_one : has_node 1 (with_node 0 0 mid.waiting) ≡ false
  absent_one = has_node-with_node 1 0 0 mid.waiting ∙ absent_from_no_group 1 mid.waiting no_one

  pub marked : HasMarked old new
  marked = record {
    room = room ∙ was.room;
    frozen = frozen ∙ was.frozen;
    groups = λ node above. ap (group_of node) waiting
        ∙ group_of-with_node node 1 1 (with_node 0 0 mid.waiting) absent_one
        ∙ ap (λ test. cond test (Some 1) (group_of node (with_node 0 0 mid.waiting)))
        (ne_eqb node 1 (λ same. absurd (omega arith)))
        ∙ group_of-with_node node 0 0 mid.waiting absent_zero
        ∙ ap (λ test. cond test (Some 0) (group_of node mid.waiting)) (ne_eqb node 0 (λ same. absurd (omega arith)))
        ∙ was.groups node above;
    nodes = λ node there. elim (joined_two node mid.waiting (sym (ap (has_node node) waiting) ∙ there)) [
      | inl below ↦ inl below
      | inr before ↦ inr (was.nodes node before).1
    ];
    full = λ full. subst AreFull (sym waiting) (full-with_node 1 1 (with_node 0 0 mid.waiting)
        (full-with_node 0 0 mid.waiting (was.full full)));
    apart = λ apart. subst (λ (groups : List Group). AreApart (nodes_of groups)) (sym waiting)
        (apart-with_node 1 1 (with_node 0 0 mid.waiting)
        (apart-with_node 0 0 mid.waiting (was.apart apart) absent_zero) absent_one);
  }

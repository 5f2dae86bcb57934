-- That each slot waits as it is owed, after one slot was settled.
use Rattle.std.proofs.Common.{nat_lt, ◌&&◌, ◌||◌, ◌%◌, eqb}
use Rattle.std.proofs.lemmas.Grind.{common_steps}
use Rattle.std.proofs.Common.{◌≡◌, ◌≢◌, ℕ, ◌+◌, ◌<◌, Bool, true, false, Some, None, cond, List, length, sym}
use Rattle.std.proofs.Common.{subst, ◌∙◌, inl, inr, arith}
use Rattle.std.proofs.lemmas.Bool.{cases_eq, eq-eqb, ne_eqb}
use Rattle.linked_pending.specs.Links.{link}
use Rattle.linked_pending.specs.Group.{group_of}
use Rattle.linked_pending.specs.Pending.{Queues}
use Rattle.slot_batches.specs.Slots.{flag_of, owes}
use Rattle.slot_batches.specs.Owing.{node_of, expected, AllWaitBy, Waits}

-- a slot waits as before, where its values and its groups stay
pub waits_still : (nows later sents : List ℕ) (old new : Queues) (side slot : ℕ) (again anew : Bool)
    → link later slot ≡ link nows slot → anew ≡ again → new.frozen ≡ old.frozen
    → group_of (node_of side slot) new.waiting ≡ group_of (node_of side slot) old.waiting
    → Waits nows sents old side slot again → Waits later sents new side slot anew
waits_still nows later sents old new side slot again anew value flag frozen waiting was =
    let owed : owes (expected sents new.frozen side slot) (link later slot) anew
    ≡ owes (expected sents old.frozen side slot) (link nows slot) again =
    λ i. owes (expected sents (frozen i) side slot) (value i) (flag i) in
    waiting ∙ was ∙ sym (λ i. cond (owed i) (Some (value i)) None)

-- one slot was settled, and the others are as before
pub wait_but : (nows later sents : List ℕ) (old new : Queues) (side slot : ℕ) (again anew : ℕ → Bool)
    → length later ≡ length nows
    → ((other : ℕ) → other ≢ slot → (link later other ≡ link nows other) × (anew other ≡ again other))
    → new.frozen ≡ old.frozen
    → ((node : ℕ) → node ≢ node_of side slot → group_of node new.waiting ≡ group_of node old.waiting)
    → Waits later sents new side slot (anew slot) → AllWaitBy nows sents old side again
    → AllWaitBy later sents new side anew
wait_but nows later sents old new side slot again anew same_length others frozen waiting here were other within =
    elim (cases_eq other slot) [
      | inl same ↦ subst (λ s. Waits later sents new side s (anew s)) (sym same) here
      | inr differs ↦
          let apart : node_of side other ≢ node_of side slot = λ same. differs (omega arith) in
          let stays = others other differs in
          waits_still nows later sents old new side other (again other) (anew other) stays.0 stays.1 frozen
          (waiting (node_of side other) apart) (were other (omega arith))
    ]

-- another test that tells the same
pub all_wait_same : (nows sents : List ℕ) (queues : Queues) (side : ℕ) (again anew : ℕ → Bool)
    → AllWaitBy nows sents queues side again → ((slot : ℕ) → slot < length nows → anew slot ≡ again slot)
    → AllWaitBy nows sents queues side anew
all_wait_same nows sents queues side again anew were same slot within =
    subst (λ test. Waits nows sents queues side slot test) (sym (same slot within)) (were slot within)

-- the slots below the next number are those below a number, and it
pub one_more : (other slot : ℕ) (of_parity again : Bool) → ((nat_lt other (slot + 1) && of_parity) || again)
    ≡ ((eqb other slot && of_parity) || ((nat_lt other slot && of_parity) || again))
one_more other slot of_parity again = grind (arith, common_steps)

pub all_below : (other slot : ℕ) (of_parity again : Bool) → other < slot
    → (of_parity || again) ≡ ((nat_lt other slot && of_parity) || again)
all_below other slot of_parity again below = grind (arith, common_steps)

pub even_flag : (even odd : Bool) (value : ℕ) → flag_of true odd value ≡ (eqb (value % 2) 0 || flag_of even odd value)
even_flag even odd value = grind (arith, common_steps)

pub odd_flag : (even odd : Bool) (value : ℕ) → flag_of even true value ≡ (eqb (value % 2) 1 || flag_of even odd value)
odd_flag even odd value = elim (cases_eq (value % 2) 0) [
  | inl same ↦
      let test : eqb (value % 2) 0 ≡ true = eq-eqb (value % 2) 0 same in
      let other : eqb (value % 2) 1 ≡ false = ne_eqb (value % 2) 1 (λ one. absurd (omega arith)) in
      grind (arith, common_steps, test, other)
  | inr differs ↦
      let test : eqb (value % 2) 0 ≡ false = ne_eqb (value % 2) 0 differs in
      let other : eqb (value % 2) 1 ≡ true = eq-eqb (value % 2) 1 (omega arith) in
      grind (arith, common_steps, test, other)
]

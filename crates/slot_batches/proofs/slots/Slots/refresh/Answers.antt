use Rattle.std.proofs.Common.{◌≡◌, ℕ, ◌≤◌, ◌%◌, ◌||◌, Bool, true, eqb, List, subst, arith}
use Rattle.linked_pending.specs.Links.{link}
use Rattle.linked_pending.specs.Pending.{Queues}
use Rattle.slot_batches.specs.Owing.{AllWaitBy, AllWait, IsKept}
use Rattle.slot_batches.specs.Slots.{flag_of}
use Rattle.slot_batches.proofs.WaitLemmas.{all_wait_same, even_flag, odd_flag}
use Rattle.slot_batches.proofs.slots.Slots.refresh.Goals as goal

abbrev Renews : List ℕ → List ℕ → Queues → Queues → ℕ → ℕ → Type 0
Renews nows sents old new side parity = (again : ℕ → Bool) → AllWaitBy nows sents old side again
    → AllWaitBy nows sents new side (λ s. eqb (link nows s % 2) parity || again s)

even_waits : (nows sents : List ℕ) (old new : Queues) (side : ℕ) (even odd : Bool)
    → Renews nows sents old new side 0 → AllWait nows sents old side even odd → AllWait nows sents new side true odd
even_waits nows sents old new side even odd renews were =
    all_wait_same nows sents new side (λ s. eqb (link nows s % 2) 0 || flag_of even odd (link nows s))
    (λ s. flag_of true odd (link nows s)) (renews (λ s. flag_of even odd (link nows s)) were)
    (λ s within. even_flag even odd (link nows s))

odd_waits : (nows sents : List ℕ) (old new : Queues) (side : ℕ) (even odd : Bool)
    → Renews nows sents old new side 1 → AllWait nows sents old side even odd → AllWait nows sents new side even true
odd_waits nows sents old new side even odd renews were =
    all_wait_same nows sents new side (λ s. eqb (link nows s % 2) 1 || flag_of even odd (link nows s))
    (λ s. flag_of even true (link nows s)) (renews (λ s. flag_of even odd (link nows s)) were)
    (λ s within. odd_flag even odd (link nows s))

pub invariant_of-self : goal.invariant_of-self
invariant_of-self c =
    let parity : c.args.parity ≡ 0 = c.if-parity-eq0.true in
    let kept = subst (λ (nows : List ℕ). IsKept nows c.self.inside.sents.items c.renew.new.pending c.self.inside.side)
    c.deref.ensures.value (subst (λ (sents : List ℕ). IsKept c.deref.result.now sents c.renew.new.pending
    c.self.inside.side) c.deref-2.ensures.value c.renew.ensures.kept) in
    let renews = subst (λ (nows : List ℕ). Renews nows c.self.inside.sents.items c.self.inside.pending
    c.renew.new.pending c.self.inside.side c.args.parity) c.deref.ensures.value (subst (λ (sents : List ℕ).
    Renews c.deref.result.now sents c.self.inside.pending c.renew.new.pending c.self.inside.side c.args.parity)
    c.deref-2.ensures.value c.renew.ensures.waits) in (
      kept,
      even_waits _ _ c.self.inside.pending c.renew.new.pending c.self.inside.side c.self.inside.even_again
          c.self.inside.odd_again (subst (Renews c.self.inside.nows.items c.self.inside.sents.items
          c.self.inside.pending c.renew.new.pending c.self.inside.side) parity renews) c.self.invariant.1,
    )

pub invariant_of-self-else-parity-eq0 : goal.invariant_of-self-else-parity-eq0
invariant_of-self-else-parity-eq0 c =
    let not_even = c.if-parity-eq0.false in
    let small : c.args.parity ≤ 1 = c.requires in
    let parity : c.args.parity ≡ 1 = omega arith in
    let kept = subst (λ (nows : List ℕ). IsKept nows c.self.inside.sents.items c.renew.new.pending c.self.inside.side)
    c.deref.ensures.value (subst (λ (sents : List ℕ). IsKept c.deref.result.now sents c.renew.new.pending
    c.self.inside.side) c.deref-2.ensures.value c.renew.ensures.kept) in
    let renews = subst (λ (nows : List ℕ). Renews nows c.self.inside.sents.items c.self.inside.pending
    c.renew.new.pending c.self.inside.side c.args.parity) c.deref.ensures.value (subst (λ (sents : List ℕ).
    Renews c.deref.result.now sents c.self.inside.pending c.renew.new.pending c.self.inside.side c.args.parity)
    c.deref-2.ensures.value c.renew.ensures.waits) in (
      kept,
      odd_waits _ _ c.self.inside.pending c.renew.new.pending c.self.inside.side c.self.inside.even_again
          c.self.inside.odd_again (subst (Renews c.self.inside.nows.items c.self.inside.sents.items
          c.self.inside.pending c.renew.new.pending c.self.inside.side) parity renews) c.self.invariant.1,
    )

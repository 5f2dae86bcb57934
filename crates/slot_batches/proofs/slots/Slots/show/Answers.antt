use Rattle.std.proofs.Common.{◌≡◌, ℕ, ◌<◌, Bool, List, length, slice_set, sym, ap, subst, ◌∙◌, arith}
use Rattle.std.proofs.lemmas.Grind.{common_steps}
use Rattle.linked_pending.specs.Links.{link}
use Rattle.linked_pending.proofs.CrossedLemmas.{link-set_same, link-set_other}
use Rattle.slot_batches.specs.Owing.{IsKept, Waits}
use Rattle.slot_batches.specs.Slots.{flag_of}
use Rattle.slot_batches.proofs.WaitLemmas.{wait_but}
use Rattle.slot_batches.proofs.slots.Slots.show.Goals as goal

pub invariant_of-self : goal.invariant_of-self
invariant_of-self c =
    let slot : c.args.slot < length c.self.inside.nows.items = grind (arith, common_steps) in
    let kept = subst (λ (nows : List ℕ). IsKept nows c.self.inside.sents.items c.settle.new.pending c.self.inside.side)
    c.deref.ensures.value (subst (λ (sents : List ℕ). IsKept c.deref.result.now sents c.settle.new.pending
    c.self.inside.side) c.deref-2.ensures.value c.settle.ensures.kept) in
    let here = subst (λ (nows : List ℕ). Waits nows c.self.inside.sents.items c.settle.new.pending c.self.inside.side
    c.args.slot c.flag_of-again.result) c.deref.ensures.value (subst (λ (sents : List ℕ). Waits c.deref.result.now sents
    c.settle.new.pending c.self.inside.side c.args.slot c.flag_of-again.result) c.deref-2.ensures.value
    c.settle.ensures.here) in
    let flag : c.flag_of-again.result ≡ flag_of c.self.inside.even_again c.self.inside.odd_again
    (link (slice_set c.self.inside.nows.items c.args.slot c.args.value) c.args.slot) = c.flag_of-again.ensures
    ∙ ap (flag_of c.self.inside.even_again c.self.inside.odd_again) (sym (link-set_same _ _ _ slot)) in
    let settled = subst (λ (again : Bool). Waits (slice_set c.self.inside.nows.items c.args.slot c.args.value)
    c.self.inside.sents.items c.settle.new.pending c.self.inside.side c.args.slot again) flag here in (
      kept,
      wait_but c.self.inside.nows.items (slice_set c.self.inside.nows.items c.args.slot c.args.value)
          c.self.inside.sents.items c.self.inside.pending c.settle.new.pending c.self.inside.side c.args.slot
          (λ s. flag_of c.self.inside.even_again c.self.inside.odd_again (link c.self.inside.nows.items s))
          (λ s. flag_of c.self.inside.even_again c.self.inside.odd_again
          (link (slice_set c.self.inside.nows.items c.args.slot c.args.value) s))
          (grind (arith, common_steps))
          (λ other differs.
          let same = link-set_other c.self.inside.nows.items c.args.slot c.args.value other differs in
          (same, ap (flag_of c.self.inside.even_again c.self.inside.odd_again) same))
          c.settle.ensures.frozen c.settle.ensures.others settled c.self.invariant.1,
    )

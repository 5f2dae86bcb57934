use Rattle.std.proofs.Common.{ap, subst, ◌∙◌}
use Rattle.linked_pending.specs.Group.{group_of}
use Rattle.linked_pending.specs.Pending.{Queues}
use Rattle.slot_batches.specs.Left.{items_of}
use Rattle.slot_batches.specs.Owing.{HasMarked}
use Rattle.slot_batches.specs.Slots.{Slots, Opens}
use Rattle.slot_batches.proofs.FreezeLemmas.{frozen_kept, frozen_waits, left_owed, left_within, left_once}
use Rattle.slot_batches.proofs.LeftLemmas.{none_left, together-items_of}
use Rattle.slot_batches.proofs.slots.Slots.freeze.Goals as goal

pub unmark-requires-clause-even : goal.unmark-requires-clause-even
unmark-requires-clause-even c = ap (group_of 0) (none_left c.self.inside.pending.frozen
    c.self.invariant.0.frozen_full (ap (λ (slots : Slots). slots.left) c.self.view_is ∙ c.requires))

pub unmark-requires-clause-odd : goal.unmark-requires-clause-odd
unmark-requires-clause-odd c = ap (group_of 1) (none_left c.self.inside.pending.frozen
    c.self.invariant.0.frozen_full (ap (λ (slots : Slots). slots.left) c.self.view_is ∙ c.requires))

pub freeze-requires : goal.freeze-requires
freeze-requires c = c.unmark.ensures.unmarked.frozen ∙ none_left c.self.inside.pending.frozen
    c.self.invariant.0.frozen_full (ap (λ (slots : Slots). slots.left) c.self.view_is ∙ c.requires)

pub invariant_of-self : goal.invariant_of-self
invariant_of-self c =
    let none = none_left c.self.inside.pending.frozen c.self.invariant.0.frozen_full
    (ap (λ (slots : Slots). slots.left) c.self.view_is ∙ c.requires) in
    let marked = subst (λ (queues : Queues). HasMarked queues c.mark.new.pending) c.freeze.ensures c.mark.ensures in (
      frozen_kept _ _ c.self.inside.pending c.unmark.new.pending c.mark.new.pending c.self.inside.side
          c.self.inside.even_again c.self.inside.odd_again c.self.invariant.0 c.self.invariant.1 none
          c.unmark.ensures.unmarked marked,
      frozen_waits _ _ c.self.inside.pending c.unmark.new.pending c.mark.new.pending c.self.inside.side
          c.self.inside.even_again c.self.inside.odd_again c.self.invariant.0 c.self.invariant.1 none
          c.unmark.ensures.unmarked marked,
    )

pub returns-clause-left : goal.returns-clause-left
returns-clause-left c =
    let none = none_left c.self.inside.pending.frozen c.self.invariant.0.frozen_full
    (ap (λ (slots : Slots). slots.left) c.self.view_is ∙ c.requires) in
    let marked = subst (λ (queues : Queues). HasMarked queues c.mark.new.pending) c.freeze.ensures c.mark.ensures in
    subst (λ (slots : Slots). Opens slots (items_of c.mark.new.pending.frozen)) c.self.view_is (record {
      owed = left_owed _ _ c.self.inside.pending c.unmark.new.pending c.mark.new.pending c.self.inside.side
          c.self.inside.even_again c.self.inside.odd_again c.self.invariant.0 c.self.invariant.1 none
          c.unmark.ensures.unmarked marked;
      within = left_within _ _ c.self.inside.pending c.unmark.new.pending c.mark.new.pending c.self.inside.side
          c.self.inside.even_again c.self.inside.odd_again c.self.invariant.0 c.self.invariant.1 none
          c.unmark.ensures.unmarked marked;
      once = left_once _ _ c.self.inside.pending c.unmark.new.pending c.mark.new.pending c.self.inside.side
          c.self.inside.even_again c.self.inside.odd_again c.self.invariant.0 c.self.invariant.1 none
          c.unmark.ensures.unmarked marked;
      together = together-items_of c.mark.new.pending.frozen
          (frozen_kept _ _ c.self.inside.pending c.unmark.new.pending c.mark.new.pending c.self.inside.side
          c.self.inside.even_again c.self.inside.odd_again c.self.invariant.0 c.self.invariant.1 none
          c.unmark.ensures.unmarked marked).frozen_full;
    })

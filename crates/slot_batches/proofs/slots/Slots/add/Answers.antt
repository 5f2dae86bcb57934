use Rattle.std.proofs.Common.{◌≡◌, ℕ, ◌+◌, ◌*◌, ◌<◌, ◌≤◌, ◌^◌, ◌++◌, ◌∷◌, [], List, length, max, inl, inr, ap, ◌∙◌}
use Rattle.std.proofs.Common.{arith}
use Rattle.std.proofs.lemmas.Grind.{common_steps}
use Rattle.std.proofs.lemmas.Bool.{cases_lt, false≢true}
use Rattle.linked_pending.specs.Group.{group_of}
use Rattle.linked_pending.specs.Pending.{Queues}
use Rattle.slot_batches.proofs.GrowLemmas.{none_low, has_grown, marked_kept, marked_waits}
use Rattle.slot_batches.proofs.slots.Slots.add.Goals as goal

pub mark-requires-clause-even : goal.mark-requires-clause-even
mark-requires-clause-even c = ap (λ (queues : Queues). group_of 0 queues.frozen) c.in_ok-reserve-3.ensures.ok
    ∙ none_low _ _ c.self.inside.pending c.self.inside.side 0 c.self.invariant.0 (omega arith)

pub mark-requires-clause-odd : goal.mark-requires-clause-odd
mark-requires-clause-odd c = ap (λ (queues : Queues). group_of 1 queues.frozen) c.in_ok-reserve-3.ensures.ok
    ∙ none_low _ _ c.self.inside.pending c.self.inside.side 1 c.self.invariant.0 (omega arith)

most_below : {a b limit : ℕ} → a < limit → b < limit → max a (max b b) < limit
most_below {a} {b} {limit} first second = grind (arith, common_steps, first, second)

most_first : (a b : ℕ) → a ≤ max a b
most_first a b = grind (arith, common_steps)

most_second : (a : ℕ) {n m : ℕ} → n ≡ m → 2 * m + 4 ≤ max a (max (2 * n + 4) (2 * n + 4))
most_second a {n} {m} same = grind (arith, common_steps, same)

most_at_least : {limit a : ℕ} → limit ≤ a → limit ≤ max a a
most_at_least {limit} {a} above = grind (arith, common_steps, above)

pub invariant_of-self-else-slot-eq0 : goal.invariant_of-self-else-slot-eq0
invariant_of-self-else-slot-eq0 c =
    let len : c.len-slot.result ≡ length c.self.inside.nows.items = grind (arith, common_steps) in
    let kept = c.self.invariant.0 in
    let was = kept.fits in
    let fits : 2 * c.len-slot.result + 4 < 2 ^ 63 = elim (cases_lt (2 * c.len-slot.result + 4) (2 ^ 63)) [
      | inl below ↦ below
      | inr above ↦ absurd (false≢true (c.in_ok-reserve-3.ensures.uncountable (most_at_least above)))
    ] in
    let grown = has_grown c.self.inside.nows.items c.self.inside.sents.items c.push_reserved.new.self.items
    c.push_reserved-2.new.self.items c.self.inside.pending c.reserve-3.new.self c.self.inside.side c.args.parity
    (max c.self.inside.pending.room (max (2 * c.len-slot.result + 4) (2 * c.len-slot.result + 4)))
    c.self.inside.even_again c.self.inside.odd_again kept c.self.invariant.1 c.requires
    (most_below was fits) (most_first c.self.inside.pending.room _) (most_second c.self.inside.pending.room len)
    (c.push_reserved.ensures.items ∙ ap (λ (items : List ℕ). items ++ c.args.parity ∷ []) c.reserve.ensures.items)
    (c.push_reserved-2.ensures.items ∙ ap (λ (items : List ℕ). items ++ c.args.parity ∷ []) c.reserve-2.ensures.items)
    c.in_ok-reserve-3.ensures.ok in
    (grown.kept, grown.waits)

pub invariant_of-self-then-slot-eq0 : goal.invariant_of-self-then-slot-eq0
invariant_of-self-then-slot-eq0 c =
    let len : c.len-slot.result ≡ length c.self.inside.nows.items = grind (arith, common_steps) in
    let kept = c.self.invariant.0 in
    let was = kept.fits in
    let fits : 2 * c.len-slot.result + 4 < 2 ^ 63 = elim (cases_lt (2 * c.len-slot.result + 4) (2 ^ 63)) [
      | inl below ↦ below
      | inr above ↦ absurd (false≢true (c.in_ok-reserve-3.ensures.uncountable (most_at_least above)))
    ] in
    let grown = has_grown c.self.inside.nows.items c.self.inside.sents.items c.push_reserved.new.self.items
    c.push_reserved-2.new.self.items c.self.inside.pending c.reserve-3.new.self c.self.inside.side c.args.parity
    (max c.self.inside.pending.room (max (2 * c.len-slot.result + 4) (2 * c.len-slot.result + 4)))
    c.self.inside.even_again c.self.inside.odd_again kept c.self.invariant.1 c.requires
    (most_below was fits) (most_first c.self.inside.pending.room _) (most_second c.self.inside.pending.room len)
    (c.push_reserved.ensures.items ∙ ap (λ (items : List ℕ). items ++ c.args.parity ∷ []) c.reserve.ensures.items)
    (c.push_reserved-2.ensures.items ∙ ap (λ (items : List ℕ). items ++ c.args.parity ∷ []) c.reserve-2.ensures.items)
    c.in_ok-reserve-3.ensures.ok in (
      marked_kept _ _ c.reserve-3.new.self c.mark.new.pending c.self.inside.side c.mark.ensures grown.kept,
      marked_waits _ _ c.reserve-3.new.self c.mark.new.pending c.self.inside.side c.self.inside.even_again
          c.self.inside.odd_again c.mark.ensures grown.waits,
    )

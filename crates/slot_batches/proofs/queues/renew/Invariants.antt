use Rattle.std.proofs.Common.{◌≡◌, ℕ, ◌%◌, ◌&&◌, ◌||◌, ◌==◌, nat_lt, Bool}
use Rattle.linked_pending.specs.Links.{link}
use Rattle.slot_batches.specs.Owing.{AllWaitBy, IsKept}
use Rattle.slot_batches.proofs.queues.renew.Given as goal

-- the slots below `slot` of the parity wait where they have a value
abbrev pub invariant-slots : goal.invariant-slots
invariant-slots l =
    IsKept l.nows l.sents l.pending l.side
    × ((again : ℕ → Bool) → AllWaitBy l.nows l.sents l.initial.pending l.side again
    → AllWaitBy l.nows l.sents l.pending l.side
    (λ s. (nat_lt s l.slot && link l.nows s % 2 == l.parity) || again s))
    × (l.pending.frozen ≡ l.initial.pending.frozen) × (l.pending.room ≡ l.initial.pending.room)

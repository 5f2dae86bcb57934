use Rattle.std.proofs.Common.{◌≡◌, ℕ, ◌-◌, ◌<◌, ◌&&◌, true, not, nat_lt, Some, None, Option, length, refl, sym, ap}
use Rattle.std.proofs.Common.{◌∙◌, arith}
use Rattle.std.proofs.lemmas.Bool.{false≢true}
use Rattle.std.specs.Prelude.{is_none}
use Rattle.std.proofs.lemmas.Grind.{common_steps}
use Rattle.linked_pending.specs.Links.{link}
use Rattle.slot_batches.specs.Slots.{Slots, is_idle}
use Rattle.slot_batches.proofs.FreezeLemmas.{of_side}
use Rattle.slot_batches.proofs.GrowLemmas.{claimed_kept, claimed_waits}
use Rattle.slot_batches.proofs.LeftLemmas.{value_left-items_of}
use Rattle.slot_batches.proofs.slots.Slots.claim.Goals as goal

is_nothing : (o : Option ℕ) → is_none o ≡ true → o ≡ None
is_nothing None none = refl
is_nothing (Some n) none = absurd (false≢true none)

record Parts (now sent : ℕ) (left : Option ℕ) : Type 0 where
  no_value : now < 2
  none_sent : sent < 2
  none_left : left ≡ None

parts : (now sent : ℕ) (left : Option ℕ) → (not (nat_lt 1 now) && not (nat_lt 1 sent) && is_none left) ≡ true
    → Parts now sent left
parts now sent left idle = record {
  no_value = grind (arith, common_steps, idle);
  none_sent = grind (arith, common_steps, idle);
  none_left = is_nothing left (grind (arith, common_steps, idle));
}

pub invariant_of-self : goal.invariant_of-self
invariant_of-self c =
    let kept = c.self.invariant.0 in
    let idle = ap (λ (slots : Slots). is_idle slots c.args.slot) c.self.view_is ∙ c.requires.idle in
    let are = parts (link c.self.inside.nows.items c.args.slot) (link c.self.inside.sents.items c.args.slot) _ idle in
    let slot : c.args.slot < length c.self.inside.nows.items = grind (arith, common_steps) in
    let left = sym (value_left-items_of (1 - c.self.inside.side) c.args.slot c.self.inside.pending.frozen
    (of_side (1 - c.self.inside.side) (length c.self.inside.nows.items) c.self.inside.pending.frozen
    kept.frozen_in)) ∙ are.none_left in (
      claimed_kept _ _ c.self.inside.pending c.self.inside.side c.args.slot c.args.parity kept slot
          c.requires.parity are.no_value are.none_sent left,
      claimed_waits _ _ c.self.inside.pending c.self.inside.side c.args.slot c.args.parity kept slot
          c.requires.parity are.no_value are.none_sent left c.self.inside.even_again c.self.inside.odd_again
          c.self.invariant.1,
    )

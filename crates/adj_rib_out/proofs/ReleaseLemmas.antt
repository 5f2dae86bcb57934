-- What was sent of the slots counts no more, one slot after another.
use Rattle.std.proofs.Common.{◌≡◌, ℕ, ◌+◌, ◌<◌, ◌≤◌, List, length, refl, sym, ap, subst, ◌∙◌}
use Rattle.std.specs.List.{sum_by}
use Rattle.std.specs.Prelude.{◌-◌, ◌/◌, IsSome}
use Rattle.linked_pending.specs.Links.{link}
use Rattle.adj_rib_out.specs.Counts.{for_wire}
use Rattle.adj_rib_out.specs.Kept.{wire_under}
use Rattle.adj_rib_out.specs.Stock.{Stock}
use Rattle.adj_rib_out.proofs.TallyLemmas.{HasLost, none_lost, can_lose, next_lost, all_lost}

-- a stock of which nothing but the uses of wire attributes and what is noted of them has changed
abbrev pub with_uses : Stock → List ℕ → List ℕ → Stock
with_uses stock uses idle = record stock { uses = uses; idle_wires = idle }

-- the slots below a number count no more
pub record HasReleased (sents : List ℕ) (old new : Stock) (slots : ℕ) : Type 0 where
  pub lost : HasLost sents old.uses new.uses slots
  pub rest : new ≡ with_uses old new.uses new.idle_wires

module _ (sents : List ℕ) (old : Stock)
    (counted : (wire : ℕ) → sum_by (for_wire wire) sents ≤ link old.uses wire)
    (stands : (slot : ℕ) → 1 < link sents slot → IsSome (wire_under old.seen (link sents slot / 2 - 1))) where
  pub none_released : HasReleased sents old old 0
  none_released = record { lost = none_lost sents old.uses counted; rest = refl }

  module _ (new : Stock) (slot : ℕ) (within : slot < length sents) (released : HasReleased sents old new slot)
      (number : ℕ) (is : number ≡ link sents slot) where
    pub can_release : (wire : ℕ) → for_wire wire number ≤ link new.uses wire
    can_release wire = subst (λ n. for_wire wire n ≤ link new.uses wire) (sym is)
        (can_lose sents old.uses counted slot within new.uses released.lost wire)

    pub still_stands : 1 < number → IsSome (wire_under new.seen (number / 2 - 1))
    still_stands above = subst (λ (s : Stock). IsSome (wire_under s.seen (number / 2 - 1))) (sym released.rest)
        (subst (λ n. IsSome (wire_under old.seen (n / 2 - 1))) (sym is) (stands slot (subst (λ n. 1 < n) is above)))

    pub next_released : (later : Stock)
        → ((wire : ℕ) → link later.uses wire + for_wire wire number ≡ link new.uses wire)
        → later ≡ with_uses new later.uses later.idle_wires → HasReleased sents old later (slot + 1)
    next_released later counts rest = record {
      lost = next_lost sents old.uses counted slot within new.uses released.lost later.uses
          (subst (λ n. (wire : ℕ) → link later.uses wire + for_wire wire n ≡ link new.uses wire) is counts);
      rest = rest ∙ ap (λ (s : Stock). with_uses s later.uses later.idle_wires) released.rest;
    }

  pub all_released : (new : Stock) (slots : ℕ) → length sents ≤ slots → HasReleased sents old new slots
      → (wire : ℕ) → link new.uses wire + sum_by (for_wire wire) sents ≡ link old.uses wire
  all_released new slots through released =
      all_lost sents old.uses counted slots new.uses through released.lost

-- A place is given one value in place of another, and a slot is sent one number in place of another.
use Rattle.std.proofs.Common.{◌≡◌, ℕ, ◌+◌, ◌<◌, ◌≤◌, List, Option, length, sym, ap, subst, ◌∙◌, arith}
use Rattle.std.specs.Prelude.{◌-◌, ◌/◌, ◌^◌, IsSome}
use Rattle.linked_pending.specs.Links.{link}
use Rattle.adj_rib_out.specs.declared.chosen.Chosen.{Chosen}
use Rattle.adj_rib_out.specs.Counts.{RoutesCounted, for_wire}
use Rattle.adj_rib_out.specs.Kept.{Values, wire_under}
use Rattle.adj_rib_out.specs.Stock.{Stock}
use Rattle.adj_rib_out.proofs.ReleaseLemmas.{with_uses}
use Rattle.adj_rib_out.proofs.TallyLemmas.{routes_small}

-- ---- a place is given a value

pub can_hold : (routes : List (Option Chosen)) (counts : List ℕ) → RoutesCounted routes counts → (released : List ℕ)
    (part : ℕ → ℕ) → ((value : ℕ) → link released value + part value ≡ link counts value) → length routes < 2 ^ 63
    → (value : ℕ) → link released value < 2 ^ 63
can_hold routes counts counted released part less small value =
    let most = routes_small routes counts counted value in
    let one = less value in
    omega arith

-- ---- a slot is sent another number

module _ (old mid : Stock) (lost gained : ℕ)
    (more : (wire : ℕ) → link mid.uses wire ≡ link old.uses wire + for_wire wire gained)
    (rest : mid ≡ with_uses old mid.uses mid.idle_wires) where
  pub still_counted : ((wire : ℕ) → for_wire wire lost ≤ link old.uses wire)
      → (wire : ℕ) → for_wire wire lost ≤ link mid.uses wire
  still_counted counted wire =
      let before = counted wire in
      let one = more wire in
      omega arith

  pub still_wired : (1 < lost → IsSome (wire_under old.seen (lost / 2 - 1)))
      → 1 < lost → IsSome (wire_under mid.seen (lost / 2 - 1))
  still_wired stands above = subst (λ (v : Values). IsSome (wire_under v (lost / 2 - 1)))
      (sym (ap (λ (s : Stock). s.seen) rest)) (stands above)

  module _ (new : Stock) (less : (wire : ℕ) → link new.uses wire + for_wire wire lost ≡ link mid.uses wire)
      (later : new ≡ with_uses mid new.uses new.idle_wires) where
    pub exchanged : (wire : ℕ) → link new.uses wire + for_wire wire lost ≡ link old.uses wire + for_wire wire gained
    exchanged wire = less wire ∙ more wire

    pub exchanged_rest : new ≡ with_uses old new.uses new.idle_wires
    exchanged_rest = later ∙ ap (λ (s : Stock). with_uses s new.uses new.idle_wires) rest

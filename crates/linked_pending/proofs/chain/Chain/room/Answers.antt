use Rattle.std.proofs.Common.{◌≡◌, ℕ, ◌<◌, ◌∷◌, true, subst}
use Rattle.linked_pending.specs.Listing.{Listing, has, AreApart}
use Rattle.linked_pending.proofs.chain.Chain.room.Goals as goal

pub returns-clause-within : goal.returns-clause-within
returns-clause-within c =
    subst (λ (listing : Listing). (place : ℕ) → has place listing.items ≡ true → place < listing.room) c.self.view_is
    c.self.invariant.0.holds.within

pub returns-clause-apart : goal.returns-clause-apart
returns-clause-apart c = subst (λ (listing : Listing). AreApart (0 ∷ listing.items)) c.self.view_is
    c.self.invariant.0.holds.apart

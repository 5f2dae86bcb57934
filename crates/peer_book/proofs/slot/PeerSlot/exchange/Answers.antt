use Rattle.std.proofs.Common.{◌∷◌, sym, ap, ◌∙◌, subst}
use Rattle.std.specs.Prelude.{Option}
use Rattle.route_values.specs.Caps.{Caps}
use Rattle.peer_book.specs.Seen.{seen}
use Rattle.peer_book.specs.Slot.{Slot, live_caps, IsKept}
use Rattle.peer_book.specs.Stands.{Stands}
use Rattle.peer_book.specs.Statics.{StandsWithout}
use Rattle.peer_book.proofs.ExchangeLemmas.{exchanged, kept_exchange, stands_exchange}
use Rattle.peer_book.proofs.slot.PeerSlot.exchange.Goals as goal

pub invariant_of-self : goal.invariant_of-self
invariant_of-self c =
    let slot = seen c.self.inside in
    let other = seen c.other.inside in
    subst (λ (up : Option Caps). IsKept (record (exchanged slot other) { session = up }))
    (sym c.ended-self-inside.ensures)
    (kept_exchange slot other c.other.invariant (ap live_caps c.other.view_is ∙ c.requires))

pub returns : goal.returns
returns c = λ steps step is none stands without.
    let slot = seen c.self.inside in
    let other = seen c.other.inside in
    subst (λ (up : Option Caps). Stands (step ∷ steps) (record (exchanged slot other) { session = up }))
    (sym c.ended-self-inside.ensures)
    (stands_exchange steps step slot other is none (subst (Stands steps) (sym c.self.view_is) stands)
    (subst (StandsWithout (step ∷ steps)) (sym c.other.view_is) without))

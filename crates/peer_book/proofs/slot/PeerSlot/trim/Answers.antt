use Rattle.std.proofs.Common.{sym, subst}
use Rattle.adj_rib_out.specs.Calls.{Trims}
use Rattle.peer_book.specs.Seen.{seen}
use Rattle.peer_book.specs.Slot.{Slot}
use Rattle.peer_book.specs.Stands.{Stands}
use Rattle.peer_book.proofs.KeptLemmas.{calm_trims, kept_calm}
use Rattle.peer_book.proofs.StandsLemmas.{stands_calm}
use Rattle.peer_book.proofs.slot.PeerSlot.trim.Goals as goal

pub invariant_of-self : goal.invariant_of-self
invariant_of-self c =
    kept_calm (seen c.self.inside) c.trim.new.self c.self.invariant
    (calm_trims c.self.inside.table c.trim.new.self c.trim.ensures.trimmed)

pub returns-clause-trimmed : goal.returns-clause-trimmed
returns-clause-trimmed c =
    subst (λ (s : Slot). Trims s.table c.trim.new.self) c.self.view_is c.trim.ensures.trimmed

pub returns-clause-stands : goal.returns-clause-stands
returns-clause-stands c = λ steps stands.
    stands_calm steps (seen c.self.inside) c.trim.new.self (subst (Stands steps) (sym c.self.view_is) stands)
    (calm_trims c.self.inside.table c.trim.new.self c.trim.ensures.trimmed)

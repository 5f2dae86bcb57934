use Rattle.std.proofs.Common.{sym, subst}
use Rattle.peer_book.specs.Stands.{Stands}
use Rattle.peer_book.specs.Seen.{seen}
use Rattle.peer_book.proofs.KeptLemmas.{kept_refresh}
use Rattle.peer_book.proofs.StandsLemmas.{stands_refresh}
use Rattle.peer_book.proofs.slot.PeerSlot.refresh.Goals as goal

pub invariant_of-self : goal.invariant_of-self
invariant_of-self c =
    kept_refresh (seen c.self.inside) c.refresh.new.self c.args.family c.self.invariant c.refresh.ensures.refreshes

pub returns : goal.returns
returns c = λ steps stands.
    stands_refresh steps (seen c.self.inside) c.refresh.new.self c.args.family
    (subst (Stands steps) (sym c.self.view_is) stands) c.refresh.ensures.refreshes

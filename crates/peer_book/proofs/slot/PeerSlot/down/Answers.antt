use Rattle.peer_book.specs.Seen.{seen}
use Rattle.peer_book.proofs.KeptLemmas.{kept_down}
use Rattle.std.proofs.Common.{sym, subst}
use Rattle.peer_book.specs.Stands.{Stands}
use Rattle.peer_book.proofs.StandsLemmas.{stands_down}
use Rattle.peer_book.proofs.slot.PeerSlot.down.Goals as goal

pub invariant_of-self : goal.invariant_of-self
invariant_of-self c = kept_down (seen c.self.inside) c.down.new.self c.self.invariant c.down.ensures.restarts

pub returns : goal.returns
returns c = λ steps stands.
    stands_down steps (seen c.self.inside) c.down.new.self (subst (Stands steps) (sym c.self.view_is) stands)
    c.down.ensures.restarts

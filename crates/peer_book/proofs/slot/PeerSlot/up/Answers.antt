use Rattle.peer_book.specs.Seen.{seen}
use Rattle.peer_book.proofs.KeptLemmas.{kept_up}
use Rattle.std.proofs.Common.{sym, subst}
use Rattle.peer_book.specs.Stands.{Stands}
use Rattle.peer_book.proofs.StandsLemmas.{stands_up}
use Rattle.peer_book.proofs.slot.PeerSlot.up.Goals as goal

pub invariant_of-self : goal.invariant_of-self
invariant_of-self c = kept_up (seen c.self.inside) c.up.new.self c.args.caps c.self.invariant c.up.ensures.restarts

pub returns : goal.returns
returns c = λ steps stands.
    stands_up steps (seen c.self.inside) c.up.new.self c.args.caps (subst (Stands steps) (sym c.self.view_is) stands)
    c.up.ensures.restarts

use Rattle.std.proofs.Common.{sym, subst}
use Rattle.peer_book.specs.Seen.{seen}
use Rattle.peer_book.specs.Stands.{Stands}
use Rattle.peer_book.proofs.KeptLemmas.{kept_clear}
use Rattle.peer_book.proofs.StandsLemmas.{stands_clear}
use Rattle.peer_book.proofs.slot.PeerSlot.clear.Goals as goal

pub invariant_of-self : goal.invariant_of-self
invariant_of-self c = kept_clear (seen c.self.inside) c.unset_all.new.table c.self.invariant c.unset_all.ensures

pub returns : goal.returns
returns c = λ steps stands.
    stands_clear steps (seen c.self.inside) c.unset_all.new.table (subst (Stands steps) (sym c.self.view_is) stands)
    c.unset_all.ensures

use Rattle.std.proofs.Common.{None, refl, sym, subst}
use Rattle.peer_book.specs.Seen.{seen}
use Rattle.peer_book.specs.Stands.{Stands}
use Rattle.peer_book.proofs.KeptLemmas.{kept_sets}
use Rattle.peer_book.proofs.StandsLemmas.{stands_withdraw}
use Rattle.peer_book.proofs.slot.PeerSlot.withdraw.Goals as goal

pub invariant_of-self : goal.invariant_of-self
invariant_of-self c =
    kept_sets (seen c.self.inside) c.unset_each.new.table c.args.keys.now None c.self.invariant c.unset_each.ensures
    (λ key one named is. absurd cc) (λ vacant. refl)

pub returns : goal.returns
returns c = λ steps stands.
    stands_withdraw steps (seen c.self.inside) c.unset_each.new.table c.args.keys.now
    (subst (Stands steps) (sym c.self.view_is) stands) c.unset_each.ensures

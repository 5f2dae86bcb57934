use Rattle.std.proofs.Common.{refl}
use Rattle.peer_book.proofs.ExchangeLemmas.{kept_vacant, stands_vacant}
use Rattle.peer_book.proofs.slot.PeerSlot.vacant.Goals as goal

pub invariant_of-result : goal.invariant_of-result
invariant_of-result c = kept_vacant c.args.table c.requires

pub returns-clause-stands : goal.returns-clause-stands
returns-clause-stands c = stands_vacant c.args.table c.requires

pub returns-clause-vacated : goal.returns-clause-vacated
returns-clause-vacated c = λ steps.
    record { settings = refl; routes = (stands_vacant c.args.table c.requires).routes }

pub returns-clause-closed : goal.returns-clause-closed
returns-clause-closed c = refl

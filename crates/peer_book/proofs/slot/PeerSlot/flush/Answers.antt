use Rattle.std.proofs.Common.{◌∷◌}
use Rattle.route_values.specs.declared.addr.Family.TheVariants.{Ipv4}
use Rattle.peer_history.specs.Steps.Step.{Refreshed}
use Rattle.peer_book.proofs.slot.PeerSlot.flush.Goals as goal

pub returns : goal.returns
returns c = λ steps stands. c.refresh-2.ensures (Refreshed Ipv4 ∷ steps) (c.refresh.ensures steps stands)

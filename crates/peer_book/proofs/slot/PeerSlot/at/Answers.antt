use Rattle.std.proofs.Common.{ap, ◌∙◌}
use Rattle.adj_rib_out.specs.Nodes.{pair_at}
use Rattle.peer_book.specs.Slot.{Slot}
use Rattle.peer_book.proofs.slot.PeerSlot.at.Goals as goal

pub returns : goal.returns
returns c = c.at.ensures ∙ ap (λ (s : Slot). pair_at s.table c.args.place) c.self.view_is

use Rattle.std.proofs.Common.{length, ap, ◌∙◌, subst}
use Rattle.adj_rib_out.specs.Nodes.{AreApart}
use Rattle.peer_book.specs.Slot.{Slot}
use Rattle.peer_book.proofs.slot.PeerSlot.places.Goals as goal

pub returns-clause-places : goal.returns-clause-places
returns-clause-places c = c.places.ensures.places ∙ ap (λ (s : Slot). length s.table.rows) c.self.view_is

pub returns-clause-apart : goal.returns-clause-apart
returns-clause-apart c = subst (λ (s : Slot). AreApart s.table.rows) c.self.view_is c.places.ensures.apart

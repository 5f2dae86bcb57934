use Rattle.std.proofs.Common.{ap, ◌∙◌}
use Rattle.std.specs.Option.{option_map}
use Rattle.adj_rib_out.specs.State.{route_at}
use Rattle.peer_book.specs.Slot.{Slot}
use Rattle.peer_book.specs.Stands.{asked}
use Rattle.peer_book.proofs.slot.PeerSlot.route.Goals as goal

pub returns-clause-value : goal.returns-clause-value
returns-clause-value c = c.get.ensures ∙ ap (λ (s : Slot). route_at s.table c.args.key.now) c.self.view_is

pub returns-clause-told : goal.returns-clause-told
returns-clause-told c = λ steps stands.
    ap (option_map asked) (c.get.ensures ∙ ap (λ (s : Slot). route_at s.table c.args.key.now) c.self.view_is)
    ∙ stands.routes c.args.key.now

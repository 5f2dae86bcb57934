use Rattle.std.proofs.Common.{sym, ap, ◌∙◌, subst}
use Rattle.adj_rib_out.specs.Nodes.{nodes}
use Rattle.peer_book.specs.Seen.{seen}
use Rattle.peer_book.specs.Slot.{Slot, live_caps}
use Rattle.peer_book.specs.Stands.{Stands}
use Rattle.peer_book.specs.Statics.{StandsWithout}
use Rattle.peer_book.proofs.NodeLemmas.{nodes_told, nodes_without}
use Rattle.peer_book.proofs.slot.PeerSlot.nodes.Goals as goal

pub returns-clause-value : goal.returns-clause-value
returns-clause-value c = c.nodes.ensures.nodes ∙ ap (λ (s : Slot). nodes s.table) c.self.view_is

pub returns-clause-told : goal.returns-clause-told
returns-clause-told c = λ steps legal stands.
    c.nodes.ensures.nodes
    ∙ nodes_told c.nodes_are_listed.ensures.nodes c.settled.ensures steps (seen c.self.inside) c.nodes.ensures.apart
    c.nodes.ensures.ready c.self.invariant legal (subst (Stands steps) (sym c.self.view_is) stands)

pub returns-clause-without : goal.returns-clause-without
returns-clause-without c = λ steps legal without ended fresh.
    c.nodes.ensures.nodes
    ∙ nodes_without c.nodes_are_listed.ensures.nodes steps (seen c.self.inside) c.nodes.ensures.apart
    c.nodes.ensures.ready c.self.invariant legal (subst (StandsWithout steps) (sym c.self.view_is) without) ended
    (ap live_caps c.self.view_is ∙ fresh)

use Rattle.std.proofs.Common.{length, sym, ap, ◌+◌, ◌∙◌, subst}
use Rattle.adj_rib_out.specs.Nodes.{is_node}
use Rattle.peer_history.specs.Ordered.{node_keys}
use Rattle.peer_book.specs.Nodes.{new_keys}
use Rattle.peer_book.specs.Seen.{seen}
use Rattle.peer_book.specs.Slot.{Slot}
use Rattle.peer_book.specs.Stands.{Stands}
use Rattle.peer_book.proofs.NodeLemmas.{adds_told}
use Rattle.peer_book.proofs.slot.PeerSlot.adds.Goals as goal

pub returns-clause-value : goal.returns-clause-value
returns-clause-value c =
    c.count_new.ensures ∙ ap (λ (s : Slot). length (new_keys (is_node s.table) c.args.keys.now)) c.self.view_is

pub returns-clause-told : goal.returns-clause-told
returns-clause-told c = λ steps written legal stands.
    adds_told c.nodes_are_listed.ensures.nodes c.settled.ensures steps (seen c.self.inside) c.args.keys.now written
    c.self.invariant legal (subst (Stands steps) (sym c.self.view_is) stands)
    ∙ ap (λ n. length (node_keys steps) + n) (sym c.count_new.ensures)

use Rattle.std.proofs.Common.{◌∙◌, length, ap, sym, subst}
use Rattle.adj_rib_out.specs.State.{State}
use Rattle.adj_rib_out.specs.Nodes.{AreApart}
use Rattle.adj_rib_out.specs.Kept.{route_by, told_by}
use Rattle.adj_rib_out.proofs.InsideLemmas.{parts}
use Rattle.adj_rib_out.proofs.PlaceLemmas.{node_ready}
use Rattle.adj_rib_out.proofs.RowLemmas.{length_of_rows, rows_apart}
use Rattle.adj_rib_out.proofs.table.Table.places.Goals as goal

pub returns-clause-places : goal.returns-clause-places
returns-clause-places c = c.len.ensures.len
    ∙ sym (length_of_rows (route_by (parts c.self.inside)) (told_by (parts c.self.inside)) c.self.inside.keys.keys 0)
    ∙ ap (λ (s : State). length s.rows) c.self.view_is

pub returns-clause-apart : goal.returns-clause-apart
returns-clause-apart c = subst (λ (s : State). AreApart s.rows) c.self.view_is
    (rows_apart (route_by (parts c.self.inside)) (told_by (parts c.self.inside)) c.self.inside.keys.keys
    c.self.invariant.table.once)

pub returns-clause-ready : goal.returns-clause-ready
returns-clause-ready c = λ key node. node_ready (parts c.self.inside) c.self.invariant.table c.args.self.now
    c.self.view_is
    key node

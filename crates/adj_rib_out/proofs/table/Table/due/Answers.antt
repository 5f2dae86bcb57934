use Rattle.std.proofs.Common.{ap₂, sym, ◌∙◌}
use Rattle.adj_rib_out.specs.Kept.{due_by}
use Rattle.adj_rib_out.proofs.InsideLemmas.{parts}
use Rattle.adj_rib_out.proofs.DueLemmas as due
use Rattle.adj_rib_out.proofs.table.Table.due.Goals as goal

pub returns-in-Some-clause-next : goal.returns-in-Some-clause-next
returns-in-Some-clause-next c = c.key_due.ensures
    ∙ ap₂ (due_by c.in-Some.item.value) c.at.ensures c.attrs.ensures
    ∙ due.key_next (parts c.self.inside) c.self.invariant.table c.args.self.now c.self.view_is c.in-Some.item
    (sym c.front.ensures.first ∙ c.in-Some.is)

pub returns-in-Some-clause-numbered : goal.returns-in-Some-clause-numbered
returns-in-Some-clause-numbered c =
    due.left_numbered (parts c.self.inside) c.self.invariant.table c.args.self.now c.self.view_is

pub returns-in-Some-clause-grouped : goal.returns-in-Some-clause-grouped
returns-in-Some-clause-grouped c =
    due.left_grouped (parts c.self.inside) c.self.invariant.table c.args.self.now c.self.view_is

pub returns-in-None-clause-next : goal.returns-in-None-clause-next
returns-in-None-clause-next c = c.marker_due.ensures
    ∙ due.marker_next (parts c.self.inside) c.self.invariant.table c.args.self.now c.self.view_is
    (sym c.front.ensures.first ∙ c.in-None.is)

pub returns-in-None-clause-numbered : goal.returns-in-None-clause-numbered
returns-in-None-clause-numbered c =
    due.left_numbered (parts c.self.inside) c.self.invariant.table c.args.self.now c.self.view_is

pub returns-in-None-clause-grouped : goal.returns-in-None-clause-grouped
returns-in-None-clause-grouped c =
    due.left_grouped (parts c.self.inside) c.self.invariant.table c.args.self.now c.self.view_is

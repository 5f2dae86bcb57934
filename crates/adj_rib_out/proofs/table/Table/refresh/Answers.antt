use Rattle.std.proofs.Common.{refl, sym, ap, ◌∙◌}
use Rattle.slot_batches.specs.Slots.{Slots}
use Rattle.adj_rib_out.proofs.RowLemmas.{none_of}
use Rattle.adj_rib_out.proofs.InsideLemmas.{parts}
use Rattle.adj_rib_out.proofs.RefreshLemmas as refresh
use Rattle.adj_rib_out.proofs.WholeLemmas as whole
use Rattle.adj_rib_out.proofs.table.Table.refresh.Goals as goal

pub invariant_of-self : goal.invariant_of-self
invariant_of-self c = whole.same_whole (parts c.self.inside) c.self.inside.keys.idle c.self.inside.values.routes
    c.self.inside.values.uses c.self.invariant _
    (refresh.made_kept (parts c.self.inside) c.self.invariant.table c.args.family c.args.self.now c.self.view_is
    c.parity_of.result c.parity_of.ensures.parity c.refresh.new.self c.refresh.ensures)
    refl refl refl (ap (λ (s : Slots). s.sents) c.refresh.ensures) (ap (λ (s : Slots). s.left) c.refresh.ensures)

pub returns-then-is_some-clause-refreshes : goal.returns-then-is_some-clause-refreshes
returns-then-is_some-clause-refreshes c = refresh.made_refreshes (parts c.self.inside) c.self.invariant.table
    c.args.family
    c.args.self.now c.self.view_is c.parity_of.result c.parity_of.ensures.parity c.refresh.new.self c.refresh.ensures

pub returns-then-is_some-clause-nodes : goal.returns-then-is_some-clause-nodes
returns-then-is_some-clause-nodes c = refresh.made_nodes (parts c.self.inside) c.self.invariant.table c.args.family
    c.args.self.now c.self.view_is c.parity_of.result c.parity_of.ensures.parity c.refresh.new.self c.refresh.ensures

pub returns-else-is_some-clause-refreshes : goal.returns-else-is_some-clause-refreshes
returns-else-is_some-clause-refreshes c = refresh.nothing_refreshed (parts c.self.inside) c.self.invariant.table
    c.args.family
    c.args.self.now c.self.view_is (none_of c.self.inside.caps (sym c.is_some.ensures ∙ c.if-is_some.false))

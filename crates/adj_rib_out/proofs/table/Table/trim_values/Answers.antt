use Rattle.std.proofs.Common.{◌≡◌, ◌∙◌, [], sym}
use Rattle.adj_rib_out.proofs.InsideLemmas.{parts}
use Rattle.adj_rib_out.proofs.TableValueLemmas as table
use Rattle.adj_rib_out.proofs.table.Table.trim_values.Goals as goal

pub invariant_of-self : goal.invariant_of-self
invariant_of-self c = table.mid_whole (parts c.self.inside) c.self.inside.values c.trim_values.new.values
    c.self.inside.keys.idle c.self.invariant c.args.self.now c.self.view_is c.trim_values.ensures.loses

pub returns-then-is_some-clause-trims : goal.returns-then-is_some-clause-trims
returns-then-is_some-clause-trims c = table.mid_trims (parts c.self.inside) c.self.inside.values
    c.trim_values.new.values c.self.inside.keys.idle c.self.invariant c.args.self.now c.self.view_is
    c.trim_values.ensures.loses c.trim_values.ensures.given

pub returns-then-is_some-clause-nodes : goal.returns-then-is_some-clause-nodes
returns-then-is_some-clause-nodes c = table.mid_nodes (parts c.self.inside) c.self.inside.values
    c.trim_values.new.values c.self.inside.keys.idle c.self.invariant c.args.self.now c.self.view_is
    c.trim_values.ensures.loses

-- nothing is left of a batch
closed : (c : goal.After-trim_wires) → c.self.inside.slots.left ≡ []
closed c = table.closed_by c.front.result (sym c.is_some.ensures ∙ c.if-is_some.false) c.front.ensures.none

pub invariant_of-self-2 : goal.invariant_of-self-2
invariant_of-self-2 c = table.new_whole (parts c.self.inside) c.self.inside.values c.trim_values.new.values
    c.self.inside.keys.idle c.self.invariant c.args.self.now c.self.view_is c.trim_values.ensures.loses
    c.trim_wires.new.values (closed c) c.trim_wires.ensures

pub returns-clause-trims : goal.returns-clause-trims
returns-clause-trims c = table.new_trims (parts c.self.inside) c.self.inside.values c.trim_values.new.values
    c.self.inside.keys.idle c.self.invariant c.args.self.now c.self.view_is c.trim_values.ensures.loses
    c.trim_wires.new.values (closed c) c.trim_wires.ensures c.trim_values.ensures.given

pub returns-clause-nodes : goal.returns-clause-nodes
returns-clause-nodes c = table.new_nodes (parts c.self.inside) c.self.inside.values c.trim_values.new.values
    c.self.inside.keys.idle c.self.invariant c.args.self.now c.self.view_is c.trim_values.ensures.loses
    c.trim_wires.new.values (closed c) c.trim_wires.ensures

use Rattle.std.proofs.Common.{◌<◌, ◌^◌, length, rules}
use Rattle.adj_rib_out.proofs.InsideLemmas.{parts}
use Rattle.adj_rib_out.proofs.TableValueLemmas as table
use Rattle.adj_rib_out.proofs.table.Table.ready_value.Goals as goal

pub ready_value-requires : goal.ready_value-requires
ready_value-requires c =
    let places : length c.self.inside.routes.items < 2 ^ 63 = search rules in
    record {
      room = table.uses_fit (parts c.self.inside) c.self.inside.values c.self.inside.keys.idle c.self.invariant places
          c.wires-wires.ensures.small;
    }

pub invariant_of-self : goal.invariant_of-self
invariant_of-self c = table.whole_by (parts c.self.inside) c.self.inside.values c.self.inside.keys.idle c.self.invariant
    c.args.self.now c.self.view_is c.ready_value.new.values c.ready_value.new.slots c.args.written.now
    c.ready_value.result c.ready_value.ensures.ok c.ready_value.ensures.err

pub returns-clause-ok : goal.returns-clause-ok
returns-clause-ok c = table.readies_by (parts c.self.inside) c.self.inside.values c.self.inside.keys.idle
    c.self.invariant c.args.self.now c.self.view_is c.ready_value.new.values c.ready_value.new.slots
    c.args.written.now c.ready_value.result c.ready_value.ensures.ok

pub returns-clause-err : goal.returns-clause-err
returns-clause-err c = table.none_by (parts c.self.inside) c.self.inside.values c.self.inside.keys.idle
    c.self.invariant c.args.self.now c.self.view_is c.ready_value.new.values c.ready_value.new.slots
    c.args.written.now c.ready_value.result c.ready_value.ensures.err

pub returns-clause-nodes : goal.returns-clause-nodes
returns-clause-nodes c = table.nodes_by (parts c.self.inside) c.self.inside.values c.self.inside.keys.idle
    c.self.invariant c.args.self.now c.self.view_is c.ready_value.new.values c.ready_value.new.slots
    c.args.written.now c.ready_value.result c.ready_value.ensures.ok c.ready_value.ensures.err

use Rattle.adj_rib_out.proofs.AddedLemmas.{added_if}
use Rattle.adj_rib_out.proofs.values.Values.add.Goals as goal

pub returns-clause-ok : goal.returns-clause-ok
returns-clause-ok c = added_if c.args.self.now c.wire_for.new.self c.add_with.new.self c.args.written.now
    c.in_ok-wire.wire c.in_ok-wire.ensures.ok c.add_with.result c.add_with.ensures.ok

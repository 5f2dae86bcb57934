use Rattle.adj_rib_out.proofs.EmptyLemmas.{made_whole}
use Rattle.adj_rib_out.proofs.table.Table.new.Goals as goal

pub invariant_of-result : goal.invariant_of-result
invariant_of-result c = made_whole c.args.side c.new.result c.new-2.result.items c.new-3.result c.new-4.result
    c.new.ensures c.new-2.ensures.items c.new-3.ensures c.new-4.ensures

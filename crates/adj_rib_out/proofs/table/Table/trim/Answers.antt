use Rattle.adj_rib_out.proofs.TrimAllLemmas.{all_trimmed}
use Rattle.adj_rib_out.proofs.table.Table.trim.Goals as goal

pub returns-clause-trimmed : goal.returns-clause-trimmed
returns-clause-trimmed c = all_trimmed c.args.self.now c.trim_keys.new.self c.trim_values.new.self c.trim_keys.ensures
    c.trim_values.ensures.trims

use Rattle.std.proofs.Common.{take}
use Rattle.adj_rib_out.specs.Readying.{ReadiesKeys}
use Rattle.adj_rib_out.proofs.table.Table.ready_keys.Given as goal

-- the keys so far stand ready
abbrev pub invariant-keys : goal.invariant-keys
invariant-keys l = ReadiesKeys l.initial.self l.self (take l.key-index l.keys)

use Rattle.std.proofs.Common.{◌≡◌, ◌≤◌, take}
use Rattle.std.specs.Prelude.{count_by}
use Rattle.adj_rib_out.specs.Nodes.{is_node_row}
use Rattle.adj_rib_out.proofs.rib.scan.Given as goal

-- the nodes below `row` are counted
abbrev pub invariant-rows : goal.invariant-rows
invariant-rows l = (l.count ≡ count_by (is_node_row l.table) (take l.place l.table.rows)) × (l.count ≤ l.place)

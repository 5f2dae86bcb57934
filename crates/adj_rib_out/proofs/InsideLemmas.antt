-- The parts of a table's fields.
use Rattle.adj_rib_out.specs.declared.table.Table.TheInside.{Inside}
use Rattle.adj_rib_out.specs.Kept.{Parts, parts_of}

abbrev pub parts : Inside → Parts
parts table = parts_of table.keys.keys table.routes.items table.values.seen table.slots table.caps table.begun
    table.ipv4_stale table.ipv6_stale
    table.ipv4_marker table.ipv6_marker

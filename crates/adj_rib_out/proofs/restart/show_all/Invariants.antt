use Rattle.adj_rib_out.specs.Shown.{HasShown}
use Rattle.adj_rib_out.proofs.restart.show_all.Given as goal

-- the places below `place` show what their keys were given
abbrev pub invariant-places : goal.invariant-places
invariant-places l = HasShown l.keys.keys l.routes l.values.seen l.caps l.initial.slots l.slots l.place

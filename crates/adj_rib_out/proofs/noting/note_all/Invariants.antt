use Rattle.adj_rib_out.proofs.UnroutedLemmas.{HasNoted}
use Rattle.adj_rib_out.proofs.noting.note_all.Given as goal

-- the keys below `place` are noted that have no route
abbrev pub invariant-places : goal.invariant-places
invariant-places l = HasNoted l.routes l.initial.keys l.keys l.place

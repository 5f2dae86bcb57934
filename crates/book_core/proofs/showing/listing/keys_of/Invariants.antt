use Rattle.std.proofs.Common.{◌≡◌, take}
use Rattle.book_core.proofs.ShownKeyLemmas.{row_keys}
use Rattle.book_core.proofs.showing.listing.keys_of.Given as goal

abbrev pub invariant-places : goal.invariant-places
invariant-places l = l.keys.items ≡ row_keys l.within (take l.place l.slot.table.rows)

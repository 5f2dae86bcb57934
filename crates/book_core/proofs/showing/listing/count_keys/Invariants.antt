use Rattle.std.proofs.Common.{◌≡◌, ◌≤◌, length, take}
use Rattle.book_core.proofs.ShownKeyLemmas.{row_keys}
use Rattle.book_core.proofs.showing.listing.count_keys.Given as goal

abbrev pub invariant-places : goal.invariant-places
invariant-places l = record {
  counted : l.count ≡ length (row_keys l.within (take l.place l.slot.table.rows));
  few : l.count ≤ l.place;
}

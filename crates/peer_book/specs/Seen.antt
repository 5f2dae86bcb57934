-- How a contract sees a neighbour slot.
use Rattle.peer_book.specs.declared.slot.PeerSlot.TheInside.{Inside}
use Rattle.peer_book.specs.Slot.{Slot}

abbrev pub seen : Inside → Slot
seen inside = record {
  settings = inside.settings;
  table = inside.table;
  session = inside.session;
  reset = inside.reset;
}

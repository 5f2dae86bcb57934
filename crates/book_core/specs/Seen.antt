-- What a contract sees of a book.
use Rattle.std.specs.Prelude.{◌≡◌, Bool, List, length}
use Rattle.config_model.specs.Limits.{max_helpers, max_peers}
use Rattle.helper_book.specs.Seen.{Seen as Helper}
use Rattle.book_core.specs.declared.book.Book.TheInside.{Inside}
use Rattle.book_core.specs.declared.peering.Peering.{Peering}

-- the helper slots, the neighbour slots, whether the daemon ends, and whether a reload is due
pub record Seen : Type 0 where
  pub helpers : List Helper
  pub peers : List Peering
  pub stopping : Bool
  pub reload_due : Bool

abbrev pub fields : Inside → Seen
fields inside = record {
  helpers = inside.helpers.items;
  peers = inside.peers.items;
  stopping = inside.stopping;
  reload_due = inside.reload_due;
}

-- whatever was called, each slot that there may be is there
pub record IsWhole (book : Seen) : Type 0 where
  pub helpers : length book.helpers ≡ max_helpers
  pub peers : length book.peers ≡ max_peers

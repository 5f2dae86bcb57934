-- What stands in a slot at the opening.
use Rattle.std.specs.Prelude.{ℕ, ◌≡◌, [], Option, None}
use Rattle.config_model.specs.declared.sections.Neighbor.{Neighbor}
use Rattle.config_model.specs.declared.sections.Process.{Process}
use Rattle.config_model.specs.Sections.{Sections}
use Rattle.helper_book.specs.Seen.{Seen as Helper}
use Rattle.helper_book.specs.Stands as of_helper
use Rattle.peer_book.specs.Stands as of_peer
use Rattle.book_history.specs.PeerSteps.{exchanged}
use Rattle.book_history.specs.Slots.{process_at}
use Rattle.book_core.specs.declared.peering.Peering.{Peering}
use Rattle.book_core.specs.Stands.{names_heard}

-- a helper slot with this process, or with none
abbrev pub OpensHelper : Option Process → Helper → Type 0
OpensHelper process helper = (cfg : Sections) (h : ℕ) → process ≡ process_at cfg [] h → of_helper.Stands cfg [] h helper

-- a neighbour slot with this section, or with none
pub record Opens (section : Option Neighbor) (is : Peering) : Type 0 where
  pub slot : of_peer.Stands (exchanged None section) is.slot
  pub names : is.names ≡ names_heard section

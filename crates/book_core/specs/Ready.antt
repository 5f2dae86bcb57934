-- What is asked of one neighbour slot, and what a cut of it needs.
use Rattle.std.specs.Prelude.{ℕ, ◌≡◌, ◌≤◌, Bool, false, slice_get, Option, Some, None}
use Rattle.route_values.specs.declared.settings.Settings.{Settings}
use Rattle.route_values.specs.Caps.{Caps}
use Rattle.update_grammar.specs.Packed.{room}
use Rattle.config_model.specs.Plan.{same_settings}
use Rattle.book_history.specs.declared.outcomes.Peer.{Peer}
use Rattle.book_history.specs.declared.outcomes.Peer.TheVariants as peer
use Rattle.book_core.specs.declared.peering.Peering.{Peering}
use Rattle.book_core.specs.Seen.{Seen}

-- whether there are settings, and these
abbrev pub are_settings : Option Settings → Settings → Bool
are_settings None settings = false
are_settings (Some own) settings = same_settings own settings

-- the neighbour that is told, by the settings of its slot
abbrev pub peer_told : Option Settings → Peer
peer_told None = peer.Absent
peer_told (Some settings) = peer.Is settings

-- a buffer with this room takes each message of the session that stands in the slot
abbrev pub TakesCuts : Seen → ℕ → ℕ → Type 0
TakesCuts book n size = (peering : Peering) (caps : Caps) → slice_get book.peers n ≡ Some peering
    → peering.slot.session ≡ Some caps → room caps ≤ size

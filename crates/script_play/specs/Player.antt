-- When a player stands for a history.
use Rattle.std.specs.Prelude.{ℕ, ◌≡◌, ◌<◌, List, Option, Some, length, slice_get, slice_set}
use Rattle.route_values.specs.declared.settings.Settings.{Settings}
use Rattle.book_history.specs.declared.outcomes.Peer.{Peer}
use Rattle.book_history.specs.declared.outcomes.Peer.TheVariants as peer
use Rattle.config_model.specs.Limits.{max_peers}
use Rattle.config_model.specs.Sections.{Sections}
use Rattle.book_history.specs.Entries.{History}
use Rattle.book_core.specs.Stands.{Stands}
use Rattle.text_history.specs.Plays.{settings_told}
pub use Rattle.attr_codec.specs.Buffer.{max_message}
use Rattle.script_play.specs.declared.player.Player.{Player}

-- of each neighbour slot it is known which settings it told last
pub record AreKnown (H : History) (known : List (Option Settings)) : Type 0 where
  pub many : length known ≡ max_peers
  pub each : (n : ℕ) → n < max_peers → slice_get known n ≡ Some (settings_told n H)

-- what is known once a slot told this
abbrev pub known_by : ℕ → Peer → List (Option Settings) → List (Option Settings)
known_by n (peer.Is settings) known = slice_set known n (Some settings)
known_by n _ known = known

-- its book stands for the history, and it knows the settings that were told
pub record PlayerStands (cfg : Sections) (H : History) (player : Player) : Type 0 where
  pub book : Stands cfg H player.book
  pub known : AreKnown H player.known
  pub room : player.message.room ≡ max_message

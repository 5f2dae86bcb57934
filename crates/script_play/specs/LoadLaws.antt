-- What the messages of a load leave at the neighbour.
use Rattle.std.specs.Prelude.{ℕ, ◌≡◌, [], ◌∷◌, Some}
use Rattle.route_values.specs.declared.key.Key.{Key}
use Rattle.update_grammar.specs.Net.{net}
use Rattle.config_model.specs.declared.sections.Neighbor.{Neighbor}
use Rattle.config_model.specs.Sections.{Sections}
use Rattle.book_history.specs.Entries.{History}
use Rattle.book_history.specs.Legal.{IsLegal}
use Rattle.book_history.specs.Peers.{peer_at, session_at}
use Rattle.script_play.specs.Loads.{IsLoad, effects_in, load_caps, load_settings}

-- a configuration with one neighbour, which has the settings of a load
pub record IsLoadConfig (cfg : Sections) : Type 0 where
  pub neighbor : Neighbor
  pub neighbors : cfg.neighbors ≡ neighbor ∷ []
  pub settings : neighbor.settings ≡ load_settings

-- the session that came up stands, and what its messages have left at the neighbour is what is counted as left
pub record LeavesCounted (cfg : Sections) (H : History) : Type 0 where
  pub stands : session_at cfg H 0 ≡ Some load_caps
  pub left : (key : Key) → peer_at cfg H 0 load_caps key ≡ net (effects_in H) key

abbrev pub LoadsLeaveCounted : Type 0
LoadsLeaveCounted = (cfg : Sections) (count : ℕ) (H : History) → IsLoadConfig cfg → IsLoad count H → IsLegal cfg H
    → LeavesCounted cfg H

-- What `load` writes: the counts of a history that a large input may have over a newly opened book.
use Rattle.std.specs.Prelude.{ℕ, ◌≡◌, ◌<◌, ◌≤◌, codes, decimal, List, [], ◌∷◌}
use Rattle.config_model.specs.Sections.{Sections}
use Rattle.book_history.specs.Entries.{History}
use Rattle.book_history.specs.Legal.{IsLegal}
use Rattle.script_play.specs.Loads.{IsLoad, counts_of, counts_text, max_routes}
use Rattle.script_play.specs.LoadLaws.{LeavesCounted}
use Rattle.exa_top.specs.Plain.{plain_sections}

-- `load COUNT`: so many routes, one or more
abbrev pub IsLoadWords : List (List ℕ) → ℕ → Type 0
IsLoadWords words count = (words ≡ codes "load" ∷ decimal count ∷ []) × (0 < count) × (count ≤ max_routes)

-- the configuration of the book: AS 65001 and 65002, from 192.0.2.9
abbrev pub load_config : Sections
load_config = plain_sections 65001 65002 3221225993

-- An output is the nine counts of a legal history, whose events are those of a load. What is counted as left is what
-- the messages have left at the neighbour.
pub record IsLoaded (count : ℕ) (output : List ℕ) : Type 0 where
  pub history : History
  pub load : IsLoad count history
  pub legal : IsLegal load_config history
  pub left : LeavesCounted load_config history
  pub output_is : output ≡ counts_text (counts_of count history)

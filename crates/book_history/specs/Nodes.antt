-- How many route nodes there are, over all neighbours.
use Rattle.std.specs.Prelude.{ℕ, length}
use Rattle.std.specs.List.{sum_by}
use Rattle.config_model.specs.Sections.{Sections}
use Rattle.peer_history.specs.Ordered.{node_keys}
use Rattle.book_history.specs.Bounds.{peer_numbers}
use Rattle.book_history.specs.Entries.{History}
use Rattle.book_history.specs.PeerSteps.{steps_of}

-- the number of pairs of a neighbour and a key that a table has to keep something for
abbrev pub nodes : Sections → History → ℕ
nodes cfg H = sum_by (λ n. length (node_keys (steps_of cfg n H))) peer_numbers

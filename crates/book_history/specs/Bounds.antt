-- The bounds that a history keeps.
use Rattle.std.specs.Prelude.{ℕ, ◌-◌, ◌^◌, List, [], ◌∷◌}
use Rattle.std.specs.Prelude.{zero, suc}
use Rattle.config_model.specs.Limits.{max_peers}

-- how many route nodes there are at most, over all neighbours
abbrev pub max_nodes : ℕ
max_nodes = 4194304

-- how many replies wait for a helper at most, which is what a queue of ack_queue holds
abbrev pub max_queued : ℕ
max_queued = 1024

-- how many of them are taken at once, as there
abbrev pub max_taken : ℕ
max_taken = 64

-- how many routes are shown at most, which leaves room for the reply behind them
abbrev pub max_shown : ℕ
max_shown = 1023

-- how many starts of a helper may lie within the window of respawn_window
abbrev pub max_starts : ℕ
max_starts = 5

-- how often a slot's helpers are started at most
abbrev pub max_incarnations : ℕ
max_incarnations = 2 ^ 64 - 1

-- numbers from n on, so many of them
abbrev pub numbers_from : ℕ → ℕ → List ℕ
numbers_from n zero = []
numbers_from n (suc many) = n ∷ numbers_from (suc n) many

-- the numbers of the neighbour slots
abbrev pub peer_numbers : List ℕ
peer_numbers = numbers_from 0 max_peers

-- How much a configuration may have.
use Rattle.std.specs.Prelude.{ℕ}

-- the most processes
abbrev pub max_helpers : ℕ
max_helpers = 16

-- the most neighbours
abbrev pub max_peers : ℕ
max_peers = 64

-- the most static routes, over all neighbours
abbrev pub max_routes : ℕ
max_routes = 4194304

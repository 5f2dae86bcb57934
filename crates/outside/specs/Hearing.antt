-- What an ear is told.
use Rattle.std.specs.Prelude.{ℕ, List}

-- a session of a slot came up with these bits, a body came on it, it ended, or there are no more
pub data HeardCall : Type 0 where
  Began : ℕ → ℕ → HeardCall
  Heard : ℕ → List ℕ → HeardCall
  Ended : ℕ → HeardCall
  Closed : ℕ → HeardCall

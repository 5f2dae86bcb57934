-- What counting effects leaves.
use Rattle.std.specs.Prelude.{ℕ, ◌≡◌, ◌+◌, ⊤, List, [], ◌++◌, count_by, Option, Some, None, Result, Ok, Err}
use Rattle.update_grammar.specs.declared.effect.Effect.{Effect}
use Rattle.script_play.specs.declared.counting.Tally.{Tally}
use Rattle.script_play.specs.Loads.{Counts, is_gone, is_here}
use Rattle.script_play.specs.Standing.{AreLeftAt}

-- the effects, if there are any
abbrev pub effects_of : Option (List Effect) → List Effect
effects_of None = []
effects_of (Some effects) = effects

-- effects were counted behind others, and nothing else
pub record TookEffects (effects : List Effect) (was now : Tally) : Type 0 where
  pub lines : now.lines ≡ was.lines
  pub done : now.done ≡ was.done
  pub errors : now.errors ≡ was.errors
  pub messages : now.messages ≡ was.messages
  pub bytes : now.bytes ≡ was.bytes
  pub announced : now.announced ≡ was.announced + count_by is_here effects
  pub withdrawn : now.withdrawn ≡ was.withdrawn + count_by is_gone effects
  pub left : (before : List Effect) → AreLeftAt before was.left → AreLeftAt (before ++ effects) now.left

-- what a call leaves that counts effects
abbrev pub TakesEffects : {E : Type 0} → List Effect → Tally → Tally → Result (Unit {0}) E → Type 0
TakesEffects effects was now (Ok _) = TookEffects effects was now
TakesEffects effects was now (Err _) = ⊤

-- the counts that a tally tells, where so many routes were asked for and so many are left
abbrev pub counts_told : ℕ → Tally → ℕ → Counts
counts_told count tally left = record {
  routes = count;
  lines = tally.lines;
  done = tally.done;
  error = tally.errors;
  messages = tally.messages;
  bytes = tally.bytes;
  announced = tally.announced;
  withdrawn = tally.withdrawn;
  left = left;
}

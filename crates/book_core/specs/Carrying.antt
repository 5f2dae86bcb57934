-- What a line that is done does to the slots that it is for.
use Rattle.std.specs.Prelude.{ℕ, Bool, false, List, get_or}
use Rattle.command_grammar.specs.declared.command.Command.{Command}
use Rattle.peer_history.specs.Steps.{Step}
use Rattle.book_history.specs.PeerSteps.{commanded}

-- whether a slot is among the chosen ones
abbrev pub is_among : List Bool → ℕ → Bool
is_among chosen n = get_or chosen n false

-- what a command is to each slot, where these are the ones that it is for
abbrev pub carried : List Bool → Command → ℕ → List Step
carried chosen given n = commanded given (is_among chosen n)

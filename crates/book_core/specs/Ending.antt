-- What is said of the daemon as a whole.
use Rattle.std.specs.Prelude.{ℕ, Bool, List, [], ◌∷◌, if◌then◌else◌}
use Rattle.peer_history.specs.Steps.{Step, Code}
use Rattle.peer_history.specs.Steps.Step.{Ended}
use Rattle.book_history.specs.declared.outcomes.Control.{Control}
use Rattle.book_history.specs.declared.outcomes.Control.TheVariants as control

-- what the daemon is to do, by whether it ends and whether a reload is due
abbrev pub directed_by : Bool → Bool → Control
directed_by stopping reload_due =
    if stopping then control.Stop else (if reload_due then control.ReloadDue else control.Nothing)

-- the end of its session with a code is to each slot this step
abbrev pub ended_by : Code → ℕ → List Step
ended_by code n = Ended code ∷ []

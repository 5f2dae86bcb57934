-- What a history is to one neighbour slot: the steps that concern it.
use Rattle.std.specs.Prelude.{ℕ, ◌==◌, Bool, not, List, [], ◌∷◌, ◌++◌, map, Option, Some, None, Ok, if◌then◌else◌}
use Rattle.route_values.specs.declared.addr.Family.TheVariants.{Ipv4, Ipv6}
use Rattle.command_grammar.specs.declared.command.Command.{Command}
use Rattle.command_grammar.specs.declared.command.Command.TheVariants as command
use Rattle.config_model.specs.declared.sections.Neighbor.{Neighbor}
use Rattle.config_model.specs.Plan.{same_settings}
use Rattle.config_model.specs.Sections.{Sections}
use Rattle.peer_history.specs.Steps.{Step, Static, Code, Answer}
use Rattle.peer_history.specs.Steps.Step.{Announced, Withdrawn, Cleared, Placed, Kept, Vacated, Up, Down, Ended}
use Rattle.peer_history.specs.Steps.Step.{Refreshed, Cut}
use Rattle.peer_history.specs.Steps as step
use Rattle.book_history.specs.declared.outcomes.Cut.{Cut as Cutting}
use Rattle.book_history.specs.declared.outcomes.Cut.TheVariants as cut
use Rattle.book_history.specs.declared.outcomes.Reload.TheVariants as reload
use Rattle.book_history.specs.declared.outcomes.Up.TheVariants as up
use Rattle.book_history.specs.declared.outcomes.Verdict.TheVariants as verdict
use Rattle.book_history.specs.Entries.{History}
use Rattle.book_history.specs.Entries.Entry.{LineEntered, CameUp, WentDown, RefreshAsked, MessageCut, Reloaded, Stopped}
use Rattle.book_history.specs.Selecting.{selects}
use Rattle.book_history.specs.Slots.{neighbor_at, same_peer}

-- a Cease (RFC 4271, section 6.7) with a subcode (RFC 4486, section 3)
abbrev pub cease : ℕ → Code
cease sub = record { code = 6; sub = sub }

-- the subcodes: administrative shutdown, peer de-configured, other configuration change
abbrev pub shut_down : ℕ
shut_down = 2

abbrev pub deconfigured : ℕ
deconfigured = 3

abbrev pub changed : ℕ
changed = 6

-- a step where the condition holds
abbrev pub step_if : Bool → List Step → List Step
step_if so steps = if so then steps else []

-- what an accepted command is to a slot, which it selects or doesn't; a shutdown ends every session
abbrev pub commanded : Command → Bool → List Step
commanded (command.Announce pick keys attrs) so = step_if so (Announced keys attrs ∷ [])
commanded (command.Withdraw pick keys) so = step_if so (Withdrawn keys ∷ [])
commanded (command.Clear pick) so = step_if so (Cleared ∷ [])
commanded (command.Flush pick) so = step_if so (Refreshed Ipv6 ∷ Refreshed Ipv4 ∷ [])
commanded (command.Teardown pick sub) so = step_if so (Ended (cease sub) ∷ [])
commanded command.Shutdown so = Ended (cease shut_down) ∷ []
commanded _ so = []

-- the static routes of a section
abbrev pub statics_of : Neighbor → List Static
statics_of neighbor = map (λ route. record { key = route.key; attrs = route.attrs }) neighbor.statics

-- what a reload is to the slot of a neighbour whose section it changes: other settings end its session
abbrev pub resettled : Neighbor → Neighbor → List Step
resettled old new = Kept new.settings (statics_of new)
    ∷ step_if (not (same_settings old.settings new.settings)) (Ended (cease changed) ∷ [])

-- what a reload is to a slot, by what stands in it before and after
abbrev pub exchanged : Option Neighbor → Option Neighbor → List Step
exchanged None None = []
exchanged None (Some new) = Placed new.settings (statics_of new) ∷ []
exchanged (Some old) None = Vacated ∷ Ended (cease deconfigured) ∷ []
exchanged (Some old) (Some new) =
    if same_peer old new then resettled old new
    else Placed new.settings (statics_of new) ∷ Ended (cease deconfigured) ∷ []

-- the answer of a cut, with the message's bytes
abbrev pub answer_of : List ℕ → Cutting → Answer
answer_of bytes cut.Down = step.NoSession
answer_of bytes (cut.Reset code sub) = step.Reset (record { code = code; sub = sub })
answer_of bytes cut.Nothing = step.Nothing
answer_of bytes (cut.Message last) = step.Message bytes last

-- the steps of the n-th slot, the newest first
abbrev pub steps_of : Sections → ℕ → History → List Step
steps_of cfg n [] = exchanged None (neighbor_at cfg [] n)
steps_of cfg n (LineEntered h inc line (Ok given) verdict.Done ∷ H) =
    commanded given (selects cfg H h given n) ++ steps_of cfg n H
steps_of cfg n (CameUp m settings caps up.Ok ∷ H) = step_if (m == n) (Up caps ∷ []) ++ steps_of cfg n H
steps_of cfg n (WentDown m ∷ H) = step_if (m == n) (Down ∷ []) ++ steps_of cfg n H
steps_of cfg n (RefreshAsked m family ∷ H) = step_if (m == n) (Refreshed family ∷ []) ++ steps_of cfg n H
steps_of cfg n (MessageCut m bytes given ∷ H) = step_if (m == n) (Cut (answer_of bytes given) ∷ []) ++ steps_of cfg n H
steps_of cfg n (Reloaded new reload.Ok ∷ H) =
    exchanged (neighbor_at cfg H n) (neighbor_at cfg (Reloaded new reload.Ok ∷ H) n) ++ steps_of cfg n H
steps_of cfg n (Stopped ∷ H) = Ended (cease shut_down) ∷ steps_of cfg n H
steps_of cfg n (_ ∷ H) = steps_of cfg n H

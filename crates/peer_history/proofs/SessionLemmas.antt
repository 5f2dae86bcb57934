-- Sessions that live, and parts of a legal history.
use Rattle.std.proofs.Common.{◌≡◌, Bool, true, false, List, [], ◌∷◌, ◌++◌, Some, None, refl, sym, ◌∙◌, subst}
use Rattle.std.specs.Prelude.{if◌then◌else◌, is_some}
use Rattle.std.proofs.lemmas.Option.{same_Some}
use Rattle.route_values.specs.Caps.{Caps}
use Rattle.peer_history.specs.Batches.{opened, batch}
use Rattle.peer_history.specs.Cuts.{MayCut, IsLegal}
use Rattle.peer_history.specs.Sessions.{session, reset, live}
use Rattle.peer_history.specs.Steps.{Step}
use Rattle.peer_history.specs.Steps.Step.{Up, Down, Cut}
use Rattle.peer_history.specs.Steps.Answer.{Message}

-- a live session stands
pub live_stands : (steps : List Step) (caps : Caps) → live steps ≡ Some caps → session steps ≡ Some caps
live_stands steps caps h =
    elim (is_some (reset steps)) as (λ b. (if b then None else session steps) ≡ Some caps
    → session steps ≡ Some caps) [
      | true ↦ λ e. cc
      | false ↦ λ e. e
    ] h

pub legal_tail : (step : Step) (steps : List Step) → IsLegal (step ∷ steps) → IsLegal steps
legal_tail (Cut answer) steps h = h.1
legal_tail _ steps h = h

pub legal_front : (later steps : List Step) → IsLegal (later ++ steps) → IsLegal steps
legal_front [] steps h = h
legal_front (step ∷ later) steps h = legal_front later steps (legal_tail step (later ++ steps) h)

-- what may be cut, under the capabilities of the session that stands
pub at_session : (caps : Caps) (steps : List Step) (bytes : List _) (last : Bool) → session steps ≡ Some caps
    → IsLegal (Cut (Message bytes last) ∷ steps) → MayCut caps steps bytes last
at_session caps steps bytes last at h =
    subst (λ c. MayCut c steps bytes last) (same_Some _ _ (sym (live_stands steps _ h.0.1) ∙ at)) h.0.2

-- a batch that isn't open has no message
pub no_message : (steps : List Step) → opened steps ≡ None → batch steps ≡ []
no_message [] o = refl
no_message (Up caps ∷ steps) o = refl
no_message (Down ∷ steps) o = refl
no_message (Cut (Message bytes true) ∷ steps) o = refl
no_message (Cut (Message bytes false) ∷ steps) o = cc
no_message (step ∷ steps) o = no_message steps o

-- What is known of a neighbour slot when a reload is planned.
use Rattle.std.specs.Prelude.{ℕ, ◌≡◌, Bool, true, List, ◌∷◌, Option, Some, None, slice_get}
use Rattle.route_values.specs.declared.settings.Settings.{Settings}
use Rattle.route_values.specs.Key.{same_addr}
use Rattle.config_model.specs.declared.sections.Neighbor.{Neighbor}
use Rattle.config_model.specs.Plan.{same_settings}
use Rattle.peer_history.specs.Steps.{Code}
use Rattle.peer_history.specs.Steps.Step.{Placed}
use Rattle.book_history.specs.PeerSteps.{statics_of}
use Rattle.book_core.specs.declared.changing.Change.{Change}
use Rattle.book_core.specs.declared.peering.Peering.{Peering}
use Rattle.book_core.specs.Changing.{ends, exchanged_by, IsPlanned}

-- the neighbour of a section is in the slot, with the section's settings or with others
pub record IsHeld (was : Peering) (new : Neighbor) (so : Bool) : Type 0 where
  pub own : Settings
  pub placed : was.slot.settings ≡ Some own
  pub peer : same_addr own.peer new.settings.peer ≡ true
  pub same : same_settings own new.settings ≡ so

-- what is planned for each slot in which the neighbour of a section is placed, behind an end by this code
abbrev pub PlansPlaced : Option Code → Neighbor → Change → Type 0
PlansPlaced end new change =
    (was : Peering) → exchanged_by was.slot.settings (Some new) ≡ Placed new.settings (statics_of new) ∷ ends end
    → (end ≡ None → was.slot.settings ≡ None) → IsPlanned was (Some new) change

-- what is planned for each slot, by its section in the new file
abbrev pub ArePlanned : (ℕ → Option Neighbor) → List Peering → List Change → Type 0
ArePlanned after peers changes =
    (n : ℕ) (is : Peering) (change : Change) → slice_get peers n ≡ Some is → slice_get changes n ≡ Some change
    → IsPlanned is (after n) change

-- What a reload does to one neighbour slot.
use Rattle.std.specs.Prelude.{ℕ, ◌≡◌, not, List, [], ◌∷◌, ◌++◌, if◌then◌else◌, Option, Some, None}
use Rattle.route_values.specs.declared.key.Key.{Key}
use Rattle.route_values.specs.declared.settings.Settings.{Settings}
use Rattle.route_values.specs.Addr.{family_of}
use Rattle.route_values.specs.Key.{same_addr}
use Rattle.route_values.specs.Settings.{side_of}
use Rattle.arrayvec.specs.ArrayVec.{ArrayVec}
use Rattle.config_model.specs.declared.sections.Neighbor.{Neighbor}
use Rattle.config_model.specs.Plan.{same_settings}
use Rattle.peer_history.specs.Sessions.{live}
use Rattle.peer_history.specs.Steps.{Step, Code}
use Rattle.peer_history.specs.Steps.Step.{Placed, Kept, Vacated, Ended}
use Rattle.peer_history.specs.Table.{settings_in}
use Rattle.peer_book.specs.Numbers.{AreNumbered}
use Rattle.peer_book.specs.Slot.{Slot, live_caps}
use Rattle.peer_book.specs.Stands as of_peer
use Rattle.peer_book.specs.Statics.{AreRoutes, StandsWithout, IsExchange}
use Rattle.book_history.specs.PeerSteps.{cease, changed, deconfigured, statics_of, step_if}
use Rattle.book_core.specs.declared.changing.Change.{Change}
use Rattle.book_core.specs.declared.changing.Change.TheVariants as change
use Rattle.book_core.specs.declared.peering.Peering.{Peering}
use Rattle.book_core.specs.Stands.{names_heard}

-- what a reload is to a slot, by the settings of the neighbour in it and by its section in the new file
abbrev pub exchanged_by : Option Settings → Option Neighbor → List Step
exchanged_by None None = []
exchanged_by None (Some new) = Placed new.settings (statics_of new) ∷ []
exchanged_by (Some own) None = Vacated ∷ Ended (cease deconfigured) ∷ []
exchanged_by (Some own) (Some new) =
    if same_addr own.peer new.settings.peer
    then Kept new.settings (statics_of new)
    ∷ step_if (not (same_settings own new.settings)) (Ended (cease changed) ∷ [])
    else Placed new.settings (statics_of new) ∷ Ended (cease deconfigured) ∷ []

-- a section of a configuration: the own address has the neighbour's family, and its static routes can be announced
pub record IsSection (section : Neighbor) : Type 0 where
  pub family : family_of section.settings.local ≡ family_of section.settings.peer
  pub routes : AreRoutes (side_of section.settings) section.statics

-- an end by a code, if there is one
abbrev pub ends : Option Code → List Step
ends None = []
ends (Some code) = Ended code ∷ []

-- the neighbour stays as it is, and the static routes of its section stand ready
pub record PlansKept (was : Slot) (after : Option Neighbor) (numbers : List (Key × ℕ)) (names : List (ArrayVec ℕ))
    : Type 0 where
  pub new : Neighbor
  pub section : after ≡ Some new
  pub settled : exchanged_by was.settings after ≡ Kept new.settings (statics_of new) ∷ []
  pub own : Settings
  pub placed : was.settings ≡ Some own
  pub side : side_of new.settings ≡ side_of own
  pub numbered : AreNumbered was.table (statics_of new) numbers
  pub heard : names ≡ new.processes

-- the slot gets another table, behind the end of a session where a neighbour is in it
pub record PlansExchange (was : Slot) (after : Option Neighbor) (end : Option Code) (with : Slot)
    (names : List (ArrayVec ℕ)) : Type 0 where
  pub step : Step
  pub is : IsExchange step
  pub settled : exchanged_by was.settings after ≡ step ∷ ends end
  pub vacant : end ≡ None → was.settings ≡ None
  pub stands : (steps : List Step) → of_peer.Stands steps was → StandsWithout (step ∷ ends end ++ steps) with
  pub closed : live_caps with ≡ None
  pub heard : names ≡ names_heard after

-- what is planned for a slot, by its section in the new file
abbrev pub IsPlanned : Peering → Option Neighbor → Change → Type 0
IsPlanned was after change.Nothing = (was.slot.settings ≡ None) × (after ≡ None)
IsPlanned was after (change.Keep numbers names) = PlansKept was.slot after numbers names
IsPlanned was after (change.Exchange end with names) = PlansExchange was.slot after end with names

-- no session is live in a slot without a neighbour
abbrev pub IsClosed : List Step → Type 0
IsClosed steps = settings_in steps ≡ None → live steps ≡ None

-- a slot with its names has the section that a reload gives it
pub record Settles (after : Option Neighbor) (was is : Peering) : Type 0 where
  pub slot : (steps : List Step) → IsClosed steps → of_peer.Stands steps was.slot
      → of_peer.Stands (exchanged_by was.slot.settings after ++ steps) is.slot
  pub names : (steps : List Step) → of_peer.Stands steps was.slot → (was.slot.settings ≡ None → was.names ≡ [])
      → is.names ≡ names_heard after

-- What an announcement needs of the slots that it is for, what it is to them, and how many route nodes come of it.
use Rattle.std.specs.Prelude.{ℕ, ◌≡◌, ◌<◌, ◌++◌, Bool, true, List, [], ◌∷◌, length, get_or, slice_get, Some}
use Rattle.std.specs.List.{sum_by}
use Rattle.route_values.specs.declared.attrs.Attrs.{Attrs}
use Rattle.route_values.specs.declared.key.Key.{Key}
use Rattle.route_values.specs.declared.settings.Settings.{Settings}
use Rattle.route_values.specs.declared.settings.Side.{Side}
use Rattle.route_values.specs.Addr.{family_of}
use Rattle.route_values.specs.Key.{family_of_key}
use Rattle.route_values.specs.Limits.{counts_written, IsWithinLimits}
use Rattle.route_values.specs.Sent.{hop_sent}
use Rattle.route_values.specs.Settings.{side_of}
use Rattle.adj_rib_out.specs.State.{value_at}
use Rattle.command_grammar.specs.declared.command.Command.{Command}
use Rattle.peer_book.specs.Slot.{Slot}
use Rattle.peer_book.specs.Stands.{Stands}
use Rattle.peer_book.specs.Tables.{CanAnnounce}
use Rattle.peer_history.specs.Cuts.{IsLegal}
use Rattle.peer_history.specs.Keys.{is_named}
use Rattle.peer_history.specs.Ordered.{node_keys}
use Rattle.peer_history.specs.Steps.{Step}
use Rattle.peer_history.specs.Steps.Step.{Announced}
use Rattle.book_history.specs.Bounds.{numbers_from}
use Rattle.book_history.specs.PeerSteps.{step_if}
use Rattle.book_history.specs.Selecting.{has_own_hop, own_family}
use Rattle.book_core.specs.declared.peering.Peering.{Peering}
use Rattle.book_core.specs.Carrying.{is_among}

-- a slot with a neighbour, whose own address has the family of a command's routes where it is their next hop
pub record Serves (given : Command) (slot : Slot) : Type 0 where
  pub own : Settings
  pub placed : slot.settings ≡ Some own
  pub hop : has_own_hop (own_family given) own ≡ true

-- each chosen slot is such a one
abbrev pub AllServe : Command → List Bool → List Peering → Type 0
AllServe given chosen peers = (n : ℕ) (is : Peering) → slice_get peers n ≡ Some is → is_among chosen n ≡ true
    → Serves given is.slot

-- The neighbour in a slot can be told of routes of these keys with these attributes: they are within the limits, and
-- the next hop that is sent has each key's family.
pub record Takes (slot : Slot) (keys : List Key) (written : Attrs) : Type 0 where
  pub own : Settings
  pub placed : slot.settings ≡ Some own
  pub limits : IsWithinLimits (counts_written written)
  pub hop : (key : Key) → is_named keys key ≡ true
      → family_of (hop_sent written.hop (side_of own)) ≡ family_of_key key

-- the neighbours in all chosen slots can
abbrev pub AllTake : List Peering → List Bool → List Key → Attrs → Type 0
AllTake peers chosen keys written = (n : ℕ) (is : Peering) → slice_get peers n ≡ Some is → is_among chosen n ≡ true
    → Takes is.slot keys written

-- routes of these keys with this value may be announced in a slot, under this number
pub record IsReadied (slot : Slot) (keys : List Key) (written : Attrs) (number : ℕ) : Type 0 where
  pub can : CanAnnounce slot keys number
  pub value : value_at slot.table number ≡ Some written

-- they may in each chosen slot below a place, under the slot's number
abbrev pub AreReadied : ℕ → List Peering → List Bool → List Key → Attrs → List ℕ → Type 0
AreReadied place peers chosen keys written numbers =
    (n : ℕ) (is : Peering) → n < place → slice_get peers n ≡ Some is → is_among chosen n ≡ true
    → IsReadied is.slot keys written (get_or numbers n 0)

-- the step that an announcement is to each slot
abbrev pub announces : List Bool → List Key → Attrs → ℕ → List Step
announces chosen keys written n = step_if (is_among chosen n) (Announced keys written ∷ [])

-- each slot stands for steps of which each cut was allowed
abbrev pub AllLegal : (ℕ → List Step) → List Peering → Type 0
AllLegal steps peers = (n : ℕ) (is : Peering) → slice_get peers n ≡ Some is
    → IsLegal (steps n) × Stands (steps n) is.slot

-- how many route nodes a slot has behind more steps
abbrev pub nodes_after : List Step → List Step → ℕ
nodes_after more steps = length (node_keys (more ++ steps))

-- how many the first slots have
abbrev pub nodes_below : ℕ → (ℕ → List Step) → (ℕ → List Step) → ℕ
nodes_below many more steps = sum_by (λ n. nodes_after (more n) (steps n)) (numbers_from 0 many)

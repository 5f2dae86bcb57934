-- What a reload does to all neighbour slots.
use Rattle.std.specs.Prelude.{ℕ, ◌≡◌, ◌<◌, ◌≤◌, Bool, true, false, not, List, length, slice_get, Option, Some, None}
use Rattle.std.specs.List.{list_any}
use Rattle.route_values.specs.declared.settings.Settings.{Settings}
use Rattle.route_values.specs.Key.{same_addr}
use Rattle.config_model.specs.declared.sections.Neighbor.{Neighbor}
use Rattle.config_model.specs.Sections.{place_of_peer}
use Rattle.peer_history.specs.Steps.{Step}
use Rattle.book_history.specs.declared.outcomes.Reload.{Reload}
use Rattle.book_history.specs.declared.outcomes.Reload.TheVariants as reload
use Rattle.book_history.specs.Bounds.{max_nodes}
use Rattle.config_model.specs.Limits.{max_peers}
use Rattle.book_core.specs.declared.changing.Change.{Change}
use Rattle.book_core.specs.declared.peering.Peering.{Peering}
use Rattle.book_core.specs.declared.placing.Places.{Places}
use Rattle.book_core.specs.Changing.{Settles}
use Rattle.book_core.specs.Counting.{nodes_below, AreTold}
use Rattle.book_core.specs.Exchanging.{section_at}
use Rattle.book_core.specs.Moves.{MovesAll, nothing}
use Rattle.book_core.specs.Placing.{number_placed}
use Rattle.book_core.specs.Planning.{ArePlanned}

-- the section that a slot has behind a reload
abbrev pub section_in : List Neighbor → Places → ℕ → Option Neighbor
section_in sections places n = section_at sections (number_placed places.kept places.news n)

-- the number of the section of the neighbour with these settings, where there is one
abbrev pub number_kept : List Neighbor → Option Settings → Option ℕ
number_kept sections None = None
number_kept sections (Some own) = place_of_peer sections own.peer

-- whether the neighbour with these settings is that of a section
abbrev pub is_of : Neighbor → Option Settings → Bool
is_of new None = false
is_of new (Some own) = same_addr own.peer new.settings.peer

-- whether there is a section, and its neighbour is in no slot
abbrev pub is_new : List Peering → Option Neighbor → Bool
is_new peers None = false
is_new peers (Some new) = not (list_any (λ (peering : Peering). is_of new peering.slot.settings) peers)

-- the sections of which these slots have the neighbours, and those that are new
pub record ArePlaces (sections : List Neighbor) (peers : List Peering) (places : Places) : Type 0 where
  pub kept : (n : ℕ) (is : Peering) → slice_get peers n ≡ Some is
      → slice_get places.kept n ≡ Some (number_kept sections is.slot.settings)
  pub kept_count : length places.kept ≡ max_peers
  pub news : (n : ℕ) → n < max_peers → slice_get places.news n ≡ Some (is_new peers (slice_get sections n))
  pub news_count : length places.news ≡ max_peers

-- it is planned what comes to the first slots
pub record ArePlannedTo (place : ℕ) (after : ℕ → Option Neighbor) (peers : List Peering) (changes : List Change)
    : Type 0 where
  pub count : length changes ≡ place
  pub each : ArePlanned after peers changes

-- the first slots have their new sections, and the others are as they were, with what is planned for them
pub record SettlesTo (place : ℕ) (after : ℕ → Option Neighbor) (start : List Peering) (planned : List Change)
    (peers : List Peering) (changes : List Change) : Type 0 where
  pub count : length peers ≡ length start
  pub changes_count : length changes ≡ length planned
  pub below : (n : ℕ) (was is : Peering) → n < place → slice_get start n ≡ Some was → slice_get peers n ≡ Some is
      → Settles (after n) was is
  pub above : (n : ℕ) → place ≤ n → slice_get peers n ≡ slice_get start n
  pub left : (n : ℕ) → place ≤ n → slice_get changes n ≡ slice_get planned n

-- each slot has its new section
pub record SettlesAll (after : ℕ → Option Neighbor) (old new : List Peering) : Type 0 where
  pub count : length new ≡ length old
  pub each : (n : ℕ) (was is : Peering) → slice_get old n ≡ Some was → slice_get new n ≡ Some is
      → Settles (after n) was is

-- what becomes of the neighbour slots, by what is answered
abbrev pub Reloads : (ℕ → Option Neighbor) → List Peering → List Peering → Reload → Type 0
Reloads after old new reload.Ok =
    SettlesAll after old new
    × ((steps : ℕ → List Step) → AreTold steps old → nodes_below max_peers steps after ≤ max_nodes)
Reloads after old new (reload.Full nodes) =
    MovesAll nothing old new × (max_nodes < nodes)
    × ((steps : ℕ → List Step) → AreTold steps old → nodes ≡ nodes_below max_peers steps after)
Reloads after old new reload.NoMemory = MovesAll nothing old new

-- whether a new configuration stands
abbrev pub is_done : Reload → Bool
is_done reload.Ok = true
is_done _ = false

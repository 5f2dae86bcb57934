-- Which keys nothing keeps, and how those go.
use Rattle.std.specs.Prelude.{ℕ, ◌≡◌, ◌↔◌, ◌&&◌, ◌||◌, Bool, true, not, List, [], if◌then◌else◌}
use Rattle.std.specs.Prelude.{Option, None, is_some, nat_lt, length}
use Rattle.linked_pending.specs.Links.{link}
use Rattle.linked_pending.specs.Listing.{has}
use Rattle.route_values.specs.declared.key.Key.{Key}
use Rattle.slot_batches.specs.Left.{value_left}
use Rattle.slot_batches.specs.Slots.{Slots}
use Rattle.adj_rib_out.specs.declared.chosen.Chosen.{Chosen}
use Rattle.adj_rib_out.specs.State.{State, is_ready}
use Rattle.adj_rib_out.specs.Calls.{IsNeeded}
use Rattle.adj_rib_out.specs.Kept.{chosen_at}
use Rattle.adj_rib_out.specs.KeyPlaces.{KeyPlaces}
use Rattle.adj_rib_out.specs.Places.{key_at}
use Rattle.adj_rib_out.specs.Readying.{KeepsRest}

-- whether something keeps the key of a place: a route, what was sent, or an item of the open batch
abbrev pub is_kept_by : List (Option Chosen) → Slots → ℕ → Bool
is_kept_by routes slots place = is_some (chosen_at routes place)
    || (nat_lt 1 (link slots.sents place) || is_some (value_left slots.left place))

-- the noted keys that nothing keeps are gone, none is noted any more, and nothing else has changed
pub record TrimsPlaces (routes : List (Option Chosen)) (slots : Slots) (old new : KeyPlaces) : Type 0 where
  pub keys : (place : ℕ) → key_at new.keys place
      ≡ (if has place old.idle && not (is_kept_by routes slots place) then None else key_at old.keys place)
  pub same_length : length new.keys ≡ length old.keys
  pub idle : new.idle ≡ []
  pub used : new.used ≡ old.used

-- just the keys stand ready that are needed, and nothing else has changed
pub record TrimsKeys (old new : State) : Type 0 where
  pub keys : (key : Key) → (is_ready new key ≡ true) ↔ IsNeeded old key
  pub rest : KeepsRest old new

-- How a key comes to a place, and how a place is made for it.
use Rattle.std.specs.Prelude.{ℕ, ◌≡◌, ◌==◌, ◌≤◌, List, if◌then◌else◌, Option, Some, None, length}
use Rattle.linked_pending.specs.Links.{link}
use Rattle.route_values.specs.declared.key.Key.{Key}
use Rattle.slot_batches.specs.Slots.{Slots}
use Rattle.value_pool.specs.Pool.{noted}
use Rattle.adj_rib_out.specs.declared.chosen.Chosen.{Chosen}
use Rattle.adj_rib_out.specs.Kept.{chosen_at, parity}
use Rattle.adj_rib_out.specs.KeyPlaces.{KeyPlaces}
use Rattle.adj_rib_out.specs.Places.{key_at}

-- keys, routes and slots stand at the same places
pub record HaveOneLength (keys : List (Option Key)) (given : List (Option Chosen)) (slots : Slots) : Type 0 where
  pub nows : length slots.nows ≡ length keys
  pub sents : length slots.sents ≡ length keys
  pub routes : length given ≡ length keys

-- what slots have but for their values, and room for values, which there may be more of
pub record KeepsSlots (old new : Slots) : Type 0 where
  pub left : new.left ≡ old.left
  pub even : new.even_again ≡ old.even_again
  pub odd : new.odd_again ≡ old.odd_again
  pub room : old.room ≤ new.room

module _ (old new : KeyPlaces) (old_routes new_routes : List (Option Chosen)) (old_slots new_slots : Slots) where
  -- there may be a vacant place more, with no route and a slot of no value; what stands stays
  pub record Widens : Type 0 where
    pub keys : (place : ℕ) → key_at new.keys place ≡ key_at old.keys place
    pub idle : new.idle ≡ old.idle
    pub routes : (place : ℕ) → chosen_at new_routes place ≡ chosen_at old_routes place
    pub nows : (place : ℕ) → link new_slots.nows place ≡ link old_slots.nows place
    pub sents : (place : ℕ) → link new_slots.sents place ≡ link old_slots.sents place
    pub slots : KeepsSlots old_slots new_slots
    pub lengths : HaveOneLength new.keys new_routes new_slots

  -- A key stands at a place that was vacant, which is noted, with a slot for its family. There may be a vacant place
  -- more; what stood stays.
  pub record PutsKey (key : Key) : Type 0 where
    pub place : ℕ
    pub free : key_at old.keys place ≡ None
    pub keys : (i : ℕ) → key_at new.keys i ≡ (if i == place then Some key else key_at old.keys i)
    pub idle : new.idle ≡ noted place old.idle
    pub routes : (i : ℕ) → chosen_at new_routes i ≡ chosen_at old_routes i
    pub nows : (i : ℕ) → link new_slots.nows i ≡ (if i == place then parity key else link old_slots.nows i)
    pub sents : (i : ℕ) → link new_slots.sents i ≡ (if i == place then parity key else link old_slots.sents i)
    pub slots : KeepsSlots old_slots new_slots
    pub lengths : HaveOneLength new.keys new_routes new_slots

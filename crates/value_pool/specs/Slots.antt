-- How a pool keeps its items: the values in a table with their numbers, and for each number its place in the table.
use Rattle.std.specs.Prelude.{ℕ, ◌+◌, ◌-◌, ◌<◌, ◌≤◌, ◌≡◌, ◌++◌, true, List, [], ◌∷◌, map, Option, Some, None, IsSome}
use Rattle.std.specs.Prelude.{if◌then◌else◌, nat_lt, length, slice_get, slice_index_or, slice_set}
use Rattle.std.specs.Option.{option_map}
use Rattle.linked_pending.specs.Listing.{Listing, has, AreApart}
use Rattle.value_pool.specs.declared.slots.Slot.{Slot}

-- the slot of a number
abbrev pub slot_at : List (Option Slot) → ℕ → Option Slot
slot_at slots number = slice_index_or slots number None

-- the place that a slot names
abbrev pub place_in : Option Slot → Option ℕ
place_in slot = option_map (λ s. s.place) slot

-- the number that the next slot takes
abbrev pub next_number : List (Option Slot) → List ℕ → ℕ
next_number slots free = slice_index_or free (length free - 1) (length slots)

-- the slots with one under a number
abbrev pub with_slot : List (Option Slot) → ℕ → Slot → List (Option Slot)
with_slot slots number slot =
    if nat_lt number (length slots) then slice_set slots number (Some slot) else slots ++ Some slot ∷ []

-- a slot with another place
abbrev pub at_place : ℕ → Slot → Slot
at_place place slot = record { place = place; tag = slot.tag }

-- the slots with another place under a number
abbrev pub moved : List (Option Slot) → ℕ → ℕ → List (Option Slot)
moved slots number place = slice_set slots number (option_map (at_place place) (slot_at slots number))

-- the slots with a place under a number, if one is found
abbrev pub settled_by : Option ℕ → List (Option Slot) → ℕ → List (Option Slot)
settled_by None slots place = slots
settled_by (Some number) slots place = moved slots number place

module _ {T : Type 0} where
  -- the item of a slot, by the entries at their places
  abbrev pub item_of : (ℕ → Option (T × ℕ)) → Option Slot → Option (T × ℕ)
  item_of entry_at None = None
  item_of entry_at (Some slot) = option_map (λ entry. (entry.0, slot.tag)) (entry_at slot.place)

  -- the items of slots
  abbrev pub items_of : List (T × ℕ) → List (Option Slot) → List (Option (T × ℕ))
  items_of entries slots = map (item_of (slice_get entries)) slots

  -- the number of an entry
  abbrev pub number_in : Option (T × ℕ) → Option ℕ
  number_in entry = option_map (λ e. e.1) entry

  -- the slots with the place of the entry that stands there
  abbrev pub settled : List (T × ℕ) → List (Option Slot) → ℕ → List (Option Slot)
  settled entries slots place = settled_by (number_in (slice_get entries place)) slots place

  -- the slot of a number names the place of the entry that has the number, and there are no others
  pub record AreTied (entry_at : ℕ → Option (T × ℕ)) (slot_of : ℕ → Option Slot) : Type 0 where
    pub placed : (number place : ℕ) → place_in (slot_of number) ≡ Some place
        → number_in (entry_at place) ≡ Some number
    pub numbered : (number place : ℕ) → number_in (entry_at place) ≡ Some number
        → place_in (slot_of number) ≡ Some place

  -- so do the slots and entries of lists
  abbrev pub AreMatched : List (T × ℕ) → List (Option Slot) → Type 0
  AreMatched entries slots = AreTied (slice_get entries) (slot_at slots)

-- free numbers are below the count of numbers, have no slot, and stand once
pub record AreFree (slots : List (Option Slot)) (free : List ℕ) : Type 0 where
  pub vacant : (number : ℕ) → has number free ≡ true → slot_at slots number ≡ None
  pub within : (number : ℕ) → has number free ≡ true → number < length slots
  pub apart : AreApart free

-- there is space for one more number: in the slots, among the free numbers and among those noted
pub record HasSpace (count slots freed room : ℕ) : Type 0 where
  pub in_slots : count < slots
  pub in_freed : count < freed
  pub in_room : count < room

-- what holds of a pool: each number is free or has an entry, and there is room to free and to note each
pub record IsPool {T : Type 0} (entries : List (T × ℕ)) (slots : List (Option Slot)) (freed : List ℕ) (space : ℕ)
    (idle : Listing) : Type 0 where
  pub matched : AreMatched entries slots
  pub free : AreFree slots freed
  pub count : length freed + length entries ≡ length slots
  pub spacious : length slots ≤ space
  pub roomy : length slots ≤ idle.room
  pub held : (number : ℕ) → has number idle.items ≡ true → IsSome (slot_at slots number)

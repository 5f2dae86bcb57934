-- What is left of an open batch: slots, each with the value that the batch will send of it.
use Rattle.std.specs.Prelude.{ℕ, ◌≡◌, ◌⊎◌, ◌-◌, ◌/◌, false, ⊤, List, [], ◌∷◌, ◌==◌, if◌then◌else◌, map}
use Rattle.std.specs.Prelude.{Option, Some, None}
use Rattle.linked_pending.specs.Group.{Group}
use Rattle.linked_pending.specs.Listing.{has}
use Rattle.slot_batches.specs.declared.slots.Item.{Item}

-- a slot and a value of it
abbrev pub item_of : ℕ → ℕ → Item
item_of slot value = record { slot = slot; value = value }

-- the value that a list of items has for a slot
abbrev pub value_left : List Item → ℕ → Option ℕ
value_left [] slot = None
value_left (item ∷ items) slot = if slot == item.slot then Some item.value else value_left items slot

-- the slots of items, and their values
abbrev pub slots_of : List Item → List ℕ
slots_of items = map (λ (item : Item). item.slot) items

abbrev pub values_of : List Item → List ℕ
values_of items = map (λ (item : Item). item.value) items

-- behind a value it comes again next, or not any more
abbrev pub ComesNextOrNever : ℕ → List ℕ → Type 0
ComesNextOrNever value [] = ⊤
ComesNextOrNever value (next ∷ later) = (next ≡ value) ⊎ (has value (next ∷ later) ≡ false)

-- equal values stand together
abbrev pub AreTogether : List ℕ → Type 0
AreTogether [] = ⊤
AreTogether (value ∷ later) = ComesNextOrNever value later × AreTogether later

-- the items that groups of nodes stand for: a node is a slot's, and its group's number is the slot's value
abbrev pub items_with : ℕ → List ℕ → List Item → List Item
items_with number [] later = later
items_with number (node ∷ nodes) later = item_of (node / 2 - 1) number ∷ items_with number nodes later

abbrev pub items_of : List Group → List Item
items_of [] = []
items_of (first ∷ rest) = items_with first.number first.nodes (items_of rest)

-- How a written value comes to stand ready beside slots, which make room for the number of its wire attributes.
use Rattle.std.specs.Prelude.{ℕ, ◌≡◌, ◌≢◌, ◌⊎◌, ◌+◌, ◌*◌, Some, length, max}
use Rattle.route_values.specs.declared.attrs.Attrs.{Attrs}
use Rattle.route_values.specs.Sent.{sent}
use Rattle.slot_batches.specs.Slots.{Slots}
use Rattle.adj_rib_out.specs.Stock.{Stock, AddsValue, AddsWireAtMost, value_under}

-- the slots with room for the number of one more
abbrev pub roomier : Slots → Stock → Slots
roomier slots stock = record slots { room = max slots.room (2 * length stock.seen.wires + 4) }

-- an equal value stood, and nothing has changed
pub record FindsValue (old new : Stock) (slots later : Slots) (written : Attrs) (number : ℕ) : Type 0 where
  pub stands : value_under old.seen number ≡ Some written
  pub stock : new ≡ old
  pub room : later ≡ slots

-- the value stood nowhere, and stands now
pub record StandsValue (old new : Stock) (slots later : Slots) (written : Attrs) (number : ℕ) : Type 0 where
  pub absent : (n : ℕ) → value_under old.seen n ≢ Some written
  pub adds : AddsValue old new written number
  pub room : later ≡ roomier slots old

abbrev pub ReadiesValue : Stock → Stock → Slots → Slots → Attrs → ℕ → Type 0
ReadiesValue old new slots later written number =
    FindsValue old new slots later written number ⊎ StandsValue old new slots later written number

-- memory was wanting: nothing has changed, or there is room, and wire attributes may stand besides
abbrev pub ReadiesNone : Stock → Stock → Slots → Slots → Attrs → Type 0
ReadiesNone old new slots later written = ((new ≡ old) × (later ≡ slots))
    ⊎ (AddsWireAtMost old new (sent written old.seen.side) × (later ≡ roomier slots old))

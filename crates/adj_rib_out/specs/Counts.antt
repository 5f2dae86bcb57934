-- What trim has to know of a table: which keys are noted, and how often written values and wire attributes are used.
-- The counts stand in two columns, by the numbers of written values and of wire attributes.
use Rattle.std.specs.Prelude.{ℕ, ◌≡◌, ◌==◌, ◌+◌, ◌-◌, ◌/◌, ◌&&◌, ◌||◌, Bool, true, false, List, Option, Some, None}
use Rattle.std.specs.Prelude.{is_some, nat_lt, if◌then◌else◌}
use Rattle.std.specs.List.{sum_by}
use Rattle.linked_pending.specs.Links.{link}
use Rattle.linked_pending.specs.Listing.{has}
use Rattle.route_values.specs.declared.attrs.Attrs.{Attrs}
use Rattle.route_values.specs.declared.key.Key.{Key}
use Rattle.slot_batches.specs.Left.{value_left}
use Rattle.adj_rib_out.specs.declared.chosen.Chosen.{Chosen}
use Rattle.adj_rib_out.specs.Kept.{Parts, IsTable, chosen_at}
use Rattle.adj_rib_out.specs.Places.{key_at}

-- ---- keys

-- whether something keeps the key of a place: a route, what was sent, or an item of the open batch
abbrev pub is_held : Parts → ℕ → Bool
is_held parts place = is_some (chosen_at parts.routes place)
    || (nat_lt 1 (link parts.slots.sents place) || is_some (value_left parts.slots.left place))

-- each key that nothing keeps is noted; one that is noted may be kept after all
abbrev pub KeysNoted : Parts → List ℕ → Type 0
KeysNoted parts noted = (place : ℕ) (key : Key) → key_at parts.keys place ≡ Some key
    → is_held parts place ≡ false → has place noted ≡ true

-- ---- written values

-- 1 where a place was given the value, and 0 else: a sum of these is the count
abbrev pub of_value : ℕ → Option Chosen → ℕ
of_value value None = 0
of_value value (Some chosen) = if chosen.value == value then 1 else 0

-- the count of a written value is how many places were given it
abbrev pub RoutesCounted : List (Option Chosen) → List ℕ → Type 0
RoutesCounted routes counts = (value : ℕ) → link counts value ≡ sum_by (of_value value) routes

-- ---- wire attributes

-- 1 where a written value has the wire attributes under a number
abbrev pub with_wire : ℕ → Option (Attrs × ℕ) → ℕ
with_wire wire None = 0
with_wire wire (Some value) = if value.1 == wire then 1 else 0

-- 1 where a slot's number stands for them
abbrev pub for_wire : ℕ → ℕ → ℕ
for_wire wire number = if nat_lt 1 number && (number / 2 - 1 == wire) then 1 else 0

-- the count of wire attributes is how many written values have them, and of how many slots they were sent
abbrev pub UsesCounted : List (Option (Attrs × ℕ)) → List ℕ → List ℕ → Type 0
UsesCounted written sents counts = (wire : ℕ)
    → link counts wire ≡ sum_by (with_wire wire) written + sum_by (for_wire wire) sents

-- ---- the whole

-- what holds of a table with its notes and counts
pub record IsWhole (parts : Parts) (noted routes uses : List ℕ) : Type 0 where
  pub table : IsTable parts
  pub keys : KeysNoted parts noted
  pub routes_counted : RoutesCounted parts.routes routes
  pub uses_counted : UsesCounted parts.values.written parts.slots.sents uses

-- How a table is kept: keys at places, the value that each was given, values and wire attributes under numbers, and a
-- slot for each place. A slot's number is 2 * (w + 1) + family for the wire attributes under w, and the family alone
-- where there are none.
use Rattle.std.specs.Prelude.{ℕ, ◌≡◌, ◌+◌, ◌-◌, ◌*◌, ◌/◌, ◌%◌, ◌<◌, ◌&&◌, ◌||◌, ⊤, not, Bool, true, false, List, []}
use Rattle.std.specs.Prelude.{◌∷◌, map}
use Rattle.std.specs.Prelude.{if◌then◌else◌, Option, Some, None, IsSome, length, nat_lt, slice_index_or}
use Rattle.std.specs.Option.{option_map}
use Rattle.linked_pending.specs.Links.{link}
use Rattle.linked_pending.specs.Listing.{AreApart}
use Rattle.route_values.specs.declared.addr.Family.{Family}
use Rattle.route_values.specs.declared.addr.Family.TheVariants.{Ipv4, Ipv6}
use Rattle.route_values.specs.declared.attrs.Attrs.{Attrs}
use Rattle.route_values.specs.declared.attrs.WireAttrs.{WireAttrs}
use Rattle.route_values.specs.declared.key.Key.{Key}
use Rattle.route_values.specs.declared.settings.Side.{Side}
use Rattle.route_values.specs.Caps.{Caps}
use Rattle.route_values.specs.Key.{family_of_key}
use Rattle.route_values.specs.Sent.{sent}
use Rattle.route_values.specs.Visible.{has_family}
use Rattle.slot_batches.specs.Left.{slots_of, value_left, AreTogether}
use Rattle.slot_batches.specs.Left.{values_of as values_left}
use Rattle.slot_batches.specs.Slots.{Slots}
use Rattle.slot_batches.specs.declared.slots.Item.{Item as SlotItem}
use Rattle.adj_rib_out.specs.declared.chosen.Chosen.{Chosen}
use Rattle.adj_rib_out.specs.declared.entry.Owner.{Owner}
use Rattle.adj_rib_out.specs.State.{State, Session, Route, Item, is_visible, route_of}
use Rattle.adj_rib_out.specs.Nodes.{Next, Says, Nothing}
use Rattle.adj_rib_out.specs.Places.{key_at, rows_from, StandOnce}

-- values as they are written, each with the number of its wire attributes, and wire attributes
pub record Values : Type 0 where
  pub side : Side
  pub written : List (Option (Attrs × ℕ))
  pub wires : List (Option WireAttrs)

abbrev pub written_under : Values → ℕ → Option (Attrs × ℕ)
written_under values number = slice_index_or values.written number None

abbrev pub wire_under : Values → ℕ → Option WireAttrs
wire_under values number = slice_index_or values.wires number None

abbrev pub values_of : Side → List (Option (Attrs × ℕ)) → List (Option WireAttrs) → Values
values_of side written wires = record { side = side; written = written; wires = wires }

abbrev pub chosen_of : ℕ → Owner → Chosen
chosen_of value owner = record { value = value; owner = owner }

-- a written value has its wire attributes, and equal ones have one number
pub record AreKept (values : Values) : Type 0 where
  pub wired : (n w : ℕ) (written : Attrs) → written_under values n ≡ Some (written, w)
      → wire_under values w ≡ Some (sent written values.side)
  pub written_once : (m n v w : ℕ) (written : Attrs) → written_under values m ≡ Some (written, v)
      → written_under values n ≡ Some (written, w) → m ≡ n
  pub wires_once : (v w : ℕ) (attrs : WireAttrs) → wire_under values v ≡ Some attrs
      → wire_under values w ≡ Some attrs → v ≡ w

-- ---- numbers of slots

abbrev pub parity_of : Family → ℕ
parity_of Ipv4 = 0
parity_of Ipv6 = 1

abbrev pub parity : Key → ℕ
parity key = parity_of (family_of_key key)

-- the attributes that a slot's number stands for
abbrev pub attrs_under : Values → ℕ → Option WireAttrs
attrs_under values number = if nat_lt 1 number then wire_under values (number / 2 - 1) else None

-- the number of a written value for keys of a parity
abbrev pub number_by : ℕ → Option (Attrs × ℕ) → ℕ
number_by parity None = parity
number_by parity (Some value) = 2 * (value.1 + 1) + parity

abbrev pub number_of : Values → ℕ → Option Chosen → ℕ
number_of values parity None = parity
number_of values parity (Some chosen) = number_by parity (written_under values chosen.value)

-- the number that the key's slot is to show on a session
abbrev pub shown_number : Option Caps → Values → Key → Option Chosen → ℕ
shown_number None values key chosen = parity key
shown_number (Some caps) values key chosen =
    if is_visible caps key then number_of values (parity key) chosen else parity key

-- the route that was chosen
abbrev pub route_in : Values → Option Chosen → Option Route
route_in values None = None
route_in values (Some chosen) =
    option_map (λ value. route_of values.side value.0 chosen.owner) (written_under values chosen.value)

-- ---- the whole

pub record Parts : Type 0 where
  pub keys : List (Option Key)
  pub routes : List (Option Chosen)
  pub values : Values
  pub slots : Slots
  pub caps : Option Caps
  pub begun : Bool
  pub ipv4_stale : Bool
  pub ipv6_stale : Bool
  pub ipv4_marker : Bool
  pub ipv6_marker : Bool

abbrev pub parts_of : List (Option Key) → List (Option Chosen) → Values → Slots → Option Caps → Bool → Bool → Bool
    → Bool → Bool → Parts
parts_of keys routes values slots caps begun ipv4_stale ipv6_stale ipv4_marker ipv6_marker = record {
  keys = keys;
  routes = routes;
  values = values;
  slots = slots;
  caps = caps;
  begun = begun;
  ipv4_stale = ipv4_stale;
  ipv6_stale = ipv6_stale;
  ipv4_marker = ipv4_marker;
  ipv6_marker = ipv6_marker;
}

-- what was chosen at a place
abbrev pub chosen_at : List (Option Chosen) → ℕ → Option Chosen
chosen_at routes place = slice_index_or routes place None

abbrev pub route_by : Parts → ℕ → Option Route
route_by parts place = route_in parts.values (chosen_at parts.routes place)

abbrev pub told_by : Parts → ℕ → Option WireAttrs
told_by parts place = attrs_under parts.values (link parts.slots.sents place)

-- what the open batch says of a key by a slot's number
abbrev pub says_by : ℕ → Option WireAttrs → Option (ℕ × WireAttrs)
says_by number attrs = option_map (λ a. (number, a)) attrs

-- what is left, of the keys that stand at the slots' places
abbrev pub item_for : Values → SlotItem → Key → Item
item_for values item key = record { key = key; says = says_by item.value (attrs_under values item.value) }

abbrev pub items_seen : List (Option Key) → Values → List SlotItem → List Item
items_seen keys values [] = []
items_seen keys values (item ∷ items) = elim (key_at keys item.slot) [
  | Some key ↦ item_for values item key ∷ items_seen keys values items
  | None ↦ items_seen keys values items
]

-- what is due where a slot is left: what is said of its key, and nothing where no key stands
abbrev pub due_by : ℕ → Option Key → Option WireAttrs → Next
due_by number None attrs = Nothing
due_by number (Some key) attrs = Says (record { key = key; says = says_by number attrs })

-- whether a batch that begins owes the family's marker
abbrev pub owes_end : Option Caps → Bool → Family → Bool
owes_end None begun family = false
owes_end (Some caps) begun family = has_family caps family && not begun

abbrev pub markers_of : Bool → Bool → List Family
markers_of true true = Ipv4 ∷ Ipv6 ∷ []
markers_of true false = Ipv4 ∷ []
markers_of false true = Ipv6 ∷ []
markers_of false false = []

-- A family is to be sent again by the flag of its slots. Where a batch that would have begun had nothing to say, the
-- slots forget it, and it is stale.
abbrev pub session_of : Parts → Caps → Session
session_of parts caps = record {
  caps = caps;
  begun = parts.begun;
  ipv4_again = parts.slots.even_again || parts.ipv4_stale;
  ipv6_again = parts.slots.odd_again || parts.ipv6_stale;
}

abbrev pub seen : Parts → State
seen parts = record {
  side = parts.values.side;
  rows = rows_from (route_by parts) (told_by parts) parts.keys 0;
  values = map (option_map (λ (value : Attrs × ℕ). value.0)) parts.values.written;
  session = option_map (session_of parts) parts.caps;
  left = items_seen parts.keys parts.values parts.slots.left;
  markers = markers_of parts.ipv4_marker parts.ipv6_marker;
}

-- ---- what holds

-- a slot's number is one of a parity, and its attributes stand
pub record IsNumber (values : Values) (parity number : ℕ) : Type 0 where
  pub parity_is : number % 2 ≡ parity
  pub stands : 1 < number → IsSome (wire_under values (number / 2 - 1))

-- a slot of no key has nothing
pub record IsVacant (parts : Parts) (place : ℕ) : Type 0 where
  pub now : link parts.slots.nows place < 2
  pub sent : link parts.slots.sents place ≡ link parts.slots.nows place
  pub chosen : chosen_at parts.routes place ≡ None

-- a slot of a key shows what the session is to have of it
pub record IsTaken (parts : Parts) (place : ℕ) (key : Key) : Type 0 where
  pub now : link parts.slots.nows place ≡ shown_number parts.caps parts.values key (chosen_at parts.routes place)
  pub sent : IsNumber parts.values (parity key) (link parts.slots.sents place)

-- an item of the open batch is of a key, with one of its numbers
pub record IsLeft (keys : List (Option Key)) (values : Values) (item : SlotItem) : Type 0 where
  pub key : Key
  pub stands : key_at keys item.slot ≡ Some key
  pub number : IsNumber values (parity key) item.value

abbrev pub AreLeft : List (Option Key) → Values → List SlotItem → Type 0
AreLeft keys values [] = ⊤
AreLeft keys values (item ∷ items) = IsLeft keys values item × AreLeft keys values items

-- nothing was sent of any slot of a parity, and nothing is left
pub record IsSilent (sents : List ℕ) (left : List SlotItem) (parity : ℕ) : Type 0 where
  pub sent : (place : ℕ) → link sents place % 2 ≡ parity → link sents place < 2
  pub none : left ≡ []

pub record IsTable (parts : Parts) : Type 0 where
  pub once : StandOnce parts.keys
  pub kept : AreKept parts.values
  pub room : (place : ℕ) (key : Key) → key_at parts.keys place ≡ Some key
      → 2 * length parts.values.wires + 1 < parts.slots.room
  pub nows_length : length parts.slots.nows ≡ length parts.keys
  pub sents_length : length parts.slots.sents ≡ length parts.keys
  pub routes_length : length parts.routes ≡ length parts.keys
  pub vacant : (place : ℕ) → key_at parts.keys place ≡ None → IsVacant parts place
  pub taken : (place : ℕ) (key : Key) → key_at parts.keys place ≡ Some key → IsTaken parts place key
  pub chosen : (place : ℕ) (chosen : Chosen) → chosen_at parts.routes place ≡ Some chosen
      → IsSome (written_under parts.values chosen.value)
  pub left : AreLeft parts.keys parts.values parts.slots.left
  pub left_once : AreApart (slots_of parts.slots.left)
  pub left_together : AreTogether (values_left parts.slots.left)
  pub down : parts.caps ≡ None → IsSilent parts.slots.sents parts.slots.left 0
      × IsSilent parts.slots.sents parts.slots.left 1
      × (markers_of parts.ipv4_marker parts.ipv6_marker ≡ [])
  pub ipv4_stale : parts.ipv4_stale ≡ true → IsSilent parts.slots.sents parts.slots.left 0
  pub ipv6_stale : parts.ipv6_stale ≡ true → IsSilent parts.slots.sents parts.slots.left 1

-- ---- what is asked of a slot

-- whether a number that is left is a value
abbrev pub has_value : Option ℕ → Bool
has_value None = false
has_value (Some number) = nat_lt 1 number

-- whether a value of the slot was sent, or is left to be
abbrev pub keeps : Slots → ℕ → Bool
keeps slots place = nat_lt 1 (link slots.sents place) || has_value (value_left slots.left place)

-- What a contract sees of one neighbour's table: a row for each key that stands ready, the values that stand ready, and
-- what the session that stands has left to send.
use Rattle.std.specs.Prelude.{ℕ, ◌==◌, ◌&&◌, ◌||◌, Bool, false, List, [], ◌∷◌, if◌then◌else◌, Option, Some, None}
use Rattle.std.specs.Prelude.{is_some, slice_get}
use Rattle.std.specs.Option.{option_map, option_and_then}
use Rattle.route_values.specs.declared.addr.Family.{Family}
use Rattle.route_values.specs.declared.addr.Family.TheVariants.{Ipv4, Ipv6}
use Rattle.route_values.specs.declared.attrs.Attrs.{Attrs}
use Rattle.route_values.specs.declared.attrs.WireAttrs.{WireAttrs}
use Rattle.route_values.specs.declared.key.Key.{Key}
use Rattle.route_values.specs.declared.settings.Side.{Side}
use Rattle.route_values.specs.Caps.{Caps}
use Rattle.route_values.specs.Key.{family_of_key, same_key}
use Rattle.route_values.specs.Sent.{sent}
use Rattle.route_values.specs.Visible.{has_family, has_path}
use Rattle.adj_rib_out.specs.declared.entry.Owner.{Owner}

-- a route of the table: its attributes as they are written and as they are sent, and who asked for it
pub record Route : Type 0 where
  pub written : Attrs
  pub attrs : WireAttrs
  pub owner : Owner

-- a key that stands ready: its route where the table has one, and what the session was sent of it
pub record Row : Type 0 where
  pub key : Key
  pub route : Option Route
  pub told : Option WireAttrs

-- a key of the open batch, and what the batch will say of it: attributes under their number, or None that it is gone
pub record Item : Type 0 where
  pub key : Key
  pub says : Option (ℕ × WireAttrs)

-- the session that stands: what is carried, whether it had a batch, and which families were refreshed since
pub record Session : Type 0 where
  pub caps : Caps
  pub begun : Bool
  pub ipv4_again : Bool
  pub ipv6_again : Bool

-- The whole: rows and values stand at places that stay, some of which are free. left and markers are what is left of
-- the open batch, in order.
pub record State : Type 0 where
  pub side : Side
  pub rows : List (Option Row)
  pub values : List (Option Attrs)
  pub session : Option Session
  pub left : List Item
  pub markers : List Family

-- the row of a key, among those at the places
abbrev pub row_at : List (Option Row) → Key → Option Row
row_at [] key = None
row_at (None ∷ rows) key = row_at rows key
row_at (Some row ∷ rows) key = if same_key row.key key then Some row else row_at rows key

-- whether the key stands ready
abbrev pub is_ready : State → Key → Bool
is_ready state key = is_some (row_at state.rows key)

-- the route that the table has at a key
abbrev pub route_at : State → Key → Option Route
route_at state key = option_and_then (λ row. row.route) (row_at state.rows key)

-- what the session was sent of a key
abbrev pub told_at : State → Key → Option WireAttrs
told_at state key = option_and_then (λ row. row.told) (row_at state.rows key)

-- the value that stands ready under a number
abbrev pub value_at : State → ℕ → Option Attrs
value_at state number = option_and_then (λ value. value) (slice_get state.values number)

-- whether a session carries the key
abbrev pub is_visible : Caps → Key → Bool
is_visible caps key =
    has_family caps (family_of_key key) && (key.id == 0 || has_path caps (family_of_key key))

-- the attributes of a key as the session that stands is to have them
abbrev pub shown_by : Option Session → State → Key → Option WireAttrs
shown_by None state key = None
shown_by (Some session) state key =
    if is_visible session.caps key then option_map (λ route. route.attrs) (route_at state key) else None

abbrev pub shown_at : State → Key → Option WireAttrs
shown_at state key = shown_by state.session state key

-- whether the family was refreshed since the session's last batch began, or since the session came up
abbrev pub is_refreshed : Option Session → Family → Bool
is_refreshed None family = false
is_refreshed (Some session) Ipv4 = session.ipv4_again
is_refreshed (Some session) Ipv6 = session.ipv6_again

-- the route that a written value gives a key
abbrev pub route_of : Side → Attrs → Owner → Route
route_of side written owner = record { written = written; attrs = sent written side; owner = owner }

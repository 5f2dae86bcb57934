-- What each call does to the table, and what it leaves as it is.
use Rattle.std.specs.Prelude.{ℕ, ◌≡◌, ◌↔◌, ◌⊎◌, ◌==◌, ◌||◌, Bool, true, false, List, [], ◌∷◌}
use Rattle.std.specs.Prelude.{drop, map}
use Rattle.std.specs.Prelude.{if◌then◌else◌, Option, Some, None, IsTrue, IsSome}
use Rattle.std.specs.Option.{option_map}
use Rattle.route_values.specs.declared.addr.Family.{Family}
use Rattle.route_values.specs.declared.addr.Family.TheVariants.{Ipv4, Ipv6}
use Rattle.route_values.specs.declared.attrs.Attrs.{Attrs}
use Rattle.route_values.specs.declared.attrs.WireAttrs.{WireAttrs}
use Rattle.route_values.specs.declared.key.Key.{Key}
use Rattle.route_values.specs.declared.settings.Side.{Side}
use Rattle.route_values.specs.Caps.{Caps}
use Rattle.route_values.specs.Key.{same_key}
use Rattle.route_values.specs.Sent.{sent}
use Rattle.adj_rib_out.specs.State.{State, Row, Session, Route, Item}
use Rattle.adj_rib_out.specs.State.{is_ready, route_at, told_at, value_at, shown_at}
use Rattle.adj_rib_out.specs.Batch.{IsOwed, owed_markers, attrs_said, item_at, is_left, AreOnce, AreTogether}
use Rattle.adj_rib_out.specs.Batch.{AreNumberedAlike}

-- the empty table of a neighbour at which no session stands
abbrev pub empty : Side → State
empty side = record { side = side; rows = []; values = []; session = None; left = []; markers = [] }

-- ---- what a call leaves

-- the table's routes stay
pub record KeepsRoutes (old new : State) : Type 0 where
  pub side : new.side ≡ old.side
  pub routes : (key : Key) → route_at new key ≡ route_at old key

-- so do the session and what it was sent
pub record KeepsSession (old new : State) : Type 0 where
  pub session : new.session ≡ old.session
  pub told : (key : Key) → told_at new key ≡ told_at old key

-- so does what is left of the open batch
pub record KeepsBatch (old new : State) : Type 0 where
  pub left : new.left ≡ old.left
  pub markers : new.markers ≡ old.markers

-- the keys of rows, at their places
abbrev pub places_of : State → List (Option Key)
places_of state = map (option_map (λ (row : Row). row.key)) state.rows

-- so does what stands ready, each key at its place
pub record KeepsReady (old new : State) : Type 0 where
  pub places : places_of new ≡ places_of old
  pub keys : (key : Key) → is_ready new key ≡ is_ready old key
  pub values : (number : ℕ) → value_at new number ≡ value_at old number

-- ---- ready and trim

-- whether the key is among these
abbrev pub is_named : List Key → Key → Bool
is_named [] key = false
is_named (k ∷ ks) key = same_key k key || is_named ks key

-- keys and a value stand ready, and nothing else has changed; an equal value that stood ready gives its number
pub record Readies (old new : State) (named : List Key) (written : Attrs) (number : ℕ) : Type 0 where
  pub keys : (key : Key) → is_ready new key ≡ (is_named named key || is_ready old key)
  pub value : (n : ℕ) → value_at new n ≡ (if n == number then Some written else value_at old n)
  pub fresh : (value_at old number ≡ None) ⊎ (value_at old number ≡ Some written)
  pub found : (n : ℕ) → value_at old n ≡ Some written → number ≡ n
  pub routes : KeepsRoutes old new
  pub session : KeepsSession old new
  pub batch : KeepsBatch old new

-- memory was wanting: some of these keys, and values, stand ready besides, and nothing else has changed
pub record ReadiesSome (old new : State) (wanted : List Key) : Type 0 where
  pub kept : (key : Key) → is_ready old key ≡ true → is_ready new key ≡ true
  pub named : (key : Key) → is_ready new key ≡ true → (is_named wanted key || is_ready old key) ≡ true
  pub values : (number : ℕ) (written : Attrs) → value_at old number ≡ Some written → value_at new number ≡ Some written
  pub routes : KeepsRoutes old new
  pub session : KeepsSession old new
  pub batch : KeepsBatch old new

-- a key is needed: the table has it, the session was sent it, or the open batch speaks of it
pub data IsNeeded (state : State) (key : Key) : Type 0 where
  By_table : IsSome (route_at state key) → IsNeeded state key
  By_session : IsSome (told_at state key) → IsNeeded state key
  By_batch : is_left state.left key ≡ true → IsNeeded state key

-- a route of the table is written so
pub record HasRoute (state : State) (written : Attrs) : Type 0 where
  pub key : Key
  pub route : Route
  pub stands : route_at state key ≡ Some route
  pub is : route.written ≡ written

-- the session was sent these attributes for a key, or is to be by the open batch
pub record SaysAttrs (state : State) (attrs : WireAttrs) : Type 0 where
  pub key : Key
  pub item : Item
  pub is : (told_at state key ≡ Some attrs)
      ⊎ ((item_at state.left key ≡ Some item) × (attrs_said item.says ≡ Some attrs))

-- Just the keys stand ready that are needed. A value stays that a route has, and one goes that no route has and whose
-- attrs neither were sent nor are left. Of the others some may go.
pub record Trims (old new : State) : Type 0 where
  pub keys : (key : Key) → (is_ready new key ≡ true) ↔ IsNeeded old key
  pub values : (number : ℕ) → (value_at new number ≡ None) ⊎ (value_at new number ≡ value_at old number)
  pub stays : (number : ℕ) (written : Attrs) → value_at old number ≡ Some written → HasRoute old written
      → value_at new number ≡ Some written
  pub goes : (number : ℕ) (written : Attrs) → value_at old number ≡ Some written → ¬ HasRoute old written
      → ¬ SaysAttrs old (sent written old.side) → value_at new number ≡ None
  pub routes : KeepsRoutes old new
  pub session : KeepsSession old new
  pub batch : KeepsBatch old new

-- ---- changes of the table

-- the key has this route, or none
pub record Sets (old new : State) (key : Key) (route : Option Route) : Type 0 where
  pub side : new.side ≡ old.side
  pub routes : (k : Key) → route_at new k ≡ (if same_key key k then route else route_at old k)
  pub ready : KeepsReady old new
  pub session : KeepsSession old new
  pub batch : KeepsBatch old new

-- ---- the session

-- a session without a batch
abbrev pub fresh : Caps → Session
fresh caps = record { caps = caps; begun = false; ipv4_again = false; ipv6_again = false }

-- a session with nothing sent on it, or none; no batch is open
pub record Restarts (old new : State) (caps : Option Caps) : Type 0 where
  pub session : new.session ≡ option_map fresh caps
  pub told : (key : Key) → told_at new key ≡ None
  pub left : new.left ≡ []
  pub markers : new.markers ≡ []
  pub routes : KeepsRoutes old new
  pub ready : KeepsReady old new

-- the session with one more family that is to be sent again
abbrev pub again : Family → Session → Session
again Ipv4 session = record session { ipv4_again = true }
again Ipv6 session = record session { ipv6_again = true }

-- the family is to be sent again by the next batch; where no session stands nothing changes
pub record Refreshes (old new : State) (family : Family) : Type 0 where
  pub session : new.session ≡ option_map (again family) old.session
  pub told : (key : Key) → told_at new key ≡ told_at old key
  pub routes : KeepsRoutes old new
  pub ready : KeepsReady old new
  pub batch : KeepsBatch old new

-- ---- the batch

-- whether something is left of a batch
abbrev pub is_open : State → Bool
is_open state = elim state.left [ _ ∷ _ ↦ true | [] ↦ elim state.markers [ _ ∷ _ ↦ true | [] ↦ false ] ]

-- the session has begun a batch, and no family is to be sent again
abbrev pub begin : Session → Session
begin session = record { caps = session.caps; begun = true; ipv4_again = false; ipv6_again = false }

-- The batch that begins: each owed key once with what it is to have, those of one kind together, and the owed markers.
pub record Opens (old new : State) : Type 0 where
  pub owed : (key : Key) → IsTrue (is_left new.left key) ↔ IsOwed old key
  pub says : (key : Key) (item : Item) → item_at new.left key ≡ Some item
      → attrs_said item.says ≡ shown_at old key
  pub once : AreOnce new.left
  pub together : AreTogether new.left
  pub numbered : (key other : Key) (a b : Item) → item_at new.left key ≡ Some a → item_at new.left other ≡ Some b
      → AreNumberedAlike a b
  pub markers : new.markers ≡ owed_markers old.session

-- the session behind a freeze: it has begun a batch where one is open
abbrev pub session_frozen : Bool → Option Session → Option Session
session_frozen false session = session
session_frozen true session = option_map begin session

-- a batch is open with all that is owed, or none where nothing is
pub record Freezes (old new : State) : Type 0 where
  pub opens : Opens old new
  pub session : new.session ≡ session_frozen (is_open new) old.session
  pub told : (key : Key) → told_at new key ≡ told_at old key
  pub routes : KeepsRoutes old new
  pub ready : KeepsReady old new

-- the first item that is left is passed: the session was sent what it says
pub record PassesItem (old new : State) (item : Item) : Type 0 where
  pub told : (key : Key) → told_at new key ≡ (if same_key item.key key then attrs_said item.says else told_at old key)
  pub left : new.left ≡ drop 1 old.left
  pub markers : new.markers ≡ old.markers

-- the first marker that is left is passed
pub record PassesMarker (old new : State) : Type 0 where
  pub told : (key : Key) → told_at new key ≡ told_at old key
  pub left : new.left ≡ old.left
  pub markers : new.markers ≡ drop 1 old.markers

-- what is due is passed: a key first, a marker where no key is left
abbrev pub PassesDue : List Item → State → State → Type 0
PassesDue [] old new = PassesMarker old new
PassesDue (item ∷ items) old new = PassesItem old new item

pub record Passes (old new : State) : Type 0 where
  pub due : PassesDue old.left old new
  pub session : new.session ≡ old.session
  pub routes : KeepsRoutes old new
  pub ready : KeepsReady old new

-- What is sent for attributes as they were written.
use Rattle.std.specs.Prelude.{ℕ, Bool, false, not, nat_eq, ◌==◌, ◌&&◌, if◌then◌else◌, List, [], ◌∷◌, filter}
use Rattle.std.specs.Prelude.{Option, Some, None, unwrap_or}
use Rattle.std.specs.Cmp.Lexicographic.{pointwise}
use Rattle.route_values.specs.declared.addr.Addr.{Addr}
use Rattle.route_values.specs.declared.attrs.Hop.{Hop}
use Rattle.route_values.specs.declared.attrs.Hop.TheVariants.{Own, Is}
use Rattle.route_values.specs.declared.attrs.Origin.TheVariants.{Igp}
use Rattle.route_values.specs.declared.attrs.Large.{Large}
use Rattle.route_values.specs.declared.attrs.Attrs.{Attrs}
use Rattle.route_values.specs.declared.attrs.WireAttrs.{WireAttrs}
use Rattle.route_values.specs.declared.path.Segment.{Segment}
use Rattle.route_values.specs.declared.settings.Side.{Side}

-- the next hop: `self` is the local address
abbrev pub hop_sent : Hop → Side → Addr
hop_sent Own side = side.local
hop_sent (Is addr) side = addr

-- whether the neighbour is of the own AS
abbrev pub is_internal : Side → Bool
is_internal side = side.peer_as == side.local_as

-- unwritten: empty to a neighbour of the own AS, else one sequence of the local AS
abbrev pub path_sent : Option (List Segment) → Side → List Segment
path_sent (Some path) side = path
path_sent None side = if is_internal side then [] else (record { set = false; numbers = side.local_as ∷ [] } ∷ [])

-- none to a neighbour of another AS; else as written, and 100 unwritten (RFC 4271, section 5.1.5)
abbrev pub local_pref_sent : Option ℕ → Side → Option ℕ
local_pref_sent written side = if is_internal side then Some (unwrap_or written 100) else None

-- each value at its first place: what equals an earlier value is left out
abbrev pub first_places : {X : Type 0} → (X → X → Bool) → List X → List X
first_places same [] = []
first_places same (x ∷ xs) = x ∷ filter (λ y. not (same x y)) (first_places same xs)

-- whether two large communities are the same
abbrev pub same_large : Large → Large → Bool
same_large a b = a.global == b.global && a.first == b.first && a.second == b.second

-- the attributes of a route as they are sent to a neighbour
abbrev pub sent : Attrs → Side → WireAttrs
sent a side = record {
  hop = hop_sent a.hop side;
  origin = unwrap_or a.origin Igp;
  path = path_sent a.path side;
  med = a.med;
  local_pref = local_pref_sent a.local_pref side;
  atomic = a.atomic;
  aggregator = a.aggregator;
  communities = first_places nat_eq a.communities;
  originator = a.originator;
  clusters = first_places nat_eq a.clusters;
  extended = first_places (pointwise nat_eq) a.extended;
  large = first_places same_large a.large;
}

-- A batch that is a plain list, as the tests have one: announcements of IPv4 with one value, and then the marker.
use Rattle.std.specs.Prelude.{◌≡◌, Bool, true, false, List, [], ◌∷◌, ◌++◌}
use Rattle.std.specs.List.{AllByRecursion}
use Rattle.route_values.specs.declared.addr.Family.TheVariants.{Ipv4}
use Rattle.route_values.specs.declared.attrs.WireAttrs.{WireAttrs}
use Rattle.route_values.specs.declared.key.Key.{Key}
use Rattle.route_values.specs.Key.{family_of_key}
use Rattle.batch_cutter.specs.Heads.{IsRoute}
use Rattle.batch_cutter.specs.Items.{Item, Here, End}

-- what a contract sees of it: the value, the keys that are left, and whether the marker is
pub record Listed : Type 0 where
  pub attrs : WireAttrs
  pub keys : List Key
  pub marked : Bool

-- keys of IPv4
abbrev pub AreIpv4 : List Key → Type 0
AreIpv4 keys = AllByRecursion (λ key. family_of_key key ≡ Ipv4) keys

-- the announcements of keys with a value
abbrev pub announced : WireAttrs → List Key → List Item
announced w [] = []
announced w (key ∷ keys) = Here 0 key w ∷ announced w keys

-- the marker, where it is left
abbrev pub marker_of : Bool → List Item
marker_of true = End Ipv4 ∷ []
marker_of false = []

-- the items that are left
abbrev pub items_left : Listed → List Item
items_left list = announced list.attrs list.keys ++ marker_of list.marked

-- a value that may be announced, and keys of its family
pub record IsListed (w : WireAttrs) (keys : List Key) : Type 0 where
  pub route : IsRoute Ipv4 w
  pub ipv4 : AreIpv4 keys

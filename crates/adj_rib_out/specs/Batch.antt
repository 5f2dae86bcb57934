-- What a batch owes, and how what is left of it stands.
use Rattle.std.specs.Prelude.{ℕ, ◌≡◌, ◌≢◌, ◌⊎◌, ◌↔◌, ◌&&◌, ◌||◌, ⊤, Bool, true, false, not, List, [], ◌∷◌, filter}
use Rattle.std.specs.Prelude.{Option, Some, None, IsSome, IsTrue}
use Rattle.route_values.specs.declared.addr.Family.{Family}
use Rattle.route_values.specs.declared.addr.Family.TheVariants.{Ipv4, Ipv6}
use Rattle.route_values.specs.declared.attrs.WireAttrs.{WireAttrs}
use Rattle.route_values.specs.declared.key.Key.{Key}
use Rattle.route_values.specs.Key.{family_of_key, same_key}
use Rattle.route_values.specs.Visible.{has_family}
use Rattle.adj_rib_out.specs.State.{State, Session, Item, shown_at, told_at, is_refreshed}

-- a batch that begins now owes the key: the peer lacks what it is to have, or has it and is to be sent it again
abbrev pub IsOwed : State → Key → Type 0
IsOwed state key =
    (told_at state key ≢ shown_at state key)
    ⊎ (IsSome (shown_at state key) × IsTrue (is_refreshed state.session (family_of_key key)))

-- whether it owes the family's marker: the first batch of a session does
abbrev pub owes_marker : Option Session → Family → Bool
owes_marker None family = false
owes_marker (Some session) family = has_family session.caps family && not session.begun

-- the markers that it owes, IPv4 first
abbrev pub owed_markers : Option Session → List Family
owed_markers session = filter (owes_marker session) (Ipv4 ∷ Ipv6 ∷ [])

-- the attributes that an item says
abbrev pub attrs_said : Option (ℕ × WireAttrs) → Option WireAttrs
attrs_said None = None
attrs_said (Some said) = Some said.1

-- what the batch will still say of a key, where the key is left
abbrev pub item_at : List Item → Key → Option Item
item_at [] key = None
item_at (item ∷ items) key = elim (same_key item.key key) [ true ↦ Some item | false ↦ item_at items key ]

-- whether the key is left
abbrev pub is_left : List Item → Key → Bool
is_left [] key = false
is_left (item ∷ items) key = same_key item.key key || is_left items key

-- each key is left once
abbrev pub AreOnce : List Item → Type 0
AreOnce [] = ⊤
AreOnce (item ∷ items) = (is_left items item.key ≡ false) × AreOnce items

-- two items are of one kind: both withdraw keys of one family, or both announce keys of one family with one value
pub record IsOfKind (item other : Item) : Type 0 where
  pub family : family_of_key item.key ≡ family_of_key other.key
  pub attrs : attrs_said item.says ≡ attrs_said other.says

-- none of these items is of the kind
abbrev pub HasNoOther : Item → List Item → Type 0
HasNoOther item [] = ⊤
HasNoOther item (other ∷ items) = (¬ IsOfKind item other) × HasNoOther item items

-- behind an item one of its kind comes next, or none comes any more
abbrev pub ComesNextOrNever : Item → List Item → Type 0
ComesNextOrNever item [] = ⊤
ComesNextOrNever item (other ∷ items) = IsOfKind item other ⊎ HasNoOther item (other ∷ items)

-- items of one kind stand together
abbrev pub AreTogether : List Item → Type 0
AreTogether [] = ⊤
AreTogether (item ∷ items) = ComesNextOrNever item items × AreTogether items

-- the numbers of two announcements are the same exactly where family and attributes are
abbrev pub AreNumberedAlike : Item → Item → Type 0
AreNumberedAlike item other = (m n : ℕ) (a b : WireAttrs) → item.says ≡ Some (m, a) → other.says ≡ Some (n, b)
    → (m ≡ n) ↔ IsOfKind item other

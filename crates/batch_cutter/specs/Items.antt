-- What is left of a batch: withdrawals, announcements, and End-of-RIB markers.
use Rattle.std.specs.Prelude.{ℕ, ◌≡◌, ◌↔◌, ⊤, List, [], ◌∷◌, ◌++◌, Option, Some, None}
use Rattle.std.specs.List.{AllByRecursion}
use Rattle.route_values.specs.declared.addr.Family.{Family}
use Rattle.route_values.specs.declared.attrs.WireAttrs.{WireAttrs}
use Rattle.route_values.specs.declared.key.Key.{Key}
use Rattle.route_values.specs.Key.{family_of_key}
use Rattle.update_grammar.specs.Head.{Head}
use Rattle.update_grammar.specs.Head as head
use Rattle.update_grammar.specs.declared.effect.Effect.{Effect}
use Rattle.update_grammar.specs.declared.effect.Effect.TheVariants as effect
use Rattle.batch_cutter.specs.declared.batch.Due.{Due}
use Rattle.batch_cutter.specs.declared.batch.Due.TheVariants as due

-- a key that is withdrawn, one that is announced with the number of its value and the value, or a family's marker
pub data Item : Type 0 where
  Gone : Key → Item
  Here : ℕ → Key → WireAttrs → Item
  End : Family → Item

-- the item, with what references show; None where nothing is due
abbrev pub item_told : Due → Option Item
item_told (due.Gone key) = Some (Gone key.now)
item_told (due.Here number key attrs) = Some (Here number key.now attrs.now)
item_told (due.End family) = Some (End family)
item_told due.Empty = None

-- the item at the front
abbrev pub front : List Item → Option Item
front [] = None
front (item ∷ items) = Some item

-- the items behind the one at the front
abbrev pub behind_front : List Item → List Item
behind_front [] = []
behind_front (item ∷ items) = items

-- the keys that items name; a marker names none
abbrev pub keys_of : List Item → List Key
keys_of [] = []
keys_of (Gone key ∷ items) = key ∷ keys_of items
keys_of (Here number key attrs ∷ items) = key ∷ keys_of items
keys_of (End family ∷ items) = keys_of items

-- what an item makes a message say
abbrev pub effects_of : Item → List Effect
effects_of (Gone key) = effect.Gone key ∷ []
effects_of (Here number key attrs) = effect.Here key attrs ∷ []
effects_of (End family) = []

-- what items make a message say
abbrev pub said_by : List Item → List Effect
said_by [] = []
said_by (item ∷ items) = effects_of item ++ said_by items

-- the item goes into a message with this head
abbrev pub IsFor : Head → Item → Type 0
IsFor (head.Gone family) (Gone key) = family_of_key key ≡ family
IsFor (head.Here family w) (Here number key attrs) = (family_of_key key ≡ family) × (attrs ≡ w)
IsFor (head.End family) (End other) = other ≡ family
IsFor _ _ = ⊥

-- two announcements have one number exactly where their families and their values are equal
abbrev pub ToldApart : Item → Item → Type 0
ToldApart (Here m j v) (Here n k w) = (m ≡ n) ↔ ((family_of_key j ≡ family_of_key k) × (v ≡ w))
ToldApart _ _ = ⊤

-- each two of the items are told apart
abbrev pub AreNumbered : List Item → Type 0
AreNumbered [] = ⊤
AreNumbered (item ∷ items) = AllByRecursion (ToldApart item) items × AreNumbered items

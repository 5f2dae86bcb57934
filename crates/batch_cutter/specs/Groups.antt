-- Which items go into a message that was begun, by the family of what is withdrawn or the number of a value.
use Rattle.std.specs.Prelude.{◌≡◌, ◌↔◌, List, [], ◌∷◌, Option, Some}
use Rattle.std.specs.List.{AllByRecursion}
use Rattle.route_values.specs.declared.key.Key.{Key}
use Rattle.route_values.specs.Key.{family_of_key}
use Rattle.update_grammar.specs.Head.{Head}
use Rattle.attr_codec.specs.Buffer.{Buffer}
use Rattle.batch_cutter.specs.declared.group.Group.{Group}
use Rattle.batch_cutter.specs.declared.group.Group.TheVariants as group
use Rattle.batch_cutter.specs.Grouped.{AreGrouped}
use Rattle.batch_cutter.specs.Heads.{TakesAKey}
use Rattle.batch_cutter.specs.Items.{Item, Gone, Here, IsFor}
use Rattle.batch_cutter.specs.Kinds.{TakesKeys}
use Rattle.batch_cutter.specs.Packing.{Packing, Holds}

-- the item is a withdrawal of the group's family, or an announcement with the group's number
abbrev pub IsIn : Group → Item → Type 0
IsIn (group.Gone family) (Gone key) = family_of_key key ≡ family
IsIn (group.Here wanted) (Here number key attrs) = number ≡ wanted
IsIn _ _ = ⊥

-- the item is in the group, and names the key
abbrev pub Names : Group → Option Item → Key → Type 0
Names g (Some (Gone k)) key = (k ≡ key) × IsIn g (Gone k)
Names g (Some (Here number k attrs)) key = (k ≡ key) × IsIn g (Here number k attrs)
Names g _ key = ⊥

-- of these items, those in the group are those that go into a message with this head
abbrev pub Chooses : Group → Head → List Item → Type 0
Chooses g h items = AllByRecursion (λ item. IsIn g item ↔ IsFor h item) items

-- the first item goes into the message
abbrev pub BeginsWith : Head → List Item → Type 0
BeginsWith h [] = ⊥
BeginsWith h (item ∷ items) = IsFor h item

-- a message for the first of these items was begun, and has no key yet
pub record IsBegun (g : Group) (left : List Item) (packer : Packing) (out : Buffer) : Type 0 where
  pub head : Head
  pub holds : Holds packer head [] out
  pub chooses : Chooses g head left
  pub first : BeginsWith head left
  pub takes : TakesAKey packer.caps head
  pub keyed : TakesKeys packer.kind
  pub grouped : AreGrouped left

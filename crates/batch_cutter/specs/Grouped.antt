-- Items of one kind come one after another: so the messages that are made of them can be packed.
use Rattle.std.specs.Prelude.{⊤, List, [], ◌∷◌}
use Rattle.std.specs.List.{AllByRecursion}
use Rattle.route_values.specs.Caps.{Caps}
use Rattle.update_grammar.specs.declared.effect.Effect.{Effect}
use Rattle.update_grammar.specs.Packed.{IsOneKind, HasNoRoomFor}
use Rattle.batch_cutter.specs.Items.{Item, effects_of}

-- of these items, those of one kind with a message come first: where one is, each before it is too
abbrev pub ComeFirst : List Effect → List Item → Type 0
ComeFirst effects [] = ⊤
ComeFirst effects (item ∷ items) =
    AllByRecursion (λ later. IsOneKind effects (effects_of later) → IsOneKind effects (effects_of item)) items
    × ComeFirst effects items

-- items of one kind come one after another
abbrev pub AreGrouped : List Item → Type 0
AreGrouped [] = ⊤
AreGrouped (item ∷ items) = ComeFirst (effects_of item) items × AreGrouped items

-- a message has no room for the first of these items where both are of one kind
abbrev pub IsFullFor : Caps → List Effect → List Item → Type 0
IsFullFor caps effects [] = ⊤
IsFullFor caps effects (item ∷ items) = IsOneKind effects (effects_of item)
    → HasNoRoomFor caps effects (effects_of item)

-- an item that isn't of one kind with a message isn't with those before it
abbrev pub IsNewTo : List Effect → List (List Effect) → Item → Type 0
IsNewTo effects others item = ¬ (IsOneKind effects (effects_of item))
    → AllByRecursion (λ other. ¬ (IsOneKind other (effects_of item))) others

-- items that may come behind a message and those before it
pub record ComeBehind (caps : Caps) (effects : List Effect) (others : List (List Effect)) (items : List Item)
    : Type 0 where
  pub full : IsFullFor caps effects items
  pub first : ComeFirst effects items
  pub new : AllByRecursion (IsNewTo effects others) items

-- items that may come behind the messages of a packed batch, the newest message first
abbrev pub MayFollow : Caps → List (List Effect) → List Item → Type 0
MayFollow caps [] items = ⊤
MayFollow caps (effects ∷ others) items = ComeBehind caps effects others items

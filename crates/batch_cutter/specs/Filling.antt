-- The next message of a batch.
use Rattle.std.specs.Prelude.{ℕ, ◌≡◌, ◌<◌, ⊤, List, [], ◌∷◌, ◌++◌, length}
use Rattle.std.specs.List.{AllByRecursion}
use Rattle.route_values.specs.Caps.{Caps}
use Rattle.route_values.specs.declared.key.Key.{Key}
use Rattle.route_values.specs.Key.{family_of_key}
use Rattle.update_grammar.specs.Head.{Head}
use Rattle.update_grammar.specs.Head as head
use Rattle.update_grammar.specs.Packed.{IsPackedBehind}
use Rattle.update_grammar.specs.Written.{written}
use Rattle.update_grammar.specs.declared.effect.Effect.{Effect}
use Rattle.batch_cutter.specs.Grouped.{MayFollow}
use Rattle.batch_cutter.specs.Heads.{IsRoute, Fits}
use Rattle.batch_cutter.specs.Items.{Item, Gone, Here, End, keys_of, said_by, IsFor}

-- what is announced first is a route of its key's family
abbrev pub CanFill : List Item → Type 0
CanFill (Here number key attrs ∷ items) = IsRoute (family_of_key key) attrs
CanFill _ = ⊤

-- the state was led past these items, one after another
abbrev pub PassesEach : {S : Type 0} → (S → Item → S → Type 0) → List Item → S → S → Type 0
PassesEach passes [] old new = new ≡ old
PassesEach passes (item ∷ items) old new = (mid : _) × passes old item mid × PassesEach passes items mid new

-- a marker is a message by itself
abbrev pub IsAlone : Head → List Item → Type 0
IsAlone (head.End family) items = length items ≡ 1
IsAlone _ items = ⊤

-- the next item doesn't go into a message, or the message with its key would be too long
abbrev pub IsClosed : Caps → Head → List Key → List Item → Type 0
IsClosed caps h keys [] = ⊤
IsClosed caps h keys (Gone key ∷ items) = IsFor h (Gone key) → ¬ (Fits caps h (keys ++ key ∷ []))
IsClosed caps h keys (Here number key attrs ∷ items) =
    IsFor h (Here number key attrs) → ¬ (Fits caps h (keys ++ key ∷ []))
IsClosed caps h keys (End family ∷ items) = ⊤

-- a message of these items, as many as fit, where those others are left
pub record IsMadeOf (caps : Caps) (h : Head) (items left : List Item) (bytes : List ℕ) : Type 0 where
  pub some : 0 < length items
  pub alike : AllByRecursion (IsFor h) items
  pub alone : IsAlone h items
  pub text : bytes ≡ written caps h (keys_of items)
  pub fits : Fits caps h (keys_of items)
  pub closed : IsClosed caps h (keys_of items) left

-- a message may stand behind those of a packed batch, and what is left may come behind it
pub record GoesOn (caps : Caps) (effects : List Effect) (left : List Item) (messages : List (List Effect))
    : Type 0 where
  pub packed : IsPackedBehind caps effects messages
  pub follow : MayFollow caps (effects ∷ messages) left

-- The next message of a batch was made of the items at the front, and the batch was led past them. Behind messages that
-- are packed it is packed.
pub record Fills {S : Type 0} (items_in : S → List Item) (passes : S → Item → S → Type 0) (caps : Caps) (old new : S)
    (bytes : List ℕ) : Type 0 where
  pub head : Head
  pub items : List Item
  pub split : items_in old ≡ items ++ items_in new
  pub passed : PassesEach passes items old new
  pub message : IsMadeOf caps head items (items_in new) bytes
  pub packed : (messages : List (List Effect)) → MayFollow caps messages (items_in old)
      → GoesOn caps (said_by items) (items_in new) messages

-- Which messages belong together, and when each holds as many keys as fit. A message is seen as the effects that it
-- spells: those of one message are alike, and a marker spells none.
use Rattle.std.specs.Prelude.{ℕ, ◌≡◌, ◌<◌, ◌++◌, ⊤, List, [], ◌∷◌, length, map, if◌then◌else◌}
use Rattle.std.specs.List.{AllByRecursion}
use Rattle.route_values.specs.Caps.{Caps}
use Rattle.route_values.specs.declared.key.Key.{Key}
use Rattle.route_values.specs.Key.{family_of_key}
use Rattle.update_grammar.specs.Codes.{message_max, extended_max}
use Rattle.update_grammar.specs.Head as head
use Rattle.update_grammar.specs.Written.{written}
use Rattle.update_grammar.specs.declared.effect.Effect.{Effect}
use Rattle.update_grammar.specs.declared.effect.Effect.TheVariants.{Gone, Here}

-- the most bytes that a message of a session has (RFC 4271, section 4.1; RFC 8654, section 3)
abbrev pub room : Caps → ℕ
room caps = if caps.extended then extended_max else message_max

-- the key that an effect names
abbrev pub named_by : Effect → Key
named_by (Gone key) = key
named_by (Here key w) = key

-- withdrawals of one family, or announcements of one family with one value
abbrev pub AreAlike : Effect → Effect → Type 0
AreAlike (Gone j) (Gone k) = family_of_key j ≡ family_of_key k
AreAlike (Here j v) (Here k w) = (family_of_key j ≡ family_of_key k) × (v ≡ w)
AreAlike _ _ = ⊥

-- two messages are of one kind: their first effects are alike
abbrev pub IsOneKind : List Effect → List Effect → Type 0
IsOneKind [] others = ⊥
IsOneKind (e ∷ es) [] = ⊥
IsOneKind (e ∷ es) (f ∷ fs) = AreAlike e f

-- the keys of a message, and one more behind them
abbrev pub keys_and : List Effect → Key → List Key
keys_and effects key = map named_by effects ++ key ∷ []

-- the text of a message to which a key was added
abbrev pub with_key : Caps → List Effect → Key → List ℕ
with_key caps [] key = []
with_key caps (Gone k ∷ es) key = written caps (head.Gone (family_of_key k)) (keys_and (Gone k ∷ es) key)
with_key caps (Here k w ∷ es) key = written caps (head.Here (family_of_key k) w) (keys_and (Here k w ∷ es) key)

-- a message has no room for the first key of another
abbrev pub HasNoRoomFor : Caps → List Effect → List Effect → Type 0
HasNoRoomFor caps effects [] = ⊤
HasNoRoomFor caps effects (e ∷ es) = room caps < length (with_key caps effects (named_by e))

-- a message may stand behind one, which has no room for its first key where both are of one kind; where they aren't,
-- none before that one is of its kind
pub record FollowsPacked (caps : Caps) (effects before : List Effect) (others : List (List Effect)) : Type 0 where
  pub full : IsOneKind before effects → HasNoRoomFor caps before effects
  pub together : ¬ (IsOneKind before effects) → AllByRecursion (λ other. ¬ (IsOneKind other effects)) others

-- a message may stand behind others, the newest first
abbrev pub IsPackedBehind : Caps → List Effect → List (List Effect) → Type 0
IsPackedBehind caps effects [] = ⊤
IsPackedBehind caps effects (before ∷ others) = FollowsPacked caps effects before others

-- the messages of a batch, the newest first: those of one kind stand together, and each of them but the last is full
abbrev pub ArePacked : Caps → List (List Effect) → Type 0
ArePacked caps [] = ⊤
ArePacked caps (effects ∷ others) = IsPackedBehind caps effects others × ArePacked caps others

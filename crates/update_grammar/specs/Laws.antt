-- The laws between what is written and what is read.
use Rattle.std.specs.Prelude.{ℕ, ◌≡◌, ◌≢◌, ◌^◌, ◌<◌, List, [], ◌∷◌, length, get_or, Ok}
use Rattle.std.specs.List.{AllByRecursion}
use Rattle.route_values.specs.declared.addr.Family.{Family}
use Rattle.route_values.specs.declared.addr.Family.TheVariants.{Ipv4, Ipv6}
use Rattle.route_values.specs.declared.attrs.WireAttrs.{WireAttrs}
use Rattle.route_values.specs.Caps.{Caps}
use Rattle.route_values.specs.declared.key.Key.{Key}
use Rattle.update_grammar.specs.declared.effect.Attr.{Attr}
use Rattle.update_grammar.specs.declared.effect.Effect.{Effect}
use Rattle.update_grammar.specs.Head as head
use Rattle.update_grammar.specs.Meanings.{SpellsAttributes}
use Rattle.update_grammar.specs.ReadAttributes.{attrs_in}
use Rattle.update_grammar.specs.ReadUpdate.{effects_in}
use Rattle.update_grammar.specs.Update.{Spells, here_all, gone_all}
use Rattle.update_grammar.specs.Written.{written, body_of, IsSendable, IsCarried}

-- a message that announces keys with attributes spells one announcement a key, in order
abbrev pub HereIsSpelled : Family → Type 0
HereIsSpelled family = (caps : Caps) (w : WireAttrs) (keys : List Key) → IsSendable family w
    → AllByRecursion (IsCarried caps family) keys → length (written caps (head.Here family w) keys) < 2 ^ 16
    → Spells caps (body_of (written caps (head.Here family w) keys)) (here_all w keys)

-- a message that withdraws keys spells one withdrawal a key, in order
abbrev pub GoneIsSpelled : Family → Type 0
GoneIsSpelled family = (caps : Caps) (keys : List Key) → AllByRecursion (IsCarried caps family) keys
    → length (written caps (head.Gone family) keys) < 2 ^ 16
    → Spells caps (body_of (written caps (head.Gone family) keys)) (gone_all keys)

-- the marker of a family spells no effect
abbrev pub EndIsSpelled : Family → Type 0
EndIsSpelled family = (caps : Caps) → Spells caps (body_of (written caps (head.End family) [])) []

-- the markers of the two families have different texts
abbrev pub MarkersDiffer : Type 0
MarkersDiffer = (caps other : Caps) → written caps (head.End Ipv4) [] ≢ written other (head.End Ipv6) []

-- the text of a marker of either family
abbrev pub IsMarker : List ℕ → Type 0
IsMarker bytes = (caps : Caps) × (family : Family) × (bytes ≡ written caps (head.End family) [])

-- no announcement has the text of a marker
abbrev pub HereIsNoMarker : Type 0
HereIsNoMarker = (caps : Caps) (family : Family) (w : WireAttrs) (keys : List Key)
    → ¬ (IsMarker (written caps (head.Here family w) keys))

-- no withdrawal of at least one key has the text of a marker
abbrev pub GoneIsNoMarker : Type 0
GoneIsNoMarker = (caps : Caps) (family : Family) (key : Key) (keys : List Key)
    → ¬ (IsMarker (written caps (head.Gone family) (key ∷ keys)))

-- numbers below 256
abbrev pub AreBytes : List ℕ → Type 0
AreBytes bytes = (i : ℕ) → get_or bytes i 0 < 256

-- what attributes are read as is what they spell
abbrev pub ReadAttrsAreSpelled : Type 0
ReadAttrsAreSpelled = (caps : Caps) (bytes : List ℕ) (said : List Attr) → AreBytes bytes → attrs_in caps bytes ≡ Ok said
    → SpellsAttributes caps bytes said

-- what attributes spell is what they are read as
abbrev pub SpelledAttrsAreRead : Type 0
SpelledAttrsAreRead = (caps : Caps) (bytes : List ℕ) (said : List Attr) → SpellsAttributes caps bytes said
    → attrs_in caps bytes ≡ Ok said

-- what a body is read as is what it spells
abbrev pub ReadEffectsAreSpelled : Type 0
ReadEffectsAreSpelled = (caps : Caps) (bytes : List ℕ) (effects : List Effect) → AreBytes bytes
    → effects_in caps bytes ≡ Ok effects → Spells caps bytes effects

-- what a body spells is what it is read as
abbrev pub SpelledEffectsAreRead : Type 0
SpelledEffectsAreRead = (caps : Caps) (bytes : List ℕ) (effects : List Effect) → Spells caps bytes effects
    → effects_in caps bytes ≡ Ok effects

-- a body spells at most one list of effects
abbrev pub EffectsAreOne : Type 0
EffectsAreOne = (caps : Caps) (bytes : List ℕ) (effects others : List Effect) → Spells caps bytes effects
    → Spells caps bytes others → effects ≡ others

-- Messages whose field for prefixes of a family is open: all lengths are right, and one more prefix may be put behind
-- those that are there (RFC 4271, section 4.3; RFC 4760, sections 3 and 4).
use Rattle.std.specs.Prelude.{ℕ, ◌≡◌, ◌≤◌, ◌↔◌, IsTrue, Bool, List, [], ◌∷◌, ◌++◌, length}
use Rattle.route_values.specs.declared.addr.Family.{Family}
use Rattle.route_values.specs.declared.attrs.WireAttrs.{WireAttrs}
use Rattle.route_values.specs.declared.key.Key.{Key}
use Rattle.route_values.specs.Caps.{Caps}
use Rattle.update_grammar.specs.Head as head
use Rattle.update_grammar.specs.Written.{written}
use Rattle.attr_codec.specs.Buffer.{Buffer}

-- an announcement of keys of the family with one value
pub record IsOpenHere (caps : Caps) (family : Family) (bytes : List ℕ) : Type 0 where
  pub attrs : WireAttrs
  pub keys : List Key
  pub text : bytes ≡ written caps (head.Here family attrs) keys

-- a withdrawal of keys of the family
pub record IsOpenGone (caps : Caps) (family : Family) (bytes : List ℕ) : Type 0 where
  pub keys : List Key
  pub text : bytes ≡ written caps (head.Gone family) keys

-- an announcement with one more key, whatever its value and its other keys are
abbrev pub AddsHere : Caps → Family → Key → List ℕ → List ℕ → Type 0
AddsHere caps family key old new = (w : WireAttrs) → (keys : List Key)
    → old ≡ written caps (head.Here family w) keys
    → new ≡ written caps (head.Here family w) (keys ++ key ∷ [])

-- a withdrawal with one more key
abbrev pub AddsGone : Caps → Family → Key → List ℕ → List ℕ → Type 0
AddsGone caps family key old new = (keys : List Key)
    → old ≡ written caps (head.Gone family) keys
    → new ≡ written caps (head.Gone family) (keys ++ key ∷ [])

-- the answer tells whether the announcement with one more key has no more bytes than the room
abbrev pub TellsHereFits : Caps → Family → Key → Buffer → Bool → Type 0
TellsHereFits caps family key old answer = (w : WireAttrs) → (keys : List Key)
    → old.bytes ≡ written caps (head.Here family w) keys
    → IsTrue answer ↔ (length (written caps (head.Here family w) (keys ++ key ∷ [])) ≤ old.room)

-- the same of the withdrawal with one more key
abbrev pub TellsGoneFits : Caps → Family → Key → Buffer → Bool → Type 0
TellsGoneFits caps family key old answer = (keys : List Key)
    → old.bytes ≡ written caps (head.Gone family) keys
    → IsTrue answer ↔ (length (written caps (head.Gone family) (keys ++ key ∷ [])) ≤ old.room)

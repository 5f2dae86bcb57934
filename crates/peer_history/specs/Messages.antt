-- What messages say: their effects, the keys that they name, and the End-of-RIB markers among them.
use Rattle.std.specs.Prelude.{ℕ, ◌+◌, ◌||◌, Bool, false, nat_eq, List, [], ◌∷◌, ◌++◌, map, if◌then◌else◌}
use Rattle.std.specs.Prelude.{Option, Some, None, Result, Ok, Err}
use Rattle.std.specs.Cmp.Lexicographic.{pointwise}
use Rattle.route_values.specs.declared.addr.Family.{Family}
use Rattle.route_values.specs.declared.attrs.WireAttrs.{WireAttrs}
use Rattle.route_values.specs.declared.key.Key.{Key}
use Rattle.route_values.specs.Caps.{Caps, no_caps}
use Rattle.update_grammar.specs.declared.effect.Effect.{Effect}
use Rattle.update_grammar.specs.declared.fault.UpdateFault.{UpdateFault}
use Rattle.update_grammar.specs.Head.{Head}
use Rattle.update_grammar.specs.Head as head
use Rattle.update_grammar.specs.Packed.{named_by}
use Rattle.update_grammar.specs.ReadUpdate.{effects_in}
use Rattle.update_grammar.specs.Update.{here_all, gone_all}
use Rattle.update_grammar.specs.Written.{written, body_of}

-- the effects that a body was read as; one that spells nothing has none
abbrev pub effects_read : Result (List Effect) UpdateFault → List Effect
effects_read (Ok effects) = effects
effects_read (Err fault) = []

-- what a message says to a peer that reads it by the grammar (RFC 4271, section 4.3)
abbrev pub said : Caps → List ℕ → List Effect
said caps bytes = effects_read (effects_in caps (body_of bytes))

-- what each message says
abbrev pub said_each : Caps → List (List ℕ) → List (List Effect)
said_each caps messages = map (said caps) messages

-- the keys that messages name
abbrev pub mentions : Caps → List (List ℕ) → List Key
mentions caps [] = []
mentions caps (bytes ∷ messages) = map named_by (said caps bytes) ++ mentions caps messages

-- whether a message is the family's End-of-RIB marker (RFC 4724, section 2), whose text no other message has
abbrev pub marks : Family → List ℕ → Bool
marks family bytes = pointwise nat_eq bytes (written no_caps (head.End family) [])

-- whether the family's marker is among messages
abbrev pub is_marked : Family → List (List ℕ) → Bool
is_marked family [] = false
is_marked family (bytes ∷ messages) = marks family bytes || is_marked family messages

-- how often it is among them
abbrev pub times_marked : Family → List (List ℕ) → ℕ
times_marked family [] = 0
times_marked family (bytes ∷ messages) = (if marks family bytes then 1 else 0) + times_marked family messages

-- what a message is meant to say of its keys
abbrev pub meant : Head → List Key → List Effect
meant (head.Gone family) keys = gone_all keys
meant (head.Here family attrs) keys = here_all attrs keys
meant (head.End family) keys = []

-- the value that a message gives its keys
abbrev pub value_given : Head → Option WireAttrs
value_given (head.Gone family) = None
value_given (head.Here family attrs) = Some attrs
value_given (head.End family) = None

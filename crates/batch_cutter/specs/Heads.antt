-- What messages are for.
use Rattle.std.specs.Prelude.{◌≡◌, ◌≤◌, ⊤, List, [], ◌∷◌, length}
use Rattle.route_values.specs.declared.addr.Family.{Family}
use Rattle.route_values.specs.declared.attrs.WireAttrs.{WireAttrs}
use Rattle.route_values.specs.declared.key.Key.{Key}
use Rattle.route_values.specs.Caps.{Caps}
use Rattle.route_values.specs.Key.{family_of_key}
use Rattle.route_values.specs.Limits.{counts_sent, IsWithinLimits}
use Rattle.update_grammar.specs.Head.{Head}
use Rattle.update_grammar.specs.Head as head
use Rattle.update_grammar.specs.Packed.{room}
use Rattle.update_grammar.specs.Written.{written, IsSendable}
use Rattle.batch_cutter.specs.declared.head.Head.{Head as Given}
use Rattle.batch_cutter.specs.declared.head.Head.TheVariants as given
use Rattle.batch_cutter.specs.declared.kind.Kind.{Kind}
use Rattle.batch_cutter.specs.declared.kind.Kind.TheVariants as kind
use Rattle.batch_cutter.specs.Kinds.{family_of_kind}

-- the head, with the attributes that a reference shows
abbrev pub head_told : Given → Head
head_told (given.Gone family) = head.Gone family
head_told (given.Here family attrs) = head.Here family attrs.now
head_told (given.End family) = head.End family

-- the head without the value that it announces
abbrev pub kind_of : Head → Kind
kind_of (head.Gone family) = kind.Gone family
kind_of (head.Here family w) = kind.Here family
kind_of (head.End family) = kind.End family

-- the family that the message is for
abbrev pub family_of_head : Head → Family
family_of_head h = family_of_kind (kind_of h)

-- attributes of a route within the limits, which have a text, with a next hop of the family
pub record IsRoute (family : Family) (w : WireAttrs) : Type 0 where
  pub sendable : IsSendable family w
  pub within : IsWithinLimits (counts_sent w)

-- what is announced is a route of the family
abbrev pub CanBegin : Head → Type 0
CanBegin (head.Gone family) = ⊤
CanBegin (head.Here family w) = IsRoute family w
CanBegin (head.End family) = ⊤

-- the message with these keys is no longer than those of the session may be
abbrev pub Fits : Caps → Head → List Key → Type 0
Fits caps h keys = length (written caps h keys) ≤ room caps

-- the message has room for a first key, whichever it is
abbrev pub TakesAKey : Caps → Head → Type 0
TakesAKey caps h = (key : Key) → family_of_key key ≡ family_of_head h → Fits caps h (key ∷ [])

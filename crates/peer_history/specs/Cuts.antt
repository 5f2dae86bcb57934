-- What a cut may answer.
use Rattle.std.specs.Prelude.{ℕ, ◌≡◌, ◌<◌, ◌≤◌, ◌↔◌, ⊤, Bool, false, List, [], ◌∷◌, length, IsTrue, IsSome, Option}
use Rattle.std.specs.Prelude.{Some, None}
use Rattle.std.specs.List.{AllByRecursion}
use Rattle.route_values.specs.declared.addr.Family.{Family}
use Rattle.route_values.specs.declared.addr.Family.TheVariants.{Ipv4, Ipv6}
use Rattle.route_values.specs.declared.attrs.WireAttrs.{WireAttrs}
use Rattle.route_values.specs.declared.key.Key.{Key}
use Rattle.route_values.specs.Caps.{Caps}
use Rattle.route_values.specs.Key.{family_of_key}
use Rattle.update_grammar.specs.Head.{Head}
use Rattle.update_grammar.specs.Head as head
use Rattle.update_grammar.specs.Packed.{room, IsPackedBehind}
use Rattle.update_grammar.specs.Update.{Spells}
use Rattle.update_grammar.specs.Written.{written, body_of}
use Rattle.peer_history.specs.Batches.{opened, first_cut, batch, is_left, is_marker_left, NoKeyLeft, NothingLeft}
use Rattle.peer_history.specs.Keys.{AreSomeOf}
use Rattle.peer_history.specs.Messages.{said, said_each, meant}
use Rattle.peer_history.specs.Sessions.{session, reset, live}
use Rattle.peer_history.specs.Steps.{Step, Answer}
use Rattle.peer_history.specs.Steps.Step.{Cut}
use Rattle.peer_history.specs.Steps.Answer.{NoSession, Reset, Nothing, Message}
use Rattle.peer_history.specs.Table.{view}

-- keys that are left, each once, all of one family and with one value in the batch's target
pub record AreLeft (caps : Caps) (steps : List Step) (family : Family) (value : Option WireAttrs)
    (keys : List Key) : Type 0 where
  pub some : 0 < length keys
  pub left : AreSomeOf (is_left caps steps) keys
  pub of_family : AllByRecursion (λ key. family_of_key key ≡ family) keys
  pub of_value : AllByRecursion (λ key. view caps (first_cut steps) key ≡ value) keys

-- a marker comes where no key is left, and that of IPv4 before that of IPv6
pub record EndsFamily (caps : Caps) (steps : List Step) (family : Family) (keys : List Key) : Type 0 where
  pub none : keys ≡ []
  pub left : IsTrue (is_marker_left caps steps family)
  pub no_key : NoKeyLeft caps steps
  pub first : family ≡ Ipv6 → is_marker_left caps steps Ipv4 ≡ false

-- what a message may be for
abbrev pub IsDue : Caps → List Step → Head → List Key → Type 0
IsDue caps steps (head.Gone family) keys = AreLeft caps steps family None keys
IsDue caps steps (head.Here family attrs) keys = AreLeft caps steps family (Some attrs) keys
IsDue caps steps (head.End family) keys = EndsFamily caps steps family keys

-- A message that may be cut now: it is the written text of what is due, fits the session's messages, spells what it
-- is meant to, and is packed behind those of its batch. It is the last exactly where nothing is left after it.
pub record MayCut (caps : Caps) (steps : List Step) (bytes : List ℕ) (last : Bool) : Type 0 where
  pub head : Head
  pub keys : List Key
  pub text : bytes ≡ written caps head keys
  pub fits : length bytes ≤ room caps
  pub spelled : Spells caps (body_of bytes) (meant head keys)
  pub due : IsDue caps steps head keys
  pub packed : IsPackedBehind caps (said caps bytes) (said_each caps (batch steps))
  pub ends : IsTrue last ↔ NothingLeft caps (Cut (Message bytes false) ∷ steps)

-- what a cut may answer: exactly one of the four kinds, by whether a session stands, was ended, and owes something
abbrev pub MayAnswer : List Step → Answer → Type 0
MayAnswer steps NoSession = session steps ≡ None
MayAnswer steps (Reset code) = IsSome (session steps) × (reset steps ≡ Some code)
MayAnswer steps Nothing =
    (caps : Caps) × (live steps ≡ Some caps) × (opened steps ≡ None) × NothingLeft caps steps
MayAnswer steps (Message bytes last) = (caps : Caps) × (live steps ≡ Some caps) × MayCut caps steps bytes last

-- each cut was answered as the history before it allows
abbrev pub IsLegal : List Step → Type 0
IsLegal [] = ⊤
IsLegal (Cut answer ∷ steps) = MayAnswer steps answer × IsLegal steps
IsLegal (_ ∷ steps) = IsLegal steps

-- The session of a slot, and what its messages have left at the peer.
use Rattle.std.specs.Prelude.{List, [], ◌∷◌, ◌++◌, if◌then◌else◌, Option, Some, None, is_some}
use Rattle.std.specs.Option.{option_or}
use Rattle.route_values.specs.declared.attrs.WireAttrs.{WireAttrs}
use Rattle.route_values.specs.declared.key.Key.{Key}
use Rattle.route_values.specs.Caps.{Caps}
use Rattle.update_grammar.specs.declared.effect.Effect.{Effect}
use Rattle.update_grammar.specs.Net.{net}
use Rattle.peer_history.specs.Messages.{said}
use Rattle.peer_history.specs.Steps.{Step, Code}
use Rattle.peer_history.specs.Steps.Step.{Up, Down, Ended, Cut}
use Rattle.peer_history.specs.Steps.Answer.{Message}

-- the capabilities of the session that stands: one that came up and has not gone down since
abbrev pub session : List Step → Option Caps
session [] = None
session (Up caps ∷ steps) = Some caps
session (Down ∷ steps) = None
session (_ ∷ steps) = session steps

-- the code of the first step that ended the session
abbrev pub reset : List Step → Option Code
reset [] = None
reset (Up caps ∷ steps) = None
reset (Down ∷ steps) = None
reset (Ended code ∷ steps) = option_or (reset steps) (Some code)
reset (_ ∷ steps) = reset steps

-- the capabilities of the live session: it stands, and nothing ended it
abbrev pub live : List Step → Option Caps
live steps = if is_some (reset steps) then None else session steps

-- the effects of all messages cut in the session, the oldest first
abbrev pub session_effects : Caps → List Step → List Effect
session_effects caps [] = []
session_effects caps (Up _ ∷ steps) = []
session_effects caps (Down ∷ steps) = []
session_effects caps (Cut (Message bytes last) ∷ steps) = session_effects caps steps ++ said caps bytes
session_effects caps (_ ∷ steps) = session_effects caps steps

-- what the session's messages have left at the peer
abbrev pub peer : Caps → List Step → Key → Option WireAttrs
peer caps steps key = net (session_effects caps steps) key

-- What a line of a script says.
use Rattle.std.specs.Prelude.{ℕ, List}
use Rattle.route_values.specs.declared.addr.Family.{Family}
use Rattle.route_values.specs.Caps.{Caps}
use Rattle.text_forms.specs.LineTold.{line_told}
use Rattle.text_forms.specs.Lines.{Line as HelperLine}
use Rattle.script_grammar.specs.declared.event.Event.{Event as Given}
use Rattle.script_grammar.specs.declared.event.Event.TheVariants as given
use Rattle.script_grammar.specs.declared.event.ScriptLine.{ScriptLine as GivenLine}
use Rattle.script_grammar.specs.declared.event.ScriptLine.TheVariants as given_line

pub data Event : Type 0 where
  -- a helper slot, with a moment in milliseconds, or with an incarnation
  Spawn : ℕ → ℕ → Event
  Line : ℕ → ℕ → HelperLine → Event
  Take : ℕ → ℕ → Event
  Deaf : ℕ → ℕ → Event
  Gone : ℕ → ℕ → Event
  -- a neighbour slot
  Peer : ℕ → Event
  Up : ℕ → Caps → Event
  Down : ℕ → Event
  Refresh : ℕ → Family → Event
  Cut : ℕ → Event
  Drain : ℕ → Event
  -- the whole daemon, and the path of a file
  Control : Event
  Reload : List ℕ → Event

-- an event with the bytes that its slices hold
abbrev pub event_told : Given → Event
event_told (given.Spawn h now) = Spawn h now
event_told (given.Line h inc line) = Line h inc (line_told line)
event_told (given.Take h inc) = Take h inc
event_told (given.Deaf h inc) = Deaf h inc
event_told (given.Gone h inc) = Gone h inc
event_told (given.Peer n) = Peer n
event_told (given.Up n caps) = Up n caps
event_told (given.Down n) = Down n
event_told (given.Refresh n family) = Refresh n family
event_told (given.Cut n) = Cut n
event_told (given.Drain n) = Drain n
event_told given.Control = Control
event_told (given.Reload path) = Reload path.now

-- a line that is passed over, one that says an event, or one that is in no production
pub data ScriptLine : Type 0 where
  PassedOver : ScriptLine
  Says : Event → ScriptLine
  Bad : ScriptLine

abbrev pub script_line_told : GivenLine → ScriptLine
script_line_told given_line.PassedOver = PassedOver
script_line_told (given_line.Says event) = Says (event_told event)
script_line_told given_line.Bad = Bad

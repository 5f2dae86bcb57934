-- The law of a script's lines: what is read is just what is spelled.
use Rattle.std.specs.Prelude.{ℕ, ◌≡◌, ◌<◌, ⊤, List, Some}
use Rattle.script_grammar.specs.Events.{Event, Spawn, Line, Take, Deaf, Gone, Peer, Up, Down, Refresh, Cut, Drain}
use Rattle.script_grammar.specs.Events.{Control, Reload}
use Rattle.script_grammar.specs.Reading.{event_in}
use Rattle.script_grammar.specs.Spelling.{IsEvent}
use Rattle.script_grammar.specs.Words.{helpers, neighbors}

-- an event that is read is spelled by its line
abbrev pub EventsAreSpelled : Type 0
EventsAreSpelled = (line : List ℕ) (event : Event) → event_in line ≡ Some event → IsEvent line event

-- an event that a line spells is read
abbrev pub SpelledEventsAreRead : Type 0
SpelledEventsAreRead = (line : List ℕ) (event : Event) → IsEvent line event → event_in line ≡ Some event

-- the slot that an event names, if it names one, is one of those that there are
abbrev pub HasSlot : Event → Type 0
HasSlot (Spawn h now) = h < helpers
HasSlot (Line h inc told) = h < helpers
HasSlot (Take h inc) = h < helpers
HasSlot (Deaf h inc) = h < helpers
HasSlot (Gone h inc) = h < helpers
HasSlot (Peer n) = n < neighbors
HasSlot (Up n caps) = n < neighbors
HasSlot (Down n) = n < neighbors
HasSlot (Refresh n family) = n < neighbors
HasSlot (Cut n) = n < neighbors
HasSlot (Drain n) = n < neighbors
HasSlot Control = ⊤
HasSlot (Reload path) = ⊤

-- an event that is read has its slot
abbrev pub EventsHaveSlots : Type 0
EventsHaveSlots = (line : List ℕ) (event : Event) → event_in line ≡ Some event → HasSlot event

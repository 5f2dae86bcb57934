-- One line of a script, and the event that it says.
use Rattle.std.proofs.Common.{ℕ, ◌≡◌, true, false, List, [], Option, Some, Result, Ok, Err, ap, sym}
use Rattle.std.proofs.Common.{refl, subst, not, cond, Bool, None, nat_lt, length}
use Rattle.outside.specs.Seen.{SinkSeen}
use Rattle.config_model.specs.Sections.{Sections}
use Rattle.book_history.specs.Entries.{History}
use Rattle.script_grammar.specs.Events.{Event, Bad, PassedOver, Says}
use Rattle.script_grammar.specs.Laws.{EventsHaveSlots, HasSlot}
use Rattle.script_grammar.specs.Reading.{event_in, is_passed_over, max_script_line, said_or_bad, script_line}
use Rattle.text_history.specs.Plays.{is_known}
use Rattle.script_play.specs.declared.halt.Halt.{Halt}
use Rattle.script_play.specs.declared.halt.Halt.TheVariants as halt
use Rattle.script_play.specs.declared.player.Player.{Player}
use Rattle.script_play.specs.Entering.{EnteredPart, Enters}
use Rattle.script_play.specs.Player.{PlayerStands}
use Rattle.script_play.specs.Streams.{LeavesLine, LineStopped, PlaysLine}
use Rattle.script_play.proofs.PlayedLemmas.{grows_none}

-- ---- an event that is said has its slot

said_slot : EventsHaveSlots → (line : List ℕ) (said : Option Event) (event : Event) → said ≡ event_in line
    → said_or_bad said ≡ Says event → HasSlot event
said_slot slots line None event said_is is = absurd (cc)
said_slot slots line (Some other) event said_is is =
    let same : other ≡ event = cc in
    subst (λ (one : Event). HasSlot one) same (slots line other (sym said_is))

short_slot : EventsHaveSlots → (line : List ℕ) (event : Event) (passed : Bool)
    → cond passed PassedOver (said_or_bad (event_in line)) ≡ Says event → HasSlot event
short_slot slots line event true is = absurd (cc)
short_slot slots line event false is = said_slot slots line (event_in line) event refl is

line_slot : EventsHaveSlots → (line : List ℕ) (event : Event) (long : Bool)
    → cond long Bad (cond (is_passed_over line) PassedOver (said_or_bad (event_in line))) ≡ Says event → HasSlot event
line_slot slots line event true is = absurd (cc)
line_slot slots line event false is = short_slot slots line event (is_passed_over line) is

pub event_slot : EventsHaveSlots → (line : List ℕ) (event : Event) → script_line line ≡ Says event → HasSlot event
unfolding script_line
event_slot slots line event is = line_slot slots line event (nat_lt max_script_line (length line)) is

-- ---- what is left

-- a line that is passed over
pub line_passed : (content : Option (List ℕ → List ℕ)) (number : ℕ) (player : Player) (files : ℕ) (sink : SinkSeen)
    → PlaysLine content number PassedOver player player files files sink sink (Ok tt)
line_passed content number player files sink cfg H stands =
    (record { added = []; adds = refl; stands = stands; taken = grows_none sink.taken; same = refl }, refl)

-- a line that is in no production
pub line_bad : (content : Option (List ℕ → List ℕ)) (number : ℕ) (player : Player) (files : ℕ) (sink : SinkSeen)
    → PlaysLine content number Bad player player files files sink sink (Err (halt.Script number))
line_bad content number player files sink cfg H stands = (refl, refl, refl, refl)

-- an event of a session with settings that weren't told
pub unknown_event : (content : Option (List ℕ → List ℕ)) (number : ℕ) (event : Event) (player : Player) (files : ℕ)
    (sink : SinkSeen) → ((cfg : Sections) (H : History) → PlayerStands cfg H player → is_known H event ≡ false)
    → PlaysLine content number (Says event) player player files files sink sink (Err (halt.Script number))
unknown_event content number event player files sink unknown cfg H stands =
    (refl, ap not (unknown cfg H stands), refl, refl)

event_stopped : (content : Option (List ℕ → List ℕ)) (cfg : Sections) (H : History) (event : Event)
    (sink sink' : SinkSeen) → EnteredPart content cfg H event sink sink'
    → LineStopped content cfg H (Says event) sink sink'
event_stopped content cfg H event sink sink' was = record {
  added = was.added;
  more = was.more;
  adds = was.adds;
  legal = was.legal;
  part = was.part;
  rest = was.rest;
  text_is = was.text_is;
  taken = was.taken;
}

event_leaves : (content : Option (List ℕ → List ℕ)) (cfg : Sections) (H : History) (number : ℕ) (event : Event)
    (player : Player) (files files' : ℕ) (sink sink' : SinkSeen) (result : Result (Unit {0}) Halt)
    → Enters content cfg H event player files files' sink sink' result
    → LeavesLine content cfg H number (Says event) player files files' sink sink' result
event_leaves content cfg H number event player files files' sink sink' (Ok done) was = (
  record {
    added = was.0.added;
    adds = was.0.adds;
    stands = was.0.stands;
    taken = was.0.taken;
    same = was.0.same;
  },
  was.1,
)
event_leaves content cfg H number event player files files' sink sink' (Err halt.Memory) was =
    (event_stopped content cfg H event sink sink' was.0, was.1)
event_leaves content cfg H number event player files files' sink sink' (Err halt.Write) was =
    (event_stopped content cfg H event sink sink' was.0, was.1)
event_leaves content cfg H number event player files files' sink sink' (Err halt.File) was =
    (event_stopped content cfg H event sink sink' was.0, was.1)
event_leaves content cfg H number event player files files' sink sink' (Err halt.Read) was = absurd was.1
event_leaves content cfg H number event player files files' sink sink' (Err halt.Long) was = absurd was.1
event_leaves content cfg H number event player files files' sink sink' (Err (halt.Script line)) was = absurd was.1

-- an event that was entered, or in which the call stopped
pub entered_line : (content : Option (List ℕ → List ℕ)) (number : ℕ) (event : Event) (was player : Player)
    (files files' : ℕ) (sink sink' : SinkSeen) (result : Result (Unit {0}) Halt)
    → ((cfg : Sections) (H : History) → PlayerStands cfg H was
    → Enters content cfg H event player files files' sink sink' result)
    → PlaysLine content number (Says event) was player files files' sink sink' result
entered_line content number event was player files files' sink sink' result enters cfg H stands =
    event_leaves content cfg H number event player files files' sink sink' result (enters cfg H stands)

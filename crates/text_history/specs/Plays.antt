-- What a script adds to a history: the entries of its events.
use Rattle.std.specs.Prelude.{ℕ, ◌≡◌, ◌+◌, ◌==◌, Bool, true, false, List, [], ◌∷◌, ◌++◌, length, Option, Some, None}
use Rattle.std.specs.Prelude.{Result, if◌then◌else◌, is_some, not}
use Rattle.std.specs.List.{AllByRecursion}
use Rattle.route_values.specs.declared.settings.Settings.{Settings}
use Rattle.route_grammar.specs.declared.fault.ReadFault.{ReadFault}
use Rattle.command_grammar.specs.declared.command.Command.{Command}
use Rattle.config_model.specs.declared.fault.ConfigFault.{ConfigFault}
use Rattle.config_model.specs.declared.slots.Slots.{Slots}
use Rattle.config_model.specs.Sections.{Sections}
use Rattle.book_history.specs.declared.outcomes.Control.{Control as Directed}
use Rattle.book_history.specs.declared.outcomes.Cut.{Cut as Cutting}
use Rattle.book_history.specs.declared.outcomes.Cut.TheVariants as cut
use Rattle.book_history.specs.declared.outcomes.NotRead.TheVariants as not_read
use Rattle.book_history.specs.declared.outcomes.Peer.{Peer as Told}
use Rattle.book_history.specs.declared.outcomes.Peer.TheVariants as peer
use Rattle.book_history.specs.declared.outcomes.Reload.{Reload as Loaded}
use Rattle.book_history.specs.declared.outcomes.Spawn.{Spawn as Started}
use Rattle.book_history.specs.declared.outcomes.Take.{Take as Taken}
use Rattle.book_history.specs.declared.outcomes.Up.{Up as Raised}
use Rattle.book_history.specs.declared.outcomes.Verdict.{Verdict}
use Rattle.book_history.specs.Entries.{Entry, History}
use Rattle.book_history.specs.Entries.Entry.{LineEntered, RepliesTaken, HelperDeaf, HelperGone, SpawnAsked, PeerAsked}
use Rattle.book_history.specs.Entries.Entry.{CameUp, WentDown, RefreshAsked, MessageCut, ControlAsked, Reloaded}
use Rattle.book_history.specs.Entries.Entry.{ReloadRefused}
use Rattle.script_grammar.specs.Events.{Event, Spawn, Line, Take, Deaf, Gone, Peer, Up, Down, Refresh, Cut, Drain}
use Rattle.script_grammar.specs.Events.{Control, Reload, ScriptLine, PassedOver, Says, Bad}
use Rattle.script_grammar.specs.Reading.{script_line}
use Rattle.script_grammar.specs.Scripts.{script_lines}
use Rattle.text_history.specs.Adding.{Adding}
use Rattle.text_history.specs.Configured.{AreTextSlots, IsConfigAt, IsFaultAt}

-- the settings that the last look at a neighbour slot told, if any did
abbrev pub settings_told : ℕ → History → Option Settings
settings_told n [] = None
settings_told n (PeerAsked m (peer.Is settings) ∷ H) = if m == n then Some settings else settings_told n H
settings_told n (_ ∷ H) = settings_told n H

-- a message was cut for a slot
pub record IsMessageOf (n : ℕ) (entry : Entry) : Type 0 where
  pub bytes : List ℕ
  pub last : Bool
  pub entry_is : entry ≡ MessageCut n bytes (cut.Message last)

-- whether a cut made a message
abbrev pub is_message : Cutting → Bool
is_message (cut.Message last) = true
is_message _ = false

-- messages were cut for a slot until none came
pub record IsDrain (n : ℕ) (added : History) : Type 0 where
  pub bytes : List ℕ
  pub given : Cutting
  pub messages : History
  pub none : is_message given ≡ false
  pub are : AllByRecursion (IsMessageOf n) messages
  pub added_are : added ≡ MessageCut n bytes given ∷ messages

-- a reload by the file at a path: its configuration, its first fault, or want of memory in reading it
pub data IsReload (content : Option (List ℕ → List ℕ)) (path : List ℕ) : Entry → Type 0 where
  read : (slots : Slots) (new : Sections) (given : Loaded) → AreTextSlots slots → IsConfigAt content path slots new
      → IsReload content path (Reloaded new given)
  refused : (slots : Slots) (fault : ConfigFault) → AreTextSlots slots → IsFaultAt content path slots fault
      → IsReload content path (ReloadRefused (not_read.Refused fault))
  no_memory : IsReload content path (ReloadRefused not_read.NoMemory)

-- what is asked by an event that is one entry
abbrev pub Asks : Option (List ℕ → List ℕ) → History → Event → Entry → Type 0
Asks content H (Spawn h now) entry = (given : Started) × (entry ≡ SpawnAsked h now given)
Asks content H (Line h inc line) entry =
    (reading : Result Command ReadFault) × (given : Verdict) × (entry ≡ LineEntered h inc line reading given)
Asks content H (Take h inc) entry = (given : Taken) × (entry ≡ RepliesTaken h inc given)
Asks content H (Deaf h inc) entry = entry ≡ HelperDeaf h inc
Asks content H (Gone h inc) entry = entry ≡ HelperGone h inc
Asks content H (Peer n) entry = (given : Told) × (entry ≡ PeerAsked n given)
Asks content H (Up n caps) entry =
    (settings : Settings) × (settings_told n H ≡ Some settings) × (given : Raised)
    × (entry ≡ CameUp n settings caps given)
Asks content H (Down n) entry = entry ≡ WentDown n
Asks content H (Refresh n family) entry = entry ≡ RefreshAsked n family
Asks content H (Cut n) entry = (bytes : List ℕ) × (given : Cutting) × (entry ≡ MessageCut n bytes given)
Asks content H (Drain n) entry = ⊥
Asks content H Control entry = (given : Directed) × (entry ≡ ControlAsked given)
Asks content H (Reload path) entry = IsReload content path entry

-- the entries that an event adds, with whatever answers
abbrev pub AddsEvent : Option (List ℕ → List ℕ) → History → Event → History → Type 0
AddsEvent content H (Drain n) added = IsDrain n added
AddsEvent content H event added = (entry : Entry) × Asks content H event entry × (added ≡ entry ∷ [])

-- whether the slot of an event that brings a session up told its settings before
abbrev pub is_known : History → Event → Bool
is_known H (Up n caps) = is_some (settings_told n H)
is_known H _ = true

-- whether a line says no event, or one of a session with settings that weren't told
abbrev pub is_no_line : History → ScriptLine → Bool
is_no_line H PassedOver = false
is_no_line H (Says event) = not (is_known H event)
is_no_line H Bad = true

-- the entries that a line adds
abbrev pub AddsSaid : Option (List ℕ → List ℕ) → History → ScriptLine → History → Type 0
AddsSaid content H PassedOver added = added ≡ []
AddsSaid content H (Says event) added = AddsEvent content H event added
AddsSaid content H Bad added = ⊥

abbrev pub AddsLine : Option (List ℕ → List ℕ) → History → List ℕ → History → Type 0
AddsLine content H line added = AddsSaid content H (script_line line) added

-- the history of a script that was played to its end
abbrev pub IsPlay : Option (List ℕ → List ℕ) → List ℕ → History → Type 0
IsPlay content bytes H = Adding (AddsLine content) [] (script_lines bytes) H

-- a history whose events begin those of a script
pub record IsPlayPart (content : Option (List ℕ → List ℕ)) (bytes : List ℕ) (H : History) : Type 0 where
  pub lines : List (List ℕ)
  pub behind : List (List ℕ)
  pub lines_are : script_lines bytes ≡ lines ++ behind
  pub more : History
  pub played : Adding (AddsLine content) [] lines (more ++ H)

-- the history of the lines before the first that is none, which has this number
pub record IsRefusedAt (content : Option (List ℕ → List ℕ)) (bytes : List ℕ) (number : ℕ) (H : History) : Type 0 where
  pub before : List (List ℕ)
  pub line : List ℕ
  pub behind : List (List ℕ)
  pub lines_are : script_lines bytes ≡ before ++ line ∷ behind
  pub number_is : number ≡ length before + 1
  pub played : Adding (AddsLine content) [] before H
  pub bad : is_no_line H (script_line line) ≡ true

-- What entering an event leaves.
use Rattle.std.specs.Prelude.{ℕ, ◌≡◌, IsTrue, List, ◌∷◌, ◌++◌, Option, Result, Ok, Err}
use Rattle.outside.specs.Seen.{SinkSeen}
use Rattle.outside.specs.Told.{CountsOne, Grows}
use Rattle.config_model.specs.Sections.{Sections}
use Rattle.book_history.specs.Entries.{Entry, History}
use Rattle.book_history.specs.Legal.{IsLegal}
use Rattle.answer_texts.specs.Shown.{all_of, shown}
use Rattle.script_grammar.specs.Events.{Event, Reload}
use Rattle.text_history.specs.Plays.{AddsEvent, Asks, is_known}
use Rattle.script_play.specs.declared.halt.Halt.{Halt}
use Rattle.script_play.specs.declared.halt.Halt.TheVariants as halt
use Rattle.script_play.specs.declared.player.Player.{Player}
use Rattle.script_play.specs.Player.{PlayerStands}
use Rattle.script_play.specs.Writing.{Stops}

-- an event that is one entry was entered, and the buffer holds what is printed of it
pub record Asked (content : Option (List ℕ → List ℕ)) (cfg : Sections) (H : History) (event : Event) (player : Player)
    : Type 0 where
  pub entry : Entry
  pub asks : Asks content H event entry
  pub stands : PlayerStands cfg (entry ∷ H) player
  pub text : player.text.items ≡ shown entry

-- it was entered, or nothing was
pub data AskedAtMost (content : Option (List ℕ → List ℕ)) (cfg : Sections) (H : History) (event : Event)
    (player : Player) : Type 0 where
  entered : (entry : Entry) → Asks content H event entry → PlayerStands cfg (entry ∷ H) player
      → AskedAtMost content cfg H event player
  nothing : PlayerStands cfg H player → AskedAtMost content cfg H event player

-- what a call leaves that enters an event of one entry, and puts what is printed of it into the buffer
abbrev pub PutsAsked : {E : Type 0} → Player → Player → Event → Result (Unit {0}) E → Type 0
PutsAsked was now event (Ok _) =
    (content : Option (List ℕ → List ℕ)) (cfg : Sections) (H : History) → PlayerStands cfg H was
    → IsTrue (is_known H event) → Asked content cfg H event now
PutsAsked was now event (Err _) =
    (content : Option (List ℕ → List ℕ)) (cfg : Sections) (H : History) → PlayerStands cfg H was
    → IsTrue (is_known H event) → AskedAtMost content cfg H event now

-- an event was entered, and what is printed of its entries was written
pub record Entered (content : Option (List ℕ → List ℕ)) (cfg : Sections) (H : History) (event : Event) (player : Player)
    (sink sink' : SinkSeen) : Type 0 where
  pub added : History
  pub adds : AddsEvent content H event added
  pub stands : PlayerStands cfg (added ++ H) player
  pub taken : Grows sink.taken sink'.taken (all_of shown added)
  pub same : sink'.faults ≡ sink.faults

-- entries were made that begin those of the event, and a front part of what is printed of them was written
pub record EnteredPart (content : Option (List ℕ → List ℕ)) (cfg : Sections) (H : History) (event : Event)
    (sink sink' : SinkSeen) : Type 0 where
  pub added : History
  pub more : History
  pub adds : AddsEvent content H event (more ++ added)
  pub legal : IsLegal cfg (added ++ H)
  pub part : List ℕ
  pub rest : List ℕ
  pub text_is : all_of shown added ≡ part ++ rest
  pub taken : Grows sink.taken sink'.taken part

-- what a call leaves that enters the reload by a file, and puts what is printed of it into the buffer; where the file
-- isn't read nothing is entered
abbrev pub PutsReload : Option (List ℕ → List ℕ) → List ℕ → Player → Player → ℕ → ℕ → Result (Unit {0}) Halt → Type 0
PutsReload content path was now files files' (Ok _) =
    ((cfg : Sections) (H : History) → PlayerStands cfg H was → Asked content cfg H (Reload path) now)
    × (files' ≡ files)
PutsReload content path was now files files' (Err halt.Memory) =
    ((cfg : Sections) (H : History) → PlayerStands cfg H was → AskedAtMost content cfg H (Reload path) now)
    × (files' ≡ files)
PutsReload content path was now files files' (Err halt.File) = (now ≡ was) × CountsOne files files'
PutsReload content path was now files files' (Err other) = ⊥

-- what entering an event leaves
abbrev pub Enters : Option (List ℕ → List ℕ) → Sections → History → Event → Player → ℕ → ℕ → SinkSeen → SinkSeen
    → Result (Unit {0}) Halt → Type 0
Enters content cfg H event player files files' sink sink' (Ok _) =
    Entered content cfg H event player sink sink' × (files' ≡ files)
Enters content cfg H event player files files' sink sink' (Err halted) =
    EnteredPart content cfg H event sink sink' × Stops files files' sink sink' halted

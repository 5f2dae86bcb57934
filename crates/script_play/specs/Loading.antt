-- What loading leaves: how far it came, what it counted, and what it wrote.
use Rattle.std.specs.Prelude.{ℕ, ◌≡◌, Bool, List, ◌∷◌, ◌++◌, length, count_by, Result, Ok, Err}
use Rattle.std.specs.List.{sum_by}
use Rattle.outside.specs.Seen.{SinkSeen}
use Rattle.outside.specs.Told.{CountsOne, Grows}
use Rattle.config_model.specs.Sections.{Sections}
use Rattle.book_history.specs.declared.outcomes.Cut.{Cut}
use Rattle.book_history.specs.declared.outcomes.Cut.TheVariants as cut
use Rattle.book_history.specs.declared.outcomes.Spawn.{Spawn}
use Rattle.book_history.specs.declared.outcomes.Up.{Up}
use Rattle.book_history.specs.Entries.{History}
use Rattle.book_history.specs.Entries.Entry.{MessageCut}
use Rattle.book_core.specs.Seen.{Seen as Book}
use Rattle.book_core.specs.Stands.{Stands}
use Rattle.text_history.specs.Plays.{is_message}
use Rattle.script_play.specs.declared.counting.Tally.{Tally}
use Rattle.script_play.specs.declared.halt.Halt.TheVariants as halt
use Rattle.script_play.specs.declared.status.Status.{Status}
use Rattle.script_play.specs.declared.status.Status.TheVariants as status
use Rattle.script_play.specs.Loads.{IsLoad, IsLoadPart, counts_of, counts_text, effects_in, is_done, is_error, is_gone}
use Rattle.script_play.specs.Loads.{is_here, messages_in, verdicts_in, begun}
use Rattle.script_play.specs.Loads.{AddsReplied}
use Rattle.script_play.specs.Standing.{AreLeftAt}
use Rattle.script_play.specs.Writing.{Broke, Wrote}

-- a tally counts a history
pub record Tallies (H : History) (tally : Tally) : Type 0 where
  pub lines : tally.lines ≡ length (verdicts_in H)
  pub done : tally.done ≡ count_by is_done (verdicts_in H)
  pub errors : tally.errors ≡ count_by is_error (verdicts_in H)
  pub messages : tally.messages ≡ length (messages_in H)
  pub bytes : tally.bytes ≡ sum_by length (messages_in H)
  pub announced : tally.announced ≡ count_by is_here (effects_in H)
  pub withdrawn : tally.withdrawn ≡ count_by is_gone (effects_in H)
  pub left : AreLeftAt (effects_in H) tally.left

-- a book stands for a history, and it was counted
pub record IsCounted (cfg : Sections) (H : History) (book : Book) (tally : Tally) : Type 0 where
  pub stands : Stands cfg H book
  pub counts : Tallies H tally

-- events that lead from a history to another were entered and counted
pub record EnteredAll (Leads : History → History → Type 0) (cfg : Sections) (H : History) (book : Book) (tally : Tally)
    : Type 0 where
  pub after : History
  pub leads : Leads H after
  pub counted : IsCounted cfg after book tally

-- the first of them were entered
pub record Began (Leads : History → History → Type 0) (cfg : Sections) (H : History) (book : Book) : Type 0 where
  pub after : History
  pub more : History
  pub leads : Leads H (more ++ after)
  pub stands : Stands cfg after book

-- what a call leaves that enters and counts events
abbrev pub EntersAll : {E : Type 0} → (History → History → Type 0) → Sections → History → Book → Tally
    → Result (Unit {0}) E → Type 0
EntersAll Leads cfg H book tally (Ok _) = EnteredAll Leads cfg H book tally
EntersAll Leads cfg H book tally (Err _) = Began Leads cfg H book

-- a line is said, and its reply taken
abbrev pub IsReplied : List ℕ → History → History → Type 0
IsReplied text H H' = (added : History) × AddsReplied text added × (H' ≡ added ++ H)

-- one cut was entered and counted, which made a message or didn't
pub record IsCut (came : Bool) (cfg : Sections) (H : History) (book : Book) (tally : Tally) : Type 0 where
  pub bytes : List ℕ
  pub given : Cut
  pub answer : is_message given ≡ came
  pub counted : IsCounted cfg (MessageCut 0 bytes given ∷ H) book tally

-- a message was cut, and isn't counted
pub record IsCutAlone (cfg : Sections) (H : History) (book : Book) : Type 0 where
  pub bytes : List ℕ
  pub last : Bool
  pub stands : Stands cfg (MessageCut 0 bytes (cut.Message last) ∷ H) book

-- what a call leaves that cuts once
abbrev pub Cuts : {E : Type 0} → Sections → History → Book → Tally → Result Bool E → Type 0
Cuts cfg H book tally (Ok came) = IsCut came cfg H book tally
Cuts cfg H book tally (Err _) = IsCutAlone cfg H book

-- a helper was started, and a session came up
pub record Begins (cfg : Sections) (book : Book) : Type 0 where
  pub started : Spawn
  pub raised : Up
  pub stands : Stands cfg (begun started raised) book

-- a load was done, and its counts stand in a text
pub record IsTold (cfg : Sections) (count : ℕ) (book : Book) (text : List ℕ) : Type 0 where
  pub history : History
  pub load : IsLoad count history
  pub stands : Stands cfg history book
  pub text_is : text ≡ counts_text (counts_of count history)

-- the first events of a load were entered
pub record LoadBegan (cfg : Sections) (count : ℕ) (book : Book) : Type 0 where
  pub history : History
  pub load : IsLoadPart count history
  pub stands : Stands cfg history book

-- what a call leaves that writes a text
abbrev pub Tells : List ℕ → SinkSeen → SinkSeen → Status → Type 0
Tells text sink sink' status.Ok = Wrote text sink sink'
Tells text sink sink' status.WriteFault = Broke text sink sink' halt.Write
Tells text sink sink' other = ⊥

-- a load was done, and its counts were written
pub record LoadedWhole (cfg : Sections) (count : ℕ) (book : Book) (sink sink' : SinkSeen) : Type 0 where
  pub history : History
  pub load : IsLoad count history
  pub stands : Stands cfg history book
  pub taken : Grows sink.taken sink'.taken (counts_text (counts_of count history))
  pub same : sink'.faults ≡ sink.faults

-- a load was done, a front part of its counts was written, and then a write failed
pub record LoadedUntold (cfg : Sections) (count : ℕ) (book : Book) (sink sink' : SinkSeen) : Type 0 where
  pub history : History
  pub load : IsLoad count history
  pub stands : Stands cfg history book
  pub part : List ℕ
  pub rest : List ℕ
  pub text_is : counts_text (counts_of count history) ≡ part ++ rest
  pub taken : Grows sink.taken sink'.taken part
  pub counts : CountsOne sink.faults sink'.faults

-- what loading leaves, by its status
abbrev pub Loads : Sections → ℕ → Book → SinkSeen → SinkSeen → Status → Type 0
Loads cfg count book sink sink' status.Ok = LoadedWhole cfg count book sink sink'
Loads cfg count book sink sink' status.WriteFault = LoadedUntold cfg count book sink sink'
Loads cfg count book sink sink' status.NoMemory = LoadBegan cfg count book × (sink' ≡ sink)
Loads cfg count book sink sink' other = ⊥

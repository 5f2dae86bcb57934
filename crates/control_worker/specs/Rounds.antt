-- Round after round of the keeper.
use Rattle.std.specs.Prelude.{ℕ, ◌≡◌, ⊤, List, [], ◌∷◌, ◌++◌}
use Rattle.std.specs.List.{All, flat_map}
use Rattle.std.specs.declared.option.Option.{Option}
use Rattle.outside.specs.Told.{counted}
use Rattle.config_model.specs.declared.slots.Slots.{Slots}
use Rattle.config_model.specs.Sections.{Sections}
use Rattle.book_history.specs.Entries.{Entry}
use Rattle.book_history.specs.Entries.Entry.{ControlAsked, Reloaded, ReloadRefused}
use Rattle.book_history.specs.declared.outcomes.Control.TheVariants as control
use Rattle.book_history.specs.declared.outcomes.NotRead.{NotRead}
use Rattle.book_history.specs.declared.outcomes.NotRead.TheVariants as not_read
use Rattle.book_history.specs.declared.outcomes.Reload.{Reload}
use Rattle.book_gate.specs.Known.{Known}
use Rattle.config_files.specs.Configured.{IsConfigAt, IsNoneAt}
use Rattle.pass_entries.specs.Making.{Makes}

-- nothing was to be done; a configuration was entered; or why there is none
pub data Round : Type 0 where
  Idle : Round
  Loaded : Sections → Reload → Round
  Refused : NotRead → Round

-- a reload is due; the daemon is to end
abbrev pub due_told : Entry
due_told = ControlAsked control.ReloadDue

abbrev pub stop_told : Entry
stop_told = ControlAsked control.Stop

-- what the keeper enters behind a reload that is due
abbrev pub answered : Round → List Entry
answered Idle = []
answered (Loaded new given) = Reloaded new given ∷ []
answered (Refused why) = ReloadRefused why ∷ []

-- the entries of a round: a reload that is due is followed at once by what comes of it
abbrev pub entries_of : Round → List Entry
entries_of Idle = ControlAsked control.Nothing ∷ []
entries_of (Loaded new given) = due_told ∷ answered (Loaded new given)
entries_of (Refused why) = due_told ∷ answered (Refused why)

-- a configuration is the one that the file's bytes are, and a refusal is for what they are
abbrev pub IsFiled : Option (List ℕ → List ℕ) → List ℕ → Slots → Round → Type 0
IsFiled content path slots Idle = ⊤
IsFiled content path slots (Loaded new given) = IsConfigAt content path slots new
IsFiled content path slots (Refused why) = IsNoneAt content path slots why

-- the files' count of faults behind a round, which rises just where the file wasn't read
abbrev pub counted_by : ℕ → Round → ℕ
counted_by faults (Refused not_read.ReadFault) = counted faults
counted_by faults _ = faults

abbrev pub counted_behind : ℕ → List Round → ℕ
counted_behind faults [] = faults
counted_behind faults (round ∷ rounds) = counted_behind (counted_by faults round) rounds

module _ {A : Type 0} where
  -- a pass made the entries of rounds, and last these; and the files' count of faults behind it
  pub record Keeps (content : Option (List ℕ → List ℕ)) (path : List ℕ) (slots : Slots) (pass : Known A Entry)
      (faults : ℕ) (last : List Entry) (faults' : ℕ) (later : Known A Entry) : Type 0 where
    pub rounds : List Round
    pub makes : Makes pass (flat_map entries_of rounds ++ last) later
    pub filed : All (IsFiled content path slots) rounds
    pub counts : faults' ≡ counted_behind faults rounds

  -- a pass made what comes of a reload that is due
  pub record Reloads (content : Option (List ℕ → List ℕ)) (path : List ℕ) (slots : Slots) (pass : Known A Entry)
      (faults faults' : ℕ) (later : Known A Entry) : Type 0 where
    pub round : Round
    pub due : entries_of round ≡ due_told ∷ answered round
    pub makes : Makes pass (answered round) later
    pub filed : IsFiled content path slots round
    pub counts : faults' ≡ counted_by faults round

-- What a history says of the workers that made it, by the names of its entries.
use Rattle.std.specs.Prelude.{ℕ, ◌≡◌, ◌+◌, ◌⊎◌, ◌<◌, Bool, List, [], ◌∷◌, ◌++◌, map, reverse, slice_index_or, Contains}
use Rattle.std.specs.List.{All, flat_map}
use Rattle.std.specs.declared.option.Option.{Option}
use Rattle.std.specs.declared.option.Option.TheVariants.{Some, None}
use Rattle.arrayvec.specs.ArrayVec.{ArrayVec}
use Rattle.outside.specs.Moments.{MayRead}
use Rattle.config_model.specs.Sections.{Sections}
use Rattle.config_model.specs.declared.slots.Slots.{Slots}
use Rattle.config_files.specs.Configured.{IsConfigAt}
use Rattle.book_gate.specs.Calls.{IsLegal}
use Rattle.book_gate.specs.Known.{Known}
use Rattle.book_gate.specs.declared.view.Signed.{Signed}
use Rattle.book_history.specs.Entries.{Entry}
use Rattle.book_history.specs.Entries.Entry.{HelperDeaf, SpawnAsked, Stopped}
use Rattle.book_history.specs.Legal.{Allows}
use Rattle.book_history.specs.declared.outcomes.Spawn.TheVariants as spawn
use Rattle.control_worker.specs.Rounds.{IsFiled, counted_behind, stop_told, Round as Keeping, entries_of as kept_by}
use Rattle.helper_worker.specs.Handing.{under, writer_of}
use Rattle.helper_worker.specs.Rounds.{Ends, IsBackBy, IsRound, Tells, Told as Spawning, told as spawning_told}
use Rattle.helper_worker.specs.Rounds.{Round as Reading, entries_of as read_by}
use Rattle.helper_worker.specs.Rounds.Outcome.{Heard}
use Rattle.helper_worker.specs.Rounds.Round.{Start}
use Rattle.helper_worker.specs.Serving.{IsServed, Rises, Served, entries_in}
use Rattle.peer_worker.specs.Rounds.{IsGood, Told as Dialling, told as dialling_told, Tells as Dials, Round as Talking}
use Rattle.peer_worker.specs.Rounds.{entries_of as talked_by, stopping}
use Rattle.script_play.specs.declared.status.Status.{Status}
use Rattle.script_play.specs.declared.status.Status.TheVariants as status_is
use Rattle.daemon.specs.Done.{IfRun}
use Rattle.daemon.specs.Names.{IsWorker, keeper_of, reader_of, talker_of}

-- a reader's entries are those of rounds, and last that the daemon ends; its spawner tells them; and each sink came
-- back
-- from the replier before the next round
pub record ReaderRan (h : ℕ) (moments : Option (ℕ
    → Bool)) (old new : Spawning) (seen : List (Signed Entry)) : Type 0 where
  pub rounds : List Reading
  pub now : ℕ
  pub moment : MayRead moments now
  pub made : under (reader_of h) seen ≡ flat_map (read_by h) rounds ++ SpawnAsked h now spawn.Stopping ∷ []
  pub good : All (IsRound h moments) rounds
  pub tells : Tells old new rounds
  pub back : (front back : List Reading) (moment' inc : ℕ) (run : ArrayVec ℕ) (lines : List Entry) (ends : Ends)
      → rounds ≡ (front ++ Start moment' inc run (Heard lines ends) ∷ []) ++ back
      → IsBackBy (writer_of h) h inc ends (reader_of h)
      (flat_map (read_by h) (front ++ Start moment' inc run (Heard lines ends) ∷ [])) seen

-- a replier's entries are those of incarnations, each behind those before it
pub record ReplierRan (h : ℕ) (seen : List (Signed Entry)) : Type 0 where
  pub last : ℕ
  pub rounds : List Served
  pub made : under (writer_of h) seen ≡ flat_map entries_in rounds
  pub good : All (IsServed h) rounds
  pub rises : Rises 0 rounds last

-- a talker's entries are those of rounds, and last that the daemon ends; its dialer tells them
pub record TalkerRan (helpers n : ℕ) (old new : Dialling) (seen : List (Signed Entry)) : Type 0 where
  pub rounds : List Talking
  pub made : under (talker_of helpers n) seen ≡ flat_map (talked_by n) rounds ++ stopping n ∷ []
  pub tells : Dials old rounds new
  pub good : All (IsGood n) rounds

-- the keeper's entries are those of rounds, and last that the daemon ends; the files' count of faults is that of the
-- rounds
pub record KeeperRan (content : Option (List ℕ → List ℕ)) (path : List ℕ) (slots : Slots) (faults faults' : ℕ)
    (seen : List (Signed Entry)) : Type 0 where
  pub rounds : List Keeping
  pub made : under (keeper_of slots.helpers slots.peers) seen ≡ flat_map kept_by rounds ++ stop_told ∷ []
  pub filed : All (IsFiled content path slots) rounds
  pub counts : faults' ≡ counted_behind faults rounds

-- a worker that was called off made one entry, by which the daemon ends
abbrev pub IsCalledOff : List ℕ → List (Signed Entry) → Type 0
IsCalledOff name seen = under name seen ≡ Stopped ∷ []

-- and a replier perhaps one more, as the slot's first helper is told deaf
abbrev pub IsReplierOff : ℕ → List (Signed Entry) → Type 0
IsReplierOff h seen =
    IsCalledOff (writer_of h) seen
    ⊎ ((inc : ℕ) × (0 < inc) × (under (writer_of h) seen ≡ Stopped ∷ HelperDeaf h inc ∷ []))

-- what is seen is legal from the configuration of the file, and has the workers' entries alone
pub record IsHistory (content : Option (List ℕ → List ℕ)) (path : List ℕ) (slots : Slots) (last : Known Sections Entry)
    : Type 0 where
  pub config : Sections
  pub configured : IsConfigAt content path slots config
  pub start : last.start ≡ Some config
  pub legal : IsLegal (λ start entries entry. Allows start (reverse entries) entry) last
  pub named : (made : Signed Entry) → Contains last.seen made → IsWorker slots.helpers slots.peers made.name

-- what the devices tell: the moments that the clock may read, each slot's spawner and dialer, and the files' count
pub record Devices : Type 0 where
  pub moments : Option (ℕ → Bool)
  pub spawning : List Spawning
  pub dialling : List Dialling
  pub faults : ℕ

abbrev pub devices : {S D : Type 0} → (S → Spawning) → (D → Dialling) → Option (ℕ → Bool) → List S → List D → ℕ
    → Devices
devices spawning dialling moments helpers peers faults = record {
  moments = moments;
  spawning = map spawning helpers;
  dialling = map dialling peers;
  faults = faults;
}

-- what the spawner of a slot tells, and the dialer of one
abbrev pub spawning_at : Devices → ℕ → Spawning
spawning_at told h = slice_index_or told.spawning h (spawning_told None None None)

abbrev pub dialling_at : Devices → ℕ → Dialling
dialling_at told n = slice_index_or told.dialling n (dialling_told None None None)

module _ (refused : ℕ → Bool) (old new : Devices) (content : Option (List ℕ → List ℕ)) (path : List ℕ) (slots : Slots)
    (seen : List (Signed Entry)) where
  -- each worker ran to its end, or was called off where it was refused
  abbrev pub ReaderEnds : ℕ → Type 0
  ReaderEnds h =
      IfRun (refused (h + h)) (ReaderRan h old.moments (spawning_at old h) (spawning_at new h) seen)
      (IsCalledOff (reader_of h) seen × (spawning_at new h ≡ spawning_at old h))

  abbrev pub ReplierEnds : ℕ → Type 0
  ReplierEnds h = IfRun (refused (h + h + 1)) (ReplierRan h seen) (IsReplierOff h seen)

  abbrev pub TalkerEnds : ℕ → Type 0
  TalkerEnds n =
      IfRun (refused (slots.helpers + slots.helpers + n))
      (TalkerRan slots.helpers n (dialling_at old n) (dialling_at new n) seen)
      (IsCalledOff (talker_of slots.helpers n) seen × (dialling_at new n ≡ dialling_at old n))

  abbrev pub KeeperEnds : Type 0
  KeeperEnds =
      IfRun (refused (slots.helpers + slots.helpers + slots.peers))
      (KeeperRan content path slots old.faults new.faults seen)
      (IsCalledOff (keeper_of slots.helpers slots.peers) seen × (new.faults ≡ old.faults))

-- a history from the configuration of the file, which is that of the workers of all slots
pub record IsRun (refused : ℕ → Bool) (old new : Devices) (content : Option (List ℕ → List ℕ)) (path : List ℕ)
    (slots : Slots) (last : Known Sections Entry) : Type 0 where
  pub history : IsHistory content path slots last
  pub readers : (h : ℕ) → h < slots.helpers → ReaderEnds refused old new content path slots last.seen h
  pub repliers : (h : ℕ) → h < slots.helpers → ReplierEnds refused old new content path slots last.seen h
  pub talkers : (n : ℕ) → n < slots.peers → TalkerEnds refused old new content path slots last.seen n
  pub keeper : KeeperEnds refused old new content path slots last.seen

-- with these statuses the workers were started
abbrev pub HasRun : Status → Type 0
HasRun status = (status ≡ status_is.Ok) ⊎ (status ≡ status_is.NoCrew)

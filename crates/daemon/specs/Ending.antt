-- How a run of the daemon ends, by its status: what is then true of the world that it was given, and of the one that it
-- gives back.
use Rattle.std.specs.Prelude.{ℕ, ◌≡◌, Bool, true, false, List, [], ◌∷◌, length, reverse, codes}
use Rattle.std.specs.declared.option.Option.{Option}
use Rattle.std.specs.declared.option.Option.TheVariants.{Some, None}
use Rattle.outside.specs.Lent.{LendsNone}
use Rattle.outside.specs.Refusals.{is_refused}
use Rattle.outside.specs.Told.{CountsOne, Rose}
use Rattle.config_model.specs.Sections.{Sections}
use Rattle.config_model.specs.declared.fault.ConfigFault.{ConfigFault}
use Rattle.config_model.specs.declared.slots.Slots.{Slots}
use Rattle.config_reader.specs.Files.{Configures, IsFirstFault}
use Rattle.config_files.specs.Configured.{IsConfigAt, IsFaultAt}
use Rattle.book_gate.specs.Known.{TableId, first_known}
use Rattle.book_gate_many.specs.Many.{IsAllJoined}
use Rattle.book_history.specs.Legal.{Allows}
use Rattle.book_history.specs.declared.outcomes.NotRead.{NotRead}
use Rattle.book_history.specs.declared.outcomes.NotRead.TheVariants as not_read
use Rattle.helper_worker.specs.Rounds.{Told as Spawning}
use Rattle.peer_worker.specs.Rounds.{Told as Dialling}
use Rattle.crew.specs.Crews.{RefusesNone, RefusesOne}
use Rattle.script_play.specs.declared.status.Status.{Status}
use Rattle.script_play.specs.declared.status.Status.TheVariants as status
use Rattle.daemon.specs.Done.{Pass}
use Rattle.daemon.specs.Names.{workers}
use Rattle.daemon.specs.Runs.{IsRun, devices}
use Rattle.daemon.specs.declared.world.World.{World}

-- the words of the command, with the path of a configuration
abbrev pub run_words : List ℕ → List (List ℕ)
run_words path = codes "run" ∷ path ∷ []

-- the content of a path is told, and is a configuration for these slots
abbrev pub IsToldConfig : Option (List ℕ → List ℕ) → List ℕ → Slots → Type 0
IsToldConfig None path slots = ⊥
IsToldConfig (Some content) path slots = (config : Sections) × Configures (content path) slots config

-- the content of a path is told, and has this first fault
abbrev pub IsToldFault : Option (List ℕ → List ℕ) → List ℕ → Slots → ConfigFault → Type 0
IsToldFault None path slots fault = ⊥
IsToldFault (Some content) path slots fault = IsFirstFault (content path) slots fault

module _ {F S D C P E : Type 0} where
  -- as many slots as a world has devices for
  abbrev pub AreSlots : Slots → World F S D C P E → Type 0
  AreSlots slots world =
      (slots.helpers ≡ length world.helpers.items) × (slots.peers ≡ length world.peers.items)

  -- how many workers these slots have
  abbrev pub workers_for : World F S D C P E → ℕ
  workers_for world = workers (length world.helpers.items) (length world.peers.items)

  -- no device but the files was used, and no worker started
  pub record IsKept (old new : World F S D C P E) : Type 0 where
    pub helpers : new.helpers.items ≡ old.helpers.items
    pub peers : new.peers.items ≡ old.peers.items
    pub ears : new.ears.items ≡ old.ears.items
    pub crew : new.crew ≡ old.crew
    pub last : new.last ≡ old.last

  -- as many devices came back
  pub record IsBack (old new : World F S D C P E) : Type 0 where
    pub helpers : length new.helpers.items ≡ length old.helpers.items
    pub peers : length new.peers.items ≡ length old.peers.items
    pub ears : length new.ears.items ≡ length old.ears.items

module _ {F S D C P E : Type 0} (content : F → Option (List ℕ → List ℕ)) (lent : F → Option ℕ) where
  -- the files have the content that they had, and all that they opened
  abbrev pub HasFiles : World F S D C P E → World F S D C P E → Type 0
  HasFiles old new = (content new.files ≡ content old.files) × LendsNone (lent old.files) (lent new.files)

module _ {F S D C P E : Type 0} (content : F → Option (List ℕ → List ℕ)) where
  -- the file at a path has this first fault
  abbrev pub HasFault : List ℕ → World F S D C P E → ConfigFault → Type 0
  HasFault path world fault =
      (slots : Slots) × AreSlots slots world × IsFaultAt (content world.files) path slots fault

  -- its content is told, and is a configuration
  abbrev pub HasToldConfig : List ℕ → World F S D C P E → Type 0
  HasToldConfig path world =
      (slots : Slots) → AreSlots slots world → IsToldConfig (content world.files) path slots

  -- its content is told, and has this first fault
  abbrev pub HasToldFault : List ℕ → World F S D C P E → ConfigFault → Type 0
  HasToldFault path world fault =
      (slots : Slots) → AreSlots slots world → IsToldFault (content world.files) path slots fault

module _ {F S D C P E : Type 0} (content : F → Option (List ℕ → List ℕ)) (faults : F → ℕ) (spawning : S → Spawning)
    (dialling : D → Dialling) (moments : C → Option (ℕ → Bool)) where
  -- the last pass has the history of a run, from the configuration of the file at a path
  pub record HasRunOf (path : List ℕ) (old new : World F S D C P E) : Type 0 where
    pub slots : Slots
    pub slots_are : AreSlots slots old
    pub last : Pass
    pub last_is : new.last ≡ Some last
    pub run : IsRun (is_refused old.crew)
        (devices spawning dialling (moments old.clock) old.helpers.items old.peers.items (faults old.files))
        (devices spawning dialling (moments old.clock) new.helpers.items new.peers.items (faults new.files))
        (content old.files) path slots last

  -- what each status leaves: a run of all workers, or of some that were refused; and else no worker was started
  abbrev pub EndsAs : List ℕ → World F S D C P E → Status → World F S D C P E → Type 0
  EndsAs path old status.Ok new = HasRunOf path old new × RefusesNone old.crew (workers_for old)
  EndsAs path old status.NoCrew new =
      HasRunOf path old new × RefusesOne old.crew (workers_for old) × Rose old.crew.faults new.crew.faults
  EndsAs path old status.ConfigRead new = IsKept old new × CountsOne (faults old.files) (faults new.files)
  EndsAs path old (status.ConfigRefused fault) new =
      IsKept old new × (faults new.files ≡ faults old.files) × HasFault content path old fault
  EndsAs path old status.NoMemory new = IsKept old new × (faults new.files ≡ faults old.files)
  EndsAs path old _ new = ⊥

-- the status of a configuration that wasn't read
abbrev pub status_for : NotRead → Status
status_for not_read.ReadFault = status.ConfigRead
status_for (not_read.Refused fault) = status.ConfigRefused fault
status_for not_read.NoMemory = status.NoMemory

-- the status behind all workers, one refused, or none for want of memory
abbrev pub status_by : Option Bool → Status
status_by None = status.NoMemory
status_by (Some true) = status.Ok
status_by (Some false) = status.NoCrew

-- a gate was opened with the configuration of the file at a path
abbrev pub IsOpenedBy : Option (List ℕ → List ℕ) → List ℕ → Slots → TableId → Pass → Type 0
IsOpenedBy content path slots gate pass =
    (config : Sections) × IsConfigAt content path slots config × (pass ≡ first_known gate config)

-- a pass with which others were joined
abbrev pub IsLastOf : Pass → List Pass → Option Pass → Type 0
IsLastOf pass others last =
    (joined : Pass) × (last ≡ Some joined)
    × IsAllJoined (λ start entries entry. Allows start (reverse entries) entry) pass others joined

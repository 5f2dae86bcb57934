-- What became of the jobs of all slots, in the order of their passes: those of a reader and a replier for each helper
-- slot, of a talker for each neighbour slot, of the keeper.
use Rattle.std.specs.Prelude.{ℕ, ◌≡◌, ◌+◌, ◌<◌, Bool, true, false, List, [], ◌∷◌, length, slice_index_or}
use Rattle.std.specs.declared.option.Option.{Option}
use Rattle.outside.specs.Lent.{LendsNone}
use Rattle.config_model.specs.Sections.{Sections}
use Rattle.config_model.specs.declared.slots.Slots.{Slots}
use Rattle.book_gate.specs.Known.{Known}
use Rattle.book_history.specs.Entries.{Entry}
use Rattle.book_history.specs.Entries.Entry.{Stopped}
use Rattle.pass_entries.specs.Making.{Makes}
use Rattle.control_worker.specs.Rounds.{Keeps, stop_told}
use Rattle.helper_worker.specs.Handing.{writer_of}
use Rattle.helper_worker.specs.Rounds.{ReadsOut, Told as Spawning}
use Rattle.helper_worker.specs.Serving.{CallsOff, Serves}
use Rattle.peer_worker.specs.Rounds.{Talks, Told as Dialling, stopping}

-- what a pass of the book knows
abbrev pub Pass : Type 0
Pass = Known Sections Entry

-- a job that isn't refused was run, and one that is was called off
abbrev pub IfRun : Bool → Type 0 → Type 0 → Type 0
IfRun false runs off = runs
IfRun true runs off = off

module _ {S : Type 0} (spawning : S → Spawning) where
  abbrev pub ReaderDone : Bool → ℕ → Option (ℕ → Bool) → S → S → Pass → Pass → Type 0
  ReaderDone off h moments old new pass later =
      IfRun off (ReadsOut h (writer_of h) moments (spawning old) (spawning new) pass later)
      (Makes pass (Stopped ∷ []) later × (new ≡ old))

abbrev pub ReplierDone : Bool → ℕ → Pass → Pass → Type 0
ReplierDone off h pass later =
    IfRun off ((last : ℕ) × Serves h 0 last pass later) ((last : ℕ) × CallsOff h 0 last pass later)

module _ {D : Type 0} (dialling : D → Dialling) where
  abbrev pub TalkerDone : Bool → ℕ → D → D → Pass → Pass → Type 0
  TalkerDone off n old new pass later =
      IfRun off (Talks n pass (dialling old) (stopping n ∷ []) later (dialling new))
      (Makes pass (Stopped ∷ []) later × (new ≡ old))

module _ {F : Type 0} (content : F → Option (List ℕ → List ℕ)) (faults : F → ℕ) (lent : F → Option ℕ) where
  abbrev pub KeeperDone : Bool → List ℕ → Slots → F → F → Pass → Pass → Type 0
  KeeperDone off path slots old new pass later =
      IfRun off (Keeps (content old) path slots pass (faults old) (stop_told ∷ []) (faults new) later
      × (content new ≡ content old) × LendsNone (lent old) (lent new))
      (Makes pass (Stopped ∷ []) later × (new ≡ old))

module _ {F S D : Type 0} (content : F → Option (List ℕ → List ℕ)) (faults : F → ℕ) (lent : F → Option ℕ)
    (spawning : S → Spawning) (dialling : D → Dialling) where
  -- each job was run or called off, by its number
  pub record JobsDone (refused : ℕ → Bool) (moments : Option (ℕ → Bool)) (path : List ℕ) (slots : Slots)
      (helpers helpers' : List S) (peers peers' : List D) (files files' : F) (passes passes' : List Pass)
      : Type 0 where
    pub count : length passes' ≡ length passes
    pub readers : (h : ℕ) (s : S) (q : Pass) → h < slots.helpers
        → ReaderDone spawning (refused (h + h)) h moments (slice_index_or helpers h s) (slice_index_or helpers' h s)
        (slice_index_or passes (h + h) q) (slice_index_or passes' (h + h) q)
    pub repliers : (h : ℕ) (q : Pass) → h < slots.helpers
        → ReplierDone (refused (h + h + 1)) h (slice_index_or passes (h + h + 1) q)
        (slice_index_or passes' (h + h + 1) q)
    pub talkers : (n : ℕ) (d : D) (q : Pass) → n < slots.peers
        → TalkerDone dialling (refused (slots.helpers + slots.helpers + n)) n (slice_index_or peers n d)
        (slice_index_or peers' n d) (slice_index_or passes (slots.helpers + slots.helpers + n) q)
        (slice_index_or passes' (slots.helpers + slots.helpers + n) q)
    pub keeper : (q : Pass)
        → KeeperDone content faults lent (refused (slots.helpers + slots.helpers + slots.peers)) path slots files files'
        (slice_index_or passes (slots.helpers + slots.helpers + slots.peers) q)
        (slice_index_or passes' (slots.helpers + slots.helpers + slots.peers) q)

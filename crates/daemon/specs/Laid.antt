-- How the daemon's jobs are laid out, in the order of their passes: for each helper slot its reader and its replier,
-- for each neighbour slot its talker, and last the keeper.
use Rattle.std.specs.Prelude.{ℕ, suc, ◌≡◌, ◌+◌, ◌<◌, ◌≤◌, ⊤, List, [], ◌∷◌, ◌++◌, length, slice_index_or}
use Rattle.std.specs.List.{flat_map}
use Rattle.std.specs.Vec.{vec_capacity}
use Rattle.config_model.specs.Limits.{max_helpers, max_peers}
use Rattle.config_model.specs.Sections.{Sections}
use Rattle.config_model.specs.declared.slots.Slots.{Slots}
use Rattle.book_gate.specs.Known.{Known, TableId}
use Rattle.book_gate.specs.Names.{child_name}
use Rattle.book_history.specs.Entries.{Entry}
use Rattle.pass_entries.specs.Making.{own}
use Rattle.crew.specs.Jobs.{Job}
use Rattle.crew.specs.Jobs.Job.{Keeps, Reads, Replies, Talks}
use Rattle.daemon.specs.Names.{workers}
use Rattle.daemon.specs.declared.stock.Stock.{Stock}

-- a pass that was just split off: it is of this gate, is named by its number, and has made no entry
pub record IsFresh (gate : TableId) (k : ℕ) (pass : Known Sections Entry) : Type 0 where
  pub gate_is : pass.gate ≡ gate
  pub name_is : pass.name ≡ child_name [] k
  pub none_own : own pass ≡ []

-- each of the passes was just split off, in the order of their numbers
abbrev pub AreFresh : TableId → List (Known Sections Entry) → Type 0
AreFresh gate passes =
    (k : ℕ) (d : Known Sections Entry) → k < length passes → IsFresh gate k (slice_index_or passes k d)

module _ {F S D E C : Type 0} where
  -- the devices that a job has, and its pass
  abbrev pub spawner_in : Job F S D E C → List S
  spawner_in (Reads h spawner clock pass) = spawner ∷ []
  spawner_in _ = []

  abbrev pub dialer_in : Job F S D E C → List D
  dialer_in (Talks n dialer ear pass) = dialer ∷ []
  dialer_in _ = []

  abbrev pub ear_in : Job F S D E C → List E
  ear_in (Talks n dialer ear pass) = ear ∷ []
  ear_in _ = []

  abbrev pub files_in : Job F S D E C → List F
  files_in (Keeps files path slots pass) = files ∷ []
  files_in _ = []

  abbrev pub pass_in : Job F S D E C → List (Known Sections Entry)
  pass_in (Reads h spawner clock pass) = pass ∷ []
  pass_in (Replies h last pass) = pass ∷ []
  pass_in (Talks n dialer ear pass) = pass ∷ []
  pass_in (Keeps files path slots pass) = pass ∷ []

  abbrev pub spawners : List (Job F S D E C) → List S
  spawners jobs = flat_map spawner_in jobs

  abbrev pub dialers : List (Job F S D E C) → List D
  dialers jobs = flat_map dialer_in jobs

  abbrev pub ears : List (Job F S D E C) → List E
  ears jobs = flat_map ear_in jobs

  abbrev pub files_of : List (Job F S D E C) → List F
  files_of jobs = flat_map files_in jobs

  abbrev pub passes : List (Job F S D E C) → List (Known Sections Entry)
  passes jobs = flat_map pass_in jobs

  module _ (files : F) (path : List ℕ) (slots : Slots) where
    -- the keeper alone
    abbrev pub KeeperLaid : List (Job F S D E C) → List (Known Sections Entry) → Type 0
    KeeperLaid jobs given = (pass : Known Sections Entry) × (jobs ≡ Keeps files path slots pass ∷ [])
        × (given ≡ pass ∷ [])

    -- the talkers of the slots from the n-th on, of these devices, and the keeper
    abbrev pub TalkersLaid : ℕ → List D → List E → List (Job F S D E C) → List (Known Sections Entry) → Type 0
    TalkersLaid n [] [] jobs given = KeeperLaid jobs given
    TalkersLaid n (dialer ∷ later) (ear ∷ others) (job ∷ jobs) (pass ∷ given) =
        (job ≡ Talks n dialer ear pass) × TalkersLaid (suc n) later others jobs given
    TalkersLaid n _ _ _ _ = ⊥

    module _ (clock : C) (peers : List D) (heard : List E) where
      -- the readers and repliers of the slots from the h-th on, of these spawners, and the other jobs
      abbrev pub HelpersLaid : ℕ → List S → List (Job F S D E C) → List (Known Sections Entry) → Type 0
      HelpersLaid h [] jobs given = TalkersLaid 0 peers heard jobs given
      HelpersLaid h (spawner ∷ later) (reading ∷ replying ∷ jobs) (pass ∷ other ∷ given) =
          (reading ≡ Reads h spawner clock pass) × (replying ≡ Replies h 0 other)
          × HelpersLaid (suc h) later jobs given
      HelpersLaid h _ _ _ = ⊥

      -- the jobs of all slots
      abbrev pub IsLaid : List S → List (Job F S D E C) → List (Known Sections Entry) → Type 0
      IsLaid helpers jobs given = HelpersLaid 0 helpers jobs given

  -- jobs that can be taken apart: each reader stands right before its replier, and the keeper is the last
  abbrev pub AreWhole : List (Job F S D E C) → Type 0
  AreWhole (Reads h spawner clock pass ∷ Replies slot last other ∷ jobs) = AreWhole jobs
  AreWhole (Talks n dialer ear pass ∷ jobs) = AreWhole jobs
  AreWhole (Keeps files path slots pass ∷ []) = ⊤
  AreWhole _ = ⊥

  -- two jobs are of one kind
  abbrev pub IsAlike : Job F S D E C → Job F S D E C → Type 0
  IsAlike (Reads _ _ _ _) (Reads _ _ _ _) = ⊤
  IsAlike (Replies _ _ _) (Replies _ _ _) = ⊤
  IsAlike (Talks _ _ _ _) (Talks _ _ _ _) = ⊤
  IsAlike (Keeps _ _ _ _) (Keeps _ _ _ _) = ⊤
  IsAlike _ _ = ⊥

  -- what jobs have goes into the lists of a stock without new memory
  pub record HasRoom (stock : Stock S D E) (jobs : List (Job F S D E C)) : Type 0 where
    pub for_helpers : length stock.helpers.items + length (spawners jobs) ≤ vec_capacity stock.helpers
    pub for_peers : length stock.peers.items + length (dialers jobs) ≤ vec_capacity stock.peers
    pub for_ears : length stock.ears.items + length (ears jobs) ≤ vec_capacity stock.ears
    pub for_passes : length stock.passes.items + length (passes jobs) ≤ vec_capacity stock.passes

  -- a stock has what another had, and behind it what jobs have
  pub record Gains (old : Stock S D E) (jobs : List (Job F S D E C)) (new : Stock S D E) : Type 0 where
    pub of_helpers : new.helpers.items ≡ old.helpers.items ++ spawners jobs
    pub of_peers : new.peers.items ≡ old.peers.items ++ dialers jobs
    pub of_ears : new.ears.items ≡ old.ears.items ++ ears jobs
    pub of_passes : new.passes.items ≡ old.passes.items ++ passes jobs

module _ {S D E : Type 0} where
  -- two stocks have the same
  pub record HaveSame (old new : Stock S D E) : Type 0 where
    pub same_helpers : new.helpers.items ≡ old.helpers.items
    pub same_peers : new.peers.items ≡ old.peers.items
    pub same_ears : new.ears.items ≡ old.ears.items
    pub same_passes : new.passes.items ≡ old.passes.items

  -- a stock has nothing
  pub record IsUsedUp (stock : Stock S D E) : Type 0 where
    pub no_helpers : stock.helpers.items ≡ []
    pub no_peers : stock.peers.items ≡ []
    pub no_ears : stock.ears.items ≡ []
    pub no_passes : stock.passes.items ≡ []

  -- a stock for the jobs of so many slots, each with its devices and its pass
  pub record IsFull (gate : TableId) (stock : Stock S D E) : Type 0 where
    pub few_helpers : length stock.helpers.items ≤ max_helpers
    pub few_peers : length stock.peers.items ≤ max_peers
    pub an_ear_each : length stock.ears.items ≡ length stock.peers.items
    pub a_pass_each : length stock.passes.items ≡ workers (length stock.helpers.items) (length stock.peers.items)
    pub fresh : AreFresh gate stock.passes.items

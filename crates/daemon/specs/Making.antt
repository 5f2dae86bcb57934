-- How the daemon's jobs are made, from the last to the first, of the last of each list of a stock, and taken apart.
use Rattle.std.specs.Prelude.{ℕ, ◌≡◌, ◌+◌, ⊤, List, [], ◌∷◌, ◌++◌, length}
use Rattle.std.specs.Vec.{vec_capacity}
use Rattle.config_model.specs.Sections.{Sections}
use Rattle.config_model.specs.declared.slots.Slots.{Slots}
use Rattle.book_gate.specs.Known.{Known, TableId}
use Rattle.book_history.specs.Entries.{Entry}
use Rattle.crew.specs.Jobs.{Job}
use Rattle.crew.specs.Jobs.Job.{Keeps, Replies}
use Rattle.daemon.specs.declared.stock.Stock.{Stock}
use Rattle.daemon.specs.Laid.{AreFresh, AreWhole, Gains, HasRoom, HelpersLaid, IsLaid, IsUsedUp, TalkersLaid}
use Rattle.daemon.specs.Laid.{dialers, ears, files_of, passes, spawners}

module _ {S D E : Type 0} where
  -- the lists of two stocks have the same room
  pub record SameRoom (old new : Stock S D E) : Type 0 where
    pub room_helpers : vec_capacity new.helpers ≡ vec_capacity old.helpers
    pub room_peers : vec_capacity new.peers ≡ vec_capacity old.peers
    pub room_ears : vec_capacity new.ears ≡ vec_capacity old.ears
    pub room_passes : vec_capacity new.passes ≡ vec_capacity old.passes

  -- a stock has a pass more than another, behind what that has
  pub record PassMore (less : Stock S D E) (pass : Known Sections Entry) (more : Stock S D E) : Type 0 where
    pub same_helpers : more.helpers.items ≡ less.helpers.items
    pub same_peers : more.peers.items ≡ less.peers.items
    pub same_ears : more.ears.items ≡ less.ears.items
    pub one_pass : more.passes.items ≡ less.passes.items ++ pass ∷ []

  -- a stock has a dialer, an ear and a pass more than another, behind what that has
  pub record TalkerMore (less : Stock S D E) (dialer : D) (ear : E) (pass : Known Sections Entry) (more : Stock S D E)
      : Type 0 where
    pub same_helpers : more.helpers.items ≡ less.helpers.items
    pub one_peer : more.peers.items ≡ less.peers.items ++ dialer ∷ []
    pub one_ear : more.ears.items ≡ less.ears.items ++ ear ∷ []
    pub one_pass : more.passes.items ≡ less.passes.items ++ pass ∷ []

  -- a stock has a spawner and two passes more than another, behind what that has
  pub record PairMore (less : Stock S D E) (spawner : S) (reading writing : Known Sections Entry) (more : Stock S D E)
      : Type 0 where
    pub one_helper : more.helpers.items ≡ less.helpers.items ++ spawner ∷ []
    pub same_peers : more.peers.items ≡ less.peers.items
    pub same_ears : more.ears.items ≡ less.ears.items
    pub two_passes : more.passes.items ≡ less.passes.items ++ reading ∷ writing ∷ []

module _ {F S D E C : Type 0} where
  -- what a stock gave is in jobs that stand in front of the others
  pub record Moves (old : Stock S D E) (before : List (Job F S D E C)) (new : Stock S D E)
      (after : List (Job F S D E C)) : Type 0 where
    pub carries : (base : Stock S D E) → Gains old before base → Gains new after base
    pub room : SameRoom old new
    pub whole : AreWhole before → AreWhole after
    pub files_stay : files_of after ≡ files_of before
    pub still_fresh : (gate : TableId) → AreFresh gate old.passes.items → AreFresh gate new.passes.items
    pub counts : length new.passes.items + length after ≡ length old.passes.items + length before

  -- the same, where talkers were made, each of its slot
  pub record MovesPeers (old : Stock S D E) (before : List (Job F S D E C)) (new : Stock S D E)
      (after : List (Job F S D E C)) : Type 0 where
    pub moves : Moves old before new after
    pub same_helpers : new.helpers.items ≡ old.helpers.items
    pub no_spawners : spawners after ≡ spawners before
    pub an_ear_each : length old.ears.items ≡ length old.peers.items → length new.ears.items ≡ length new.peers.items
    pub a_pass_each : length new.passes.items + length old.peers.items
        ≡ length old.passes.items + length new.peers.items
    pub laid : (files : F) (path : List ℕ) (slots : Slots)
        → TalkersLaid files path slots (length old.peers.items) (dialers before) (ears before) before (passes before)
        → TalkersLaid files path slots (length new.peers.items) (dialers after) (ears after) after (passes after)

  -- the same, where readers and repliers were made, each of its slot
  pub record MovesHelpers (clock : C) (old : Stock S D E) (before : List (Job F S D E C)) (new : Stock S D E)
      (after : List (Job F S D E C)) : Type 0 where
    pub moves : Moves old before new after
    pub same_peers : new.peers.items ≡ old.peers.items
    pub same_ears : new.ears.items ≡ old.ears.items
    pub two_passes_each : length new.passes.items + (length old.helpers.items + length old.helpers.items)
        ≡ length old.passes.items + (length new.helpers.items + length new.helpers.items)
    pub laid : (files : F) (path : List ℕ) (slots : Slots) (peers : List D) (heard : List E)
        → HelpersLaid files path slots clock peers heard (length old.helpers.items) (spawners before) before
        (passes before)
        → HelpersLaid files path slots clock peers heard (length new.helpers.items) (spawners after) after
        (passes after)

  -- a stock gave its last pass, and the keeper that has it is the only job
  pub record IsKept (files : F) (path : List ℕ) (slots : Slots) (old : Stock S D E) (jobs : List (Job F S D E C))
      (new : Stock S D E) : Type 0 where
    pub pass : Known Sections Entry
    pub alone : jobs ≡ Keeps files path slots pass ∷ []
    pub gave : PassMore new pass old

  -- a stock is used up, and its jobs are those of all slots, in front of the keeper
  pub record Lays (clock : C) (old : Stock S D E) (before : List (Job F S D E C)) (new : Stock S D E)
      (after : List (Job F S D E C)) : Type 0 where
    pub used : IsUsedUp new
    pub laid : (base : Stock S D E) (files : F) (path : List ℕ) (slots : Slots) (pass : Known Sections Entry)
        → before ≡ Keeps files path slots pass ∷ [] → Gains old before base
        → IsLaid files path slots clock base.peers.items base.ears.items base.helpers.items after base.passes.items

  -- the first jobs went back into a stock, and others are left
  pub record Returns (old : Stock S D E) (before : List (Job F S D E C)) (new : Stock S D E)
      (after : List (Job F S D E C)) : Type 0 where
    pub carries : (last : Stock S D E) → Gains new after last → Gains old before last
    pub whole : AreWhole after
    pub room : HasRoom new after
    pub files_stay : files_of after ≡ files_of before

  -- the first of jobs is a replier
  abbrev pub IsReplierFirst : List (Job F S D E C) → Type 0
  IsReplierFirst (Replies h last pass ∷ jobs) = ⊤
  IsReplierFirst _ = ⊥

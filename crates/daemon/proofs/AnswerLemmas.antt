-- What the call that runs the daemon promises of its statuses.
use Rattle.std.proofs.Common.{◌≡◌, ◌⊎◌, ℕ, Bool, List, Option, Some, None, refl, sym, ap, subst, inl, inr, arith}
use Rattle.outside.specs.Told.{CountsOne, Rose}
use Rattle.config_model.specs.Sections.{Sections}
use Rattle.config_model.specs.declared.fault.ConfigFault.{ConfigFault}
use Rattle.config_model.specs.declared.slots.Slots.{Slots}
use Rattle.config_files.specs.Configured.{IsConfigAt, IsFaultAt}
use Rattle.config_reader.specs.Files.{Configures, IsFirstFault}
use Rattle.config_reader.specs.Outcomes.{FilesDoOne, FilesFaultOnce}
use Rattle.helper_worker.specs.Rounds.{Told as Spawning}
use Rattle.peer_worker.specs.Rounds.{Told as Dialling}
use Rattle.script_play.specs.declared.status.Status.{Status}
use Rattle.script_play.specs.declared.status.Status.TheVariants as status
use Rattle.daemon.specs.Ending.{EndsAs, HasToldConfig, HasToldFault, IsToldConfig, IsToldFault, run_words}
use Rattle.daemon.specs.declared.world.World.{World}

-- a count of one fault has risen
count_rose : (before now : ℕ) → CountsOne before now → Rose before now
count_rose before now one = omega (arith, one.0)

-- the words name one path
pub one_path : (path other : List ℕ) → run_words path ≡ run_words other → path ≡ other
one_path path other is = cc

-- a content that is told is no configuration where it has a first fault, and has one at most
no_both : (apart : FilesDoOne) (told : Option (List ℕ → List ℕ)) (path : List ℕ) (slots : Slots) (config : Sections)
    (fault : ConfigFault) → IsToldFault told path slots fault → IsConfigAt told path slots config → ⊥
no_both apart None path slots config fault has is = has
no_both apart (Some content) path slots config fault has is =
    apart (content path) slots config fault
    (subst (λ (bytes : List ℕ). Configures bytes slots config) (sym is.are) is.configures) has

no_other : (once : FilesFaultOnce) (told : Option (List ℕ → List ℕ)) (path : List ℕ) (slots : Slots)
    (fault other : ConfigFault) → IsToldFault told path slots fault → IsFaultAt told path slots other → other ≡ fault
no_other once None path slots fault other has is = absurd has
no_other once (Some content) path slots fault other has is =
    once (content path) slots other fault
    (subst (λ (bytes : List ℕ). IsFirstFault bytes slots other) (sym is.are) is.first) has

no_fault : (apart : FilesDoOne) (told : Option (List ℕ → List ℕ)) (path : List ℕ) (slots : Slots) (fault : ConfigFault)
    → IsToldConfig told path slots → IsFaultAt told path slots fault → ⊥
no_fault apart None path slots fault has is = has
no_fault apart (Some content) path slots fault has is =
    apart (content path) slots has.0 fault has.1
    (subst (λ (bytes : List ℕ). IsFirstFault bytes slots fault) (sym is.are) is.first)

module _ {F S D C P E : Type 0} (content : F → Option (List ℕ → List ℕ)) (faults : F → ℕ) (spawning : S → Spawning)
    (dialling : D → Dialling) (moments : C → Option (ℕ
    → Bool)) (path : List ℕ) (old : World F S D C P E) (ends : Status)
    (new : World F S D C P E) where
  -- words that name a path are used
  pub no_usage : EndsAs content faults spawning dialling moments path old ends new → ends ≡ status.Usage → ⊥
  no_usage is usage =
      subst (λ (it : Status). EndsAs content faults spawning dialling moments path old it new) usage is

  -- what comes by one path comes by the other, which is the same
  pub by_path : (other : List ℕ) → run_words path ≡ run_words other
      → EndsAs content faults spawning dialling moments path old ends new
      → EndsAs content faults spawning dialling moments other old ends new
  by_path other same is =
      subst (λ (it : List ℕ). EndsAs content faults spawning dialling moments it old ends new)
      (one_path path other same) is

module _ {F S D C P E : Type 0} (content : F → Option (List ℕ → List ℕ)) (faults : F → ℕ) (spawning : S → Spawning)
    (dialling : D → Dialling) (moments : C → Option (ℕ → Bool)) (path : List ℕ) (old new : World F S D C P E)
    (quiet : Rose (faults old.files) (faults new.files) → ⊥)
    (crewed : Rose old.crew.faults new.crew.faults → ⊥) where
  -- a file with a first fault is refused for it
  pub refuses : (once : FilesFaultOnce) (apart : FilesDoOne) (fault : ConfigFault) → HasToldFault content path old fault
      → (ends : Status) → EndsAs content faults spawning dialling moments path old ends new
      → (ends ≡ status.ConfigRefused fault) ⊎ (ends ≡ status.NoMemory)
  refuses once apart fault has status.Ok is = absurd (no_both apart (content old.files) path is.0.slots
      is.0.run.history.config fault (has is.0.slots is.0.slots_are) is.0.run.history.configured)
  refuses once apart fault has status.NoCrew is = absurd (crewed is.2)
  refuses once apart fault has status.ConfigRead is = absurd (quiet (count_rose (faults old.files)
      (faults new.files) is.1))
  refuses once apart fault has (status.ConfigRefused other) is =
      inl (ap status.ConfigRefused (no_other once (content old.files) path is.2.0 fault other
      (has is.2.0 is.2.1) is.2.2))
  refuses once apart fault has status.NoMemory is = inr refl
  refuses once apart fault has _ is = absurd is

  -- by a file that is a configuration the workers run to their end
  pub completes : (apart : FilesDoOne) → HasToldConfig content path old
      → (ends : Status) → EndsAs content faults spawning dialling moments path old ends new
      → (ends ≡ status.Ok) ⊎ (ends ≡ status.NoMemory)
  completes apart has status.Ok is = inl refl
  completes apart has status.NoCrew is = absurd (crewed is.2)
  completes apart has status.ConfigRead is = absurd (quiet (count_rose (faults old.files) (faults new.files) is.1))
  completes apart has (status.ConfigRefused other) is =
      absurd (no_fault apart (content old.files) path is.2.0 other (has is.2.0 is.2.1) is.2.2)
  completes apart has status.NoMemory is = inr refl
  completes apart has _ is = absurd is

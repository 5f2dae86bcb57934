-- What starting a program does.
use Rattle.std.specs.Prelude.{ℕ, ◌≡◌, ◌+◌, List, Bool, false, ⊤}
use Rattle.std.specs.declared.option.Option.{Option}
use Rattle.outside.specs.declared.spawner.Spawned.{Spawned}
use Rattle.outside.specs.declared.spawner.Spawned.TheVariants.{Open, Failed}
use Rattle.outside.specs.Told.{GaveNothing, CountsOne}
use Rattle.outside.specs.Lent.{GoesBy}
use Rattle.outside.specs.Waiting.{TakesNext}

module _ {S K L : Type 0} where
  -- failing to start counts one fault, and starting leaves the count
  abbrev pub SpawnCounts : ℕ → ℕ → Spawned S K L → Type 0
  SpawnCounts before now (Open pipes) = now ≡ before
  SpawnCounts before now Failed = CountsOne before now

  -- one more call has failed, or as many as before
  abbrev pub SpawnFails : Option ℕ → Option ℕ → Spawned S K L → Type 0
  SpawnFails old new (Open pipes) = GoesBy (λ count. count) old new
  SpawnFails old new Failed = GoesBy (λ count. count + 1) old new

  -- the source of a child that was started has given nothing, hasn't ended and has no faults
  abbrev pub IsNewSource : (S → Option (List ℕ)) → (S → Bool) → (S → ℕ) → Spawned S K L → Type 0
  IsNewSource given ended faults (Open pipes) =
      GaveNothing (given pipes.source) × (ended pipes.source ≡ false) × (faults pipes.source ≡ 0)
  IsNewSource given ended faults Failed = ⊤

  -- the sink of a child that was started has taken nothing and has no faults
  abbrev pub IsNewSink : (K → Option (List ℕ)) → (K → ℕ) → Spawned S K L → Type 0
  IsNewSink taken faults (Open pipes) = GaveNothing (taken pipes.sink) × (faults pipes.sink ≡ 0)
  IsNewSink taken faults Failed = ⊤

  -- a child was started whose source gives what comes next
  abbrev pub StartsNext :
      (S → List ℕ) → List (List ℕ) → List (List ℕ) → Spawned S K L → Type 0
  StartsNext left before after (Open pipes) = TakesNext before after (left pipes.source)
  StartsNext left before after Failed = ⊥

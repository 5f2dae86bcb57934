-- What became of jobs in their places.
use Rattle.std.specs.Prelude.{ℕ, ◌≡◌, ◌<◌, suc, Bool, true, false, List, [], ◌∷◌, length, slice_index_or}
use Rattle.std.specs.declared.option.Option.{Option}
use Rattle.helper_worker.specs.Rounds.{Told as Spawning}
use Rattle.outside.specs.Refusals.{Refusals, is_refused}
use Rattle.peer_worker.specs.Rounds.{Told as Dialling}
use Rattle.book_gate.specs.declared.name.GateName.{Ghosts as NameGhosts}
use Rattle.outside.specs.declared.sink.Sink.{Ghosts as SinkGhosts}
use Rattle.outside.specs.declared.source.Source.{Ghosts as SourceGhosts}
use Rattle.outside.specs.declared.spawner.Spawner.{Ghosts as SpawnerGhosts}
use Rattle.crew.specs.declared.place.Place.{Place}
use Rattle.crew.specs.declared.worker.Worker.{Worker}
use Rattle.crew.specs.Views.{job_of}
use Rattle.crew.specs.Works.{IsOff, Works}

module _ {F S D E C P N O K L : Type 0} {s : SpawnerGhosts S O K L} {o : SourceGhosts O} {k : SinkGhosts K}
    {n : NameGhosts N}
    (content : F → Option (List ℕ → List ℕ)) (faults : F → ℕ) (lent : F → Option ℕ)
    (spawning : S → Spawning) (dialling : D → Dialling) (moments : C → Option (ℕ → Bool)) where
  -- a job was done, or called off where it is refused
  pub record Ends (old new : Place (Worker F S D E C P N O K L s o k n)) : Type 0 where
    pub runs : old.refused ≡ false
        → Works content faults lent spawning dialling moments (job_of old.worker) (job_of new.worker)
    pub off : old.refused ≡ true → IsOff (job_of old.worker) (job_of new.worker)

module _ {J : Type 0} (R : J → J → Type 0) where
  -- each became what stands in its place
  abbrev pub EachBecame : List J → List J → Type 0
  EachBecame old new = (i : ℕ) (d : J) → i < length old → R (slice_index_or old i d) (slice_index_or new i d)

module _ {W : Type 0} where
  -- the same jobs, marked where the plan refuses their numbers, of which the first is k
  abbrev pub marked : Refusals → ℕ → List (Place W) → List (Place W)
  marked plan k [] = []
  marked plan k (place ∷ places) = (record place { refused = is_refused plan k }) ∷ marked plan (suc k) places

-- none of so many jobs is refused, or one is
abbrev pub RefusesNone : Refusals → ℕ → Type 0
RefusesNone plan count = (i : ℕ) → i < count → is_refused plan i ≡ false

abbrev pub RefusesOne : Refusals → ℕ → Type 0
RefusesOne plan count = (i : ℕ) × (i < count) × (is_refused plan i ≡ true)

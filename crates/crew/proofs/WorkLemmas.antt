-- Jobs that became others, each in its place.
use Rattle.std.proofs.Common.{ℕ, ◌≡◌, ◌++◌, ◌∙◌, Bool, true, false, refl, List, [], ◌∷◌, length, take, drop, suc, sym}
use Rattle.std.proofs.Common.{ap, subst, suc-le-suc, zero-lt-suc, append-nil, drop_of_length-le, take_all, le_of_eq}
use Rattle.std.proofs.Common.{arith}
use Rattle.std.specs.List.{AllZip}
use Rattle.std.specs.declared.option.Option.{Option}
use Rattle.book_gate.specs.declared.name.GateName.{Ghosts as NameGhosts}
use Rattle.helper_worker.specs.Rounds.{Told as Spawning}
use Rattle.outside.specs.Refusals.{Refusals, is_refused}
use Rattle.outside.specs.declared.sink.Sink.{Ghosts as SinkGhosts}
use Rattle.outside.specs.declared.source.Source.{Ghosts as SourceGhosts}
use Rattle.outside.specs.declared.spawner.Spawner.{Ghosts as SpawnerGhosts}
use Rattle.peer_worker.specs.Rounds.{Told as Dialling}
use Rattle.crew.specs.Crews.{EachBecame, Ends, marked}
use Rattle.crew.specs.Jobs.{Job}
use Rattle.crew.specs.Views.{job_of, jobs_of}
use Rattle.crew.specs.Works.{AllGo, Goes, IsOff, Works}
use Rattle.crew.specs.declared.place.Place.{Place}
use Rattle.crew.specs.declared.worker.Worker.{Worker}

module _ {J : Type 0} (R : J → J → Type 0) where
  -- what is related by index is related all along
  pub all_zip_each : (old new : List J) → length new ≡ length old → EachBecame R old new → AllZip R old new
  all_zip_each [] [] count each = tt
  all_zip_each [] (x ∷ xs) count each = absurd (omega arith)
  all_zip_each (x ∷ xs) [] count each = absurd (omega arith)
  all_zip_each (x ∷ xs) (y ∷ ys) count each =
      (each 0 x (zero-lt-suc (length xs)), all_zip_each xs ys (omega arith) (λ i d lt. each (suc i) d (suc-le-suc lt)))

  -- and so are those of a Vec that are lent and written back to it
  pub all_zip_back : (len : ℕ) (old lent new : List J) → len ≡ length old → lent ≡ old → length new ≡ length lent
      → EachBecame R lent new → AllZip R old (take len (new ++ drop (length new) old))
  all_zip_back len old lent new all same count each =
      let as_long : length new ≡ length old = count ∙ ap length same in
      let back : take len (new ++ drop (length new) old) ≡ new =
      ap (λ rest. take len (new ++ rest)) (drop_of_length-le old (le_of_eq (sym as_long)))
      ∙ ap (take len) (append-nil new) ∙ take_all len new (le_of_eq (as_long ∙ sym all)) in
      subst (AllZip R old) (sym back) (all_zip_each old new as_long (subst (λ it. EachBecame R it new) same each))

module _ {F S D E C : Type 0} (content : F → Option (List ℕ → List ℕ)) (faults : F → ℕ) (lent : F → Option ℕ)
    (spawning : S → Spawning) (dialling : D → Dialling) (moments : C → Option (ℕ → Bool)) where
  -- a job was done or called off, by whether it is refused
  goes_by : (refused : Bool) (old new : Job F S D E C)
      → (refused ≡ false → Works content faults lent spawning dialling moments old new)
      → (refused ≡ true → IsOff old new) → Goes content faults lent spawning dialling moments refused old new
  goes_by false old new runs off = runs refl
  goes_by true old new runs off = off refl

module _ {F S D E C P N O K L : Type 0} {s : SpawnerGhosts S O K L} {o : SourceGhosts O} {k : SinkGhosts K}
    {n : NameGhosts N}
    (content : F → Option (List ℕ → List ℕ)) (faults : F → ℕ) (lent : F → Option ℕ)
    (spawning : S → Spawning) (dialling : D → Dialling) (moments : C → Option (ℕ → Bool)) where
  -- what marked jobs became, they became by their numbers
  pub all_go : (plan : Refusals) (i : ℕ) (olds marks news : List (Place (Worker F S D E C P N O K L s o k n)))
      → marks ≡ marked plan i olds → AllZip (Ends content faults lent spawning dialling moments) marks news
      → AllGo content faults lent spawning dialling moments (is_refused plan) i (jobs_of olds) (jobs_of news)
  all_go plan i olds marks news is all =
      go plan i olds news (subst (λ it. AllZip (Ends content faults lent spawning dialling moments) it news) is all)
    where
      go : (plan : Refusals) (i : ℕ) (olds news : List (Place (Worker F S D E C P N O K L s o k n)))
          → AllZip (Ends content faults lent spawning dialling moments) (marked plan i olds) news
          → AllGo content faults lent spawning dialling moments (is_refused plan) i (jobs_of olds) (jobs_of news)
      go plan i [] [] all = tt
      go plan i [] (new ∷ news) all = absurd all
      go plan i (old ∷ olds) [] all = absurd all
      go plan i (old ∷ olds) (new ∷ news) all = (
        goes_by content faults lent spawning dialling moments (is_refused plan i) (job_of old.worker)
            (job_of new.worker) all.0.runs all.0.off,
        go plan (suc i) olds news all.1,
      )

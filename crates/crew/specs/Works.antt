-- What jobs do.
use Rattle.std.specs.Prelude.{ℕ, ◌≡◌, Bool, true, false, suc, List, [], ◌∷◌, ⊤}
use Rattle.std.specs.declared.option.Option.{Option}
use Rattle.outside.specs.Lent.{LendsNone}
use Rattle.book_history.specs.Entries.Entry.{Stopped}
use Rattle.pass_entries.specs.Making.{Makes}
use Rattle.control_worker.specs.Rounds.{Keeps as KeepsOn, stop_told}
use Rattle.helper_worker.specs.Handing.{writer_of}
use Rattle.helper_worker.specs.Rounds.{ReadsOut, Told as Spawning}
use Rattle.helper_worker.specs.Serving.{CallsOff, Serves}
use Rattle.peer_worker.specs.Rounds.{Talks as TalksOn, Told as Dialling, stopping}
use Rattle.crew.specs.Jobs.{Job}
use Rattle.crew.specs.Jobs.Job.{Keeps, Reads, Replies, Talks}

module _ {F S D E C : Type 0} where
  -- a job that is called off ends the daemon, and leaves its devices as they were
  abbrev pub IsOff : Job F S D E C → Job F S D E C → Type 0
  IsOff (Reads h spawner clock pass) (Reads h' spawner' clock' later) =
      Makes pass (Stopped ∷ []) later × (spawner' ≡ spawner) × (h' ≡ h)
  IsOff (Replies h last pass) (Replies h' last' later) = CallsOff h last last' pass later × (h' ≡ h)
  IsOff (Talks n dialer ear pass) (Talks n' dialer' ear' later) =
      Makes pass (Stopped ∷ []) later × (dialer' ≡ dialer) × (n' ≡ n)
  IsOff (Keeps files path slots pass) (Keeps files' path' slots' later) =
      Makes pass (Stopped ∷ []) later × (files' ≡ files) × (path' ≡ path) × (slots' ≡ slots)
  IsOff _ _ = ⊥

module _ {F S D E C : Type 0} (content : F → Option (List ℕ → List ℕ)) (faults : F → ℕ) (lent : F → Option ℕ)
    (spawning : S → Spawning) (dialling : D → Dialling) (moments : C → Option (ℕ → Bool)) where
  -- what a job does, until the daemon is to end
  abbrev pub Works : Job F S D E C → Job F S D E C → Type 0
  Works (Reads h spawner clock pass) (Reads h' spawner' clock' later) =
      ReadsOut h (writer_of h) (moments clock) (spawning spawner) (spawning spawner') pass later × (h' ≡ h)
  Works (Replies h last pass) (Replies h' last' later) = Serves h last last' pass later × (h' ≡ h)
  Works (Talks n dialer ear pass) (Talks n' dialer' ear' later) =
      TalksOn n pass (dialling dialer) (stopping n ∷ []) later (dialling dialer') × (n' ≡ n)
  Works (Keeps files path slots pass) (Keeps files' path' slots' later) =
      KeepsOn (content files) path slots pass (faults files) (stop_told ∷ []) (faults files') later
      × (content files' ≡ content files) × LendsNone (lent files) (lent files') × (path' ≡ path) × (slots' ≡ slots)
  Works _ _ = ⊥

  -- a job that isn't refused is done, and one that is refused is called off
  abbrev pub Goes : Bool → Job F S D E C → Job F S D E C → Type 0
  Goes false old new = Works old new
  Goes true old new = IsOff old new

  -- each job is done or called off, by whether its number is refused; the first has the number k
  abbrev pub AllGo : (ℕ → Bool) → ℕ → List (Job F S D E C) → List (Job F S D E C) → Type 0
  AllGo refused k [] [] = ⊤
  AllGo refused k (old ∷ olds) (new ∷ news) = Goes (refused k) old new × AllGo refused (suc k) olds news
  AllGo refused k _ _ = ⊥

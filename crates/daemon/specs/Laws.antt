-- What follows of the history of a run, whichever it is.
use Rattle.std.specs.Prelude.{ℕ, ◌≡◌, ◌<◌, ⊤, Bool, true, false, List, Contains}
use Rattle.std.specs.declared.option.Option.{Option}
use Rattle.config_model.specs.Sections.{Sections}
use Rattle.config_model.specs.declared.slots.Slots.{Slots}
use Rattle.book_gate.specs.Known.{Known}
use Rattle.book_gate.specs.declared.view.Signed.{Signed}
use Rattle.book_history.specs.Entries.{Entry}
use Rattle.book_history.specs.Entries.Entry.{HelperDeaf, HelperGone, PeerAsked, SpawnAsked, WentDown}
use Rattle.book_history.specs.declared.outcomes.Peer.TheVariants as peer
use Rattle.book_history.specs.declared.outcomes.Spawn.TheVariants as spawn
use Rattle.control_worker.specs.Rounds.{stop_told}
use Rattle.helper_worker.specs.Handing.{HasStop, IsAnswered, under, writer_of}
use Rattle.helper_worker.specs.Rounds.{IsSinkBack}
use Rattle.daemon.specs.Entered.{EndsBy, HasShutdown, IsByWorker, RoseBy, are_answered, unread_in}
use Rattle.daemon.specs.Names.{keeper_of, reader_of, talker_of, workers}
use Rattle.daemon.specs.Runs.{Devices, IsRun}

-- what holds of each run
abbrev pub OfRuns : ((ℕ → Bool) → Devices → Devices → Option (List ℕ → List ℕ) → List ℕ → Slots → List (Signed Entry)
    → Type 0) → Type 0
OfRuns Holds =
    (refused : ℕ → Bool) (old new : Devices) (content : Option (List ℕ → List ℕ)) (path : List ℕ) (slots : Slots)
    (last : Known Sections Entry) → IsRun refused old new content path slots last
    → Holds refused old new content path slots last.seen

-- no worker was refused
abbrev pub NoneRefused : (ℕ → Bool) → Slots → Type 0
NoneRefused refused slots = (k : ℕ) → k < workers slots.helpers slots.peers → refused k ≡ false

-- each entry is one of the worker's whose name it has
abbrev pub RunsEnter : Type 0
RunsEnter = OfRuns (λ refused old new content path slots seen.
    (made : Signed Entry) → Contains seen made → IsByWorker refused old.moments content path slots made)

-- the daemon was ended by a worker only where one was refused
abbrev pub RunsStop : Type 0
RunsStop = OfRuns (λ refused old new content path slots seen.
    HasStop seen → (k : ℕ) × (k < workers slots.helpers slots.peers) × (refused k ≡ true))

-- that a helper is gone or no longer reads, and that a session is no more, has the name of a worker of its slot
abbrev pub IsOfSlot : ℕ → Entry → List ℕ → Type 0
IsOfSlot helpers (HelperGone h inc) name = name ≡ reader_of h
IsOfSlot helpers (HelperDeaf h inc) name = name ≡ writer_of h
IsOfSlot helpers (WentDown n) name = name ≡ talker_of helpers n
IsOfSlot helpers _ name = ⊤

abbrev pub RunsName : Type 0
RunsName = OfRuns (λ refused old new content path slots seen.
    (made : Signed Entry) → Contains seen made → IsOfSlot slots.helpers made.entry made.name)

-- among the keeper's entries each reload that is due is directly followed by its answer, and answers are nowhere else
abbrev pub RunsReload : Type 0
RunsReload = OfRuns (λ refused old new content path slots seen.
    are_answered false (under (keeper_of slots.helpers slots.peers) seen) ≡ true)

-- no more reloads were refused for a file that wasn't read than the files' count rose by
abbrev pub RunsCount : Type 0
RunsCount = OfRuns (λ refused old new content path slots seen.
    RoseBy (unread_in (under (keeper_of slots.helpers slots.peers) seen)) old.faults new.faults)

-- where no worker was refused, each one's last question was answered by the end of the daemon
pub record RunsEnded (slots : Slots) (seen : List (Signed Entry)) : Type 0 where
  pub readers : (h : ℕ) → h < slots.helpers
      → (now : ℕ) × EndsBy (SpawnAsked h now spawn.Stopping) (under (reader_of h) seen)
  pub talkers : (n : ℕ) → n < slots.peers
      → EndsBy (PeerAsked n peer.Stopping) (under (talker_of slots.helpers n) seen)
  pub keeper : EndsBy stop_told (under (keeper_of slots.helpers slots.peers) seen)

abbrev pub RunsEnd : Type 0
RunsEnd = OfRuns (λ refused old new content path slots seen. NoneRefused refused slots → RunsEnded slots seen)

-- and the daemon ended by a shutdown that was accepted, and not by a worker
abbrev pub RunsShutDown : Type 0
RunsShutDown = OfRuns (λ refused old new content path slots seen.
    NoneRefused refused slots → HasShutdown seen × (HasStop seen → ⊥))

-- and the sink of each helper, once it came back, had taken the front of the replies that its slot's replier took for
-- it in the whole history, and all of them unless it has failed
abbrev pub RunsAnswer : Type 0
RunsAnswer = OfRuns (λ refused old new content path slots seen.
    NoneRefused refused slots → (h inc : ℕ) (taken : Option (List ℕ)) (faults : ℕ) → h < slots.helpers
    → IsSinkBack (writer_of h) h inc taken faults seen → IsAnswered (writer_of h) h inc taken faults seen)

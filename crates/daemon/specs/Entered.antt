-- Which worker made which entry of a history, and which of them stand behind which.
use Rattle.std.specs.Prelude.{ℕ, ◌≡◌, ◌⊎◌, ◌+◌, ◌-◌, ◌^◌, ◌≤◌, ◌<◌, ⊤, min, not, Bool, true, false, List, [], ◌∷◌, ◌++◌}
use Rattle.std.specs.Prelude.{Ok}
use Rattle.std.specs.List.{list_any}
use Rattle.std.specs.declared.option.Option.{Option}
use Rattle.config_model.specs.declared.slots.Slots.{Slots}
use Rattle.config_files.specs.Configured.{IsConfigAt, IsNoneAt}
use Rattle.command_grammar.specs.declared.command.Command.TheVariants as command
use Rattle.outside.specs.Moments.{MayRead}
use Rattle.book_gate.specs.Histories.{entries}
use Rattle.book_gate.specs.declared.view.Signed.{Signed}
use Rattle.book_history.specs.Entries.{Entry}
use Rattle.book_history.specs.Entries.Entry.{LineEntered, RepliesTaken, HelperDeaf, HelperGone, SpawnAsked, PeerAsked}
use Rattle.book_history.specs.Entries.Entry.{CameUp, WentDown, RefreshAsked, MessageCut, ControlAsked, Reloaded}
use Rattle.book_history.specs.Entries.Entry.{ReloadRefused, Stopped}
use Rattle.book_history.specs.declared.outcomes.Control.TheVariants as control
use Rattle.book_history.specs.declared.outcomes.NotRead.TheVariants as not_read
use Rattle.book_history.specs.declared.outcomes.Verdict.TheVariants as verdict
use Rattle.helper_worker.specs.Handing.{writer_of}
use Rattle.daemon.specs.Names.{keeper_of, reader_of, talker_of}

-- the entries of a slot's reader: whether a helper is to be started, asked at a moment that the clock may read, its
-- lines, and that it is gone
abbrev pub IsOfReader : Option (ℕ → Bool) → ℕ → Entry → Type 0
IsOfReader moments h (SpawnAsked slot now given) = (slot ≡ h) × MayRead moments now
IsOfReader moments h (LineEntered slot inc line reading given) = slot ≡ h
IsOfReader moments h (HelperGone slot inc) = slot ≡ h
IsOfReader moments h _ = ⊥

-- of a slot's replier: replies that are taken, and that a helper no longer reads them
abbrev pub IsOfReplier : ℕ → Entry → Type 0
IsOfReplier h (RepliesTaken slot inc given) = slot ≡ h
IsOfReplier h (HelperDeaf slot inc) = slot ≡ h
IsOfReplier h _ = ⊥

-- of a slot's talker: which neighbour is there, and all of its sessions
abbrev pub IsOfTalker : ℕ → Entry → Type 0
IsOfTalker n (PeerAsked slot given) = slot ≡ n
IsOfTalker n (CameUp slot settings caps given) = slot ≡ n
IsOfTalker n (WentDown slot) = slot ≡ n
IsOfTalker n (RefreshAsked slot family) = slot ≡ n
IsOfTalker n (MessageCut slot bytes given) = slot ≡ n
IsOfTalker n _ = ⊥

-- of the keeper: what is to be done, and reloads, each by what the file's bytes are
abbrev pub IsOfKeeper : Option (List ℕ → List ℕ) → List ℕ → Slots → Entry → Type 0
IsOfKeeper content path slots (ControlAsked given) = ⊤
IsOfKeeper content path slots (Reloaded new given) = IsConfigAt content path slots new
IsOfKeeper content path slots (ReloadRefused why) = IsNoneAt content path slots why
IsOfKeeper content path slots _ = ⊥

-- an entry is of a worker's, or ends the daemon in place of a worker that was refused
abbrev pub MayEnter : Bool → (Entry → Type 0) → Entry → Type 0
MayEnter off IsOwn entry = IsOwn entry ⊎ ((entry ≡ Stopped) × (off ≡ true))

module _ (refused : ℕ → Bool) (moments : Option (ℕ → Bool)) (content : Option (List ℕ → List ℕ)) (path : List ℕ)
    (slots : Slots) (made : Signed Entry) where
  -- an entry has the name of a worker, and is one of its own
  abbrev pub IsByReader : Type 0
  IsByReader = (h : ℕ) × (h < slots.helpers) × (made.name ≡ reader_of h)
      × MayEnter (refused (h + h)) (IsOfReader moments h) made.entry

  abbrev pub IsByReplier : Type 0
  IsByReplier = (h : ℕ) × (h < slots.helpers) × (made.name ≡ writer_of h)
      × MayEnter (refused (h + h + 1)) (IsOfReplier h) made.entry

  abbrev pub IsByTalker : Type 0
  IsByTalker = (n : ℕ) × (n < slots.peers) × (made.name ≡ talker_of slots.helpers n)
      × MayEnter (refused (slots.helpers + slots.helpers + n)) (IsOfTalker n) made.entry

  abbrev pub IsByKeeper : Type 0
  IsByKeeper = (made.name ≡ keeper_of slots.helpers slots.peers)
      × MayEnter (refused (slots.helpers + slots.helpers + slots.peers)) (IsOfKeeper content path slots) made.entry

  abbrev pub IsByWorker : Type 0
  IsByWorker = IsByReader ⊎ IsByReplier ⊎ IsByTalker ⊎ IsByKeeper

-- what behind a reload that is due is no answer of it, and what is an answer where none is due
abbrev pub are_answered : Bool → List Entry → Bool
are_answered due [] = not due
are_answered true (Reloaded new given ∷ more) = are_answered false more
are_answered true (ReloadRefused why ∷ more) = are_answered false more
are_answered true (_ ∷ more) = false
are_answered false (ControlAsked control.ReloadDue ∷ more) = are_answered true more
are_answered false (Reloaded new given ∷ more) = false
are_answered false (ReloadRefused why ∷ more) = false
are_answered false (_ ∷ more) = are_answered false more

-- how many reloads were refused as the file wasn't read
abbrev pub unread_in : List Entry → ℕ
unread_in [] = 0
unread_in (ReloadRefused not_read.ReadFault ∷ more) = unread_in more + 1
unread_in (_ ∷ more) = unread_in more

-- a count has risen by so many or more, or stands at its end
abbrev pub RoseBy : ℕ → ℕ → ℕ → Type 0
RoseBy count before now = min (before + count) (2 ^ 64 - 1) ≤ now

-- whether a line by which the daemon is to end was accepted
abbrev pub is_shutdown : Entry → Bool
is_shutdown (LineEntered h inc line (Ok command.Shutdown) verdict.Done) = true
is_shutdown _ = false

-- a shutdown was accepted
abbrev pub HasShutdown : List (Signed Entry) → Type 0
HasShutdown seen = list_any is_shutdown (entries seen) ≡ true

-- the last of these entries
abbrev pub EndsBy : Entry → List Entry → Type 0
EndsBy last made = (front : List Entry) × (made ≡ front ++ last ∷ [])

-- Which worker made which entry.
use Rattle.std.proofs.Common.{◌≡◌, ◌⊎◌, ℕ, ◌+◌, ◌<◌, Bool, true, false, List, [], ◌∷◌, ◌++◌, Option}
use Rattle.std.proofs.Common.{refl, sym, ap, subst, ◌∙◌, inl, inr}
use Rattle.std.specs.Prelude.{Contains}
use Rattle.std.specs.List.{All, flat_map}
use Rattle.std.proofs.lemmas.List.Elements.{All-append, All-cons, All-contains, All-head, All-nil, All-replicate}
use Rattle.std.proofs.lemmas.List.Elements.{All-tail}
use Rattle.std.proofs.lemmas.List.Elements.{All-weaker}
use Rattle.outside.specs.Moments.{MayRead}
use Rattle.config_model.specs.Sections.{Sections}
use Rattle.config_model.specs.declared.slots.Slots.{Slots}
use Rattle.route_values.specs.declared.settings.Settings.{Settings}
use Rattle.book_gate.specs.Histories.{entries, entries_by}
use Rattle.book_gate.specs.Known.{Known}
use Rattle.book_gate.specs.Names.{child_name}
use Rattle.book_gate.specs.declared.view.Signed.{Signed}
use Rattle.book_gate.proofs.ListLemmas.{contains_none, contains_here, contains_there, contains_cases}
use Rattle.book_history.specs.Entries.{Entry}
use Rattle.book_history.specs.Entries.Entry.{ControlAsked, HelperDeaf, HelperGone, LineEntered, PeerAsked, Reloaded}
use Rattle.book_history.specs.Entries.Entry.{ReloadRefused, SpawnAsked, Stopped}
use Rattle.book_history.specs.declared.outcomes.Control.TheVariants as control
use Rattle.book_history.specs.declared.outcomes.Peer.TheVariants as peer
use Rattle.book_history.specs.declared.outcomes.Spawn.TheVariants as spawn
use Rattle.book_history.specs.declared.outcomes.Verdict.TheVariants as verdict
use Rattle.control_worker.specs.Rounds.{IsFiled, due_told, stop_told, Round as Keeping, entries_of as kept_by}
use Rattle.control_worker.specs.Rounds.Round.{Idle as KeptIdle, Loaded, Refused as NotLoaded}
use Rattle.helper_worker.specs.Handing.{under, writer_of}
use Rattle.helper_worker.specs.Lines.{Asked, entries_for}
use Rattle.helper_worker.specs.Replies.{IsReplyOf}
use Rattle.helper_worker.specs.Rounds.{IsOutcome, IsRound, Outcome, Told as Spawning, Round as Reading}
use Rattle.helper_worker.specs.Rounds.{entries_of as read_by, made_by as made_in}
use Rattle.helper_worker.specs.Rounds.Outcome.{Heard, Failed}
use Rattle.helper_worker.specs.Rounds.Round.{Start, Idle as ReadIdle}
use Rattle.helper_worker.specs.Serving.{IsServed, Served, entries_in}
use Rattle.peer_worker.specs.Deeds.{Deed, all_entered, entered_by}
use Rattle.peer_worker.specs.Deeds.Deed.{Say, Rise, Fall, Renew, Carve}
use Rattle.peer_worker.specs.Rounds.{Told as Dialling, Round as Talking, entries_of as talked_by, stopping}
use Rattle.peer_worker.specs.Rounds.Round.{Visit, Missed, Idle as TalkIdle}
use Rattle.daemon.specs.Done.{IfRun}
use Rattle.daemon.specs.Entered.{IsByWorker, IsOfKeeper, IsOfReader, IsOfReplier, IsOfTalker, MayEnter}
use Rattle.daemon.specs.Names.{keeper_of, reader_of, talker_of, workers}
use Rattle.daemon.specs.Runs.{Devices, IsCalledOff, IsReplierOff, IsRun, KeeperRan, ReaderRan}
use Rattle.daemon.specs.Runs.{ReplierRan, TalkerRan}
use Rattle.daemon.proofs.JoinedLemmas.{stands_by}
use Rattle.daemon.proofs.RanLemmas.{Which, which}

module _ {X Y : Type 0} (P : Y → Type 0) (Q : X → Type 0) (f : X → List Y) (each : (x : X) → Q x → All P (f x)) where
  -- all that comes of what fits
  all_flat : (xs : List X) → All Q xs → All P (flat_map f xs)
  all_flat [] all = All-nil P
  all_flat (x ∷ xs) all =
      All-append P (f x) (flat_map f xs) (each x (All-head Q x xs all)) (all_flat xs (All-tail Q x xs all))

module _ {X Y : Type 0} (P : Y → Type 0) (f : X → List Y) (each : (x : X) → All P (f x)) where
  all_flat_any : (xs : List X) → All P (flat_map f xs)
  all_flat_any [] = All-nil P
  all_flat_any (x ∷ xs) = All-append P (f x) (flat_map f xs) (each x) (all_flat_any xs)

all_one : {Y : Type 0} (P : Y → Type 0) (y : Y) → P y → All P (y ∷ [])
all_one P y is = All-cons P y [] is (All-nil P)

module _ (moments : Option (ℕ → Bool)) (h : ℕ) where
  asked_fits : (inc : ℕ) (asked : Asked) → All (IsOfReader moments h) (entries_for h inc asked)
  asked_fits inc asked =
      let P = IsOfReader moments h in
      All-append P _ _
      (All-replicate P asked.waits (LineEntered h inc asked.line asked.reading verdict.Busy) refl)
      (all_one P (LineEntered h inc asked.line asked.reading asked.given) refl)

  outcome_fits : (inc : ℕ) (was : Outcome) → IsOutcome h inc was → All (IsOfReader moments h) (made_in h inc was)
  outcome_fits inc (Heard lines ends) visit =
      let P = IsOfReader moments h in
      All-append P lines (HelperGone h inc ∷ [])
      (subst (All P) (sym visit.run.entries_are) (all_flat_any P (entries_for h inc) (asked_fits inc) visit.run.asked))
      (all_one P (HelperGone h inc) refl)
  outcome_fits inc Failed visit = all_one (IsOfReader moments h) (HelperGone h inc) refl

  reading_fits : (round : Reading) → IsRound h moments round → All (IsOfReader moments h) (read_by h round)
  reading_fits (Start now inc run was) (may, good) =
      All-cons (IsOfReader moments h) (SpawnAsked h now (spawn.Go inc run)) (made_in h inc was) (refl, may)
      (outcome_fits inc was good)
  reading_fits (ReadIdle now given) (may, idle) =
      all_one (IsOfReader moments h) (SpawnAsked h now given) (refl, may)

  reads_fit : (rounds : List Reading) (now : ℕ) → All (IsRound h moments) rounds → MayRead moments now
      → All (IsOfReader moments h) (flat_map (read_by h) rounds ++ SpawnAsked h now spawn.Stopping ∷ [])
  reads_fit rounds now good may =
      All-append (IsOfReader moments h) _ _
      (all_flat (IsOfReader moments h) (IsRound h moments) (read_by h) reading_fits rounds good)
      (all_one (IsOfReader moments h) (SpawnAsked h now spawn.Stopping) (refl, may))

reply_fits : (h inc : ℕ) (entry : Entry) → IsReplyOf h inc entry → IsOfReplier h entry
reply_fits h inc entry (inl (given, is)) = subst (IsOfReplier h) (sym is) refl
reply_fits h inc entry (inr is) = subst (IsOfReplier h) (sym is) refl

served_fits : (h : ℕ) (served : Served) → IsServed h served → All (IsOfReplier h) (entries_in served)
served_fits h served good =
    All-weaker (IsReplyOf h served.inc) (IsOfReplier h) (reply_fits h served.inc) served.entries good.run.only

deed_fits : (n : ℕ) (own : Settings) (one : Deed) → All (IsOfTalker n) (entered_by n own one)
deed_fits n own (Say note) = All-nil (IsOfTalker n)
deed_fits n own (Rise caps given) = all_one (IsOfTalker n) _ refl
deed_fits n own Fall = all_one (IsOfTalker n) _ refl
deed_fits n own (Renew family) = all_one (IsOfTalker n) _ refl
deed_fits n own (Carve bytes given) = all_one (IsOfTalker n) _ refl

talking_fits : (n : ℕ) (round : Talking) → All (IsOfTalker n) (talked_by n round)
talking_fits n (Visit own deeds tie) =
    All-cons (IsOfTalker n) (PeerAsked n (peer.Is own)) (all_entered n own deeds) refl
    (all_flat_any (IsOfTalker n) (entered_by n own) (deed_fits n own) deeds)
talking_fits n (Missed own) = all_one (IsOfTalker n) (PeerAsked n (peer.Is own)) refl
talking_fits n TalkIdle = all_one (IsOfTalker n) (PeerAsked n peer.Absent) refl

talks_fit : (n : ℕ) (rounds : List Talking)
    → All (IsOfTalker n) (flat_map (talked_by n) rounds ++ stopping n ∷ [])
talks_fit n rounds =
    All-append (IsOfTalker n) _ _ (all_flat_any (IsOfTalker n) (talked_by n) (talking_fits n) rounds)
    (all_one (IsOfTalker n) (stopping n) refl)

module _ (content : Option (List ℕ → List ℕ)) (path : List ℕ) (slots : Slots) where
  keeping_fits : (round : Keeping) → IsFiled content path slots round
      → All (IsOfKeeper content path slots) (kept_by round)
  keeping_fits KeptIdle filed = all_one (IsOfKeeper content path slots) (ControlAsked control.Nothing) tt
  keeping_fits (Loaded new given) filed =
      All-cons (IsOfKeeper content path slots) due_told (Reloaded new given ∷ []) tt
      (all_one (IsOfKeeper content path slots) (Reloaded new given) filed)
  keeping_fits (NotLoaded why) filed =
      All-cons (IsOfKeeper content path slots) due_told (ReloadRefused why ∷ []) tt
      (all_one (IsOfKeeper content path slots) (ReloadRefused why) filed)

  keeps_fit : (rounds : List Keeping) → All (IsFiled content path slots) rounds
      → All (IsOfKeeper content path slots) (flat_map kept_by rounds ++ stop_told ∷ [])
  keeps_fit rounds filed =
      All-append (IsOfKeeper content path slots) _ _
      (all_flat (IsOfKeeper content path slots) (IsFiled content path slots) kept_by keeping_fits rounds filed)
      (all_one (IsOfKeeper content path slots) stop_told tt)

-- an entry of a history is one of its entries
entry_first : (first : Signed Entry) (some : List (Signed Entry)) (made : Signed Entry)
    → (Contains some made → Contains (entries some) made.entry) → (first ≡ made) ⊎ Contains some made
    → Contains (entries (first ∷ some)) made.entry
entry_first first some made others (inl same) =
    subst (λ (it : Signed Entry). Contains (entries (first ∷ some)) it.entry) same
    (contains_here first.entry (entries some))
entry_first first some made others (inr rest) = contains_there first.entry (entries some) made.entry (others rest)

entry_stands : (some : List (Signed Entry)) (made : Signed Entry) → Contains some made
    → Contains (entries some) made.entry
entry_stands [] made has = absurd (contains_none made has)
entry_stands (first ∷ some) made has =
    entry_first first some made (entry_stands some made) (contains_cases first some made has)

-- an entry under a name is one of those that all fit
fits_under : (IsOwn : Entry → Type 0) (name : List ℕ) (seen : List (Signed Entry)) (made : Signed Entry)
    (all : List Entry) → made.name ≡ name → Contains seen made → under name seen ≡ all → All IsOwn all
    → IsOwn made.entry
fits_under IsOwn name seen made all is has are fits =
    All-contains IsOwn (under name seen) made.entry (subst (All IsOwn) (sym are) fits)
    (subst (λ it. Contains (under it seen) made.entry) is
    (entry_stands (entries_by made.name seen) made (stands_by seen made has)))

-- where a worker's entries fit, and it was called off or ran
runs_fit : (IsOwn : Entry → Type 0) (all : List Entry) → All IsOwn all → All (MayEnter false IsOwn) all
runs_fit IsOwn all fits = All-weaker IsOwn (MayEnter false IsOwn) (λ entry is. inl is) all fits

off_fits : (IsOwn : Entry → Type 0) → All (MayEnter true IsOwn) (Stopped ∷ [])
off_fits IsOwn = all_one (MayEnter true IsOwn) Stopped (inr (refl, refl))

module _ (old new : Devices) (slots : Slots) (content : Option (List ℕ → List ℕ)) (path : List ℕ)
    (seen : List (Signed Entry)) where
  reader_enters : (h : ℕ) (off : Bool) (was now : Spawning) → IfRun off (ReaderRan h old.moments was now seen)
      (IsCalledOff (reader_of h) seen × (now ≡ was))
      → (all : List Entry) × (under (reader_of h) seen ≡ all) × All (MayEnter off (IsOfReader old.moments h)) all
  reader_enters h false was now ran = (
    _,
    ran.made,
    runs_fit (IsOfReader old.moments h) _
        (reads_fit old.moments h ran.rounds ran.now ran.good ran.moment),
  )
  reader_enters h true was now off = (_, off.0, off_fits (IsOfReader old.moments h))

  replier_enters : (h : ℕ) (off : Bool) → IfRun off (ReplierRan h seen) (IsReplierOff h seen)
      → (all : List Entry) × (under (writer_of h) seen ≡ all) × All (MayEnter off (IsOfReplier h)) all
  replier_enters h false ran = (
    _,
    ran.made,
    runs_fit (IsOfReplier h) _
        (all_flat (IsOfReplier h) (IsServed h) entries_in (served_fits h) ran.rounds ran.good),
  )
  replier_enters h true (inl off) = (_, off, off_fits (IsOfReplier h))
  replier_enters h true (inr (inc, low, off)) = (
    _,
    off,
    All-cons (MayEnter true (IsOfReplier h)) Stopped (HelperDeaf h inc ∷ []) (inr (refl, refl))
        (all_one (MayEnter true (IsOfReplier h)) (HelperDeaf h inc) (inl refl)),
  )

  talker_enters : (n : ℕ) (off : Bool) (was now : Dialling) → IfRun off (TalkerRan slots.helpers n was now seen)
      (IsCalledOff (talker_of slots.helpers n) seen × (now ≡ was))
      → (all : List Entry) × (under (talker_of slots.helpers n) seen ≡ all) × All (MayEnter off (IsOfTalker n)) all
  talker_enters n false was now ran = (_, ran.made, runs_fit (IsOfTalker n) _ (talks_fit n ran.rounds))
  talker_enters n true was now off = (_, off.0, off_fits (IsOfTalker n))

  keeper_enters : (off : Bool) (was now : ℕ) → IfRun off (KeeperRan content path slots was now seen)
      (IsCalledOff (keeper_of slots.helpers slots.peers) seen × (now ≡ was))
      → (all : List Entry) × (under (keeper_of slots.helpers slots.peers) seen ≡ all)
      × All (MayEnter off (IsOfKeeper content path slots)) all
  keeper_enters false was now ran =
      (_, ran.made, runs_fit (IsOfKeeper content path slots) _ (keeps_fit content path slots ran.rounds ran.filed))
  keeper_enters true was now off = (_, off.0, off_fits (IsOfKeeper content path slots))

-- each entry is by a worker, under its name
pub by_worker : (refused : ℕ → Bool) (old new : Devices) (content : Option (List ℕ → List ℕ)) (path : List ℕ)
    (slots : Slots) (last : Known Sections Entry) → IsRun refused old new content path slots last
    → (made : Signed Entry)
    → Contains last.seen made → IsByWorker refused old.moments content path slots made
by_worker refused old new content path slots last run made has = of named.0 named.2
    (which slots.helpers slots.peers named.0 named.1)
  where
    named : (k : ℕ) × (k < workers slots.helpers slots.peers) × (made.name ≡ child_name [] k)
    named = run.history.named made has

    of : (k : ℕ) → made.name ≡ child_name [] k → Which slots.helpers slots.peers k
        → IsByWorker refused old.moments content path slots made
    of k is (inl (h, low, at)) =
        let name_is : made.name ≡ reader_of h = is ∙ ap (λ n. child_name [] n) at in
        let enters = reader_enters old new slots content path last.seen h (refused (h + h)) _ _ (run.readers h low) in
        inl (
          h,
          low,
          name_is,
          fits_under (MayEnter (refused (h + h)) (IsOfReader old.moments h)) (reader_of h) last.seen
              made enters.0 name_is has enters.1 enters.2,
        )
    of k is (inr (inl (h, low, at))) =
        let name_is : made.name ≡ writer_of h = is ∙ ap (λ n. child_name [] n) at in
        let enters = replier_enters old new slots content path last.seen h (refused (h + h + 1)) (run.repliers h low) in
        inr (inl (
          h,
          low,
          name_is,
          fits_under (MayEnter (refused (h + h + 1)) (IsOfReplier h)) (writer_of h) last.seen
              made enters.0 name_is has enters.1 enters.2,
        ))
    of k is (inr (inr (inl (n, low, at)))) =
        let name_is : made.name ≡ talker_of slots.helpers n = is ∙ ap (λ n. child_name [] n) at in
        let enters = talker_enters old new slots content path last.seen n (refused
        (slots.helpers + slots.helpers + n)) _ _ (run.talkers n low) in
        inr (inr (inl (
          n,
          low,
          name_is,
          fits_under (MayEnter (refused (slots.helpers + slots.helpers + n)) (IsOfTalker n))
              (talker_of slots.helpers n) last.seen made enters.0 name_is has enters.1 enters.2,
        )))
    of k is (inr (inr (inr at))) =
        let name_is : made.name ≡ keeper_of slots.helpers slots.peers = is ∙ ap (λ n. child_name [] n) at in
        let enters = keeper_enters old new slots content path last.seen (refused
        (slots.helpers + slots.helpers + slots.peers)) _ _ run.keeper in
        inr (inr (inr (
          name_is,
          fits_under (MayEnter (refused (slots.helpers + slots.helpers + slots.peers)) (IsOfKeeper content path slots))
              (keeper_of slots.helpers slots.peers) last.seen made enters.0 name_is has enters.1 enters.2,
        )))

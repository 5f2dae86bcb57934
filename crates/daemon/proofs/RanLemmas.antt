-- From the jobs of a daemon to what its history says of them.
use Rattle.std.proofs.Common.{◌≡◌, ◌⊎◌, ℕ, zero, suc, ◌+◌, ◌<◌, Bool, true, false, List, [], ◌∷◌, ◌++◌, length, Option}
use Rattle.std.proofs.Common.{None, refl, sym, ap, subst, inl, inr, arith}
use Rattle.std.specs.Prelude.{reverse, slice_index_or}
use Rattle.std.proofs.lemmas.List.{get_or-map}
use mathlib.Core.List.{IsPrefix}
use Rattle.outside.specs.Lent.{LendsNone}
use Rattle.config_model.specs.Sections.{Sections}
use Rattle.config_model.specs.declared.slots.Slots.{Slots}
use Rattle.config_files.specs.Configured.{IsConfigAt}
use Rattle.book_gate.specs.Known.{TableId, first_known}
use Rattle.book_gate.specs.Names.{child_name}
use Rattle.book_gate.specs.declared.view.Signed.{Signed}
use Rattle.book_gate.proofs.ListLemmas.{prefix_trans}
use Rattle.book_gate_many.specs.Many.{IsAllJoined, IsMany}
use Rattle.book_history.specs.Entries.{Entry}
use Rattle.book_history.specs.Legal.{Allows}
use Rattle.pass_entries.specs.Making.{Makes, own}
use Rattle.helper_worker.specs.Handing.{under, writer_of}
use Rattle.helper_worker.specs.Rounds.{Ends, IsBackBy, Told as Spawning, told as spawning_told}
use Rattle.peer_worker.specs.Rounds.{Told as Dialling, told as dialling_told}
use Rattle.daemon.specs.Done.{IfRun, JobsDone, KeeperDone, Pass, ReaderDone, ReplierDone, TalkerDone}
use Rattle.daemon.specs.Names.{keeper_of, reader_of, talker_of, workers}
use Rattle.control_worker.proofs.LentLemmas.{lent_same}
use Rattle.daemon.specs.Runs.{IsCalledOff, IsReplierOff, IsRun, KeeperRan, ReaderRan, ReplierRan}
use Rattle.daemon.specs.Runs.{TalkerRan, devices, dialling_at, spawning_at}
use Rattle.daemon.proofs.JoinedLemmas.{WereMade, AreNew, all_legal, all_named, are_new, made_by, same_start, still}

-- a number of a job is that of a reader, a replier, a talker or the keeper
abbrev pub Which : ℕ → ℕ → ℕ → Type 0
Which helpers peers k =
    ((h : ℕ) × (h < helpers) × (k ≡ h + h)) ⊎ ((h : ℕ) × (h < helpers) × (k ≡ h + h + 1))
    ⊎ ((n : ℕ) × (n < peers) × (k ≡ helpers + helpers + n)) ⊎ (k ≡ helpers + helpers + peers)

below_or : (n k : ℕ) → k < n + 1 → (k < n) ⊎ (k ≡ n)
below_or zero zero below = inr refl
below_or zero (suc k) below = absurd (omega arith)
below_or (suc n) zero below = inl (omega arith)
below_or (suc n) (suc k) below = next (below_or n k (omega arith))
  where
    next : (k < n) ⊎ (k ≡ n) → (suc k < suc n) ⊎ (suc k ≡ suc n)
    next (inl low) = inl (omega arith)
    next (inr is) = inr (ap suc is)

pub which : (helpers peers k : ℕ) → k < workers helpers peers → Which helpers peers k
which zero peers k below = of (below_or peers k (omega arith))
  where
    of : (k < peers) ⊎ (k ≡ peers) → Which zero peers k
    of (inl low) = inr (inr (inl (k, low, omega arith)))
    of (inr is) = inr (inr (inr (omega arith)))
which (suc helpers) peers zero below = inl (0, omega arith, omega arith)
which (suc helpers) peers (suc zero) below = inr (inl (0, omega arith, omega arith))
which (suc helpers) peers (suc (suc k)) below = next (which helpers peers k (omega arith))
  where
    next : Which helpers peers k → Which (suc helpers) peers (suc (suc k))
    next (inl (h, low, is)) = inl (suc h, omega arith, omega arith)
    next (inr (inl (h, low, is))) = inr (inl (suc h, omega arith, omega arith))
    next (inr (inr (inl (n, low, is)))) = inr (inr (inl (n, low, omega arith)))
    next (inr (inr (inr is))) = inr (inr (inr (omega arith)))

-- a pass made entries
abbrev pub HasMade : Pass → Pass → Type 0
HasMade pass later = (made : List Entry) × Makes pass made later

-- a pass that made entries is of its gate
pub same_gate : (pass later : Pass) → HasMade pass later → later.gate ≡ pass.gate
same_gate pass later made = (still pass later made.0 made.1).3

-- what is left of the pass of a number, which made entries, in a history
record LeftBy (k : ℕ) (pass later : Pass) (seen : List (Signed Entry)) : Type 0 where
  pub name : pass.name ≡ child_name [] k
  pub none : own pass ≡ []
  pub left : (made : List Entry) → Makes pass made later → under (child_name [] k) seen ≡ made
  pub front : IsPrefix later.seen seen

-- a sink that came back by a pass's history came back by one that goes on from it
back_on : (writer : List ℕ) (h inc : ℕ) (ends : Ends) (name name' : List ℕ) (before made : List Entry)
    (seen seen' : List (Signed Entry)) → name ≡ name' → before ≡ [] → IsPrefix seen seen'
    → IsBackBy writer h inc ends name (before ++ made) seen → IsBackBy writer h inc ends name' made seen'
back_on writer h inc ends name name' before made seen seen' is none front back = record {
  sink = record {
    before = back.sink.before;
    front = prefix_trans back.sink.before seen seen' back.sink.front front;
    back = back.sink.back;
  };
  made_by_then =
      subst (λ it. IsPrefix (under it back.sink.before) made) is
      (subst (λ (it : List Entry). IsPrefix (under name back.sink.before) (it ++ made)) none back.made_by_then);
}

module _ {S : Type 0} (spawning : S → Spawning) (h : ℕ) (moments : Option (ℕ → Bool)) (old new : S)
    (pass later : Pass) where
  reader_made : (off : Bool) → ReaderDone spawning off h moments old new pass later → HasMade pass later
  reader_made false done = (_, done.reads.makes)
  reader_made true done = (_, done.0)

  reader_ends : (seen : List (Signed Entry)) (off : Bool) → LeftBy (h + h) pass later seen
      → ReaderDone spawning off h moments old new pass later
      → IfRun off (ReaderRan h moments (spawning old) (spawning new) seen)
      (IsCalledOff (reader_of h) seen × (spawning new ≡ spawning old))
  reader_ends seen false by done = record {
    rounds = done.reads.rounds;
    now = done.now;
    moment = done.moment;
    made = by.left _ done.reads.makes;
    good = done.reads.good;
    tells = done.reads.tells;
    back = λ front behind moment' inc run lines ends is.
        back_on (writer_of h) h inc ends pass.name (reader_of h) (own pass) _ later.seen seen by.name by.none by.front
        (done.reads.back front behind moment' inc run lines ends is);
  }
  reader_ends seen true by done = (by.left _ done.0, ap spawning done.1)

module _ (h : ℕ) (pass later : Pass) where
  replier_made : (off : Bool) → ReplierDone off h pass later → HasMade pass later
  replier_made false done = (_, done.1.makes)
  replier_made true (last, inl made) = (_, made.0)
  replier_made true (last, inr made) = (_, made.0)

  replier_ends : (seen : List (Signed Entry)) (off : Bool) → LeftBy (h + h + 1) pass later seen
      → ReplierDone off h pass later → IfRun off (ReplierRan h seen) (IsReplierOff h seen)
  replier_ends seen false by done = record {
    last = done.0;
    rounds = done.1.rounds;
    made = by.left _ done.1.makes;
    good = done.1.good;
    rises = done.1.rises;
  }
  replier_ends seen true by (last, inl made) = inl (by.left _ made.0)
  replier_ends seen true by (last, inr made) = inr (last, made.1, by.left _ made.0)

module _ {D : Type 0} (dialling : D → Dialling) (helpers n : ℕ) (old new : D) (pass later : Pass) where
  talker_made : (off : Bool) → TalkerDone dialling off n old new pass later → HasMade pass later
  talker_made false done = (_, done.makes)
  talker_made true done = (_, done.0)

  talker_ends : (seen : List (Signed Entry)) (off : Bool) → LeftBy (helpers + helpers + n) pass later seen
      → TalkerDone dialling off n old new pass later
      → IfRun off (TalkerRan helpers n (dialling old) (dialling new) seen)
      (IsCalledOff (talker_of helpers n) seen × (dialling new ≡ dialling old))
  talker_ends seen false by done = record {
    rounds = done.rounds;
    made = by.left _ done.makes;
    tells = done.tells;
    good = done.good;
  }
  talker_ends seen true by done = (by.left _ done.0, ap dialling done.1)

module _ {F : Type 0} (content : F → Option (List ℕ → List ℕ)) (faults : F → ℕ) (lent : F → Option ℕ)
    (path : List ℕ) (slots : Slots) (old new : F) (pass later : Pass) where
  keeper_made : (off : Bool) → KeeperDone content faults lent off path slots old new pass later → HasMade pass later
  keeper_made false done = (_, done.0.makes)
  keeper_made true done = (_, done.0)

  keeper_ends : (seen : List (Signed Entry)) (off : Bool)
      → LeftBy (slots.helpers + slots.helpers + slots.peers) pass later seen
      → KeeperDone content faults lent off path slots old new pass later
      → IfRun off (KeeperRan (content old) path slots (faults old) (faults new) seen)
      (IsCalledOff (keeper_of slots.helpers slots.peers) seen × (faults new ≡ faults old))
  keeper_ends seen false by done = record {
    rounds = done.0.rounds;
    made = by.left _ done.0.makes;
    filed = done.0.filed;
    counts = done.0.counts;
  }
  keeper_ends seen true by done = (by.left _ done.0, ap faults done.1)

  -- the files keep their content, and all that they opened came back
  pub keeper_files : (off : Bool) → KeeperDone content faults lent off path slots old new pass later
      → (content new ≡ content old) × LendsNone (lent old) (lent new)
  keeper_files false done = (done.1, done.2)
  keeper_files true done =
      (ap content done.1, subst (λ (it : F). LendsNone (lent old) (lent it)) (sym done.1) (lent_same (lent old)))

some_item : {X : Type 0} (xs : List X) (k : ℕ) → k < length xs → X
some_item [] k below = absurd (omega arith)
some_item (x ∷ xs) k below = x

module _ {F S D : Type 0} (content : F → Option (List ℕ → List ℕ)) (faults : F → ℕ) (lent : F → Option ℕ)
    (spawning : S → Spawning) (dialling : D → Dialling) (refused : ℕ → Bool) (moments : Option (ℕ → Bool))
    (path : List ℕ) (slots : Slots) (helpers helpers' : List S) (peers peers' : List D) (files files' : F)
    (passes passes' : List Pass)
    (done : JobsDone content faults lent spawning dialling refused moments path slots helpers helpers' peers peers'
    files files' passes passes')
    (helpers_are : length helpers ≡ slots.helpers) (helpers_back : length helpers' ≡ length helpers)
    (peers_are : length peers ≡ slots.peers) (peers_back : length peers' ≡ length peers) where
  pub made_at : (k : ℕ) (q : Pass) → k < workers slots.helpers slots.peers
      → HasMade (slice_index_or passes k q) (slice_index_or passes' k q)
  made_at k q below = of (which slots.helpers slots.peers k below)
    where
      of : Which slots.helpers slots.peers k → HasMade (slice_index_or passes k q) (slice_index_or passes' k q)
      of (inl (h, low, is)) =
          let s = some_item helpers h (omega arith) in
          subst (λ it. HasMade (slice_index_or passes it q) (slice_index_or passes' it q)) (sym is)
          (reader_made spawning h moments _ _ _ _ (refused (h + h)) (done.readers h s q low))
      of (inr (inl (h, low, is))) =
          subst (λ it. HasMade (slice_index_or passes it q) (slice_index_or passes' it q)) (sym is)
          (replier_made h _ _ (refused (h + h + 1)) (done.repliers h q low))
      of (inr (inr (inl (n, low, is)))) =
          let d = some_item peers n (omega arith) in
          subst (λ it. HasMade (slice_index_or passes it q) (slice_index_or passes' it q)) (sym is)
          (talker_made dialling slots.helpers n _ _ _ _ (refused (slots.helpers + slots.helpers + n))
          (done.talkers n d q low))
      of (inr (inr (inr is))) =
          subst (λ it. HasMade (slice_index_or passes it q) (slice_index_or passes' it q)) (sym is)
          (keeper_made content faults lent path slots files files' _ _
          (refused (slots.helpers + slots.helpers + slots.peers)) (done.keeper q))

  module _ (gate : TableId) (start : Sections) (opened later last : Pass) (is : opened ≡ first_known gate start)
      (many : IsMany opened (workers slots.helpers slots.peers) later passes)
      (all : IsAllJoined (λ start entries entry. Allows start (reverse entries) entry) later passes' last)
      (config : IsConfigAt (content files) path slots start) where
    news : AreNew gate (workers slots.helpers slots.peers) passes
    news = are_new gate start (workers slots.helpers slots.peers) opened later passes is many

    were : WereMade passes passes'
    were = (done.count, λ k q below. made_at k q (subst (λ n. k < n) news.count_is below))

    left_at : (k : ℕ) (q : Pass) → k < workers slots.helpers slots.peers
        → LeftBy k (slice_index_or passes k q) (slice_index_or passes' k q) last.seen
    left_at k q below = record {
      name = (news.each k q below).name;
      none = (news.each k q below).own;
      left = λ made makes.
          (made_by (λ start entries entry. Allows start (reverse entries) entry) gate start
          (workers slots.helpers slots.peers) opened later last passes passes' is many were all k q made below
          makes).0;
      front = (made_by (λ start entries entry. Allows start (reverse entries) entry) gate start
          (workers slots.helpers slots.peers) opened later last passes passes' is many were all k q _ below
          (made_at k q below).1).1;
    }

    pub is_run : IsRun refused (devices spawning dialling moments helpers peers (faults files))
        (devices spawning dialling moments helpers' peers' (faults files')) (content files) path slots last
    is_run = record {
      history = record {
        config = start;
        configured = config;
        start = same_start (λ start entries entry. Allows start (reverse entries) entry) gate start
            (workers slots.helpers slots.peers) opened later last passes passes' is many were all;
        legal = all_legal (λ start entries entry. Allows start (reverse entries) entry) gate start
            (workers slots.helpers slots.peers) opened later last passes passes' is many were all;
        named = all_named (λ start entries entry. Allows start (reverse entries) entry) gate start
            (workers slots.helpers slots.peers) opened later last passes passes' is many were all;
      };
      readers = λ h low.
          let s = some_item helpers h (omega arith) in
          subst (λ (told : Spawning). IfRun (refused (h + h))
          (ReaderRan h moments told (spawning_at (devices spawning dialling moments helpers' peers'
          (faults files')) h) last.seen)
          (IsCalledOff (reader_of h) last.seen × (spawning_at (devices spawning dialling moments helpers' peers'
          (faults files')) h ≡ told)))
          (sym (get_or-map spawning helpers h s (spawning_told None None None) (omega arith)))
          (subst (λ (told : Spawning). IfRun (refused (h + h))
          (ReaderRan h moments (spawning (slice_index_or helpers h s)) told last.seen)
          (IsCalledOff (reader_of h) last.seen × (told ≡ spawning (slice_index_or helpers h s))))
          (sym (get_or-map spawning helpers' h s (spawning_told None None None) (omega arith)))
          (reader_ends spawning h moments _ _ _ _ last.seen (refused (h + h)) (left_at (h + h) last (omega arith))
          (done.readers h s last low)));
      repliers = λ h low.
          replier_ends h _ _ last.seen (refused (h + h + 1)) (left_at (h + h + 1) last (omega arith))
          (done.repliers h last low);
      talkers = λ n low.
          let d = some_item peers n (omega arith) in
          subst (λ (told : Dialling). IfRun (refused (slots.helpers + slots.helpers + n))
          (TalkerRan slots.helpers n told (dialling_at (devices spawning dialling moments helpers' peers'
          (faults files')) n) last.seen)
          (IsCalledOff (talker_of slots.helpers n) last.seen
          × (dialling_at (devices spawning dialling moments helpers' peers' (faults files')) n ≡ told)))
          (sym (get_or-map dialling peers n d (dialling_told None None None) (omega arith)))
          (subst (λ (told : Dialling). IfRun (refused (slots.helpers + slots.helpers + n))
          (TalkerRan slots.helpers n (dialling (slice_index_or peers n d)) told last.seen)
          (IsCalledOff (talker_of slots.helpers n) last.seen × (told ≡ dialling (slice_index_or peers n d))))
          (sym (get_or-map dialling peers' n d (dialling_told None None None) (omega arith)))
          (talker_ends dialling slots.helpers n _ _ _ _ last.seen (refused (slots.helpers + slots.helpers + n))
          (left_at (slots.helpers + slots.helpers + n) last (omega arith)) (done.talkers n d last low)));
      keeper =
          keeper_ends content faults lent path slots files files' _ _ last.seen
          (refused (slots.helpers + slots.helpers + slots.peers))
          (left_at (slots.helpers + slots.helpers + slots.peers) last (omega arith)) (done.keeper last);
    }

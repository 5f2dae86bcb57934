-- How a run of the daemon ends.
use Rattle.std.proofs.Common.{◌≡◌, ℕ, ◌+◌, ◌<◌, ◌≤◌, Bool, true, false, List, Option, Some, None, refl, sym, ap}
use Rattle.std.proofs.Common.{subst, ◌∙◌, arith, length}
use Rattle.std.specs.Prelude.{All, IfNone, IfSome, slice_index_or}
use Rattle.outside.specs.Lent.{LendsNone}
use Rattle.outside.specs.Opening.{IsContent}
use Rattle.outside.specs.Refusals.{Refusals, is_refused}
use Rattle.outside.specs.Told.{CountsOne, Rose}
use Rattle.config_model.specs.Limits.{max_helpers, max_peers}
use Rattle.config_model.specs.Sections.{Sections}
use Rattle.config_model.specs.declared.slots.Slots.{Slots}
use Rattle.config_files.specs.Configured.{IsConfigAt, IsNoneAt}
use Rattle.book_gate.specs.Known.{TableId, first_known}
use Rattle.book_gate_many.specs.Many.{IsMany}
use Rattle.book_history.specs.declared.outcomes.NotRead.{NotRead}
use Rattle.book_history.specs.declared.outcomes.NotRead.TheVariants as not_read
use Rattle.control_worker.proofs.LentLemmas.{lent_same}
use Rattle.crew.specs.Crews.{RefusesNone, RefusesOne}
use Rattle.helper_worker.specs.Rounds.{Told as Spawning}
use Rattle.peer_worker.specs.Rounds.{Told as Dialling}
use Rattle.script_play.specs.declared.status.Status.{Status}
use Rattle.script_play.specs.declared.status.Status.TheVariants as status
use Rattle.daemon.specs.Done.{JobsDone, Pass}
use Rattle.daemon.specs.Ending.{AreSlots, EndsAs, HasRunOf, IsKept, IsLastOf, status_by, status_for, workers_for}
use Rattle.daemon.specs.Laid.{HaveSame, IsFull}
use Rattle.daemon.specs.Names.{workers}
use Rattle.daemon.specs.Runs.{IsRun, devices}
use Rattle.daemon.specs.declared.stock.Stock.{Stock}
use Rattle.daemon.specs.declared.world.World.{World}
use Rattle.daemon.proofs.JoinedLemmas.{AreNew, are_new}
use Rattle.daemon.proofs.RanLemmas.{is_run, keeper_files, made_at, same_gate}

module _ {F S D C P E : Type 0} where
  -- a world of which the files alone changed is kept
  pub kept_by_files : (old : World F S D C P E) (files' : F) → IsKept old (record old { files = files' })
  kept_by_files old files' = record { helpers = refl; peers = refl; ears = refl; crew = refl; last = refl }

module _ {S D E : Type 0} where
  -- a stock of new passes and of the devices of all slots is full
  pub full : (gate : TableId) (stock : Stock S D E) (helpers peers : ℕ)
      → AreNew gate (workers helpers peers) stock.passes.items
      → helpers ≡ length stock.helpers.items → peers ≡ length stock.peers.items
      → length stock.helpers.items ≤ max_helpers
      → length stock.peers.items ≤ max_peers → length stock.ears.items ≡ length stock.peers.items → IsFull gate stock
  full gate stock helpers peers new helpers_are peers_are few many ears = record {
    few_helpers = few;
    few_peers = many;
    an_ear_each = ears;
    a_pass_each = omega (arith, new.count_is, helpers_are, peers_are);
    fresh = λ k d below. let it = new.each k d (omega (arith, new.count_is, below)) in
        record { gate_is = it.gate_is; name_is = it.name; none_own = it.own };
  }

module _ {F S D C P E : Type 0} (content : F → Option (List ℕ → List ℕ)) (faults : F → ℕ) (spawning : S → Spawning)
    (dialling : D → Dialling) (moments : C → Option (ℕ → Bool)) where
  -- a configuration that wasn't read
  unread_for : (path : List ℕ) (old : World F S D C P E) (files' : F) (slots : Slots) (why : NotRead)
      → AreSlots slots old → IsNoneAt (content old.files) path slots why
      → (why ≡ not_read.ReadFault → CountsOne (faults old.files) (faults files'))
      → ((why ≡ not_read.ReadFault → ⊥) → faults files' ≡ faults old.files)
      → EndsAs content faults spawning dialling moments path old (status_for why) (record old { files = files' })
  unread_for path old files' slots not_read.ReadFault are none counts same = (kept_by_files old files', counts refl)
  unread_for path old files' slots (not_read.Refused fault) are none counts same =
      (kept_by_files old files', same (λ is. cc), (slots, are, none))
  unread_for path old files' slots not_read.NoMemory are none counts same =
      (kept_by_files old files', same (λ is. cc))

  pub unread : (path : List ℕ) (old : World F S D C P E) (files' : F) (slots : Slots) (why : NotRead) (ends : Status)
      → ends ≡ status_for why → AreSlots slots old → IsNoneAt (content old.files) path slots why
      → (why ≡ not_read.ReadFault → CountsOne (faults old.files) (faults files'))
      → ((why ≡ not_read.ReadFault → ⊥) → faults files' ≡ faults old.files)
      → EndsAs content faults spawning dialling moments path old ends (record old { files = files' })
  unread path old files' slots why ends is are none counts same =
      subst (λ (it : Status). EndsAs content faults spawning dialling moments path old it
      (record old { files = files' }))
      (sym is) (unread_for path old files' slots why are none counts same)

  -- what came of a world whose files had been read from came of it as it was
  pub ends_on : (path : List ℕ) (old : World F S D C P E) (files' : F) (ends : Status) (new : World F S D C P E)
      → content files' ≡ content old.files → faults files' ≡ faults old.files
      → EndsAs content faults spawning dialling moments path (record old { files = files' }) ends new
      → EndsAs content faults spawning dialling moments path old ends new
  ends_on path old files' ends new told counts is =
      at_status ends is
    where
      run_on : HasRunOf content faults spawning dialling moments path (record old { files = files' }) new
          → HasRunOf content faults spawning dialling moments path old new
      run_on run = record {
        slots = run.slots;
        slots_are = run.slots_are;
        last = run.last;
        last_is = run.last_is;
        run =
            subst (λ (given : Option (List ℕ → List ℕ)). IsRun (is_refused old.crew)
            (devices spawning dialling (moments old.clock) old.helpers.items old.peers.items (faults old.files))
            (devices spawning dialling (moments old.clock) new.helpers.items new.peers.items (faults new.files))
            given path run.slots run.last) told
            (subst (λ (count : ℕ). IsRun (is_refused old.crew)
            (devices spawning dialling (moments old.clock) old.helpers.items old.peers.items count)
            (devices spawning dialling (moments old.clock) new.helpers.items new.peers.items (faults new.files))
            (content files') path run.slots run.last) counts run.run);
      }

      kept_on : IsKept (record old { files = files' }) new → IsKept old new
      kept_on kept = record {
        helpers = kept.helpers;
        peers = kept.peers;
        ears = kept.ears;
        crew = kept.crew;
        last = kept.last;
      }

      at_status : (ends : Status) → EndsAs content faults spawning dialling moments path
          (record old { files = files' }) ends new
          → EndsAs content faults spawning dialling moments path old ends new
      at_status status.Ok (run, none) = (run_on run, none)
      at_status status.NoCrew (run, one, rose) = (run_on run, one, rose)
      at_status status.ConfigRead (kept, one) =
          (kept_on kept, subst (λ (was : ℕ). CountsOne was (faults new.files)) counts one)
      at_status (status.ConfigRefused fault) (kept, same, (slots, are, fault_is)) = (
        kept_on kept,
        same ∙ counts,
        (
          slots,
          are,
          record {
            bytes = fault_is.bytes;
            are = subst (λ (given : Option (List ℕ → List ℕ)). IsContent given path fault_is.bytes) told fault_is.are;
            first = fault_is.first;
          },
        ),
      )
      at_status status.NoMemory (kept, same) = (kept_on kept, same ∙ counts)
      at_status _ is = absurd is

  module _ (lent : F → Option ℕ) (path : List ℕ) (old : World F S D C P E) (slots : Slots) (gate : TableId)
      (start : Sections) (opened later : Pass) (passes passes' : List Pass) (are : AreSlots slots old)
      (is : opened ≡ first_known gate start) (config : IsConfigAt (content old.files) path slots start)
      (many : IsMany opened (workers slots.helpers slots.peers) later passes) where
    abbrev AreDone : List S → List D → F → Type 0
    AreDone helpers' peers' files' =
        JobsDone content faults lent spawning dialling (is_refused old.crew) (moments old.clock) path slots
        old.helpers.items helpers' old.peers.items peers' old.files files' passes passes'

    -- the passes that come back are of the gate
    pub gates_back : (helpers' : List S) (peers' : List D) (files' : F) → length helpers' ≡ length old.helpers.items
        → length peers' ≡ length old.peers.items → (all : Option Bool) → IfNone all (passes' ≡ passes)
        → IfSome all (λ every. AreDone helpers' peers' files') → All (λ other. other.gate ≡ gate) passes'
    gates_back helpers' peers' files' helpers_back peers_back None same done k d below =
        let fresh = are_new gate start (workers slots.helpers slots.peers) opened later passes is many in
        subst (λ (list : List Pass). (slice_index_or list k d).gate ≡ gate) (sym same)
        (fresh.each k d (omega (arith, ap length same, below, fresh.count_is))).gate_is
    gates_back helpers' peers' files' helpers_back peers_back (Some every) same done k d below =
        let fresh = are_new gate start (workers slots.helpers slots.peers) opened later passes is many in
        let low : k < workers slots.helpers slots.peers = omega (arith, done.count, below, fresh.count_is) in
        same_gate _ _ (made_at content faults lent spawning dialling (is_refused old.crew)
        (moments old.clock) path slots
        old.helpers.items helpers' old.peers.items peers' old.files files' passes passes' done
        (sym are.0) helpers_back (sym are.1) peers_back k d low) ∙ (fresh.each k d low).gate_is

    -- the files come back
    pub files_back : (helpers' : List S) (peers' : List D) (files' : F) (all : Option Bool)
        → IfNone all (files' ≡ old.files) → IfSome all (λ every. AreDone helpers' peers' files')
        → (content files' ≡ content old.files) × LendsNone (lent old.files) (lent files')
    files_back helpers' peers' files' None same done = (
      ap content same,
      subst (λ (it : F). LendsNone (lent old.files) (lent it)) (sym same) (lent_same
          (lent old.files)),
    )
    files_back helpers' peers' files' (Some every) same done =
        keeper_files content faults lent path slots old.files files' _ _
        (is_refused old.crew (slots.helpers + slots.helpers + slots.peers)) (done.keeper opened)

    count_is : workers slots.helpers slots.peers ≡ workers_for old
    count_is = omega (arith, are.0, are.1)

    module _ (new : World F S D C P E) (helpers_back : length new.helpers.items ≡ length old.helpers.items)
        (peers_back : length new.peers.items ≡ length old.peers.items) where
      ran : AreDone new.helpers.items new.peers.items new.files → IsLastOf later passes' new.last
          → HasRunOf content faults spawning dialling moments path old new
      ran done joined = record {
        slots = slots;
        slots_are = are;
        last = joined.0;
        last_is = joined.1;
        run =
            is_run content faults lent spawning dialling (is_refused old.crew) (moments old.clock) path slots
            old.helpers.items new.helpers.items old.peers.items new.peers.items old.files new.files passes passes' done
            (sym are.0) helpers_back (sym are.1) peers_back gate start opened later joined.0 is many joined.2 config;
      }

      -- how the run ends
      ended_by : (all : Option Bool)
          → IfNone all ((new.helpers.items ≡ old.helpers.items) × (new.peers.items ≡ old.peers.items)
          × (new.ears.items ≡ old.ears.items) × (new.files ≡ old.files) × (new.crew ≡ old.crew))
          → IfNone all (new.last ≡ old.last)
          → IfSome all (λ every. AreDone new.helpers.items new.peers.items new.files)
          → IfSome all (λ every. every ≡ true → RefusesNone old.crew (workers slots.helpers slots.peers))
          → IfSome all (λ every. every ≡ false → RefusesOne old.crew (workers slots.helpers slots.peers)
          × Rose old.crew.faults new.crew.faults)
          → IfSome all (λ every. IsLastOf later passes' new.last)
          → EndsAs content faults spawning dialling moments path old (status_by all) new
      ended_by None same last done none one joined =
          (record { helpers = same.0; peers = same.1; ears = same.2; crew = same.4; last = last }, ap faults same.3)
      ended_by (Some true) same last done none one joined =
          (ran done joined, subst (RefusesNone old.crew) count_is (none refl))
      ended_by (Some false) same last done none one joined =
          let refused = one refl in
          (ran done joined, subst (RefusesOne old.crew) count_is refused.0, refused.1)

      pub ended : (all : Option Bool) (ends : Status) → ends ≡ status_by all
          → IfNone all ((new.helpers.items ≡ old.helpers.items) × (new.peers.items ≡ old.peers.items)
          × (new.ears.items ≡ old.ears.items) × (new.files ≡ old.files) × (new.crew ≡ old.crew))
          → IfNone all (new.last ≡ old.last)
          → IfSome all (λ every. AreDone new.helpers.items new.peers.items new.files)
          → IfSome all (λ every. every ≡ true → RefusesNone old.crew (workers slots.helpers slots.peers))
          → IfSome all (λ every. every ≡ false → RefusesOne old.crew (workers slots.helpers slots.peers)
          × Rose old.crew.faults new.crew.faults)
          → IfSome all (λ every. IsLastOf later passes' new.last)
          → EndsAs content faults spawning dialling moments path old ends new
      ended all ends it_is same last done none one joined =
          subst (λ (it : Status). EndsAs content faults spawning dialling moments path old it new) (sym it_is)
          (ended_by all same last done none one joined)

-- what a stock, files and a plan are where there was no memory
module _ {S D E F : Type 0} (s s' : Stock S D E) (files files' : F) (crew crew' : Refusals) where
  pub same_passes : (all : Option Bool) → IfNone all (HaveSame s s' × (files' ≡ files) × (crew' ≡ crew))
      → IfNone all (s'.passes.items ≡ s.passes.items)
  same_passes None same = same.0.same_passes
  same_passes (Some every) same = tt

  pub same_files : (all : Option Bool) → IfNone all (HaveSame s s' × (files' ≡ files) × (crew' ≡ crew))
      → IfNone all (files' ≡ files)
  same_files None same = same.1
  same_files (Some every) same = tt

  pub same_all : (all : Option Bool) → IfNone all (HaveSame s s' × (files' ≡ files) × (crew' ≡ crew))
      → IfNone all ((s'.helpers.items ≡ s.helpers.items) × (s'.peers.items ≡ s.peers.items)
      × (s'.ears.items ≡ s.ears.items) × (files' ≡ files) × (crew' ≡ crew))
  same_all None same = (same.0.same_helpers, same.0.same_peers, same.0.same_ears, same.1, same.2)
  same_all (Some every) same = tt

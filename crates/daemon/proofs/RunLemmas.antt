-- From a full stock over its jobs' work to a full stock again.
use Rattle.std.proofs.Common.{ℕ, ◌≡◌, ◌++◌, ◌∙◌, Bool, List, [], ◌∷◌, length, sym, ap, ap₂, subst}
use Rattle.std.specs.declared.option.Option.{Option}
use Rattle.config_model.specs.declared.slots.Slots.{Slots}
use Rattle.book_gate.specs.Known.{TableId}
use Rattle.helper_worker.specs.Rounds.{Told as Spawning}
use Rattle.peer_worker.specs.Rounds.{Told as Dialling}
use Rattle.crew.specs.Jobs.{Job}
use Rattle.crew.specs.Works.{AllGo}
use Rattle.daemon.specs.Done.{JobsDone}
use Rattle.daemon.specs.Laid.{AreWhole, Gains, HasRoom, IsFull, IsLaid, IsUsedUp, dialers, ears, files_of, passes}
use Rattle.daemon.specs.Laid.{spawners}
use Rattle.daemon.specs.Names.{workers}
use Rattle.daemon.specs.declared.stock.Stock.{Stock}
use Rattle.daemon.proofs.DoneLemmas.{all_alike, jobs_done}
use Rattle.daemon.proofs.GoneLemmas.{SameCounts, alike_counts, helpers_whole, laid_count, laid_devices, room_again}

-- a list that was empty has just what it gained
only_gained : {A : Type 0} (left got all : List A) → left ≡ [] → all ≡ left ++ got → all ≡ got
only_gained left got all none is = is ∙ ap (λ front. front ++ got) none

module _ {F S D E C : Type 0} (content : F → Option (List ℕ → List ℕ)) (faults : F → ℕ) (lent : F → Option ℕ)
    (spawning : S → Spawning) (dialling : D → Dialling) (moments : C → Option (ℕ → Bool)) (refused : ℕ → Bool)
    (clock : C) (path : List ℕ) (slots : Slots) (files : F) (full used : Stock S D E) (olds news : List (Job F S D E C))
    (laid : IsLaid files path slots clock full.peers.items full.ears.items full.helpers.items olds full.passes.items)
    (go : AllGo content faults lent spawning dialling moments refused 0 olds news) where
  pub gone_whole : AreWhole news
  gone_whole =
      helpers_whole content faults lent spawning dialling moments refused clock path slots files full.peers.items
      full.ears.items 0 0 full.helpers.items olds news full.passes.items laid go

  gone_counts : SameCounts olds news
  gone_counts = alike_counts olds news (all_alike content faults lent spawning dialling moments refused 0 olds news go)

  pub gone_room : HasRoom used olds → HasRoom used news
  gone_room room = room_again used olds news gone_counts room

  module _ (last : Stock S D E) (none : IsUsedUp used) (gains : Gains used news last) where
    helpers_are : last.helpers.items ≡ spawners news
    helpers_are = only_gained used.helpers.items (spawners news) last.helpers.items none.no_helpers gains.of_helpers

    peers_are : last.peers.items ≡ dialers news
    peers_are = only_gained used.peers.items (dialers news) last.peers.items none.no_peers gains.of_peers

    ears_are : last.ears.items ≡ ears news
    ears_are = only_gained used.ears.items (ears news) last.ears.items none.no_ears gains.of_ears

    passes_are : last.passes.items ≡ passes news
    passes_are = only_gained used.passes.items (passes news) last.passes.items none.no_passes gains.of_passes

    -- what was handed over came back
    pub run_done : (files' : F) → slots.helpers ≡ length full.helpers.items → slots.peers ≡ length full.peers.items
        → files_of news ≡ files' ∷ []
        → JobsDone content faults lent spawning dialling refused (moments clock) path slots full.helpers.items
        last.helpers.items full.peers.items last.peers.items files files' full.passes.items last.passes.items
    run_done files' many few back =
        subst (λ it. JobsDone content faults lent spawning dialling refused
        (moments clock) path slots full.helpers.items it
        full.peers.items last.peers.items files files' full.passes.items last.passes.items) (sym helpers_are)
        (subst (λ it. JobsDone content faults lent spawning dialling refused
        (moments clock) path slots full.helpers.items
        (spawners news) full.peers.items it files files' full.passes.items last.passes.items) (sym peers_are)
        (subst (λ it. JobsDone content faults lent spawning dialling refused
        (moments clock) path slots full.helpers.items
        (spawners news) full.peers.items (dialers news) files files' full.passes.items it) (sym passes_are)
        (jobs_done content faults lent spawning dialling moments refused clock path slots files files'
        full.helpers.items
        full.peers.items full.ears.items olds news full.passes.items many few laid go back)))

    were : (spawners olds ≡ full.helpers.items) × (dialers olds ≡ full.peers.items) × (ears olds ≡ full.ears.items)
    were = laid_devices files path slots clock full.peers.items full.ears.items 0 full.helpers.items olds
        full.passes.items laid

    pub as_many_helpers : length last.helpers.items ≡ length full.helpers.items
    as_many_helpers = ap length helpers_are ∙ (gone_counts.of_spawners ∙ ap length were.0)

    pub as_many_peers : length last.peers.items ≡ length full.peers.items
    as_many_peers = ap length peers_are ∙ (gone_counts.of_dialers ∙ ap length were.1)

    pub as_many_ears : length last.ears.items ≡ length full.ears.items
    as_many_ears = ap length ears_are ∙ (gone_counts.of_ears ∙ ap length were.2)

module _ {F S D E C : Type 0} (clock : C) (path : List ℕ) (slots : Slots) (files : F) (gate : TableId)
    (full : Stock S D E) (jobs : List (Job F S D E C)) where
  -- there are as many jobs as workers for the slots
  pub all_jobs : (count : ℕ) → length jobs ≡ count → IsFull gate full → slots.helpers ≡ length full.helpers.items
      → slots.peers ≡ length full.peers.items
      → IsLaid files path slots clock full.peers.items full.ears.items full.helpers.items jobs full.passes.items
      → count ≡ workers slots.helpers slots.peers
  all_jobs count is whole many few laid =
      sym is ∙ (laid_count files path slots clock full.peers.items full.ears.items 0 full.helpers.items jobs
      full.passes.items
      laid ∙ (whole.a_pass_each ∙ ap₂ workers (sym many) (sym few)))

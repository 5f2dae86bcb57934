-- Jobs that have gone can be taken apart again, into the room that there was.
use Rattle.std.proofs.Common.{ℕ, ◌≡◌, ◌+◌, ◌++◌, ◌≤◌, ◌∙◌, Bool, suc, List, [], ◌∷◌, length, sym, ap, subst, refl}
use Rattle.std.proofs.Common.{length-append, arith}
use Rattle.std.specs.List.{AllZip}
use Rattle.std.specs.Vec.{vec_capacity}
use Rattle.std.specs.declared.option.Option.{Option}
use Rattle.config_model.specs.declared.slots.Slots.{Slots}
use Rattle.helper_worker.specs.Rounds.{Told as Spawning}
use Rattle.peer_worker.specs.Rounds.{Told as Dialling}
use Rattle.crew.specs.Jobs.{Job}
use Rattle.crew.specs.Jobs.Job.{Keeps, Reads, Replies, Talks}
use Rattle.crew.specs.Works.{AllGo, Goes}
use Rattle.daemon.specs.Done.{Pass}
use Rattle.daemon.specs.Laid.{AreWhole, HasRoom, HelpersLaid, IsAlike, KeeperLaid, TalkersLaid, dialer_in, dialers}
use Rattle.daemon.specs.Laid.{ear_in, ears, pass_in, passes, spawner_in, spawners}
use Rattle.daemon.specs.declared.stock.Stock.{Stock}
use Rattle.daemon.proofs.DoneLemmas.{keeper_ended, reader_ended, replier_ended, talker_ended}

-- one list in front of another is as long as both
both : {A : Type 0} (x y xs ys : List A) → length (y ++ []) ≡ length (x ++ []) → length ys ≡ length xs
    → length (y ++ ys) ≡ length (x ++ xs)
both x y xs ys first rest =
    omega (arith, first, rest, length-append x xs, length-append y ys, length-append x [], length-append y [])

module _ {F S D E C : Type 0} where
  -- jobs have as many devices of each kind, and passes, as others
  pub record SameCounts (olds news : List (Job F S D E C)) : Type 0 where
    pub of_spawners : length (spawners news) ≡ length (spawners olds)
    pub of_dialers : length (dialers news) ≡ length (dialers olds)
    pub of_ears : length (ears news) ≡ length (ears olds)
    pub of_passes : length (passes news) ≡ length (passes olds)

  alike_one : (old new : Job F S D E C) → IsAlike old new → SameCounts (old ∷ []) (new ∷ [])
  alike_one (Reads _ _ _ _) (Reads _ _ _ _) is =
      record { of_spawners = refl; of_dialers = refl; of_ears = refl; of_passes = refl }
  alike_one (Replies _ _ _) (Replies _ _ _) is =
      record { of_spawners = refl; of_dialers = refl; of_ears = refl; of_passes = refl }
  alike_one (Talks _ _ _ _) (Talks _ _ _ _) is =
      record { of_spawners = refl; of_dialers = refl; of_ears = refl; of_passes = refl }
  alike_one (Keeps _ _ _ _) (Keeps _ _ _ _) is =
      record { of_spawners = refl; of_dialers = refl; of_ears = refl; of_passes = refl }
  alike_one _ _ is = absurd is

  pub alike_counts : (olds news : List (Job F S D E C)) → AllZip IsAlike olds news → SameCounts olds news
  alike_counts [] [] alike = record { of_spawners = refl; of_dialers = refl; of_ears = refl; of_passes = refl }
  alike_counts [] (new ∷ news) alike = absurd alike
  alike_counts (old ∷ olds) [] alike = absurd alike
  alike_counts (old ∷ olds) (new ∷ news) alike =
      let one = alike_one old new alike.0 in
      let rest = alike_counts olds news alike.1 in
      record {
        of_spawners = both (spawner_in old) (spawner_in new) (spawners olds)
            (spawners news) one.of_spawners rest.of_spawners;
        of_dialers = both (dialer_in old) (dialer_in new) (dialers olds) (dialers news) one.of_dialers rest.of_dialers;
        of_ears = both (ear_in old) (ear_in new) (ears olds) (ears news) one.of_ears rest.of_ears;
        of_passes = both (pass_in old) (pass_in new) (passes olds) (passes news) one.of_passes rest.of_passes;
      }

  -- where there was room for jobs there is room for others that have as much
  pub room_again : (stock : Stock S D E) (olds news : List (Job F S D E C)) → SameCounts olds news
      → HasRoom stock olds → HasRoom stock news
  room_again stock olds news same room =
      record {
        for_helpers = subst (λ n. length stock.helpers.items + n ≤ vec_capacity stock.helpers)
            (sym same.of_spawners) room.for_helpers;
        for_peers = subst (λ n. length stock.peers.items + n ≤ vec_capacity stock.peers)
            (sym same.of_dialers) room.for_peers;
        for_ears = subst (λ n. length stock.ears.items + n ≤ vec_capacity stock.ears) (sym same.of_ears) room.for_ears;
        for_passes = subst (λ n. length stock.passes.items + n ≤ vec_capacity stock.passes)
            (sym same.of_passes) room.for_passes;
      }

module _ {F S D E C : Type 0} (content : F → Option (List ℕ → List ℕ)) (faults : F → ℕ) (lent : F → Option ℕ)
    (spawning : S → Spawning) (dialling : D → Dialling) (moments : C → Option (ℕ → Bool)) (refused : ℕ → Bool)
    (clock : C) (path : List ℕ) (slots : Slots) (files : F) where
  keeper_whole : (i : ℕ) (olds news : List (Job F S D E C)) (given : List Pass) → KeeperLaid files path slots olds given
      → AllGo content faults lent spawning dialling moments refused i olds news → AreWhole news
  keeper_whole i olds news given laid go =
      alone news (subst (λ it. AllGo content faults lent spawning dialling moments refused i it news) laid.1 go)
    where
      alone : (news : List (Job F S D E C))
          → AllGo content faults lent spawning dialling moments refused i (Keeps files path slots laid.0 ∷ []) news
          → AreWhole news
      alone (new ∷ []) go =
          let k = keeper_ended content faults lent spawning dialling moments
          (refused i) path slots files laid.0 new go.0 in
          subst (λ it. AreWhole (it ∷ [])) (sym k.is) tt
      alone [] go = absurd go
      alone (new ∷ other ∷ news) go = absurd go.1

  talkers_whole : (n i : ℕ) (ds : List D) (es : List E) (olds news : List (Job F S D E C)) (given : List Pass)
      → TalkersLaid files path slots n ds es olds given
      → AllGo content faults lent spawning dialling moments refused i olds news → AreWhole news
  talkers_whole n i [] [] olds news given laid go = keeper_whole i olds news given laid go
  talkers_whole n i (d ∷ ds) (e ∷ es) (old ∷ olds) (new ∷ news) (pass ∷ given) laid go =
      let t = talker_ended content faults lent spawning dialling moments (refused i) n d e pass new
      (subst (λ it. Goes content faults lent spawning dialling moments (refused i) it new) laid.0 go.0) in
      subst (λ it. AreWhole (it ∷ news)) (sym t.is) (talkers_whole (suc n) (suc i) ds es olds news given laid.1 go.1)
  talkers_whole n i [] (e ∷ es) olds news given laid go = absurd laid
  talkers_whole n i (d ∷ ds) [] olds news given laid go = absurd laid
  talkers_whole n i (d ∷ ds) (e ∷ es) [] news given laid go = absurd laid
  talkers_whole n i (d ∷ ds) (e ∷ es) (old ∷ olds) [] given laid go = absurd go
  talkers_whole n i (d ∷ ds) (e ∷ es) (old ∷ olds) (new ∷ news) [] laid go = absurd laid

  -- jobs that were laid out and have gone can be taken apart
  pub helpers_whole : (ds : List D) (es : List E) (h i : ℕ) (ss : List S) (olds news : List (Job F S D E C))
      (given : List Pass) → HelpersLaid files path slots clock ds es h ss olds given
      → AllGo content faults lent spawning dialling moments refused i olds news → AreWhole news
  helpers_whole ds es h i [] olds news given laid go = talkers_whole 0 i ds es olds news given laid go
  helpers_whole ds es h i (s ∷ ss) (old ∷ other ∷ olds) (new ∷ next ∷ news) (pass ∷ behind ∷ given) laid go =
      let r = reader_ended content faults lent spawning dialling moments (refused i) h s clock pass new
      (subst (λ it. Goes content faults lent spawning dialling moments (refused i) it new) laid.0 go.0) in
      let w = replier_ended content faults lent spawning dialling moments (refused (suc i)) h behind next
      (subst (λ it. Goes content faults lent spawning dialling moments (refused (suc i)) it next) laid.1 go.1.0) in
      subst (λ it. AreWhole (it ∷ next ∷ news)) (sym r.is)
      (subst (λ it. AreWhole (Reads r.slot r.spawner' r.clock' r.later ∷ it ∷ news)) (sym w.is)
      (helpers_whole ds es (suc h) (suc (suc i)) ss olds news given laid.2 go.1.1))
  helpers_whole ds es h i (s ∷ ss) [] news given laid go = absurd laid
  helpers_whole ds es h i (s ∷ ss) (old ∷ []) news given laid go = absurd laid
  helpers_whole ds es h i (s ∷ ss) (old ∷ other ∷ olds) news [] laid go = absurd laid
  helpers_whole ds es h i (s ∷ ss) (old ∷ other ∷ olds) news (pass ∷ []) laid go = absurd laid
  helpers_whole ds es h i (s ∷ ss) (old ∷ other ∷ olds) [] (pass ∷ behind ∷ given) laid go = absurd go
  helpers_whole ds es h i (s ∷ ss) (old ∷ other ∷ olds) (new ∷ []) (pass ∷ behind ∷ given) laid go = absurd go.1

-- jobs that are laid out are as many as their passes
keeper_laid_count : {F S D E C : Type 0} (files : F) (path : List ℕ) (slots : Slots) (jobs : List (Job F S D E C))
    (given : List Pass) → KeeperLaid files path slots jobs given → length jobs ≡ length given
keeper_laid_count files path slots jobs given laid = ap length laid.1 ∙ sym (ap length laid.2)

module _ {F S D E C : Type 0} (files : F) (path : List ℕ) (slots : Slots) where
  talkers_laid_count : (n : ℕ) (ds : List D) (es : List E) (jobs : List (Job F S D E C)) (given : List Pass)
      → TalkersLaid files path slots n ds es jobs given → length jobs ≡ length given
  talkers_laid_count n [] [] jobs given laid = keeper_laid_count files path slots jobs given laid
  talkers_laid_count n (d ∷ ds) (e ∷ es) (job ∷ jobs) (pass ∷ given) laid =
      ap suc (talkers_laid_count (suc n) ds es jobs given laid.1)
  talkers_laid_count n [] (e ∷ es) jobs given laid = absurd laid
  talkers_laid_count n (d ∷ ds) [] jobs given laid = absurd laid
  talkers_laid_count n (d ∷ ds) (e ∷ es) [] given laid = absurd laid
  talkers_laid_count n (d ∷ ds) (e ∷ es) (job ∷ jobs) [] laid = absurd laid

  pub laid_count : (clock : C) (ds : List D) (es : List E) (h : ℕ) (ss : List S) (jobs : List (Job F S D E C))
      (given : List Pass) → HelpersLaid files path slots clock ds es h ss jobs given → length jobs ≡ length given
  laid_count clock ds es h [] jobs given laid = talkers_laid_count 0 ds es jobs given laid
  laid_count clock ds es h (s ∷ ss) (job ∷ other ∷ jobs) (pass ∷ behind ∷ given) laid =
      ap (λ n. suc (suc n)) (laid_count clock ds es (suc h) ss jobs given laid.2)
  laid_count clock ds es h (s ∷ ss) [] given laid = absurd laid
  laid_count clock ds es h (s ∷ ss) (job ∷ []) given laid = absurd laid
  laid_count clock ds es h (s ∷ ss) (job ∷ other ∷ jobs) [] laid = absurd laid
  laid_count clock ds es h (s ∷ ss) (job ∷ other ∷ jobs) (pass ∷ []) laid = absurd laid

  -- and they have just these devices
  keeper_devices : (jobs : List (Job F S D E C)) (given : List Pass) → KeeperLaid files path slots jobs given
      → (spawners jobs ≡ []) × (dialers jobs ≡ []) × (ears jobs ≡ [])
  keeper_devices jobs given laid =
      subst (λ it. (spawners it ≡ []) × (dialers it ≡ []) × (ears it ≡ [])) (sym laid.1) (refl, refl, refl)

  talkers_devices : (n : ℕ) (ds : List D) (es : List E) (jobs : List (Job F S D E C)) (given : List Pass)
      → TalkersLaid files path slots n ds es jobs given
      → (spawners jobs ≡ []) × (dialers jobs ≡ ds) × (ears jobs ≡ es)
  talkers_devices n [] [] jobs given laid = keeper_devices jobs given laid
  talkers_devices n (d ∷ ds) (e ∷ es) (job ∷ jobs) (pass ∷ given) laid =
      let rest = talkers_devices (suc n) ds es jobs given laid.1 in
      subst (λ it. (spawners (it ∷ jobs) ≡ []) × (dialers (it ∷ jobs) ≡ d ∷ ds)
      × (ears (it ∷ jobs) ≡ e ∷ es)) (sym laid.0)
      (rest.0, ap (λ l. d ∷ l) rest.1, ap (λ l. e ∷ l) rest.2)
  talkers_devices n [] (e ∷ es) jobs given laid = absurd laid
  talkers_devices n (d ∷ ds) [] jobs given laid = absurd laid
  talkers_devices n (d ∷ ds) (e ∷ es) [] given laid = absurd laid
  talkers_devices n (d ∷ ds) (e ∷ es) (job ∷ jobs) [] laid = absurd laid

  pub laid_devices : (clock : C) (ds : List D) (es : List E) (h : ℕ) (ss : List S) (jobs : List (Job F S D E C))
      (given : List Pass) → HelpersLaid files path slots clock ds es h ss jobs given
      → (spawners jobs ≡ ss) × (dialers jobs ≡ ds) × (ears jobs ≡ es)
  laid_devices clock ds es h [] jobs given laid = talkers_devices 0 ds es jobs given laid
  laid_devices clock ds es h (s ∷ ss) (job ∷ other ∷ jobs) (pass ∷ behind ∷ given) laid =
      let rest = laid_devices clock ds es (suc h) ss jobs given laid.2 in
      subst (λ it. (spawners (it ∷ other ∷ jobs) ≡ s ∷ ss) × (dialers (it ∷ other ∷ jobs) ≡ ds)
      × (ears (it ∷ other ∷ jobs) ≡ es)) (sym laid.0)
      (subst (λ it. (s ∷ spawners (it ∷ jobs) ≡ s ∷ ss) × (dialers (it ∷ jobs) ≡ ds)
      × (ears (it ∷ jobs) ≡ es)) (sym laid.1)
      (ap (λ l. s ∷ l) rest.0, rest.1, rest.2))
  laid_devices clock ds es h (s ∷ ss) [] given laid = absurd laid
  laid_devices clock ds es h (s ∷ ss) (job ∷ []) given laid = absurd laid
  laid_devices clock ds es h (s ∷ ss) (job ∷ other ∷ jobs) [] laid = absurd laid
  laid_devices clock ds es h (s ∷ ss) (job ∷ other ∷ jobs) (pass ∷ []) laid = absurd laid

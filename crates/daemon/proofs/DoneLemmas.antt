-- What became of jobs that were laid out, each of which was done or called off.
use Rattle.std.proofs.Common.{ℕ, ◌≡◌, ◌+◌, ◌∙◌, Bool, true, false, suc, List, [], ◌∷◌, length, get_or, drop, sym, ap}
use Rattle.std.proofs.Common.{subst, subst₂, arith, zero-add, get_or-drop, refl}
use Rattle.std.specs.List.{AllZip}
use Rattle.std.specs.declared.option.Option.{Option}
use Rattle.config_model.specs.declared.slots.Slots.{Slots}
use Rattle.helper_worker.specs.Rounds.{Told as Spawning}
use Rattle.peer_worker.specs.Rounds.{Told as Dialling}
use Rattle.crew.specs.Jobs.{Job}
use Rattle.crew.specs.Jobs.Job.{Keeps, Reads, Replies, Talks}
use Rattle.crew.specs.Works.{AllGo, Goes}
use Rattle.daemon.specs.Done.{JobsDone, KeeperDone, Pass, ReaderDone, ReplierDone, TalkerDone}
use Rattle.daemon.specs.Laid.{HelpersLaid, IsAlike, KeeperLaid, TalkersLaid, dialers, files_of, passes, spawners}
use Rattle.daemon.proofs.OrderLemmas.{HelpersEnd, KeeperEnds, TalkersEnd, behind_helpers, behind_talkers, helpers_count}
use Rattle.daemon.proofs.OrderLemmas.{readers_at, repliers_at, talkers_at}

-- what is said of each kind, by the numbers that are refused
abbrev OfReader : {S C : Type 0} → (S → Spawning) → (C → Option (ℕ → Bool)) → (ℕ → Bool) → C → ℕ → S → S → Pass
    → Pass → Type 0
OfReader spawning moments refused clock h = ReaderDone spawning (refused (h + h)) h (moments clock)

abbrev OfReplier : (ℕ → Bool) → ℕ → Pass → Pass → Type 0
OfReplier refused h = ReplierDone (refused (h + h + 1)) h

abbrev OfTalker : {D : Type 0} → (D → Dialling) → (ℕ → Bool) → ℕ → ℕ → D → D → Pass → Pass → Type 0
OfTalker dialling refused helpers n = TalkerDone dialling (refused (helpers + helpers + n)) n

module _ {F S D E C : Type 0} (content : F → Option (List ℕ → List ℕ)) (faults : F → ℕ) (lent : F → Option ℕ)
    (spawning : S → Spawning) (dialling : D → Dialling) (moments : C → Option (ℕ → Bool)) where
  -- what goes is of the same kind afterwards
  pub goes_alike : (off : Bool) (old new : Job F S D E C)
      → Goes content faults lent spawning dialling moments off old new → IsAlike old new
  goes_alike false (Reads _ _ _ _) (Reads _ _ _ _) go = tt
  goes_alike false (Replies _ _ _) (Replies _ _ _) go = tt
  goes_alike false (Talks _ _ _ _) (Talks _ _ _ _) go = tt
  goes_alike false (Keeps _ _ _ _) (Keeps _ _ _ _) go = tt
  goes_alike true (Reads _ _ _ _) (Reads _ _ _ _) go = tt
  goes_alike true (Replies _ _ _) (Replies _ _ _) go = tt
  goes_alike true (Talks _ _ _ _) (Talks _ _ _ _) go = tt
  goes_alike true (Keeps _ _ _ _) (Keeps _ _ _ _) go = tt
  goes_alike false _ _ go = absurd go
  goes_alike true _ _ go = absurd go

  pub all_alike : (refused : ℕ → Bool) (i : ℕ) (olds news : List (Job F S D E C))
      → AllGo content faults lent spawning dialling moments refused i olds news → AllZip IsAlike olds news
  all_alike refused i [] [] go = tt
  all_alike refused i [] (new ∷ news) go = absurd go
  all_alike refused i (old ∷ olds) [] go = absurd go
  all_alike refused i (old ∷ olds) (new ∷ news) go =
      (goes_alike (refused i) old new go.0, all_alike refused (suc i) olds news go.1)

  -- what a reader is afterwards
  pub record ReaderEnded (off : Bool) (h : ℕ) (spawner : S) (clock : C) (pass : Pass)
      (new : Job F S D E C) : Type 0 where
    pub slot : ℕ
    pub spawner' : S
    pub clock' : C
    pub later : Pass
    pub is : new ≡ Reads slot spawner' clock' later
    pub done : ReaderDone spawning off h (moments clock) spawner spawner' pass later

  pub reader_ended : (off : Bool) (h : ℕ) (spawner : S) (clock : C) (pass : Pass) (new : Job F S D E C)
      → Goes content faults lent spawning dialling moments off (Reads h spawner clock pass) new
      → ReaderEnded off h spawner clock pass new
  reader_ended false h spawner clock pass (Reads slot spawner' clock' later) go =
      record { slot = slot; spawner' = spawner'; clock' = clock'; later = later; is = refl; done = go.0 }
  reader_ended true h spawner clock pass (Reads slot spawner' clock' later) go =
      record { slot = slot; spawner' = spawner'; clock' = clock'; later = later; is = refl; done = (go.0, go.1) }
  reader_ended false h spawner clock pass _ go = absurd go
  reader_ended true h spawner clock pass _ go = absurd go

  -- what a replier is afterwards
  pub record ReplierEnded (off : Bool) (h : ℕ) (pass : Pass) (new : Job F S D E C) : Type 0 where
    pub slot : ℕ
    pub last : ℕ
    pub later : Pass
    pub is : new ≡ Replies slot last later
    pub done : ReplierDone off h pass later

  pub replier_ended : (off : Bool) (h : ℕ) (pass : Pass) (new : Job F S D E C)
      → Goes content faults lent spawning dialling moments off (Replies h 0 pass) new → ReplierEnded off h pass new
  replier_ended false h pass (Replies slot last later) go =
      record { slot = slot; last = last; later = later; is = refl; done = (last, go.0) }
  replier_ended true h pass (Replies slot last later) go =
      record { slot = slot; last = last; later = later; is = refl; done = (last, go.0) }
  replier_ended false h pass _ go = absurd go
  replier_ended true h pass _ go = absurd go

  -- what a talker is afterwards
  pub record TalkerEnded (off : Bool) (n : ℕ) (dialer : D) (pass : Pass) (new : Job F S D E C) : Type 0 where
    pub slot : ℕ
    pub dialer' : D
    pub ear : E
    pub later : Pass
    pub is : new ≡ Talks slot dialer' ear later
    pub done : TalkerDone dialling off n dialer dialer' pass later

  pub talker_ended : (off : Bool) (n : ℕ) (dialer : D) (ear : E) (pass : Pass) (new : Job F S D E C)
      → Goes content faults lent spawning dialling moments off (Talks n dialer ear pass) new
      → TalkerEnded off n dialer pass new
  talker_ended false n dialer ear pass (Talks slot dialer' ear' later) go =
      record { slot = slot; dialer' = dialer'; ear = ear'; later = later; is = refl; done = go.0 }
  talker_ended true n dialer ear pass (Talks slot dialer' ear' later) go =
      record { slot = slot; dialer' = dialer'; ear = ear'; later = later; is = refl; done = (go.0, go.1) }
  talker_ended false n dialer ear pass _ go = absurd go
  talker_ended true n dialer ear pass _ go = absurd go

  -- what a keeper is afterwards
  pub record KeeperEnded (off : Bool) (path : List ℕ) (slots : Slots) (files : F) (pass : Pass) (new : Job F S D E C)
      : Type 0 where
    pub files' : F
    pub path' : List ℕ
    pub slots' : Slots
    pub later : Pass
    pub is : new ≡ Keeps files' path' slots' later
    pub done : KeeperDone content faults lent off path slots files files' pass later

  pub keeper_ended : (off : Bool) (path : List ℕ) (slots : Slots) (files : F) (pass : Pass) (new : Job F S D E C)
      → Goes content faults lent spawning dialling moments off (Keeps files path slots pass) new
      → KeeperEnded off path slots files pass new
  keeper_ended false path slots files pass (Keeps files' path' slots' later) go =
      record { files' = files'; path' = path'; slots' = slots'; later = later; is = refl; done = (go.0, go.1, go.2) }
  keeper_ended true path slots files pass (Keeps files' path' slots' later) go =
      record { files' = files'; path' = path'; slots' = slots'; later = later; is = refl; done = (go.0, go.1) }
  keeper_ended false path slots files pass _ go = absurd go
  keeper_ended true path slots files pass _ go = absurd go

  module _ (refused : ℕ → Bool) (clock : C) (path : List ℕ) (slots : Slots) (helpers peers : ℕ) (files files' : F) where
    -- by the number of helper slots, what became of the keeper, which has no other device
    keeper_ends : (i : ℕ) (olds news : List (Job F S D E C)) (given : List Pass) → i ≡ helpers + helpers + peers
        → KeeperLaid files path slots olds given
        → AllGo content faults lent spawning dialling moments refused i olds news → files_of news ≡ files' ∷ []
        → (dialers news ≡ []) × (spawners news ≡ [])
        × KeeperEnds (OfReader spawning moments refused clock) (OfReplier refused) (OfTalker dialling refused helpers)
        (KeeperDone content faults lent (refused (helpers + helpers + peers)) path slots files files') given
        (passes news)
    keeper_ends i olds news given at laid go back =
        subst (λ it. (dialers news ≡ []) × (spawners news ≡ [])
        × KeeperEnds (OfReader spawning moments refused clock) (OfReplier refused) (OfTalker dialling refused helpers)
        (KeeperDone content faults lent (refused (helpers + helpers + peers)) path slots files files') it (passes news))
        (sym laid.2)
        (alone news (subst (λ it. AllGo content faults lent spawning dialling moments refused i it news) laid.1 go)
        back)
      where
        alone : (news : List (Job F S D E C))
            → AllGo content faults lent spawning dialling moments refused i (Keeps files path slots laid.0 ∷ []) news
            → files_of news ≡ files' ∷ []
            → (dialers news ≡ []) × (spawners news ≡ [])
            × KeeperEnds (OfReader spawning moments refused clock) (OfReplier refused)
            (OfTalker dialling refused helpers)
            (KeeperDone content faults lent (refused (helpers + helpers + peers)) path slots files files') (laid.0 ∷ [])
            (passes news)
        alone (new ∷ []) go back =
            let k = keeper_ended (refused i) path slots files laid.0 new go.0 in
            let same : k.files' ∷ [] ≡ files' ∷ [] = subst (λ it. files_of (it ∷ []) ≡ files' ∷ []) k.is back in
            let its : k.files' ≡ files' = cc in
            subst (λ it. (dialers (it ∷ []) ≡ []) × (spawners (it ∷ []) ≡ [])
            × KeeperEnds (OfReader spawning moments refused clock) (OfReplier refused)
            (OfTalker dialling refused helpers)
            (KeeperDone content faults lent (refused (helpers + helpers + peers)) path slots files files') (laid.0 ∷ [])
            (passes (it ∷ []))) (sym k.is) (
              refl,
              refl,
              subst (λ number. KeeperDone content faults lent
                  (refused number) path slots files files' laid.0 k.later) at
                  (subst (λ it. KeeperDone content faults lent
                  (refused i) path slots files it laid.0 k.later) its k.done),
            )
        alone [] go back = absurd go
        alone (new ∷ other ∷ news) go back = absurd go.1

    -- what became of the talkers from the n-th slot on, and of the keeper
    talkers_end : (n i : ℕ) (ds : List D) (es : List E) (olds news : List (Job F S D E C)) (given : List Pass)
        → i ≡ helpers + helpers + n → n + length ds ≡ peers → TalkersLaid files path slots n ds es olds given
        → AllGo content faults lent spawning dialling moments refused i olds news → files_of news ≡ files' ∷ []
        → (spawners news ≡ [])
        × TalkersEnd (OfReader spawning moments refused clock) (OfReplier refused) (OfTalker dialling refused helpers)
        (KeeperDone content faults lent (refused (helpers + helpers + peers)) path slots files files') n ds
        (dialers news) given (passes news)
    talkers_end n i [] [] olds news given at count laid go back =
        let last : i ≡ helpers + helpers + peers = omega arith in
        let k = keeper_ends i olds news given last laid go back in (
          k.1,
          subst (λ it. TalkersEnd (OfReader spawning moments refused clock) (OfReplier refused)
              (OfTalker dialling refused helpers)
              (KeeperDone content faults lent (refused (helpers + helpers + peers)) path slots files files') n [] it
              given
              (passes news)) (sym k.0) k.2,
        )
    talkers_end n i (d ∷ ds) (e ∷ es) (old ∷ olds) (new ∷ news) (pass ∷ given) at count laid go back =
        let t = talker_ended (refused i) n d e pass new
        (subst (λ it. Goes content faults lent spawning dialling moments (refused i) it new) laid.0 go.0) in
        let next : suc i ≡ helpers + helpers + suc n = omega arith in
        let fewer : suc n + length ds ≡ peers = omega arith in
        let rest = talkers_end (suc n) (suc i) ds es olds news given next fewer laid.1 go.1
        (subst (λ it. files_of (it ∷ news) ≡ files' ∷ []) t.is back) in
        subst (λ it. (spawners (it ∷ news) ≡ [])
        × TalkersEnd (OfReader spawning moments refused clock) (OfReplier refused) (OfTalker dialling refused helpers)
        (KeeperDone content faults lent (refused (helpers + helpers + peers)) path slots files files') n (d ∷ ds)
        (dialers (it ∷ news)) (pass ∷ given) (passes (it ∷ news))) (sym t.is)
        (rest.0, (subst (λ number. TalkerDone dialling (refused number) n d t.dialer' pass t.later) at t.done, rest.1))
    talkers_end n i [] (e ∷ es) olds news given at count laid go back = absurd laid
    talkers_end n i (d ∷ ds) [] olds news given at count laid go back = absurd laid
    talkers_end n i (d ∷ ds) (e ∷ es) [] news given at count laid go back = absurd laid
    talkers_end n i (d ∷ ds) (e ∷ es) (old ∷ olds) [] given at count laid go back = absurd go
    talkers_end n i (d ∷ ds) (e ∷ es) (old ∷ olds) (new ∷ news) [] at count laid go back = absurd laid

    -- what became of the readers and repliers from the h-th slot on, and of the others
    helpers_end : (ds : List D) (es : List E) (h i : ℕ) (ss : List S) (olds news : List (Job F S D E C))
        (given : List Pass) → i ≡ h + h → h + length ss ≡ helpers → length ds ≡ peers
        → HelpersLaid files path slots clock ds es h ss olds given
        → AllGo content faults lent spawning dialling moments refused i olds news → files_of news ≡ files' ∷ []
        → HelpersEnd (OfReader spawning moments refused clock) (OfReplier refused) (OfTalker dialling refused helpers)
        (KeeperDone content faults lent (refused (helpers + helpers + peers)) path slots files files') ds (dialers news)
        h ss (spawners news) given (passes news)
    helpers_end ds es h i [] olds news given at count many laid go back =
        let first : i ≡ helpers + helpers + 0 = omega arith in
        let all : 0 + length ds ≡ peers = omega arith in
        let t = talkers_end 0 i ds es olds news given first all laid go back in
        subst (λ it. HelpersEnd (OfReader spawning moments refused clock) (OfReplier refused)
        (OfTalker dialling refused helpers)
        (KeeperDone content faults lent (refused (helpers + helpers + peers)) path slots files files') ds (dialers news)
        h [] it given (passes news)) (sym t.0) t.1
    helpers_end ds es h i (s ∷ ss) (old ∷ other ∷ olds) (new ∷ next ∷ news)
        (pass ∷ behind ∷ given) at count many laid go back =
        let r = reader_ended (refused i) h s clock pass new
        (subst (λ it. Goes content faults lent spawning dialling moments (refused i) it new) laid.0 go.0) in
        let w = replier_ended (refused (suc i)) h behind next
        (subst (λ it. Goes content faults lent spawning dialling moments (refused (suc i)) it next) laid.1 go.1.0) in
        let after : suc i ≡ h + h + 1 = omega arith in
        let far : suc (suc i) ≡ suc h + suc h = omega arith in
        let fewer : suc h + length ss ≡ helpers = omega arith in
        let rest = helpers_end ds es (suc h) (suc (suc i)) ss olds news given far fewer many laid.2 go.1.1
        (subst (λ it. files_of (it ∷ news) ≡ files' ∷ []) w.is
        (subst (λ it. files_of (it ∷ next ∷ news) ≡ files' ∷ []) r.is back)) in
        subst (λ it. HelpersEnd (OfReader spawning moments refused clock) (OfReplier refused)
        (OfTalker dialling refused helpers)
        (KeeperDone content faults lent (refused (helpers + helpers + peers)) path slots files files') ds
        (dialers (it ∷ next ∷ news)) h (s ∷ ss) (spawners (it ∷ next ∷ news)) (pass ∷ behind ∷ given)
        (passes (it ∷ next ∷ news))) (sym r.is)
        (subst (λ it. HelpersEnd (OfReader spawning moments refused clock) (OfReplier refused)
        (OfTalker dialling refused helpers)
        (KeeperDone content faults lent (refused (helpers + helpers + peers)) path slots files files') ds
        (dialers (it ∷ news)) h (s ∷ ss) (r.spawner' ∷ spawners (it ∷ news)) (pass ∷ behind ∷ given)
        (r.later ∷ passes (it ∷ news))) (sym w.is) (
          subst (λ number. ReaderDone spawning (refused number) h (moments clock) s r.spawner' pass r.later) at r.done,
          subst (λ number. ReplierDone (refused number) h behind w.later) after w.done,
          rest,
        ))
    helpers_end ds es h i (s ∷ ss) [] news given at count many laid go back = absurd laid
    helpers_end ds es h i (s ∷ ss) (old ∷ []) news given at count many laid go back = absurd laid
    helpers_end ds es h i (s ∷ ss) (old ∷ other ∷ olds) news [] at count many laid go back = absurd laid
    helpers_end ds es h i (s ∷ ss) (old ∷ other ∷ olds) news (pass ∷ []) at count many laid go back = absurd laid
    helpers_end ds es h i (s ∷ ss) (old ∷ other ∷ olds) []
        (pass ∷ behind ∷ given) at count many laid go back = absurd go
    helpers_end ds es h i (s ∷ ss) (old ∷ other ∷ olds) (new ∷ []) (pass ∷ behind ∷ given) at count many laid go back =
        absurd go.1

  -- what became of the jobs of all slots, by their numbers
  pub jobs_done : (refused : ℕ → Bool) (clock : C) (path : List ℕ) (slots : Slots) (files files' : F) (ss : List S)
      (ds : List D) (es : List E) (olds news : List (Job F S D E C)) (given : List Pass)
      → slots.helpers ≡ length ss → slots.peers ≡ length ds
      → HelpersLaid files path slots clock ds es 0 ss olds given
      → AllGo content faults lent spawning dialling moments refused 0 olds news → files_of news ≡ files' ∷ []
      → JobsDone content faults lent spawning dialling refused (moments clock) path slots ss (spawners news) ds
      (dialers news) files files' given (passes news)
  jobs_done refused clock path slots files files' ss ds es olds news given many few laid go back = record {
    count = helpers_count R W T K ds (dialers news) 0 ss (spawners news) given (passes news) ends;
    readers = λ h s q lt. subst (λ n. R n (get_or ss h s) (get_or (spawners news) h s) (get_or given (h + h) q)
        (get_or (passes news) (h + h) q)) (zero-add h)
        (readers_at R W T K ds (dialers news) 0 ss (spawners news) given (passes news) h s q ends (omega arith));
    repliers = λ h q lt. subst (λ n. W n (get_or given (h + h + 1) q) (get_or (passes news) (h + h + 1) q)) (zero-add h)
        (repliers_at R W T K ds (dialers news) 0 ss (spawners news) given (passes news) h q ends (omega arith));
    talkers = λ n d q lt. subst (λ k. T k (get_or ds n d) (get_or (dialers news) n d)
        (get_or given (slots.helpers + slots.helpers + n) q) (get_or (passes news)
        (slots.helpers + slots.helpers + n) q))
        (zero-add n)
        (subst₂ (λ p p'. T (0 + n) (get_or ds n d) (get_or (dialers news) n d) p p') (dropped given n q)
        (dropped (passes news) n q)
        (talkers_at R W T K 0 ds (dialers news) _ _ n d q tail (omega arith)));
    keeper = λ q. subst₂ K (dropped given (length ds) q ∙ ap (λ k. get_or given
        (slots.helpers + slots.helpers + k) q) (sym few))
        (dropped (passes news) (length ds) q
        ∙ ap (λ k. get_or (passes news) (slots.helpers + slots.helpers + k) q) (sym few))
        (behind_talkers R W T K 0 ds (dialers news) _ _ q tail);
  }
    where
      R : ℕ → S → S → Pass → Pass → Type 0
      R = OfReader spawning moments refused clock

      W : ℕ → Pass → Pass → Type 0
      W = OfReplier refused

      T : ℕ → D → D → Pass → Pass → Type 0
      T = OfTalker dialling refused slots.helpers

      K : Pass → Pass → Type 0
      K = KeeperDone content faults lent (refused (slots.helpers + slots.helpers + slots.peers)) path slots files files'

      ends : HelpersEnd R W T K ds (dialers news) 0 ss (spawners news) given (passes news)
      ends =
          helpers_end refused clock path slots slots.helpers slots.peers files files' ds es 0 0 ss olds news given refl
          (zero-add (length ss) ∙ sym many) (sym few) laid go back

      tail : TalkersEnd R W T K 0 ds (dialers news) (drop (length ss + length ss) given) (drop
          (length ss + length ss) (passes news))
      tail = behind_helpers R W T K ds (dialers news) 0 ss (spawners news) given (passes news) ends

      dropped : (all : List Pass) (i : ℕ) (q : Pass)
          → get_or (drop (length ss + length ss) all) i q ≡ get_or all (slots.helpers + slots.helpers + i) q
      dropped all i q = get_or-drop (length ss + length ss) all i q ∙ ap (λ k. get_or all (k + k + i) q) (sym many)

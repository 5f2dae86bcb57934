-- One round after the other of a reader.
use Rattle.std.proofs.Common.{ℕ, ◌≡◌, ◌⊎◌, ◌+◌, Bool, true, false, true≢false, List, [], ◌∷◌, ◌++◌, Option, Some}
use Rattle.std.proofs.Common.{None, length, inl, inr, arith}
use Rattle.std.proofs.Common.{refl, ap, ap₂, sym, subst, ◌∙◌, append_assoc, append-nil, length-append}
use Rattle.std.specs.List.{flat_map}
use Rattle.std.proofs.lemmas.List.{map-append}
use Rattle.std.proofs.lemmas.List.Concat.{flat_map-append}
use Rattle.std.proofs.lemmas.List.Elements.{All-nil, All-push, filter-append}
use mathlib.Core.List.{IsPrefix}
use Rattle.arrayvec.specs.ArrayVec.{ArrayVec}
use Rattle.outside.specs.Lent.{GoesBy}
use Rattle.outside.specs.Moments.{MayRead}
use Rattle.book_history.specs.declared.outcomes.Spawn.{Spawn}
use Rattle.book_history.specs.declared.outcomes.Spawn.TheVariants as spawn
use Rattle.book_history.specs.Entries.{Entry}
use Rattle.book_history.specs.Entries.Entry.{SpawnAsked}
use Rattle.book_gate.specs.Calls.{Enters}
use Rattle.book_gate.specs.Histories.{entries, entries_by, is_name}
use Rattle.book_gate.specs.Known.{Known}
use Rattle.book_gate.specs.declared.view.Signed.{Signed}
use Rattle.pass_entries.specs.Making.{Makes, own}
use Rattle.pass_entries.proofs.MakingLemmas.{makes_more, makes_none, makes_one}
use Rattle.helper_worker.specs.Handing.{under}
use Rattle.helper_worker.specs.Rounds.{AreBack, Ends, GathersAll, IsBackBy, IsIdle, IsRound, IsSinkBack, Outcome}
use Rattle.helper_worker.specs.Rounds.{Reads, ReadsOut, Round, Tells, Told, Visits}
use Rattle.helper_worker.specs.Rounds.Outcome.{Heard}
use Rattle.helper_worker.specs.Rounds.Round.{Idle, Start}
use Rattle.helper_worker.specs.Rounds.{asked_by, children_of, entries_of, failures_in, failures_of, made_by}
use Rattle.helper_worker.proofs.VisitLemmas.{gathers_more, gathers_none}

module _ {X : Type 0} where
  prefix_on : (front mid whole : List X) → IsPrefix front mid → IsPrefix mid whole → IsPrefix front whole
  prefix_on front mid whole (first, is) (second, whole_is) = (
    first ++ second,
    sym (append_assoc front first second) ∙ (ap (λ (begun : List X). begun ++ second) is ∙ whole_is),
  )

  -- an item that stands in a list with one more item is that item, or stands before it
  item_of : (front all back : List X) (item last : X) → all ++ last ∷ [] ≡ (front ++ item ∷ []) ++ back
      → ((all ≡ front) × (last ≡ item)) ⊎ ((rest : List X) × (all ≡ (front ++ item ∷ []) ++ rest))
  item_of [] [] back item last is = inl (refl, cc (is))
  item_of [] (first ∷ all) back item last is =
      inr (all, ap (λ (first : X). first ∷ all) (cc (is)))
  item_of (first ∷ front) [] back item last is =
      absurd
      (omega (
        arith,
        ap length is,
        length-append ((first ∷ front) ++ item ∷ []) back,
        length-append (first ∷ front) (item ∷ []),
      ))
  item_of (first ∷ front) (other ∷ all) back item last is =
      next (cc (is)) (item_of front all back item last (cc (is)))
    where
      next : other ≡ first → ((all ≡ front) × (last ≡ item)) ⊎ ((rest : List X) × (all ≡ (front ++ item ∷ []) ++ rest))
          → ((other ∷ all ≡ first ∷ front) × (last ≡ item))
          ⊎ ((rest : List X) × (other ∷ all ≡ ((first ∷ front) ++ item ∷ []) ++ rest))
      next same (inl found) = inl (ap₂ (λ (head : X) (tail : List X). head ∷ tail) same found.0, found.1)
      next same (inr found) = inr (found.0, ap₂ (λ (head : X) (tail : List X). head ∷ tail) same found.1)

-- the entries under a name in the front of a history
pub under_prefix : (name : List ℕ) (front whole : List (Signed Entry)) → IsPrefix front whole
    → IsPrefix (under name front) (under name whole)
under_prefix name front whole (rest, is) = (
  under name rest,
  sym (map-append (λ (made : Signed Entry). made.entry) (entries_by name front) (entries_by name rest))
      ∙ (ap entries (sym (filter-append (λ (made : Signed Entry). is_name name made.name) front rest))
      ∙ ap (under name) is),
)

entries_next : (h : ℕ) (rounds : List Round) (round : Round)
    → flat_map (entries_of h) (rounds ++ round ∷ []) ≡ flat_map (entries_of h) rounds ++ entries_of h round
entries_next h rounds round =
    flat_map-append (entries_of h) rounds (round ∷ [])
    ∙ ap (λ (made : List Entry). flat_map (entries_of h) rounds ++ made) (append-nil (entries_of h round))

failures_next : (rounds : List Round) (round : Round)
    → failures_in (rounds ++ round ∷ []) ≡ failures_in rounds + failures_of round
failures_next [] round = omega arith
failures_next (first ∷ rounds) round =
    omega (arith, failures_next rounds round)

goes_more : (old mid new : Option ℕ) (first second both : ℕ) → both ≡ first + second
    → GoesBy (λ count. count + first) old mid → GoesBy (λ count. count + second) mid new
    → GoesBy (λ count. count + both) old new
goes_more old mid None first second both is one other = tt
goes_more old None (Some now) first second both is one other = absurd other
goes_more None (Some then) (Some now) first second both is one other = absurd one
goes_more (Some was) (Some then) (Some now) first second both is one other = omega (arith, is, one, other)

goes_none : (old : Option ℕ) → GoesBy (λ count. count + 0) old old
goes_none None = tt
goes_none (Some was) = omega arith

-- what one round tells
record TellsOne (old new : Told) (round : Round) : Type 0 where
  pub children : GathersAll old.children new.children (children_of round)
  pub asked : GathersAll old.asked new.asked (asked_by round)
  pub failed : GoesBy (λ count. count + failures_of round) old.failed new.failed

tells_none : (old : Told) → Tells old old []
tells_none old =
    record {
      children = gathers_none old.children;
      asked = gathers_none old.asked;
      failed = goes_none old.failed;
    }

tells_next : (old mid new : Told) (rounds : List Round) (round : Round) → Tells old mid rounds → TellsOne mid new round
    → Tells old new (rounds ++ round ∷ [])
tells_next old mid new rounds round tells one =
    record {
      children =
          subst (λ (items : _). GathersAll old.children new.children items)
          (sym (flat_map-append children_of rounds (round ∷ [])
          ∙ ap (λ (items : _). flat_map children_of rounds ++ items) (append-nil (children_of round))))
          (gathers_more old.children mid.children new.children (flat_map children_of rounds) (children_of round)
          tells.children one.children);
      asked =
          subst (λ (items : _). GathersAll old.asked new.asked items)
          (sym (flat_map-append asked_by rounds (round ∷ [])
          ∙ ap (λ (items : _). flat_map asked_by rounds ++ items) (append-nil (asked_by round))))
          (gathers_more old.asked mid.asked new.asked (flat_map asked_by rounds) (asked_by round) tells.asked
          one.asked);
      failed =
          goes_more old.failed mid.failed new.failed (failures_in rounds) (failures_of round)
          (failures_in (rounds ++ round ∷ [])) (failures_next rounds round) tells.failed one.failed;
    }

none_in : (front back : List Round) (round : Round) → [] ≡ (front ++ round ∷ []) ++ back → ⊥
none_in front back round is =
    omega (arith, ap length is, length-append (front ++ round ∷ []) back, length-append front (round ∷ []))

abbrev is_start : Round → Bool
is_start (Start now inc run outcome) = true
is_start (Idle now given) = false

not_started : (now other inc : ℕ) (given : Spawn) (run : ArrayVec ℕ) (outcome : Outcome)
    → Idle now given ≡ Start other inc run outcome → ⊥
not_started now other inc given run outcome is = true≢false (sym (ap is_start is))

-- what a round has, if a sink came back in it
abbrev BackIn : List ℕ → ℕ → Round → List (Signed Entry) → Type 0
BackIn writer h round seen =
    (now inc : ℕ) (run : ArrayVec ℕ) (lines : List Entry) (ends : Ends) → round ≡ Start now inc run (Heard lines ends)
    → IsSinkBack writer h inc ends.taken ends.sink_faults seen

back_later : (writer : List ℕ) (h inc : ℕ) (ends : Ends) (name : List ℕ) (made : List Entry)
    (seen seen' : List (Signed Entry)) → IsPrefix seen seen' → IsBackBy writer h inc ends name made seen
    → IsBackBy writer h inc ends name made seen'
back_later writer h inc ends name made seen seen' more by =
    record {
      sink =
          record {
            before = by.sink.before;
            front = prefix_on by.sink.before seen seen' by.sink.front more;
            back = by.sink.back;
          };
      made_by_then = by.made_by_then;
    }

module _ {A : Type 0} where
  back_now : (pass later : Known A Entry) (writer : List ℕ) (h inc : ℕ) (ends : Ends) (made : List Entry)
      → Makes pass made later → IsSinkBack writer h inc ends.taken ends.sink_faults later.seen
      → IsBackBy writer h inc ends pass.name (own pass ++ made) later.seen
  back_now pass later writer h inc ends made makes sink =
      record {
        sink = sink;
        made_by_then =
            subst (λ (made : List Entry). IsPrefix (under pass.name sink.before) made)
            (ap (λ (name : List ℕ). under name later.seen) (sym (ap (λ (known : Known A Entry). known.name) makes.same))
            ∙ makes.own)
            (under_prefix pass.name sink.before later.seen sink.front);
      }

  backs_next : (h : ℕ) (writer : List ℕ) (rounds : List Round) (round : Round) (pass mid later : Known A Entry)
      → AreBack h writer rounds pass mid → IsPrefix mid.seen later.seen
      → Makes pass (flat_map (entries_of h) (rounds ++ round ∷ [])) later → BackIn writer h round later.seen
      → AreBack h writer (rounds ++ round ∷ []) pass later
  backs_next h writer rounds round pass mid later backs more makes one front back now inc run lines ends is =
      found (item_of front rounds back (Start now inc run (Heard lines ends)) round is)
    where
      found : ((rounds ≡ front) × (round ≡ Start now inc run (Heard lines ends)))
          ⊎ ((rest : List Round) × (rounds ≡ (front ++ Start now inc run (Heard lines ends) ∷ []) ++ rest))
          → IsBackBy writer h inc ends pass.name
          (own pass ++ flat_map (entries_of h) (front ++ Start now inc run (Heard lines ends) ∷ [])) later.seen
      found (inl (same, last)) =
          back_now pass later writer h inc ends
          (flat_map (entries_of h) (front ++ Start now inc run (Heard lines ends) ∷ []))
          (subst (λ (made : List Entry). Makes pass made later)
          (ap₂ (λ (all : List Round) (item : Round). flat_map (entries_of h) (all ++ item ∷ [])) same last) makes)
          (one now inc run lines ends last)
      found (inr (rest, before)) =
          back_later writer h inc ends pass.name
          (own pass ++ flat_map (entries_of h) (front ++ Start now inc run (Heard lines ends) ∷ [])) mid.seen later.seen
          more (backs front rest now inc run lines ends before)

  pub reads_none : (h : ℕ) (writer : List ℕ) (moments : Option (ℕ → Bool)) (old : Told) (pass : Known A Entry)
      → Reads h writer moments old old [] pass pass
  reads_none h writer moments old pass =
      record {
        rounds = [];
        makes = makes_none pass;
        good = All-nil (IsRound h moments);
        tells = tells_none old;
        back = λ front back now inc run lines ends is.
            absurd (none_in front back (Start now inc run (Heard lines ends)) is);
      }

  reads_round : (h : ℕ) (writer : List ℕ) (moments : Option (ℕ → Bool)) (old mid new : Told)
      (pass between later : Known A Entry) (round : Round) → Reads h writer moments old mid [] pass between
      → Makes between (entries_of h round) later → IsRound h moments round → TellsOne mid new round
      → BackIn writer h round later.seen → Reads h writer moments old new [] pass later
  reads_round h writer moments old mid new pass between later round reads makes good tells back =
      let all : Makes pass (flat_map (entries_of h) (reads.rounds ++ round ∷ [])) later =
      subst (λ (made : List Entry). Makes pass made later)
      (ap (λ (made : List Entry). made ++ entries_of h round) (append-nil (flat_map (entries_of h) reads.rounds))
      ∙ sym (entries_next h reads.rounds round))
      (makes_more pass between later (flat_map (entries_of h) reads.rounds ++ []) (entries_of h round) reads.makes
      makes) in
      record {
        rounds = reads.rounds ++ round ∷ [];
        makes =
            subst (λ (made : List Entry). Makes pass made later)
            (sym (append-nil (flat_map (entries_of h) (reads.rounds ++ round ∷ [])))) all;
        good = All-push (IsRound h moments) reads.rounds round reads.good good;
        tells = tells_next old mid new reads.rounds round reads.tells tells;
        back = backs_next h writer reads.rounds round pass between later reads.back makes.front all back;
      }

  -- nothing was to be started
  pub reads_idle : (law : A → List Entry → Entry → Type 0) (h : ℕ) (writer : List ℕ) (moments : Option (ℕ → Bool))
      (old mid : Told) (pass between later : Known A Entry) (now : ℕ) (given : Spawn)
      → Reads h writer moments old mid [] pass between → Enters law between (SpawnAsked h now given) later
      → MayRead moments now → IsIdle given → Reads h writer moments old mid [] pass later
  reads_idle law h writer moments old mid pass between later now given reads entered moment idle =
      reads_round h writer moments old mid mid pass between later (Idle now given) reads
      (makes_one law between later (SpawnAsked h now given) entered) (moment, idle)
      (record {
        children = gathers_none mid.children;
        asked = gathers_none mid.asked;
        failed = goes_none mid.failed;
      })
      (λ other inc run lines ends is. absurd (not_started now other inc given run (Heard lines ends) is))

  -- a helper was to be started
  pub reads_start : (law : A → List Entry → Entry → Type 0) (h : ℕ) (writer : List ℕ) (moments : Option (ℕ → Bool))
      (old mid new : Told) (pass between asked later : Known A Entry) (now inc : ℕ) (run : ArrayVec ℕ)
      (words : List ℕ) → Reads h writer moments old mid [] pass between
      → Enters law between (SpawnAsked h now (spawn.Go inc run)) asked → MayRead moments now → words ≡ run.items
      → Visits h writer inc words mid new asked later → Reads h writer moments old new [] pass later
  reads_start law h writer moments old mid new pass between asked later now inc run words reads entered moment same
      visits =
      reads_round h writer moments old mid new pass between later (Start now inc run visits.outcome) reads
      (makes_more between asked later (SpawnAsked h now (spawn.Go inc run) ∷ []) (made_by h inc visits.outcome)
      (makes_one law between asked (SpawnAsked h now (spawn.Go inc run)) entered) visits.makes)
      (moment, visits.good)
      (record {
        children = visits.children;
        asked =
            subst (λ (words : List ℕ). GathersAll mid.asked new.asked (Some words ∷ [])) same visits.asked;
        failed = visits.failed;
      })
      (λ other number words lines ends is.
      let same : inc ≡ number = cc (is) in
      let heard : visits.outcome ≡ Heard lines ends = cc (is) in
      subst (λ (number : ℕ). IsSinkBack writer h number ends.taken ends.sink_faults later.seen) same
      (visits.back lines ends heard))

  -- the daemon is to end
  pub reads_out : (law : A → List Entry → Entry → Type 0) (h : ℕ) (writer : List ℕ) (moments : Option (ℕ → Bool))
      (old new : Told) (pass between later : Known A Entry) (now : ℕ)
      → Reads h writer moments old new [] pass between → Enters law between (SpawnAsked h now spawn.Stopping) later
      → MayRead moments now → ReadsOut h writer moments old new pass later
  reads_out law h writer moments old new pass between later now reads entered moment =
      let last = makes_one law between later (SpawnAsked h now spawn.Stopping) entered in
      record {
        now = now;
        moment = moment;
        reads =
            record {
              rounds = reads.rounds;
              makes =
                  makes_more pass between later (flat_map (entries_of h) reads.rounds)
                  (SpawnAsked h now spawn.Stopping ∷ [])
                  (subst (λ (made : List Entry). Makes pass made between)
                  (append-nil (flat_map (entries_of h) reads.rounds)) reads.makes)
                  last;
              good = reads.good;
              tells = reads.tells;
              back = λ front back now inc run lines ends is.
                  back_later writer h inc ends pass.name
                  (own pass ++ flat_map (entries_of h) (front ++ Start now inc run (Heard lines ends) ∷ []))
                  between.seen later.seen last.front (reads.back front back now inc run lines ends is);
            };
      }

-- What holds of single views, and of the state's home, through each step.
use Rattle.std.proofs.Common.{◌≡◌, ◌≢◌, ◌⊎◌, ℕ, ◌+◌, ◌≤◌, Bool, true, false, true≢false, cond, List, [], ◌∷◌, ◌++◌, map}
use Rattle.std.proofs.Common.{length, set, refl, sym, ap, subst, ◌∙◌, inl, inr, ⊎_elim, arith, Option, Some}
use Rattle.std.specs.Prelude.{nat_lt, Contains}
use Rattle.std.proofs.lemmas.List.{map-set}
use Rattle.std.proofs.lemmas.Bool.Decides.{nat_tests}
use mathlib.Core.Logic.{dite}
use mathlib.Core.Option.{some}
use mathlib.Core.Option as maybe
use mathlib.Core.List.{IsPrefix}
use native.Mathlib.Decide.{ℕ_discrete}
use lib.ListN.{get_elem?}
use Rattle.atomic_table.proofs.Lists.{set_here, set_else, set_again, at_map, at_longer}
use Rattle.book_gate.specs.declared.view.Signed.{Signed}
use Rattle.book_gate.specs.declared.view.Part.{Part}
use Rattle.book_gate.specs.declared.view.View.{View}
use Rattle.book_gate.specs.Histories.{entries, entries_by, signed}
use Rattle.book_gate.specs.Names.{NamesAgree}
use Rattle.book_gate.specs.Views.{lineage, own_names, part_of, longer, IsWhole, spent_view}
use Rattle.book_gate.specs.Rule.{ViewFits, IsSeen, IsHome}
use Rattle.book_gate.proofs.ListLemmas.{prefix_self, prefix_more, prefix_shorter, each_set, each_end, same_at, at_below}
use Rattle.book_gate.proofs.OptionLemmas.{no_value, not_true}
use Rattle.book_gate.proofs.HistoryLemmas.{entries_by-other, entries_by_between}

module _ {A E : Type 0} (start : A) (log : List (Signed E)) (done all : ℕ) (view : View A E)
    (fits : ViewFits start log done all view) where
  pub fits_more_tickets : ViewFits start log done (all + 1) view
  fits_more_tickets = record {
    opened = fits.opened;
    seen = fits.seen;
    own = fits.own;
    out = λ k is. let range =
        fits.out k is in (range.0, omega arith);
    alive = fits.alive;
    turn = fits.turn;
    lesson = fits.lesson;
  }

  -- The next ticket is served, which this view hasn't
  pub fits_next : (view.ticket ≡ Some done → ⊥) → ViewFits start log (done + 1) all view
  fits_next lacks = record {
    opened = fits.opened;
    seen = fits.seen;
    own = fits.own;
    out = λ k is. let range = fits.out k is in let apart : k ≢ done = λ same. lacks (is ∙ ap Some same) in
        (omega (arith, apart), range.1);
    alive = fits.alive;
    turn = λ on. absurd (lacks (fits.turn on).0);
    lesson = fits.lesson;
  }

  -- An entry of a name is counted that isn't one of this view's names
  pub fits_longer : (name : List ℕ) (entry : E) → view.turn ≡ false
      → ((origin : A) → view.start ≡ Some origin → (own : List ℕ) → Contains (own_names view) own → own ≢ name)
      → ViewFits start (log ++ signed name entry ∷ []) done all view
  fits_longer name entry rests apart = record {
    opened = fits.opened;
    seen = prefix_more view.seen log (signed name entry ∷ []) fits.seen;
    own = λ origin live own has. fits.own origin live own has
        ∙ sym (entries_by-other own name log entry (apart origin live own has));
    out = fits.out;
    alive = fits.alive;
    turn = λ on. absurd (not_true view.turn rests on);
    lesson = fits.lesson;
  }

module _ {A E : Type 0} where
  -- A view that is no pass
  pub fits_no_pass : (start : A) (log : List (Signed E)) (done all : ℕ) (seen : List (Signed E)) → IsPrefix seen log
      → ViewFits {A = A} start log done all (Rattle.book_gate.specs.Views.glimpse_view seen)
  fits_no_pass start log done all seen front = record {
    opened = λ origin is. absurd (no_value origin is);
    seen = front;
    own = λ origin is. absurd (no_value origin is);
    out = λ k is. absurd (no_value k is);
    alive = λ k is. absurd (no_value k is);
    turn = λ on. absurd (true≢false (sym on));
    lesson = λ lesson is. absurd (no_value lesson is);
  }

  -- A step that leaves what a view says of names
  pub names_same : (given : List ℕ → ℕ) (views : List (View A E)) (me : ℕ) (view new : View A E)
      → get_elem? views me ≡ some view → lineage new ≡ lineage view → NamesAgree given (map lineage views)
      → NamesAgree given (map lineage (set views me new))
  names_same given views me view new at same agree =
      subst (NamesAgree given) (sym (map-set lineage views me new
      ∙ (ap (set (map lineage views) me) same ∙ set_again (map lineage views) me (lineage view)
      (at_map lineage views me view at)))) agree

  -- A step that leaves what a pass has seen
  pub still_seen : (start : A) (log : List (Signed E)) (views : List (View A E)) (me : ℕ) (view new : View A E)
      → get_elem? views me ≡ some view → new.start ≡ view.start → new.seen ≡ view.seen → IsSeen start log views
      → IsSeen start log (set views me new)
  still_seen start log views me view new at starts sees whole = dite (ℕ_discrete whole.0 me)
      (λ here. let is : view ≡ whole.1 = same_at views whole.0 me view whole.1 whole.2 at here in (
        me,
        new,
        set_here views me new (at_below views me view at),
        starts ∙ (ap (λ (it : View A E). it.start) is ∙ whole.3),
        sees ∙ (ap (λ (it : View A E). it.seen) is ∙ whole.4),
      ))
      (λ else. (whole.0, whole.1, set_else views me whole.0 new else ∙ whole.2, whole.3, whole.4))

  -- A new view changes nothing of this
  pub seen_end : (start : A) (log : List (Signed E)) (views : List (View A E)) (new : View A E) → IsSeen start log views
      → IsSeen start log (views ++ new ∷ [])
  seen_end start log views new whole = (
    whole.0,
    whole.1,
    at_longer views (new ∷ []) whole.0 whole.1 whole.2,
    whole.3,
    whole.4,
  )

module _ {E : Type 0} where
  longer_by : (xs ys : List (Signed E)) (test : Bool) → nat_lt (length xs) (length ys) ≡ test
      → ((longer xs ys ≡ ys) × (length xs ≤ length ys)) ⊎ ((longer xs ys ≡ xs) × (length ys ≤ length xs))
  longer_by xs ys true is = inl (ap (λ test. cond test ys xs) is, below (length xs) (length ys) is)
    where
      below : (left right : ℕ) → nat_lt left right ≡ true → left ≤ right
      below left right is = grind (arith, nat_tests)
  longer_by xs ys false is = inr (ap (λ test. cond test ys xs) is, below (length xs) (length ys) is)
    where
      below : (left right : ℕ) → nat_lt left right ≡ false → right ≤ left
      below left right is = grind (arith, nat_tests)

  -- Of two beginnings of the history, the longer goes on from both
  pub record IsLonger (log xs ys : List (Signed E)) : Type 0 where
    pub front : IsPrefix (longer xs ys) log
    pub own : IsPrefix xs (longer xs ys)
    pub theirs : IsPrefix ys (longer xs ys)
    pub one : (longer xs ys ≡ xs) ⊎ (longer xs ys ≡ ys)

  pub longer_of : (log xs ys : List (Signed E)) → IsPrefix xs log → IsPrefix ys log → IsLonger log xs ys
  longer_of log xs ys first second =
      ⊎_elim
      (λ (is : (longer xs ys ≡ ys) × (length xs ≤ length ys)).
      record {
        front = subst (λ it. IsPrefix it log) (sym is.0) second;
        own =
            subst (IsPrefix xs) (sym is.0) (prefix_shorter xs ys log first second is.1);
        theirs =
            subst (IsPrefix ys) (sym is.0) (prefix_self ys);
        one = inr is.0;
      })
      (λ (is : (longer xs ys ≡ xs) × (length ys ≤ length xs)).
      record {
        front = subst (λ it. IsPrefix it log) (sym is.0) first;
        own =
            subst (IsPrefix xs) (sym is.0) (prefix_self xs);
        theirs =
            subst (IsPrefix ys) (sym is.0) (prefix_shorter ys xs log second first is.1);
        one = inl is.0;
      })
      (longer_by xs ys (nat_lt (length xs) (length ys)) refl)

  -- A part whose names have no more entries in the whole history has none more in a list between
  pub whole_between : (part : Part E) (seen log : List (Signed E)) → IsPrefix part.seen seen → IsPrefix seen log
      → ((name : List ℕ) → Contains part.names name → entries_by name part.seen ≡ entries_by name log)
      → IsWhole seen part
  whole_between part seen log first second own = record {
    front = first;
    same = λ name has.
        sym (entries_by_between name part.seen seen log first second (own name has));
  }

module _ {T A E : Type 0} (stands : T → A → List E → Type 0) (start : A) where
  -- A step of a view that is not at its turn leaves the home as it is
  pub home_same : (log : List (Signed E)) (homes : List (maybe.Option (Option T))) (views : List (View A E)) (me : ℕ)
      (view new : View A E) → get_elem? views me ≡ some view → view.turn ≡ false → new.turn ≡ false
      → IsHome stands start log homes views → IsHome stands start log homes (set views me new)
  home_same log homes views me view new at rests still home =
      ⊎_elim
      (λ (in_slot : (state : T) × (get_elem? homes 0 ≡ some (some (Some state))) × stands state start (entries log)
      × ((i : ℕ) (other : View A E) → get_elem? views i ≡ some other → other.turn ≡ false)).
      inl (
        in_slot.0,
        in_slot.1,
        in_slot.2,
        each_set (λ _ (other : View A E). other.turn ≡ false) views me new still
            (λ j other _ there. in_slot.3 j other there),
      ))
      (λ (out : (i : ℕ) × (other : View A E) × (get_elem? views i ≡ some other) × (other.turn ≡ true)).
      let apart : out.0 ≢ me = λ here. not_true view.turn rests
      (ap (λ (it : View A E). it.turn) (same_at views out.0 me view out.1 out.2 at here) ∙ out.3) in
      inr (out.0, out.1, set_else views me out.0 new apart ∙ out.2, out.3))
      home

  -- A new view that is not at its turn
  pub home_end : (log : List (Signed E)) (homes : List (maybe.Option (Option T))) (views : List (View A E))
      (new : View A E) → new.turn ≡ false → IsHome stands start log homes views
      → IsHome stands start log homes (views ++ new ∷ [])
  home_end log homes views new rests home =
      ⊎_elim
      (λ (in_slot : (state : T) × (get_elem? homes 0 ≡ some (some (Some state))) × stands state start (entries log)
      × ((i : ℕ) (other : View A E) → get_elem? views i ≡ some other → other.turn ≡ false)).
      inl (
        in_slot.0,
        in_slot.1,
        in_slot.2,
        each_end (λ _ (other : View A E). other.turn ≡ false) views new rests
            in_slot.3,
      ))
      (λ (out : (i : ℕ) × (other : View A E) × (get_elem? views i ≡ some other) × (other.turn ≡ true)).
      inr (out.0, out.1, at_longer views (new ∷ []) out.0 out.1 out.2, out.3))
      home

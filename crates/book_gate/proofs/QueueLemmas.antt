-- The queue of tickets through each step.
use Rattle.std.proofs.Common.{◌≡◌, ◌≢◌, ℕ, ◌+◌, ◌^◌, ◌<◌, ◌≤◌, cond, List, [], ◌∷◌, ◌++◌, length, set, refl, sym, ap}
use Rattle.std.proofs.Common.{◌∙◌, ⊎_elim, arith, sum_by, Option, Some, None, is_some}
use Rattle.std.proofs.lemmas.List.Sums.{sum_by-append}
use mathlib.Core.Logic.{dite}
use mathlib.Core.Option.{some}
use native.Mathlib.Decide.{ℕ_discrete}
use lib.ListN.{get_elem?}
use Rattle.atomic_table.proofs.Lists.{at_set, set_here, set_else, at_longer}
use Rattle.book_gate.specs.declared.view.View.{View}
use Rattle.book_gate.specs.Views.{tickets_in, ticket_of, tickets_of, places_of, with_ticket, at_rest}
use Rattle.book_gate.specs.Queue.{IsUnique, HasHolder, Queue}
use Rattle.book_gate.proofs.ListLemmas.{sum_set, sum_below, at_below, at_end, same_at}
use Rattle.book_gate.proofs.OptionLemmas.{no_value, some_same}

one_or_none : (ticket : Option ℕ) → tickets_in ticket ≤ 1
one_or_none None = omega arith
one_or_none (Some k) = omega arith

module _ {A E : Type 0} where
  pub places_of_pass : (view : View A E) (start : A) → view.start ≡ Some start → places_of view ≡ view.room + 1
  places_of_pass view start is = ap (λ (it : Option A). cond (is_some it) (view.room + 1) 0) is

  none_out : (view : View A E) → view.ticket ≡ None → tickets_of view ≡ 0
  none_out view is = ap tickets_in is

  one_out : (view : View A E) (k : ℕ) → view.ticket ≡ Some k → tickets_of view ≡ 1
  one_out view k is = ap tickets_in is

  -- Where only passes have tickets, there are fewer tickets out than passes
  pub few_out : (views : List (View A E)) → sum_by places_of views ≤ 2 ^ 62
      → ((i : ℕ) (view : View A E) → get_elem? views i ≡ some view → (k : ℕ) → view.ticket ≡ Some k
      → (origin : A) × (view.start ≡ Some origin)) → sum_by tickets_of views ≤ 2 ^ 62
  few_out views few alive = omega (
    arith,
    few,
    sum_below tickets_of places_of views
        (λ i view at. by_ticket view view.ticket refl (alive i view at)),
  )
    where
      by_ticket : (view : View A E) (ticket : Option ℕ) → view.ticket ≡ ticket
          → ((k : ℕ) → view.ticket ≡ Some k → (origin : A) × (view.start ≡ Some origin))
          → tickets_of view ≤ places_of view
      by_ticket view None is alive = omega (arith, none_out view is)
      by_ticket view (Some k) is alive = let live = alive k is in
          omega (arith, one_out view k is, places_of_pass view live.0 live.1)

  unique_set : {X : Type 0} (f : View A E → Option X) (views : List (View A E)) (me : ℕ) (new : View A E)
      → IsUnique f views
      → ((j : ℕ) (view : View A E) (x : X) → j ≢ me → get_elem? views j ≡ some view → f view ≡ Some x → f new ≡ Some x
      → ⊥) → IsUnique f (set views me new)
  unique_set {X} f views me new unique apart i j view other x at there is is' =
      ⊎_elim
      (λ (mine : (i ≡ me) × (new ≡ view)).
      ⊎_elim (λ (theirs : (j ≡ me) × (new ≡ other)). mine.0 ∙ sym theirs.0)
      (λ (theirs : (j ≢ me) × (get_elem? views j ≡ some other)).
      absurd (apart j other x theirs.0 theirs.1 is' (ap f mine.1 ∙ is))) (at_set views me j new other there))
      (λ (mine : (i ≢ me) × (get_elem? views i ≡ some view)).
      ⊎_elim (λ (theirs : (j ≡ me) × (new ≡ other)). absurd (apart i view x mine.0 mine.1 is (ap f theirs.1 ∙ is')))
      (λ (theirs : (j ≢ me) × (get_elem? views j ≡ some other)). unique i j view other x mine.1 theirs.1 is is')
      (at_set views me j new other there))
      (at_set views me i new view at)

  unique_same : {X : Type 0} (f : View A E → Option X) (views : List (View A E)) (me : ℕ) (view new : View A E)
      → IsUnique f views → get_elem? views me ≡ some view → f new ≡ f view → IsUnique f (set views me new)
  unique_same f views me view new unique at same = unique_set f views me new unique
      (λ j other x else there is is'. else (unique j me other view x there at is (sym same ∙ is')))

  unique_end : {X : Type 0} (f : View A E → Option X) (views : List (View A E)) (new : View A E) → IsUnique f views
      → ((x : X) → f new ≡ Some x → ⊥) → IsUnique f (views ++ new ∷ [])
  unique_end {X} f views new unique none i j view other x at there is is' =
      ⊎_elim
      (λ (mine : get_elem? views i ≡ some view).
      ⊎_elim (λ (theirs : get_elem? views j ≡ some other). unique i j view other x mine theirs is is')
      (λ (theirs : (j ≡ length views) × (new ≡ other)). absurd (none x (ap f theirs.1 ∙ is')))
      (at_end views new other j there))
      (λ (mine : (i ≡ length views) × (new ≡ view)). absurd (none x (ap f mine.1 ∙ is)))
      (at_end views new view i at)

  -- A step of a view that has another ticket, or none
  keeps_holder : (views : List (View A E)) (me : ℕ) (view new : View A E) (k : ℕ) → get_elem? views me ≡ some view
      → (view.ticket ≡ Some k → ⊥) → HasHolder k views → HasHolder k (set views me new)
  keeps_holder views me view new k at lacks holder = (
    holder.0,
    holder.1,
    set_else views me holder.0 new (λ same.
        lacks (ap (λ (it : View A E). it.ticket) (same_at views holder.0 me view holder.1 holder.2 at same)
        ∙ holder.3)) ∙ holder.2,
    holder.3,
  )

  -- A step of a view that leaves its ticket
  still_holder : (views : List (View A E)) (me : ℕ) (view new : View A E) (k : ℕ) → get_elem? views me ≡ some view
      → new.ticket ≡ view.ticket → HasHolder k views → HasHolder k (set views me new)
  still_holder views me view new k at same holder = dite (ℕ_discrete holder.0 me)
      (λ here. (
        me,
        new,
        set_here views me new (at_below views me view at),
        same
            ∙ (ap (λ (it : View A E). it.ticket) (same_at views holder.0 me view holder.1 holder.2 at here) ∙ holder.3),
      ))
      (λ else. (holder.0, holder.1, set_else views me holder.0 new else ∙ holder.2, holder.3))

  module _ (done all : ℕ) (views : List (View A E)) (queue : Queue done all views) (me : ℕ) (view : View A E)
      (at : get_elem? views me ≡ some view) where
    -- A step that leaves the ticket and the places
    pub queue_same : (new : View A E) → new.ticket ≡ view.ticket → places_of new ≡ places_of view
        → Queue done all (set views me new)
    queue_same new same places = record {
      apart = unique_same ticket_of views me view new queue.apart at same;
      covers = λ k low high. still_holder views me view new k at same (queue.covers k low high);
      count = let before = queue.count in let sum = sum_set tickets_of views me view new at in let out =
          ap tickets_in same in omega (arith, before, sum, out);
      few = let before = queue.few in let sum = sum_set places_of views me view new at in
          omega (arith, before, sum, places);
    }

    pub queue_takes : view.ticket ≡ None → ((j : ℕ) (other : View A E) (k : ℕ) → get_elem? views j ≡ some other
        → other.ticket ≡ Some k → k < all) → Queue done (all + 1) (set views me (with_ticket view all))
    queue_takes idle below = record {
      apart = unique_set ticket_of views me (with_ticket view all) queue.apart
          (λ j other k else there is is'. let last = some_same all k is' in let less = below j other k there is in
          absurd (omega arith));
      covers = λ k low high. dite (ℕ_discrete k all) (λ is. (
        me,
        with_ticket view all,
        set_here views me (with_ticket view all) (at_below views me view at),
        ap Some (sym is),
      ))
          (λ else. keeps_holder views me view (with_ticket view all) k at (λ has. no_value k (sym idle ∙ has))
          (queue.covers k low (omega (arith, else))));
      count = let before = queue.count in let none = none_out view idle in let sum =
          sum_set tickets_of views me view (with_ticket view all) at in omega (arith, before, none, sum);
      few = let before = queue.few in let sum = sum_set places_of views me view (with_ticket view all) at in
          omega (arith, before, sum);
    }

    pub queue_serves : view.ticket ≡ Some done → Queue (done + 1) all (set views me (at_rest view))
    queue_serves own = record {
      apart = unique_set ticket_of views me (at_rest view) queue.apart
          (λ j other k else there is none. no_value k none);
      covers = λ k low high. keeps_holder views me view (at_rest view) k at
          (λ has. let same = some_same done k (sym own ∙ has) in omega arith) (queue.covers k (omega arith) high);
      count = let before = queue.count in let one = one_out view done own in let sum =
          sum_set tickets_of views me view (at_rest view) at in omega (arith, before, one, sum);
      few = let before = queue.few in let sum = sum_set places_of views me view (at_rest view) at in
          omega (arith, before, sum);
    }

    -- A view is cut in two, of which the second has no ticket
    pub queue_splits : (left right : View A E) → left.ticket ≡ view.ticket → right.ticket ≡ None
        → places_of left + places_of right ≤ places_of view → Queue done all (set views me left ++ right ∷ [])
    queue_splits left right same idle places = record {
      apart = unique_end ticket_of (set views me left) right (unique_same ticket_of views me view left queue.apart at
          same) (λ k has. no_value k (sym idle ∙ has));
      covers = λ k low high. let holder = still_holder views me view left k at same (queue.covers k low high) in
          (holder.0, holder.1, at_longer (set views me left) (right ∷ []) holder.0 holder.1 holder.2, holder.3);
      count = let before = queue.count in let none = none_out right idle in let out = ap tickets_in same in let sum =
          sum_set tickets_of views me view left at in omega (
            arith,
            before,
            none,
            out,
            sum,
            sum_by-append tickets_of (set views me left) (right ∷ []),
          );
      few = let before = queue.few in let sum = sum_set places_of views me view left at in
          omega (arith, before, sum, places, sum_by-append places_of (set views me left) (right ∷ []));
    }

    -- Two views are made one, of which the second had no ticket
    pub queue_joins : (at_other : ℕ) (other both spent : View A E) → get_elem? (set views me both) at_other ≡ some other
        → both.ticket ≡ view.ticket → other.ticket ≡ None → spent.ticket ≡ None
        → places_of both + places_of spent ≤ places_of view + places_of other
        → Queue done all (set (set views me both) at_other spent)
    queue_joins at_other other both spent there same idle none places = record {
      apart = unique_set ticket_of (set views me both) at_other spent
          (unique_same ticket_of views me view both queue.apart at same)
          (λ j third k else here is has. no_value k (sym none ∙ has));
      covers = λ k low high. keeps_holder (set views me both) at_other other spent k there
          (λ has. no_value k (sym idle ∙ has)) (still_holder views me view both k at same (queue.covers k low high));
      count = let before = queue.count in let out = ap tickets_in same in let zero = none_out other idle in let zero' =
          none_out spent none in let sum = sum_set tickets_of views me view both at in let sum' =
          sum_set tickets_of (set views me both) at_other other spent there in
          omega (arith, before, out, zero, zero', sum, sum');
      few = let before = queue.few in let sum = sum_set places_of views me view both at in let sum' =
          sum_set places_of (set views me both) at_other other spent there in omega (arith, before, places, sum, sum');
    }

-- Calls of a tally, one after another.
use Rattle.std.proofs.Common.{◌≡◌, ℕ, ◌+◌, ◌<◌, true, false, cond, ◌||◌, List, [], ◌∷◌, ◌++◌, length, refl, sym, ap}
use Rattle.std.proofs.Common.{◌∙◌, subst, arith, length-append}
use Rattle.std.specs.Prelude.{Contains}
use Rattle.std.proofs.lemmas.List.{append-nil, append_assoc}
use Rattle.std.proofs.lemmas.List.Folds.{list_any-append}
use mathlib.Core.List.{IsPrefix}
use Rattle.book_gate.specs.declared.view.Signed.{Signed}
use Rattle.book_gate.specs.Histories.{is_name, entries_by, signed}
use Rattle.book_gate.specs.Known.{Known, Glimpsed}
use Rattle.book_gate.specs.Calls.{IsLater, Enters, Learns}
use Rattle.book_gate.proofs.ListLemmas.{prefix_self, prefix_trans}
use Rattle.book_gate_many.specs.declared.tally.Added.{Added}
use Rattle.book_gate_many.specs.Tallies.{added}
use Rattle.book_gate_many.specs.Adding.{ones_by, Adds, HasAdded, has_made}

ones_by-append : (name totals others : List ℕ) → ones_by name (totals ++ others) ≡ ones_by name totals
    ++ ones_by name others
ones_by-append name [] others = refl
ones_by-append name (total ∷ totals) others = ap (λ entries. signed name (added 1 total) ∷ entries)
    (ones_by-append name totals others)

later_twice : (pass now later : Known ℕ Added) → IsLater pass now → IsLater now later → IsLater pass later
later_twice pass now later first second = second ∙ (λ i. record (first i) { seen = later.seen })

pub length-ones : (name totals : List ℕ) → length (ones_by name totals) ≡ length totals
length-ones name [] = refl
length-ones name (total ∷ totals) = omega (arith, length-ones name totals)

-- No call
pub adds_none : (pass : Known ℕ Added) → Adds 0 pass pass
adds_none pass = record {
  rest = refl;
  front = prefix_self pass.seen;
  totals = [];
  count = refl;
  mine =
      sym (append-nil (entries_by pass.name pass.seen));
  joined = λ name has. refl;
}

-- Some calls, and then others
pub adds_both : (pass now later : Known ℕ Added) (times more : ℕ) → Adds times pass now → Adds more now later
    → Adds (times + more) pass later
adds_both pass now later times more first second =
    let name_is = ap (λ (it : Known ℕ Added). it.name) first.rest in
    let joined_is = ap (λ (it : Known ℕ Added). it.joined) first.rest in
    let own = entries_by pass.name pass.seen in record {
      rest = later_twice pass now later first.rest second.rest;
      front = prefix_trans pass.seen now.seen later.seen first.front second.front;
      totals = first.totals ++ second.totals;
      count = length-append first.totals second.totals ∙ omega (arith, first.count, second.count);
      mine = subst (λ name. entries_by name later.seen ≡ entries_by name now.seen ++ ones_by name second.totals) name_is
          second.mine
          ∙ (ap (λ entries. entries ++ ones_by pass.name second.totals) first.mine
          ∙ (append_assoc own (ones_by pass.name first.totals) (ones_by pass.name second.totals)
          ∙ ap (λ entries. own ++ entries) (sym (ones_by-append pass.name first.totals second.totals))));
      joined = λ name has. second.joined name (subst (λ it. Contains it name) (sym joined_is) has)
          ∙ first.joined name has;
    }

module _ (law : ℕ → List Added → Added → Type 0) (pass later : Known ℕ Added) where
  -- One call
  pub adds_one : (total : ℕ) → Enters law pass (added 1 total) later → Adds 1 pass later
  adds_one total enters = record {
    rest = enters.rest;
    front = (
      enters.between ++ signed pass.name (added 1 total) ∷ [],
      sym (append_assoc pass.seen enters.between (signed pass.name (added 1 total) ∷ [])) ∙ sym enters.seen,
    );
    totals = total ∷ [];
    count = refl;
    mine = enters.mine;
    joined = enters.joined;
  }

  -- What is learned is no call
  pub adds_by_learning : (glimpse : Glimpsed Added) → Learns law pass glimpse later → Adds 0 pass later
  adds_by_learning glimpse learns = record {
    rest = learns.becomes ∙ (λ i. record pass { seen = sym (ap (λ (it : Known ℕ Added). it.seen) learns.becomes) i });
    front = learns.own.front;
    totals = [];
    count = refl;
    mine = learns.own.mine ∙ sym (append-nil (entries_by pass.name pass.seen));
    joined = learns.own.joined;
  }

-- An entry that was seen is seen later
pub still_made : (name : List ℕ) (seen later : List (Signed Added)) → IsPrefix seen later → has_made name seen ≡ true
    → has_made name later ≡ true
still_made name seen later front made =
    ap (has_made name) (sym front.1) ∙ (list_any-append (λ (entry : Signed Added). is_name name entry.name) seen front.0
    ∙ ap (λ test. test || has_made name front.0) made)

-- A pass that made calls more has made as many more
pub made_more : (pass later : Known ℕ Added) (times more : ℕ) → HasAdded times pass → Adds more pass later
    → HasAdded (times + more) later
made_more pass later times more has adds =
    let name_is = ap (λ (it : Known ℕ Added). it.name) adds.rest in record {
      totals = has.totals ++ adds.totals;
      count = length-append has.totals adds.totals ∙ omega (arith, has.count, adds.count);
      mine = subst (λ name. entries_by name later.seen ≡ ones_by name (has.totals ++ adds.totals)) (sym name_is)
          (adds.mine ∙ (ap (λ entries. entries ++ ones_by pass.name adds.totals) has.mine
          ∙ sym (ones_by-append pass.name has.totals adds.totals)));
    }

-- A pass that made a call has made one of the entries that it has seen
made_from : (name : List ℕ) (seen : List (Signed Added)) → 0 < length (entries_by name seen) → has_made name seen ≡ true
made_from name [] some = absurd (omega (arith, some))
made_from name (x ∷ seen) some =
    elim (is_name name x.name) as (λ test. 0 < length (cond test (x ∷ entries_by name seen) (entries_by name seen))
    → (test || has_made name seen) ≡ true) [
      | true ↦ λ some. refl
      | false ↦ λ some. made_from name seen some
    ] some

pub made_once : (pass : Known ℕ Added) (times : ℕ) → HasAdded (times + 1) pass → has_made pass.name pass.seen ≡ true
made_once pass times has = made_from pass.name pass.seen (omega
    (arith, ap length has.mine, length-ones pass.name has.totals, has.count))

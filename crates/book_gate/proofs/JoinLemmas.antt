-- Joining a pass into a pass, and learning from a glimpse, keep the rule of the gate.
use Rattle.std.proofs.Common.{◌≡◌, ◌≢◌, ◌⊎◌, ℕ, false, List, [], ◌∷◌, ◌++◌, map}
use Rattle.std.proofs.Common.{length, set, refl, sym, ap, subst, ◌∙◌, inl, inr, ⊎_elim, arith, Option}
use Rattle.std.proofs.Common.{Some, None, is_some}
use Rattle.std.specs.Prelude.{Contains}
use Rattle.std.proofs.lemmas.List.{map-set}
use mathlib.Core.Logic.{dite}
use mathlib.Core.Option.{some}
use mathlib.Core.List.{IsPrefix}
use native.Mathlib.Decide.{ℕ_discrete}
use lib.ListN.{get_elem?}
use Rattle.atomic_table.specs.Table.{State, Joins}
use Rattle.atomic_table.proofs.Lists.{set_here, set_else, at_map}
use Rattle.book_gate.specs.declared.view.Signed.{Signed}
use Rattle.book_gate.specs.declared.view.Lesson.{Lesson}
use Rattle.book_gate.specs.declared.view.View.{View}
use Rattle.book_gate.specs.Histories.{entries_by}
use Rattle.book_gate.specs.Names.{NamesAgree}
use Rattle.book_gate.specs.Views.{lineage, own_names, part_of, spent_view}
use Rattle.book_gate.specs.Views.{joined_view, taught_view, longer, IsWhole}
use Rattle.book_gate.specs.Rule.{ViewFits, IsSeen, GateRule}
use Rattle.book_gate.proofs.ListLemmas.{prefix_length, prefix_whole, each_set, same_at, at_below}
use Rattle.book_gate.proofs.ListLemmas.{contains_none, contains_here, contains_there, contains_cases}
use Rattle.book_gate.proofs.OptionLemmas.{none_of, not_true, some_same}
use Rattle.book_gate.proofs.HistoryLemmas.{entries_by_between}
use Rattle.book_gate.proofs.NameLemmas.{names_drop}
use Rattle.book_gate.proofs.JoinNameLemmas.{joined_cases}
use Rattle.book_gate.proofs.JoinNameLemmas.{names_join}
use Rattle.book_gate.proofs.QueueLemmas.{places_of_pass, queue_joins}
use Rattle.book_gate.proofs.ViewLemmas.{fits_no_pass, names_same, IsLonger, longer_of}
use Rattle.book_gate.proofs.ViewLemmas.{whole_between, home_same}

module _ {A E : Type 0} where
  -- An own name of two joined views is one of the first or of the second
  join_names : (view other : View A E) (name : List ℕ) → Contains (own_names (joined_view view other)) name
      → Contains (own_names view) name ⊎ Contains (own_names other) name
  join_names view other name has =
      ⊎_elim (λ (is : view.name ≡ name). inl (subst (Contains (own_names view)) is
      (contains_here view.name view.joined)))
      (λ rest. ⊎_elim
      (λ old. ⊎_elim (λ (mine : Contains view.joined name). inl (contains_there view.name view.joined name mine))
      (λ (theirs : Contains other.joined name). inr (contains_there other.name other.joined name theirs)) old)
      (λ (is : other.name ≡ name). inr (subst (Contains (own_names other)) is (contains_here other.name other.joined)))
      (joined_cases (lineage view) (lineage other) name rest))
      (contains_cases view.name ((view.joined ++ other.joined) ++ other.name ∷ []) name has)

module _ {E : Type 0} where
  -- A name with no more entries in the whole history has none more in a list between
  same_between : (name : List ℕ) (front middle log : List (Signed E)) → IsPrefix front middle → IsPrefix middle log
      → entries_by name front ≡ entries_by name log → entries_by name middle ≡ entries_by name log
  same_between name front middle log first second same = sym (entries_by_between name front middle log first second
      same) ∙ same

  -- The longer of two beginnings of the history is the whole where one of them is
  longer_whole : (log xs ys : List (Signed E)) → IsLonger log xs ys → (xs ≡ log) ⊎ (ys ≡ log) → longer xs ys ≡ log
  longer_whole log xs ys long whole =
      prefix_whole _ _ long.front (⊎_elim (λ (is : xs ≡ log). omega (arith, ap length is, prefix_length _ _ long.own))
      (λ (is : ys ≡ log). omega (arith, ap length is, prefix_length _ _ long.theirs)) whole)

module _ {A E : Type 0} (start : A) (log : List (Signed E)) (done all : ℕ) where
  joined_fits : (view other : View A E) (origin origin' : A) → view.start ≡ Some origin → other.start ≡ Some origin'
      → view.turn ≡ false → ViewFits start log done all view → ViewFits start log done all other
      → ViewFits start log done all (joined_view view other)
  joined_fits view other origin origin' live alive rests mine theirs =
      let long = longer_of log view.seen other.seen mine.seen theirs.seen in record {
        opened = mine.opened;
        seen = long.front;
        own = λ _ _ name has. ⊎_elim
            (λ (own : Contains (own_names view) name). same_between name view.seen (longer view.seen other.seen) log
            long.own long.front (mine.own origin live name own))
            (λ (own : Contains (own_names other) name). same_between name other.seen (longer view.seen other.seen) log
            long.theirs long.front (theirs.own origin' alive name own))
            (join_names view other name has);
        out = mine.out;
        alive = mine.alive;
        turn = λ on. absurd (not_true view.turn rests on);
        lesson = λ lesson is. subst (λ (it : Lesson E). IsWhole (longer view.seen other.seen) it.own
            × IsWhole (longer view.seen other.seen) it.other) (some_same _ lesson is) (
              whole_between (part_of view) (longer view.seen other.seen) log long.own long.front (mine.own origin live),
              whole_between (part_of other) (longer view.seen other.seen) log long.theirs long.front
                  (theirs.own origin' alive),
            );
      }

  taught_fits : (view glimpse : View A E) (origin : A) → view.start ≡ Some origin → view.turn ≡ false
      → ViewFits start log done all view → IsPrefix glimpse.seen log
      → ViewFits start log done all (taught_view view glimpse)
  taught_fits view glimpse origin live rests mine front =
      let long = longer_of log view.seen glimpse.seen mine.seen front in record {
        opened = mine.opened;
        seen = long.front;
        own = λ origin' is name has. same_between name view.seen (longer view.seen glimpse.seen) log long.own long.front
            (mine.own origin' is name has);
        out = mine.out;
        alive = mine.alive;
        turn = λ on. absurd (not_true view.turn rests on);
        lesson = λ lesson is. subst (λ (it : Lesson E). IsWhole (longer view.seen glimpse.seen) it.own
            × IsWhole (longer view.seen glimpse.seen) it.other) (some_same _ lesson is) (
              whole_between (part_of view) (longer view.seen glimpse.seen) log long.own long.front
                  (mine.own origin live),
              record {
                front = long.theirs;
                same = λ name has.
                    absurd (contains_none name has);
              },
            );
      }

module _ {T A E : Type 0} (stands : T → A → List E → Type 0) (law : A → List E → E → Type 0) (start : A) where
  abbrev Table : Type 0
  Table = State (Option T) (View A E)

  abbrev Rule : Table → Type 0
  Rule = GateRule stands law start

  pub joins : (me at_other : ℕ) (view other : View A E) (origin origin' : A) → view.start ≡ Some origin
      → view.turn ≡ false → other.start ≡ Some origin' → other.ticket ≡ None → other.turn ≡ false
      → Joins Rule me view at_other other (joined_view view other) spent_view
  joins me at_other view other origin origin' live rests alive idle rests' state rule at two there_now =
      let ledger = rule.ledger in
      let views = state.views in
      let both = joined_view view other in
      let mid = set views me both in
      let there : get_elem? views at_other ≡ some other = sym (set_else views me at_other both two) ∙ there_now in
      let mine = rule.each me view at in
      let theirs = rule.each at_other other there in
      let long = longer_of ledger.log view.seen other.seen mine.seen theirs.seen in
      let found : get_elem? (set mid at_other spent_view) me ≡ some both =
      set_else mid at_other me spent_view (λ same. two (sym same))
      ∙ set_here views me both (at_below views me view at) in
      let here : origin ≡ start = mine.opened origin live in
      let whole_now : (view.seen ≡ ledger.log) ⊎ (other.seen ≡ ledger.log)
      → IsSeen start ledger.log (set mid at_other spent_view) = λ whole.
      (me, both, found, live ∙ ap Some here, longer_whole ledger.log view.seen other.seen long whole) in
      let whole = rule.history.seen in record {
        ledger = ledger;
        words = rule.words;
        queue = queue_joins ledger.done ledger.all views rule.queue me view at at_other other both spent_view there_now
            refl idle refl
            (let first = places_of_pass view origin live in let second = places_of_pass other origin' alive in let sum =
            places_of_pass both origin live in omega (arith, first, second, sum));
        history = record {
          legal = rule.history.legal;
          named = rule.history.named;
          seen = dite (ℕ_discrete whole.0 me) (λ is. whole_now
              (inl (ap (λ (it : View A E). it.seen) (same_at views whole.0 me view whole.1 whole.2 at is) ∙ whole.4)))
              (λ else. dite (ℕ_discrete whole.0 at_other) (λ is.
              whole_now (inr (ap (λ (it : View A E). it.seen)
              (same_at views whole.0 at_other other whole.1 whole.2 there is) ∙ whole.4)))
              (λ else'. (
                whole.0,
                whole.1,
                set_else mid at_other whole.0 spent_view else'
                    ∙ (set_else views me whole.0 both else ∙ whole.2),
                whole.3,
                whole.4,
              )));
        };
        each = each_set (λ _ (third : View A E). ViewFits start ledger.log ledger.done ledger.all third) mid at_other
            spent_view (fits_no_pass start ledger.log ledger.done ledger.all [] (ledger.log, refl))
            (λ j third _ at'. each_set (λ _ (third : View A E). ViewFits start ledger.log ledger.done ledger.all third)
            views me both (joined_fits start ledger.log ledger.done ledger.all view other origin origin' live alive
            rests mine theirs)
            (λ i fourth _ at''. rule.each i fourth at'') j third at');
        names = subst (NamesAgree ledger.given) (sym (map-set lineage mid at_other spent_view
            ∙ ap (λ lines. set lines at_other (lineage (spent_view {A = A} {E = E}))) (map-set lineage views me both)))
            (names_join ledger.given (map lineage views) me at_other (lineage view) (lineage other) rule.names
            (at_map lineage views me view at) (at_map lineage views at_other other there) (ap is_some live)
            (ap is_some alive));
        home = home_same stands start ledger.log state.homes mid at_other other spent_view there_now rests' refl
            (home_same stands start ledger.log state.homes views me view both at rests rests rule.home);
      }

  pub learns : (me at_other : ℕ) (view glimpse : View A E) (origin : A) → view.start ≡ Some origin → view.turn ≡ false
      → is_some glimpse.start ≡ false → glimpse.ticket ≡ None → glimpse.turn ≡ false
      → Joins Rule me view at_other glimpse (taught_view view glimpse) spent_view
  learns me at_other view glimpse origin live rests no_pass idle rests' state rule at two there_now =
      let ledger = rule.ledger in
      let views = state.views in
      let taught = taught_view view glimpse in
      let mid = set views me taught in
      let there : get_elem? views at_other ≡ some glimpse = sym (set_else views me at_other taught two) ∙ there_now in
      let mine = rule.each me view at in
      let long = longer_of ledger.log view.seen glimpse.seen mine.seen (rule.each at_other glimpse there).seen in
      let found : get_elem? (set mid at_other spent_view) me ≡ some taught =
      set_else mid at_other me spent_view (λ same. two (sym same))
      ∙ set_here views me taught (at_below views me view at) in
      let here : origin ≡ start = mine.opened origin live in
      let whole = rule.history.seen in record {
        ledger = ledger;
        words = rule.words;
        queue = queue_joins ledger.done ledger.all views rule.queue me view at at_other glimpse taught spent_view
            there_now refl idle refl (omega arith);
        history = record {
          legal = rule.history.legal;
          named = rule.history.named;
          seen = dite (ℕ_discrete whole.0 me)
              (λ is. (
                me,
                taught,
                found,
                live ∙ ap Some here,
                longer_whole ledger.log view.seen glimpse.seen long
                    (inl (ap (λ (it : View A E). it.seen) (same_at views whole.0 me view whole.1 whole.2 at is)
                    ∙ whole.4)),
              ))
              (λ else.
              let else' : whole.0 ≢ at_other = λ is. none_of glimpse.start no_pass start
              (ap (λ (it : View A E). it.start) (same_at views whole.0 at_other glimpse whole.1 whole.2 there is)
              ∙ whole.3) in (
                whole.0,
                whole.1,
                set_else mid at_other whole.0 spent_view else'
                    ∙ (set_else views me whole.0 taught else ∙ whole.2),
                whole.3,
                whole.4,
              ));
        };
        each = each_set (λ _ (third : View A E). ViewFits start ledger.log ledger.done ledger.all third) mid at_other
            spent_view (fits_no_pass start ledger.log ledger.done ledger.all [] (ledger.log, refl))
            (λ j third _ at'. each_set (λ _ (third : View A E). ViewFits start ledger.log ledger.done ledger.all third)
            views me taught (taught_fits start ledger.log ledger.done ledger.all view glimpse origin live rests mine
            (rule.each at_other glimpse there).seen)
            (λ i fourth _ at''. rule.each i fourth at'') j third at');
        names = subst (NamesAgree ledger.given) (sym (map-set lineage mid at_other spent_view))
            (names_drop ledger.given (map lineage mid) (names_same ledger.given views me view taught at refl rule.names)
            at_other);
        home = home_same stands start ledger.log state.homes mid at_other glimpse spent_view there_now rests' refl
            (home_same stands start ledger.log state.homes views me view taught at rests rests rule.home);
      }

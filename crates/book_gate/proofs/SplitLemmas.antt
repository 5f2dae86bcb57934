-- Splitting a pass off a pass, and making a glimpse of one, keep the rule of the gate.
use Rattle.std.proofs.Common.{◌≡◌, ℕ, ◌<◌, false, true≢false, List, [], ◌∷◌, ◌++◌, map}
use Rattle.std.proofs.Common.{set, refl, sym, ap, subst, ◌∙◌, arith, Option}
use Rattle.std.proofs.Common.{Some, is_some}
use Rattle.std.proofs.lemmas.List.{map-set, map-append}
use Rattle.atomic_table.specs.Table.{State, Splits}
use Rattle.atomic_table.proofs.Lists.{at_map}
use Rattle.book_gate.specs.declared.view.Signed.{Signed}
use Rattle.book_gate.specs.declared.view.View.{View}
use Rattle.book_gate.specs.Histories.{entries_by}
use Rattle.book_gate.specs.Names.{NamesAgree, child_name}
use Rattle.book_gate.specs.Views.{lineage, glimpse_view, parent_view}
use Rattle.book_gate.specs.Views.{child_view}
use Rattle.book_gate.specs.Rule.{ViewFits, GateRule}
use Rattle.book_gate.proofs.ListLemmas.{each_set, each_end}
use Rattle.book_gate.proofs.ListLemmas.{contains_one}
use Rattle.book_gate.proofs.OptionLemmas.{no_value}
use Rattle.book_gate.proofs.HistoryLemmas.{entries_by_unknown_prefix}
use Rattle.book_gate.proofs.NameLemmas.{gives_one, still_given, names_more}
use Rattle.book_gate.proofs.SplitNameLemmas.{names_split}
use Rattle.book_gate.proofs.QueueLemmas.{places_of_pass, queue_splits}
use Rattle.book_gate.proofs.ViewLemmas.{fits_no_pass, names_same, still_seen, seen_end}
use Rattle.book_gate.proofs.ViewLemmas.{home_same, home_end}
use Rattle.book_gate.proofs.StepLemmas.{next_unknown, line_of}

module _ {A E : Type 0} (start : A) (log : List (Signed E)) (done all : ℕ) where
  child_fits : (view : View A E) → ViewFits start log done all view
      → entries_by (child_name view.name view.next) log ≡ [] → ViewFits start log done all (child_view view)
  child_fits view fits unknown = record {
    opened = fits.opened;
    seen = fits.seen;
    own = λ origin live name has. subst (λ it. entries_by it view.seen ≡ entries_by it log)
        (contains_one (child_name view.name view.next) name has)
        (entries_by_unknown_prefix (child_name view.name view.next) view.seen log fits.seen unknown ∙ sym unknown);
    out = λ k is. absurd (no_value k is);
    alive = λ k is. absurd (no_value k is);
    turn = λ on. absurd (true≢false (sym on));
    lesson = λ lesson is. absurd (no_value lesson is);
  }

module _ {T A E : Type 0} (stands : T → A → List E → Type 0) (law : A → List E → E → Type 0) (start : A) where
  abbrev Table : Type 0
  Table = State (Option T) (View A E)

  abbrev Rule : Table → Type 0
  Rule = GateRule stands law start

  pub splits : (me : ℕ) (view : View A E) (origin : A) → view.start ≡ Some origin → view.turn ≡ false → 0 < view.room
      → Splits Rule me view (parent_view view) (child_view view)
  splits me view origin live rests room state rule at =
      let ledger = rule.ledger in
      let views = state.views in
      let mine = rule.each me view at in
      let line = line_of stands law start state rule me view origin at live in
      let left = parent_view view in
      let right = child_view view in
      let old = set views me left in
      let unknown = next_unknown ledger.given view ledger.log line rule.history.named in record {
        ledger = record {
          log = ledger.log;
          given = gives_one ledger.given view.name;
          done = ledger.done;
          all =
              ledger.all;
        };
        words = rule.words;
        queue = queue_splits ledger.done ledger.all views rule.queue me view at left right refl refl
            (let whole = places_of_pass view origin live in let first = places_of_pass left origin live in let second =
            places_of_pass right origin live in omega (arith, whole, first, second));
        history = record {
          legal = rule.history.legal;
          named = λ x has. still_given ledger.given view.name x.name (rule.history.named x has);
          seen = seen_end start ledger.log old right (still_seen start ledger.log views me view left at refl refl
              rule.history.seen);
        };
        each = each_end (λ _ (other : View A E). ViewFits start ledger.log ledger.done ledger.all other) old right
            (child_fits start ledger.log ledger.done ledger.all view mine unknown)
            (each_set (λ _ (other : View A E). ViewFits start ledger.log ledger.done ledger.all other) views me left
            (record {
              opened = mine.opened;
              seen = mine.seen;
              own = mine.own;
              out = mine.out;
              alive = mine.alive;
              turn =
                  mine.turn;
              lesson = mine.lesson;
            })
            (λ j other _ there. rule.each j other there));
        names = subst (NamesAgree (gives_one ledger.given view.name))
            (sym (map-append lineage old (right ∷ []) ∙ ap (λ lines. lines ++ lineage right ∷ [])
            (map-set lineage views me left)))
            (names_split ledger.given (map lineage views) me (lineage view) rule.names (at_map lineage views me view at)
            (ap is_some live));
        home = home_end stands start ledger.log state.homes old right refl
            (home_same stands start ledger.log state.homes views me view left at rests rests rule.home);
      }

  pub glimpses : (me : ℕ) (view : View A E) → view.turn ≡ false → Splits Rule me view view (glimpse_view view.seen)
  glimpses me view rests state rule at =
      let ledger = rule.ledger in
      let views = state.views in
      let mine = rule.each me view at in
      let new = glimpse_view view.seen in
      let old = set views me view in record {
        ledger = ledger;
        words = rule.words;
        queue = queue_splits ledger.done ledger.all views rule.queue me view at view new refl refl (omega arith);
        history = record {
          legal = rule.history.legal;
          named = rule.history.named;
          seen =
              seen_end start ledger.log old new (still_seen start ledger.log views me view view at refl refl
              rule.history.seen);
        };
        each = each_end (λ _ (other : View A E). ViewFits start ledger.log ledger.done ledger.all other) old new
            (fits_no_pass start ledger.log ledger.done ledger.all view.seen mine.seen)
            (each_set (λ _ (other : View A E). ViewFits start ledger.log ledger.done ledger.all other) views me view
            mine (λ j other _ there. rule.each j other there));
        names = subst (NamesAgree ledger.given) (sym (map-append lineage old (new ∷ [])))
            (names_more ledger.given (map lineage old) (names_same ledger.given views me view view at refl rule.names)
            (lineage new) refl);
        home = home_end stands start ledger.log state.homes old new refl
            (home_same stands start ledger.log state.homes views me view view at rests rests rule.home);
      }

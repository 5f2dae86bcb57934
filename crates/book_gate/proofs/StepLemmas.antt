-- Taking a ticket, and a look that changes nothing, keep the rule of the gate.
use Rattle.std.proofs.Common.{◌≡◌, ℕ, ◌+◌, ◌%◌, ◌^◌, false, List, [], ◌∷◌, length}
use Rattle.std.proofs.Common.{refl, sym, ap, subst, ◌∙◌, arith, Option, Some, None}
use Rattle.std.proofs.Common.{is_some}
use Rattle.std.specs.Prelude.{slice_index, slice_set, Contains}
use Rattle.std.proofs.Math.Nat.{mod-add-mod}
use mathlib.Core.Option.{some, none}
use mathlib.Core.List.{IsPrefix}
use lib.ListN.{get_elem?}
use lib.Seq.{set-get_or}
use Rattle.atomic_table.specs.Table.{State, keeps, step, Allows}
use Rattle.atomic_table.proofs.Lists.{set_again, at_map}
use Rattle.book_gate.specs.declared.view.Signed.{Signed}
use Rattle.book_gate.specs.declared.view.View.{View}
use Rattle.book_gate.specs.Histories.{Legal, entries, entries_by}
use Rattle.book_gate.specs.Names.{child_name, IsGivenOut, IsTrueLine}
use Rattle.book_gate.specs.Views.{lineage, places_of, with_ticket}
use Rattle.book_gate.specs.Rule.{ViewFits, GateRule}
use Rattle.book_gate.specs.Steps.{AreNamed, taken, reviewed}
use Rattle.book_gate.proofs.ListLemmas.{each_set, one_of_sum}
use Rattle.book_gate.proofs.ListLemmas.{contains_prefix, all_contained}
use Rattle.book_gate.proofs.OptionLemmas.{not_true, some_same}
use Rattle.book_gate.proofs.HistoryLemmas.{legal_prefix, entries-prefix}
use Rattle.book_gate.proofs.HistoryLemmas.{entries_by_unknown, entries_by_unknown_prefix}
use Rattle.book_gate.proofs.NameLemmas.{next_is_new}
use Rattle.book_gate.proofs.JoinNameLemmas.{all_joined}
use Rattle.book_gate.proofs.QueueLemmas.{places_of_pass, queue_takes}
use Rattle.book_gate.proofs.ViewLemmas.{fits_more_tickets, names_same, still_seen, home_same}

module _ {A E : Type 0} where
  -- What a pass has seen of a history in which each name was given out
  pub named_of : (given : List ℕ → ℕ) (view : View A E) (seen log : List (Signed E)) → IsTrueLine given (lineage view)
      → IsPrefix seen log → ((x : Signed E) → Contains log x → IsGivenOut given x.name)
      → AreNamed view.name view.split view.joined seen
  named_of given view seen log fits front named root all x has =
      all_joined given (lineage view) fits root (all_contained view.split view.joined all) x.name
      (named x (contains_prefix seen log x front has))

  -- No entry has the name that a pass gives out next
  pub next_unknown : (given : List ℕ → ℕ) (view : View A E) (log : List (Signed E)) → IsTrueLine given (lineage view)
      → ((x : Signed E) → Contains log x → IsGivenOut given x.name)
      → entries_by (child_name view.name view.next) log ≡ []
  next_unknown given view log fits named =
      entries_by_unknown (child_name view.name view.next) log
      (λ x has same. next_is_new given (lineage view) fits (subst (IsGivenOut given) (sym same) (named x has)))

module _ {T A E : Type 0} (stands : T → A → List E → Type 0) (law : A → List E → E → Type 0) (start : A) where
  abbrev Table : Type 0
  Table = State (Option T) (View A E)

  abbrev Rule : Table → Type 0
  Rule = GateRule stands law start

  pub line_of : (state : Table) (rule : Rule state) (me : ℕ) (view : View A E) (origin : A)
      → get_elem? state.views me ≡ some view → view.start ≡ Some origin → IsTrueLine rule.ledger.given (lineage view)
  line_of state rule me view origin at live = rule.names.each me (lineage view) (at_map lineage state.views me view at)
      (ap is_some live)

  pub takes_ticket : (slots me : ℕ) (view : View A E) (carried : List (ℕ × Option T)) (origin : A)
      → view.start ≡ Some origin → view.ticket ≡ None → view.turn ≡ false
      → Allows Rule slots me (view, carried) 0 (λ word. (word + 1) % 2 ^ 64)
      (taken (step slots 0 1 0 none) (view, carried))
  takes_ticket slots me view carried origin live idle rests state rule len at below =
      let ledger = rule.ledger in
      let new = with_ticket view ledger.all in
      let mine = rule.each me view at in
      let here : origin ≡ start = mine.opened origin live in (
        new,
        keeps,
        tt,
        record {
          ledger = record { log = ledger.log; given = ledger.given; done = ledger.done; all = ledger.all + 1 };
          words = ap (λ words. slice_set words 0 ((slice_index words 0 + 1) % 2 ^ 64)) rule.words
              ∙ ap (λ (word : ℕ). word ∷ (ledger.done % 2 ^ 64) ∷ (length ledger.log % 2 ^ 64) ∷ [])
              (mod-add-mod ledger.all (2 ^ 64) 1);
          queue = queue_takes ledger.done ledger.all state.views rule.queue me view at idle
              (λ j other k there is. ((rule.each j other there).out k is).1);
          history = record {
            legal = rule.history.legal;
            named = rule.history.named;
            seen =
                still_seen start ledger.log state.views me view new at refl refl rule.history.seen;
          };
          each = each_set (λ _ (other : View A E). ViewFits start ledger.log ledger.done (ledger.all + 1) other)
              state.views me new
              (record {
                opened = mine.opened;
                seen = mine.seen;
                own = mine.own;
                out = λ k is. let same = some_same ledger.all k is in let count = rule.queue.count in
                    (omega arith, omega arith);
                alive = λ k is. live ∙ ap Some here;
                turn = λ on. absurd (not_true view.turn rests on);
                lesson = mine.lesson;
              })
              (λ j other _ there. fits_more_tickets start ledger.log ledger.done ledger.all other
              (rule.each j other there));
          names = names_same ledger.given state.views me view new at refl rule.names;
          home = home_same stands start ledger.log state.homes state.views me view new at rests rests rule.home;
        },
        (ledger.all, sym (ap (λ words. slice_index words 0) rule.words), refl),
      )

  -- A step that changes nothing
  pub unmoved : (state : Table) (i me : ℕ) (view : View A E) → Rule state → get_elem? state.views me ≡ some view
      → Rule record {
        words = slice_set state.words i (slice_index state.words i);
        homes = state.homes;
        views =
            slice_set state.views me view;
      }
  unmoved state i me view rule at =
      subst (λ (it : List ℕ × List (View A E)). Rule record { words = it.0; homes = state.homes; views = it.1 })
      (λ k. (sym (set-get_or state.words i 0) k, sym (set_again state.views me view at) k)) rule

  pub reviews : (slots me : ℕ) (view : View A E) (carried : List (ℕ × Option T)) (origin : A) → view.start ≡ Some origin
      → Allows Rule slots me (view, carried) 1 (λ word. word) (reviewed law (step slots 1 0 0 none) (view, carried))
  reviews slots me view carried origin live state rule len at below =
      let ledger = rule.ledger in
      let mine = rule.each me view at in
      let line = line_of state rule me view origin at live in (
        view,
        keeps,
        tt,
        unmoved state 1 me view rule at,
        (
          refl,
          record {
            legal = λ origin' is. legal_prefix law origin' (entries view.seen) (entries ledger.log)
                (entries-prefix view.seen ledger.log mine.seen)
                (subst (λ (it : A). Legal law it (entries ledger.log)) (sym (mine.opened origin' is))
                rule.history.legal);
            named = named_of ledger.given view view.seen ledger.log line mine.seen rule.history.named;
            fresh = entries_by_unknown_prefix (child_name view.name view.next) view.seen ledger.log mine.seen
                (next_unknown ledger.given view ledger.log line rule.history.named);
            lesson = mine.lesson;
            room = (let few = rule.queue.few in let one = one_of_sum places_of state.views me view at in let places =
                places_of_pass view origin live in omega (arith, few, one, places));
          },
        ),
      )

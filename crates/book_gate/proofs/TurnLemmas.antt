-- The steps of a turn keep the rule of the gate: its coming, counting an entry, and serving the next.
use Rattle.std.proofs.Common.{◌≡◌, ◌≢◌, ℕ, ◌+◌, ◌%◌, ◌^◌, ◌<◌, true, false, true≢false, List, [], ◌∷◌, ◌++◌, length}
use Rattle.std.proofs.Common.{refl, sym, ap, subst, ◌∙◌, inl, inr, ⊎_elim, arith, length-append, Option, Some}
use Rattle.std.proofs.Common.{is_some}
use Rattle.std.specs.Prelude.{slice_index, slice_set, Contains}
use Rattle.std.proofs.Math.Nat.{mod-add-mod}
use Rattle.std.proofs.lemmas.List.Elements.{Contains-append_cases}
use mathlib.Core.Logic.{dite}
use mathlib.Core.Option.{some, none}
use mathlib.Core.List.{IsPrefix}
use native.Mathlib.Decide.{ℕ_discrete}
use lib.ListN.{get_elem?}
use lib.Seq.{set-get_or}
use Rattle.atomic_table.specs.Table.{State, Act, keeps, takes, gives, step, stepped, Allows, Valid, carried_after}
use Rattle.atomic_table.proofs.Lists.{set_here, at_map, one_turn}
use Rattle.book_gate.specs.declared.view.Signed.{Signed}
use Rattle.book_gate.specs.declared.view.View.{View}
use Rattle.book_gate.specs.Histories.{Legal, entries, entries_by, signed}
use Rattle.book_gate.specs.Names.{IsGivenOut}
use Rattle.book_gate.specs.Views.{lineage, at_turn, with_entry, at_rest}
use Rattle.book_gate.specs.Rule.{ViewFits, GateRule}
use Rattle.book_gate.specs.Steps.{AreNamed, looked, counted, served}
use Rattle.book_gate.proofs.ListLemmas.{prefix_self, each_set, at_below, same_at, contains_cases}
use Rattle.book_gate.proofs.ListLemmas.{contains_one}
use Rattle.book_gate.proofs.OptionLemmas.{bool_not, no_value, not_true, some_same}
use Rattle.book_gate.proofs.HistoryLemmas.{legal_push, entries-push, entries_by-push}
use Rattle.book_gate.proofs.HistoryLemmas.{entries_by-other}
use Rattle.book_gate.proofs.QueueLemmas.{few_out, queue_same, queue_serves}
use Rattle.book_gate.proofs.ViewLemmas.{fits_next, fits_longer, names_same, still_seen}
use Rattle.book_gate.proofs.StepLemmas.{named_of, line_of, unmoved}

module _ {T A E : Type 0} (stands : T → A → List E → Type 0) (law : A → List E → E → Type 0) (start : A) where
  abbrev Table : Type 0
  Table = State (Option T) (View A E)

  abbrev Rule : Table → Type 0
  Rule = GateRule stands law start

  -- At most one view is at its turn, and it has the ticket that is served
  one_at_turn : (state : Table) (rule : Rule state) (i j : ℕ) (view other : View A E)
      → get_elem? state.views i ≡ some view → get_elem? state.views j ≡ some other → view.turn ≡ true
      → other.ticket ≡ Some rule.ledger.done → i ≡ j
  one_at_turn state rule i j view other at there on has = rule.queue.apart i j view other rule.ledger.done at there
      ((rule.each i view at).turn on).0 has

  others_rest : (state : Table) (rule : Rule state) (me : ℕ) (view : View A E) → get_elem? state.views me ≡ some view
      → view.turn ≡ true → (j : ℕ) (other : View A E) → j ≢ me → get_elem? state.views j ≡ some other
      → other.turn ≡ false
  others_rest state rule me view at on j other else there = bool_not other.turn
      (λ is. else (one_at_turn state rule j me other view there at is ((rule.each me view at).turn on).0))

  -- A new view and an act by which a look keeps the rule
  abbrev Looks : Table → ℕ → ℕ → View A E → List (ℕ × Option T) → Type 0
  Looks state slots me view carried =
      (new : View A E) × (act : Act (Option T)) × Valid state.homes carried act
      × Rule (stepped state 1 (slice_index state.words 1) me carried new act)
      × looked stands (step slots 1 0 0 none) (view, carried) (slice_index state.words 1)
      (new, carried_after carried act)

  pub looks : (slots me : ℕ) (view : View A E) (carried : List (ℕ × Option T)) (origin : A) (k : ℕ)
      → view.start ≡ Some origin → view.ticket ≡ Some k → view.turn ≡ false
      → Allows Rule slots me (view, carried) 1 (λ word. word) (looked stands (step slots 1 0 0 none) (view, carried))
  looks slots me view carried origin k live has rests state rule len at below =
      dite (ℕ_discrete (slice_index state.words 1) (k % 2 ^ 64)) here else
    where
      mine : ViewFits start rule.ledger.log rule.ledger.done rule.ledger.all view
      mine = rule.each me view at

      else : slice_index state.words 1 ≢ k % 2 ^ 64 → Looks state slots me view carried
      else apart = (
        view,
        keeps,
        tt,
        unmoved stands law start state 1 me view rule at,
        λ k' is. (
          (λ _. refl),
          λ same. absurd (apart (same ∙ ap (λ (word : ℕ). word % 2 ^ 64)
              (some_same k' k (sym is ∙ has)))),
        ),
      )

      here : slice_index state.words 1 ≡ k % 2 ^ 64 → Looks state slots me view carried
      here is =
          let ledger = rule.ledger in
          let due : ledger.done ≡ k = one_turn ledger.done k (2 ^ 64) (mine.out k has).0
          (let count = rule.queue.count in let few = few_out state.views rule.queue.few
          (λ i other there k is. (start, (rule.each i other there).alive k is)) in let range = mine.out k has in
          omega arith)
          (sym (ap (λ words. slice_index words 1) rule.words) ∙ is) in
          let own : view.ticket ≡ Some ledger.done = has ∙ ap Some (sym due) in
          let same : origin ≡ start = mine.opened origin live in
          let new = at_turn view ledger.log in
          let home : (held : T) × (get_elem? state.homes 0 ≡ some (some (Some held)))
          × stands held start (entries ledger.log) =
          ⊎_elim
          (λ (in_slot : (held : T) × (get_elem? state.homes 0 ≡ some (some (Some held)))
          × stands held start (entries ledger.log) × ((i : ℕ) (other : View A E)
          → get_elem? state.views i ≡ some other → other.turn ≡ false)). (in_slot.0, in_slot.1, in_slot.2))
          (λ (out : (i : ℕ) × (other : View A E) × (get_elem? state.views i ≡ some other) × (other.turn ≡ true)).
          absurd (not_true view.turn rests (ap (λ (it : View A E). it.turn)
          (same_at state.views out.0 me view out.1 out.2 at
          (one_at_turn state rule out.0 me out.1 view out.2 at out.3 own)) ∙ out.3)))
          rule.home in (
            new,
            takes 0 (Some home.0),
            home.1,
            record {
              ledger = ledger;
              words = set-get_or state.words 1 0 ∙ rule.words;
              queue = queue_same ledger.done ledger.all state.views rule.queue me view at new refl refl;
              history = record {
                legal = rule.history.legal;
                named = rule.history.named;
                seen =
                    (me, new, set_here state.views me new (at_below state.views me view at), live ∙ ap Some same, refl);
              };
              each = each_set (λ _ (other : View A E). ViewFits start ledger.log ledger.done ledger.all other)
                  state.views me new
                  (record {
                    opened = mine.opened;
                    seen = prefix_self ledger.log;
                    own = λ _ _ _ _. refl;
                    out = mine.out;
                    alive = mine.alive;
                    turn = λ _. (own, refl);
                    lesson = λ lesson is. absurd (no_value lesson is);
                  })
                  (λ j other _ there. rule.each j other there);
              names = names_same ledger.given state.views me view new at refl rule.names;
              home = inr (me, new, set_here state.views me new (at_below state.views me view at), refl);
            },
            λ k' is'. (
              (λ apart. absurd (apart (is ∙ ap (λ (word : ℕ). word % 2 ^ 64) (some_same k k' (sym has ∙ is'))))),
              (λ _. record {
                state = home.0;
                history = ledger.log;
                view = refl;
                front = mine.seen;
                own = λ name own. sym (mine.own origin live name own);
                stands_for = λ origin' starts. subst (λ (it : A). stands home.0 it (entries ledger.log))
                    (sym (mine.opened origin' starts)) home.2;
              }),
            ),
          )

  pub counts : (slots me : ℕ) (view : View A E) (carried : List (ℕ × Option T)) (origin : A) (entry : E)
      (said : Option E) → view.start ≡ Some origin → view.turn ≡ true → said ≡ Some entry
      → law origin (entries view.seen) entry
      → Allows Rule slots me (view, carried) 2 (λ word. (word + 1) % 2 ^ 64)
      (counted law said (step slots 2 1 0 none) (view, carried))
  counts slots me view carried origin entry said live now says may state rule len at below =
      let ledger = rule.ledger in
      let mine = rule.each me view at in
      let line = line_of stands law start state rule me view origin at live in
      let same : origin ≡ start = mine.opened origin live in
      let whole : view.seen ≡ ledger.log = (mine.turn now).1 in
      let last = signed view.name entry in
      let new = with_entry view entry in
      let log = ledger.log ++ last ∷ [] in
      let allowed : law start (entries ledger.log) entry = subst
      (λ (it : A × List (Signed E)). law it.0 (entries it.1) entry) (λ i. (same i, whole i)) may in
      let legal : Legal law start (entries log) = subst (Legal law start) (sym (entries-push ledger.log last))
      (legal_push law start (entries ledger.log) entry rule.history.legal allowed) in
      let seen : new.seen ≡ log = ap (λ (list : List (Signed E)). list ++ last ∷ []) whole in
      let named : (x : Signed E) → Contains log x → IsGivenOut ledger.given x.name =
      λ x has. ⊎_elim (λ old. rule.history.named x old) (λ is.
      subst (λ (it : Signed E). IsGivenOut ledger.given it.name) (contains_one last x is) line.out)
      (Contains-append_cases ledger.log (last ∷ []) x has) in
      let not_mine : (name : List ℕ) → Contains view.joined name → name ≢ view.name =
      λ name has is. (rule.names.pairs me me (lineage view) (lineage view) (at_map lineage state.views me view at)
      (at_map lineage state.views me view at) (ap is_some live) (ap is_some live)).gone
      (subst (Contains view.joined) is has) in (
        new,
        keeps,
        tt,
        record {
          ledger = record { log = log; given = ledger.given; done = ledger.done; all = ledger.all };
          words = ap (λ words. slice_set words 2 ((slice_index words 2 + 1) % 2 ^ 64)) rule.words
              ∙ ap (λ (word : ℕ). (ledger.all % 2 ^ 64) ∷ (ledger.done % 2 ^ 64) ∷ word ∷ [])
              (mod-add-mod (length ledger.log) (2 ^ 64) 1 ∙ ap (λ (word : ℕ). word % 2 ^ 64)
              (sym (length-append ledger.log (last ∷ []))));
          queue = queue_same ledger.done ledger.all state.views rule.queue me view at new refl refl;
          history = record {
            legal = legal;
            named = named;
            seen =
                (me, new, set_here state.views me new (at_below state.views me view at), live ∙ ap Some same, seen);
          };
          each = each_set (λ _ (other : View A E). ViewFits start log ledger.done ledger.all other) state.views me new
              (record {
                opened = mine.opened;
                seen = subst (λ list. IsPrefix list log) (sym seen) (prefix_self log);
                own = λ _ _ name _. ap (entries_by name) seen;
                out = mine.out;
                alive = mine.alive;
                turn = λ on. ((mine.turn now).0, seen);
                lesson = λ lesson is. absurd (no_value lesson is);
              })
              (λ j other else there. fits_longer start ledger.log ledger.done ledger.all other (rule.each j other there)
              view.name entry (others_rest state rule me view at now j other else there)
              (λ origin' starts own has is. let apart = rule.names.pairs j me (lineage other) (lineage view)
              (at_map lineage state.views j other there) (at_map lineage state.views me view at) (ap is_some starts)
              (ap is_some live) in
              ⊎_elim (λ (named : other.name ≡ own). else (apart.one (named ∙ is)))
              (λ (joined : Contains other.joined own). apart.gone (subst (Contains other.joined) is joined))
              (contains_cases other.name other.joined own has)));
          names = names_same ledger.given state.views me view new at refl rule.names;
          home = inr (me, new, set_here state.views me new (at_below state.views me view at), now);
        },
        λ entry' says'.
            let is : entry ≡ entry' = some_same entry entry' (sym says ∙ says') in (
              ap (λ (it : E). (with_entry view it, carried)) is,
              record {
                mine = entries_by-push view.name view.seen entry';
                joined = λ name has. entries_by-other name view.name view.seen entry' (not_mine name has);
                legal = λ origin' starts. subst (λ (it : A × List (Signed E)). Legal law it.0 (entries it.1))
                    (λ i. (
                      sym (mine.opened origin' starts) i,
                      (sym seen ∙ ap (λ (it : E). view.seen ++ signed view.name it ∷ []) is) i,
                    )) legal;
                named = subst (AreNamed view.name view.split view.joined)
                    (sym seen ∙ ap (λ (it : E). view.seen ++ signed view.name it ∷ []) is)
                    (named_of ledger.given view log log line (prefix_self log) named);
              },
            ),
      )

  pub serves : (slots me : ℕ) (view : View A E) (origin : A) (held : T) → view.start ≡ Some origin → view.turn ≡ true
      → stands held origin (entries view.seen) → 0 < slots
      → Allows Rule slots me (view, (0, Some held) ∷ []) 1 (λ word. (word + 1) % 2 ^ 64)
      (served (step slots 1 1 0 none) (view, (0, Some held) ∷ []))
  serves slots me view origin held live now is one_slot state rule len at below =
      let ledger = rule.ledger in
      let mine = rule.each me view at in
      let same : origin ≡ start = mine.opened origin live in
      let own : view.ticket ≡ Some ledger.done = (mine.turn now).0 in
      let whole : view.seen ≡ ledger.log = (mine.turn now).1 in
      let new = at_rest view in (
        new,
        gives,
        tt,
        record {
          ledger = record { log = ledger.log; given = ledger.given; done = ledger.done + 1; all = ledger.all };
          words = ap (λ words. slice_set words 1 ((slice_index words 1 + 1) % 2 ^ 64)) rule.words
              ∙ ap (λ (word : ℕ). (ledger.all % 2 ^ 64) ∷ word ∷ (length ledger.log % 2 ^ 64) ∷ [])
              (mod-add-mod ledger.done (2 ^ 64) 1);
          queue = queue_serves ledger.done ledger.all state.views rule.queue me view at own;
          history = record {
            legal = rule.history.legal;
            named = rule.history.named;
            seen =
                still_seen start ledger.log state.views me view new at refl refl rule.history.seen;
          };
          each = each_set (λ _ (other : View A E). ViewFits start ledger.log (ledger.done + 1) ledger.all other)
              state.views me new
              (record {
                opened = mine.opened;
                seen = mine.seen;
                own = mine.own;
                out = λ k out. absurd (no_value k out);
                alive = λ k out. absurd (no_value k out);
                turn = λ on. absurd (true≢false (sym on));
                lesson =
                    mine.lesson;
              })
              (λ j other else there. fits_next start ledger.log ledger.done ledger.all other (rule.each j other there)
              (λ has. else (rule.queue.apart j me other view ledger.done there at has own)));
          names = names_same ledger.given state.views me view new at refl rule.names;
          home = inl (
            held,
            set_here state.homes 0 (some (Some held)) (omega arith),
            subst (λ (it : A × List (Signed E)). stands held it.0 (entries it.1)) (λ i. (same i, whole i)) is,
            each_set (λ _ (other : View A E). other.turn ≡ false) state.views me new refl
                (others_rest state rule me view at now),
          );
        },
        refl,
      )

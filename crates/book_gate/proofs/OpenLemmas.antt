-- Opening a gate, and closing it.
use Rattle.std.proofs.Common.{◌≡◌, ℕ, zero, suc, true, false, true≢false, List, [], ◌∷◌, ◌++◌, map}
use Rattle.std.proofs.Common.{length, refl, sym, ap, subst, ◌∙◌, inl, ⊎_elim, arith, length-append, Option}
use Rattle.std.proofs.Common.{Some, is_some}
use Rattle.std.specs.Prelude.{Contains}
use mathlib.Core.Option.{some, some-injective, some-ne-none}
use mathlib.Core.List.{IsPrefix}
use lib.ListN.{get_elem?}
use Rattle.atomic_table.specs.Table.{State, opening}
use Rattle.atomic_table.proofs.Lists.{at_map}
use Rattle.book_gate.specs.declared.view.Signed.{Signed}
use Rattle.book_gate.specs.declared.view.View.{View}
use Rattle.book_gate.specs.Histories.{entries}
use Rattle.book_gate.specs.Names.{Lineage, IsTrueLine}
use Rattle.book_gate.specs.Views.{lineage, first_view}
use Rattle.book_gate.specs.Rule.{ViewFits, GateRule}
use Rattle.book_gate.proofs.ListLemmas.{same_at}
use Rattle.book_gate.proofs.ListLemmas.{contains_none}
use Rattle.book_gate.proofs.OptionLemmas.{no_value, not_true, some_same}
use Rattle.book_gate.proofs.JoinNameLemmas.{alone}
use Rattle.book_gate.proofs.StepLemmas.{line_of}

module _ {T A E : Type 0} (stands : T → A → List E → Type 0) (law : A → List E → E → Type 0) (start : A) where
  abbrev Table : Type 0
  Table = State (Option T) (View A E)

  abbrev Rule : Table → Type 0
  Rule = GateRule stands law start

  only_first : (i : ℕ) (first view : View A E) → get_elem? (first ∷ []) i ≡ some view → (i ≡ 0) × (first ≡ view)
  only_first zero first view at = (refl, some-injective first view at)
  only_first (suc i) first view at = absurd (some-ne-none view (sym at))

  pub opens : (held : T) → stands held start [] → Rule (opening (0 ∷ 0 ∷ 0 ∷ []) (Some held ∷ []) (first_view start))
  opens held is = record {
    ledger = record { log = []; given = λ _. 0; done = 0; all = 0 };
    words = refl;
    queue = record {
      apart = λ i j view other k at there is is'. (only_first i first view at).0
          ∙ sym (only_first j first other there).0;
      covers = λ k low high. absurd (omega arith);
      count = refl;
      few =
          omega arith;
    };
    history = record {
      legal = λ before entry front. absurd (no_longer before entry front);
      named = λ x has.
          absurd (contains_none x has);
      seen = (0, first, refl, refl, refl);
    };
    each = λ i view at. subst (ViewFits start [] 0 0) (only_first i first view at).1
        (record {
          opened = λ origin starts. some_same origin start (sym starts);
          seen = ([], refl);
          own = λ _ _ _ _. refl;
          out = λ k out. absurd (no_value k out);
          alive = λ k out. absurd (no_value k out);
          turn = λ on. absurd (true≢false (sym on));
          lesson = λ lesson was. absurd (no_value lesson was);
        });
    names = record {
      each = λ i line at live. subst (IsTrueLine (λ _. 0)) (first_line i line at).1
          (record {
            out = λ parent k front. absurd (no_longer parent k front);
            next = refl;
            split =
                λ parent k from below. absurd (omega arith);
            joined = λ name has. absurd (contains_none name has);
            only =
                λ name has. absurd (contains_none name has);
          });
      pairs = λ i j line other at there _ _. record {
        one = λ _. (first_line i line at).0
            ∙ sym (first_line j other there).0;
        gone = λ has. contains_none _
            (subst (λ (it : Lineage). Contains it.joined other.name) (sym (first_line i line at).1) has);
      };
      unused = λ name not. refl;
    };
    home = inl (held, refl, is, λ i view at. ap (λ (it : View A E). it.turn) (sym (only_first i first view at).1));
  }
    where
      first : View A E
      first = first_view start

      no_longer : {X : Type 0} (before : List X) (x : X) → IsPrefix (before ++ x ∷ []) [] → ⊥
      no_longer before x front = omega (
        arith,
        ap length front.1,
        length-append (before ++ x ∷ []) front.0,
        length-append before (x ∷ []),
      )

      first_line : (i : ℕ) (line : Lineage) → get_elem? (lineage (first_view {A = A} {E = E} start) ∷ []) i ≡ some line
          → (i ≡ 0) × (lineage (first_view {A = A} {E = E} start) ≡ line)
      first_line zero line at = (refl, some-injective _ line at)
      first_line (suc i) line at = absurd (some-ne-none line (sym at))

  -- Where the first pass has all others joined into it, the state is at home and stands for what the pass has seen
  pub closes : (me : ℕ) (view : View A E) (state : Table) (origin : A) → Rule state
      → get_elem? state.views me ≡ some view → view.start ≡ Some origin → view.turn ≡ false → view.name ≡ []
      → ((name : List ℕ) → Contains view.split name → Contains view.joined name)
      → (held : T) × (get_elem? state.homes 0 ≡ some (some (Some held))) × stands held origin (entries view.seen)
  closes me view state origin rule at live rests root all =
      let ledger = rule.ledger in
      let views = state.views in
      let mine = rule.each me view at in
      let here : origin ≡ start = mine.opened origin live in
      let line = line_of stands law start state rule me view origin at live in
      let only_me : (j : ℕ) (other : View A E) → get_elem? views j ≡ some other → is_some other.start ≡ true → j ≡ me =
      λ j other there alive. alone ledger.given (lineage view) line root all (map lineage views) me j (lineage other)
      rule.names (at_map lineage views me view at) (ap is_some live) (at_map lineage views j other there) alive in
      let last = rule.history.seen in
      let whole : view.seen ≡ ledger.log = ap (λ (it : View A E). it.seen)
      (same_at views last.0 me view last.1 last.2 at (only_me last.0 last.1 last.2 (ap is_some last.3))) ∙ last.4 in
      ⊎_elim
      (λ (in_slot : (held : T) × (get_elem? state.homes 0 ≡ some (some (Some held)))
      × stands held start (entries ledger.log) × ((i : ℕ) (other : View A E) → get_elem? views i ≡ some other
      → other.turn ≡ false)). (
        in_slot.0,
        in_slot.1,
        subst (λ (it : A × List (Signed E)). stands in_slot.0 it.0 (entries it.1))
            (λ i. (sym here i, sym whole i)) in_slot.2,
      ))
      (λ (out : (i : ℕ) × (other : View A E) × (get_elem? views i ≡ some other) × (other.turn ≡ true)).
      let fits = rule.each out.0 out.1 out.2 in
      let alive = ap is_some (fits.alive ledger.done (fits.turn out.3).0) in
      absurd (not_true view.turn rests (ap (λ (it : View A E). it.turn)
      (same_at views out.0 me view out.1 out.2 at (only_me out.0 out.1 out.2 alive)) ∙ out.3)))
      rule.home

-- What a call tells, from what its steps tell.
use Rattle.std.proofs.Common.{◌≡◌, ℕ, List, [], ◌∷◌, ◌++◌, Some, sym, ap, ◌∙◌, subst}
use Rattle.std.specs.Prelude.{Contains}
use Rattle.std.proofs.lemmas.List.Elements.{Contains-append_left}
use mathlib.Core.List.{IsPrefix}
use Rattle.atomic_table.specs.Seated.{TableId}
use Rattle.book_gate.specs.declared.view.Signed.{Signed}
use Rattle.book_gate.specs.declared.view.View.{View}
use Rattle.book_gate.specs.Histories.{Legal, entries, entries_by, signed}
use Rattle.book_gate.specs.Names.{child_name}
use Rattle.book_gate.specs.Views.{own_names, part_of, with_ticket, at_turn, with_entry, at_rest, parent_view}
use Rattle.book_gate.specs.Views.{child_view, joined_view, taught_view, longer, IsWhole}
use Rattle.book_gate.specs.Steps.{AreNamed, IsTold, Counts}
use Rattle.book_gate.specs.Known.{Known, Glimpsed, known_at}
use Rattle.book_gate.specs.Calls.{Continues, Enters, IsLegal, IsSplit, IsJoin, Learns}
use Rattle.book_gate.proofs.ListLemmas.{all_fewer, contains_here, contains_there}

module _ {A E : Type 0} where
  -- A list that is whole for a pass's part goes on from it
  continues : (gate gate' : TableId) (view later : View A E) → IsWhole later.seen (part_of view)
      → Continues (known_at gate view) (known_at gate' later)
  continues gate gate' view later whole = record {
    front = whole.front;
    mine = whole.same view.name (contains_here view.name view.joined);
    joined = λ name has. whole.same name (contains_there view.name view.joined name has);
  }

module _ {E : Type 0} where
  -- Of a pass that gave out one more name, what held of its entries' names holds
  still_named : (name last : List ℕ) (split joined : List (List ℕ)) (seen : List (Signed E))
      → AreNamed name split joined seen → AreNamed name (split ++ last ∷ []) joined seen
  still_named name last split joined seen named root all = named root
      (all_fewer (Contains joined) split (split ++ last ∷ []) (λ x has. Contains-append_left split (last ∷ []) x has)
      all)

module _ {A E : Type 0} (law : A → List E → E → Type 0) where
  told_legal : (gate : TableId) (view : View A E) (start : A) → view.start ≡ Some start → IsTold law view
      → IsLegal law (known_at gate view)
  told_legal gate view start live told = (start, live, told.legal start live)

  enters : (gate : TableId) (view : View A E) (k : ℕ) (history : List (Signed E)) (entry : E) (later : View A E)
      (start : A) → view.start ≡ Some start → IsPrefix view.seen history
      → ((name : List ℕ) → Contains (own_names view) name → entries_by name history ≡ entries_by name view.seen)
      → Counts law (at_turn (with_ticket view k) history) entry
      → later ≡ at_rest (with_entry (at_turn (with_ticket view k) history) entry)
      → Enters law (known_at gate view) entry (known_at gate later)
  enters gate view k history entry later start live front own counts is =
      let last = signed view.name entry in
      let seen : later.seen ≡ history ++ last ∷ [] = ap (λ (it : View A E). it.seen) is in record {
        between = front.0;
        seen = seen ∙ ap (λ (list : List (Signed E)). list ++ last ∷ []) (sym front.1);
        mine = ap (entries_by view.name) seen ∙ (counts.mine ∙ ap (λ (list : List (Signed E)). list ++ last ∷ [])
            (own view.name (contains_here view.name view.joined)));
        joined = λ name has. ap (entries_by name) seen ∙ (counts.joined name has
            ∙ own name (contains_there view.name view.joined name has));
        legal = (
          start,
          ap (λ (it : View A E). it.start) is ∙ live,
          subst (λ (list : List (Signed E)). Legal law start (entries list)) (sym seen) (counts.legal start live),
        );
        named = subst (λ (it : View A E). AreNamed it.name it.split it.joined it.seen) (sym is) counts.named;
        rest = ap (known_at gate) is ∙ ap (λ (list : List (Signed E)). record (known_at gate view) { seen = list })
            (sym seen);
      }

  -- By what the pass was known as, and the seat's table and view at the turn and at the end
  pub enters_at : (pass : Known A E) (gate gate' : TableId) (view turn : View A E) (k : ℕ) (history : List (Signed E))
      (entry : E) (later : View A E) (start : A) → view.start ≡ Some start → known_at gate view ≡ pass → gate' ≡ gate
      → turn ≡ at_turn (with_ticket view k) history → IsPrefix view.seen history
      → ((name : List ℕ) → Contains (own_names view) name → entries_by name history ≡ entries_by name view.seen)
      → Counts law turn entry → later ≡ at_rest (with_entry turn entry)
      → Enters law pass entry (known_at gate' later)
  enters_at pass gate gate' view turn k history entry later start live was same at front own counts is =
      subst (λ (it : Known A E × TableId). Enters law it.0 entry (known_at it.1 later)) (λ i. (was i, sym same i))
      (enters gate view k history entry later start live front own
      (subst (λ (it : View A E). Counts law it entry) at counts)
      (is ∙ ap (λ (it : View A E). at_rest (with_entry it entry)) at))

  pub joined_at : (pass other : Known A E) (gate gate' gate'' : TableId) (view theirs both later : View A E) (start : A)
      → view.start ≡ Some start → known_at gate view ≡ pass → known_at gate'' theirs ≡ other → gate' ≡ gate
      → both ≡ joined_view view theirs → later ≡ both → IsTold law both → IsJoin law pass other (known_at gate' later)
  joined_at pass other gate gate' gate'' view theirs both later start live was other_was same is now told =
      subst (λ (it : Known A E × (Known A E × TableId)). IsJoin law it.0 it.1.0 (known_at it.1.1 later))
      (λ i. (was i, (other_was i, sym same i))) (joined (now ∙ is) (subst (IsTold law) (sym now) told))
    where
      joined : later ≡ joined_view view theirs → IsTold law later
          → IsJoin law (known_at gate view) (known_at gate'' theirs) (known_at gate later)
      joined is told =
          let both = told.lesson record { own = part_of view; other = part_of theirs }
          (ap (λ (it : View A E). it.lesson) is) in record {
            becomes = ap (known_at gate) is;
            own = continues gate gate view later both.0;
            theirs = continues gate'' gate theirs later both.1;
            legal = told_legal gate later start (ap (λ (it : View A E). it.start) is ∙ live) told;
            named = told.named;
          }

  pub learns_at : (pass : Known A E) (glimpse : Glimpsed E) (gate gate' : TableId) (view seen both later : View A E)
      (start : A) → view.start ≡ Some start → known_at gate view ≡ pass → seen.seen ≡ glimpse.seen → gate' ≡ gate
      → both ≡ taught_view view seen → later ≡ both → IsTold law both → Learns law pass glimpse (known_at gate' later)
  learns_at pass glimpse gate gate' view seen both later start live was shows same is now told =
      subst (λ (it : Known A E × TableId). Learns law it.0 glimpse (known_at it.1 later)) (λ i. (was i, sym same i))
      (learned (now ∙ is) (subst (IsTold law) (sym now) told))
    where
      learned : later ≡ taught_view view seen → IsTold law later
          → Learns law (known_at gate view) glimpse (known_at gate later)
      learned is told =
          let both = told.lesson record { own = part_of view; other = record { seen = seen.seen; names = [] } }
          (ap (λ (it : View A E). it.lesson) is) in record {
            becomes = ap (known_at gate) is ∙ ap (λ (list : List (Signed E)).
                record (known_at gate view) { seen = longer view.seen list }) shows;
            own = continues gate gate view later both.0;
            theirs = subst (λ (list : List (Signed E)). IsPrefix list later.seen) shows both.1.front;
            legal = told_legal gate later start (ap (λ (it : View A E). it.start) is ∙ live) told;
            named = told.named;
          }

  pub split_at : (pass : Known A E) (gate gate' gate'' : TableId) (view left right : View A E) (start : A)
      → view.start ≡ Some start → known_at gate view ≡ pass → gate' ≡ gate → gate'' ≡ gate → left ≡ parent_view view
      → right ≡ child_view view
      → IsTold law view → IsSplit law pass (known_at gate' left) (known_at gate'' right)
  split_at pass gate gate' gate'' view left right start live was same same' is new told =
      subst (λ (it : Known A E × (TableId × TableId)). IsSplit law it.0 (known_at it.1.0 left) (known_at it.1.1 right))
      (λ i. (was i, (sym same i, sym same' i)))
      (record {
        becomes = ap (known_at gate) is;
        given = ap (known_at gate) new;
        mine = ap (λ (it : View A E). entries_by it.name it.seen) new ∙ told.fresh;
        legal = (
          start,
          ap (λ (it : View A E). it.start) is ∙ live,
          subst (λ (it : View A E). Legal law start (entries it.seen)) (sym is) (told.legal start live),
        );
        named = subst (λ (it : View A E). AreNamed it.name it.split it.joined it.seen) (sym is)
            (still_named view.name (child_name view.name view.next) view.split view.joined view.seen told.named);
      })

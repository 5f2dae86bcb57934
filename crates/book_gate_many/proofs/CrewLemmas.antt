-- A crew from its opening through calls of its passes, and its passes in the other order.
use Rattle.std.proofs.Common.{◌≡◌, ℕ, zero, suc, ◌+◌, ◌<◌, List, [], ◌∷◌, ◌++◌, map, length, reverse, refl, sym, ap}
use Rattle.std.proofs.Common.{◌∙◌, subst, ⊎_elim, arith, length-append}
use Rattle.std.specs.Prelude.{All, Contains, slice_index_or}
use Rattle.std.proofs.lemmas.List.{map-append, reverse-append}
use Rattle.std.proofs.lemmas.List.Elements.{Contains-append_left, Contains-append_cases}
use Rattle.book_gate.specs.Names.{child_name}
use Rattle.book_gate.specs.Views.{room_share}
use Rattle.book_gate.specs.Known.{TableId, Known, first_known}
use Rattle.book_gate.proofs.ListLemmas.{contains_none, contains_one, contains_here, contains_there, contains_last}
use Rattle.book_gate.proofs.ListLemmas.{contains_cases, contains_at}
use Rattle.book_gate_many.specs.declared.tally.Added.{Added}
use Rattle.book_gate_many.specs.Many.{child_names, room_left, child_of, children_of, IsMany}
use Rattle.book_gate_many.specs.Adding.{Adds, EachAdds}
use Rattle.book_gate_many.specs.Crews.{names_of, IsLeaf, IsCrew, HaveAdded}
use Rattle.book_gate_many.proofs.AddingLemmas.{made_more}

module _ {X : Type 0} where
  pub to_reverse : (xs : List X) (x : X) → Contains xs x → Contains (reverse xs) x
  to_reverse [] x has = absurd (contains_none x has)
  to_reverse (y ∷ ys) x has =
      subst (λ list. Contains list x) (sym (reverse-append (y ∷ []) ys))
      (⊎_elim (λ (is : y ≡ x). subst (Contains (reverse ys ++ y ∷ [])) is (contains_last (reverse ys) y))
      (λ rest. Contains-append_left (reverse ys) (y ∷ []) x (to_reverse ys x rest)) (contains_cases y ys x has))

  pub from_reverse : (xs : List X) (x : X) → Contains (reverse xs) x → Contains xs x
  from_reverse [] x has = absurd (contains_none x has)
  from_reverse (y ∷ ys) x has =
      ⊎_elim (λ rest. contains_there y ys x (from_reverse ys x rest))
      (λ (last : Contains (y ∷ []) x). subst (Contains (y ∷ ys)) (contains_one y x last) (contains_here y ys))
      (Contains-append_cases (reverse ys) (y ∷ []) x (subst (λ list. Contains list x) (reverse-append (y ∷ []) ys) has))

module _ {A E : Type 0} where
  length-children : (pass : Known A E) (count : ℕ) → length (children_of pass count) ≡ count
  length-children pass zero = refl
  length-children pass (suc count) =
      length-append (children_of pass count) (child_of pass (pass.next + count) (room_share (room_left pass.room count))
      ∷ []) ∙ omega (arith, length-children pass count)

  names-children : (pass : Known A E) (count : ℕ) → names_of (children_of pass count)
      ≡ child_names pass.name pass.next count
  names-children pass zero = refl
  names-children pass (suc count) =
      map-append (λ (it : Known A E). it.name) (children_of pass count)
      (child_of pass (pass.next + count) (room_share (room_left pass.room count)) ∷ [])
      ∙ ap (λ names. names ++ child_name pass.name (pass.next + count) ∷ []) (names-children pass count)

  children_leaves : (gate : TableId) (pass : Known A E) (count : ℕ) → pass.gate ≡ gate → (other : Known A E)
      → Contains (children_of pass count) other → IsLeaf gate other
  children_leaves gate pass zero is other has = absurd (contains_none other has)
  children_leaves gate pass (suc count) is other has =
      let child = child_of pass (pass.next + count) (room_share (room_left pass.room count)) in
      ⊎_elim (λ old. children_leaves gate pass count is other old)
      (λ last. subst (IsLeaf gate) (contains_one child other last)
      (record { gate_is = is; split_is = refl; joined_is = refl }))
      (Contains-append_cases (children_of pass count) (child ∷ []) other has)

  pub opened_count : (pass later : Known A E) (count : ℕ) (others : List (Known A E)) → IsMany pass count later others
      → length others ≡ count
  opened_count pass later count others many = ap length many.given ∙ length-children pass count

  -- The first pass of a gate and those that were split off it are a crew
  pub opened_crew : (gate : TableId) (start : A) (count : ℕ) (pass later : Known A E) (others : List (Known A E))
      → pass ≡ first_known gate start → IsMany pass count later others → IsCrew gate start later others
  opened_crew gate start count pass later others is many =
      let len = opened_count pass later count others many in record {
        gate_is = ap (λ (it : Known A E). it.gate) many.becomes ∙ ap (λ (it : Known A E). it.gate) is;
        start_is = ap (λ (it : Known A E). it.start) many.becomes ∙ ap (λ (it : Known A E). it.start) is;
        name_is = ap (λ (it : Known A E). it.name) many.becomes ∙ ap (λ (it : Known A E). it.name) is;
        seen_is = ap (λ (it : Known A E). it.seen) many.becomes ∙ ap (λ (it : Known A E). it.seen) is;
        joined_is = ap (λ (it : Known A E). it.joined) many.becomes ∙ ap (λ (it : Known A E). it.joined) is;
        split_is = ap (λ (it : Known A E). it.split) many.becomes
            ∙ (ap (λ (it : Known A E). it.split ++ child_names it.name it.next count) is
            ∙ ap (child_names [] 0) (sym len));
        names_are = ap names_of many.given ∙ (names-children pass count
            ∙ (ap (λ (it : Known A E). child_names it.name it.next count) is ∙ ap (child_names [] 0) (sym len)));
        leaves = λ other has. children_leaves gate pass count (ap (λ (it : Known A E). it.gate) is) other
            (subst (λ it. Contains it other) many.given has);
      }

module _ (others later : List (Known ℕ Added)) (times : ℕ) (len : length later ≡ length others)
    (each : EachAdds times others later) where
  -- Each of the passes was one of the others
  was : (pass : Known ℕ Added) → Contains later pass → (other : Known ℕ Added) × Contains others other
      × Adds times other pass
  was pass has =
      let below : has.0 < length others = omega (arith, len, has.1) in
      let other = slice_index_or others has.0 pass in
      (other, contains_at others has.0 pass below, subst (Adds times other) has.2 (each has.0 pass below))

  pub have_more : (before : ℕ) → HaveAdded before others → HaveAdded (before + times) later
  have_more before have pass has = let from = was pass has in
      made_more from.0 pass before times (have from.0 from.1) from.2

  still_leaves : (gate : TableId) → ((other : Known ℕ Added) → Contains others other → IsLeaf gate other)
      → (pass : Known ℕ Added) → Contains later pass → IsLeaf gate pass
  still_leaves gate leaves pass has =
      let from = was pass has in
      let leaf = leaves from.0 from.1 in
      let rest = from.2.rest in
      record {
        gate_is = ap (λ (it : Known ℕ Added). it.gate) rest ∙ leaf.gate_is;
        split_is =
            ap (λ (it : Known ℕ Added). it.split) rest ∙ leaf.split_is;
        joined_is =
            ap (λ (it : Known ℕ Added). it.joined) rest ∙ leaf.joined_is;
      }

still_named : (others later : List (Known ℕ Added)) (times : ℕ) → length later ≡ length others
    → EachAdds times others later → names_of later ≡ names_of others
still_named [] [] times len each = refl
still_named [] (pass ∷ later) times len each = absurd (omega (arith, len))
still_named (other ∷ others) [] times len each = absurd (omega (arith, len))
still_named (other ∷ others) (pass ∷ later) times len each =
    let first = (each 0 other (omega arith)).rest in
    let rest = still_named others later times (omega (arith, len))
    (λ i fallback below. each (suc i) fallback (omega (arith, below))) in
    λ i. (first i).name ∷ rest i

-- Passes of a crew that made calls are its passes
pub crew_goes_on : (gate : TableId) (start : ℕ) (pass : Known ℕ Added) (others later : List (Known ℕ Added)) (times : ℕ)
    → length later ≡ length others → EachAdds times others later → IsCrew gate start pass others
    → IsCrew gate start pass later
crew_goes_on gate start pass others later times len each crew = record {
  gate_is = crew.gate_is;
  start_is = crew.start_is;
  name_is = crew.name_is;
  seen_is = crew.seen_is;
  joined_is = crew.joined_is;
  split_is = crew.split_is ∙ ap (child_names [] 0) (sym len);
  names_are = still_named others later times len each ∙ (crew.names_are ∙ ap (child_names [] 0) (sym len));
  leaves = still_leaves others later times len each gate crew.leaves;
}

-- Passes by their names
pub one_named : (passes : List (Known ℕ Added)) (name : List ℕ) → Contains (names_of passes) name
    → (other : Known ℕ Added) × Contains passes other × (other.name ≡ name)
one_named [] name has = absurd (contains_none name has)
one_named (other ∷ passes) name has = ⊎_elim (λ (same : other.name ≡ name). (other, contains_here other passes, same))
    (λ rest. let found = one_named passes name rest in (found.0, contains_there other passes found.0 found.1, found.2))
    (contains_cases other.name (names_of passes) name has)

pub its_name : (passes : List (Known ℕ Added)) (other : Known ℕ Added) → Contains passes other
    → Contains (names_of passes) other.name
its_name [] other has = absurd (contains_none other has)
its_name (one ∷ passes) other has = ⊎_elim (λ (same : one ≡ other).
    subst (λ (it : Known ℕ Added). Contains (names_of (one ∷ passes)) it.name) same
    (contains_here one.name (names_of passes))) (λ rest. contains_there one.name (names_of passes) other.name
    (its_name passes other rest)) (contains_cases one passes other has)

-- What is asked of the passes of a crew to close its gate, in the other order
module _ (gate : TableId) (start : ℕ) (pass : Known ℕ Added) (others back : List (Known ℕ Added))
    (is : back ≡ reverse others) (crew : IsCrew gate start pass others) where
  pub among : (other : Known ℕ Added) → Contains back other → Contains others other
  among other has = from_reverse others other (subst (λ it. Contains it other) is has)

  pub back_gates : All (λ other. other.gate ≡ gate) back
  back_gates k fallback below = (crew.leaves _ (among _ (contains_at back k fallback below))).gate_is

  pub back_none : (other : Known ℕ Added) → Contains back other → other.split ≡ []
  back_none other has = (crew.leaves other (among other has)).split_is

  pub back_names : (name : List ℕ) → Contains pass.split name
      → Contains (map (λ (other : Known ℕ Added). other.name) back) name
  back_names name has =
      let named : Contains (names_of others) name = subst (λ it. Contains it name) (crew.split_is ∙ sym crew.names_are)
      has in
      let found = one_named others name named in
      subst (Contains (names_of back)) found.2 (its_name back found.0
      (subst (λ it. Contains it found.0) (sym is) (to_reverse others found.0 found.1)))

pub crew_gates : (gate : TableId) (start : ℕ) (pass : Known ℕ Added) (others : List (Known ℕ Added))
    → IsCrew gate start pass others → All (λ other. other.gate ≡ gate) others
crew_gates gate start pass others crew k fallback below = (crew.leaves _ (contains_at others k fallback below)).gate_is

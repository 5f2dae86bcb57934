-- The passes that were split off a gate's first pass, made entries and were joined into it.
use Rattle.std.proofs.Common.{◌≡◌, ◌⊎◌, ℕ, zero, suc, ◌+◌, ◌<◌, List, [], ◌∷◌, ◌++◌, map, length, refl, sym, ap, true}
use Rattle.std.proofs.Common.{cond}
use Rattle.std.proofs.Common.{◌∙◌, subst, inl, inr, ⊎_elim, arith, length-append, Some}
use Rattle.std.specs.Prelude.{Contains, slice_index_or}
use Rattle.std.proofs.lemmas.List.{get_or_append_left}
use Rattle.std.proofs.Math.Seq.{get_or-append_seam}
use Rattle.std.proofs.lemmas.List.Elements.{Contains-append_cases}
use mathlib.Core.List.{IsPrefix}
use Rattle.book_gate.specs.Known.{TableId}
use Rattle.book_gate.specs.declared.view.Signed.{Signed}
use Rattle.book_gate.specs.Calls.{Continues, HasNamed}
use Rattle.book_gate.specs.Histories.{Legal, entries, entries_by, is_name}
use Rattle.book_gate.specs.Known.{Known, first_known}
use Rattle.book_gate.specs.Names.{child_name}
use Rattle.book_gate.specs.Views.{room_share}
use Rattle.book_gate.proofs.HistoryLemmas.{is_name-self}
use Rattle.book_gate.proofs.ListLemmas.{contains_none, contains_one, contains_here, contains_there, contains_cases}
use Rattle.book_gate.proofs.ListLemmas.{contains_at}
use Rattle.book_gate_many.specs.Many.{IsAllJoined, IsMany, child_names, child_of, children_of, joined_with, room_left}
use Rattle.book_gate_many.proofs.ManyLemmas.{all_back}
use Rattle.pass_entries.specs.Making.{Makes, own}

module _ {A E : Type 0} where
  -- a pass that was split off a gate's first pass as the one of this number, and made no entry
  pub record IsNew (gate : TableId) (k : ℕ) (pass : Known A E) : Type 0 where
    pub gate_is : pass.gate ≡ gate
    pub name : pass.name ≡ child_name [] k
    pub own : own pass ≡ []
    pub split : pass.split ≡ []
    pub joined : pass.joined ≡ []

  -- so many new passes, in order
  pub record AreNew (gate : TableId) (count : ℕ) (passes : List (Known A E)) : Type 0 where
    pub count_is : length passes ≡ count
    pub each : (k : ℕ) (q : Known A E) → k < count → IsNew gate k (slice_index_or passes k q)

  -- each of them made entries
  abbrev pub WereMade : List (Known A E) → List (Known A E) → Type 0
  WereMade passes passes' =
      (length passes' ≡ length passes)
      × ((k : ℕ) (q : Known A E) → k < length passes
      → (made : List E) × Makes (slice_index_or passes k q) made (slice_index_or passes' k q))

  count_children : (pass : Known A E) (count : ℕ) → length (children_of pass count) ≡ count
  count_children pass zero = refl
  count_children pass (suc count) =
      length-append (children_of pass count) (child_of pass (pass.next + count) (room_share (room_left pass.room count))
      ∷ []) ∙ omega (arith, count_children pass count)

  -- what holds of a child whatever its room holds of each
  each_child : (P : ℕ → Known A E → Type 0) (pass : Known A E)
      → ((k room : ℕ) → P k (child_of pass (pass.next + k) room)) → (count k : ℕ) (q : Known A E) → k < count
      → P k (slice_index_or (children_of pass count) k q)
  each_child P pass holds zero k q below = absurd (omega arith)
  each_child P pass holds (suc count) k q below =
      ⊎_elim (λ (front : k < count).
      subst (P k) (sym (get_or_append_left (children_of pass count) (last ∷ []) q k (omega
      (arith, count_children pass count))))
      (each_child P pass holds count k q front))
      (λ (is : count ≡ k). subst (λ n. P n (slice_index_or (children_of pass (suc count)) n q)) is
      (subst (P count) (sym at_last) (holds count room)))
      (cases count k below)
    where
      room : ℕ
      room = room_share (room_left pass.room count)

      last : Known A E
      last = child_of pass (pass.next + count) room

      cases : (count k : ℕ) → k < suc count → (k < count) ⊎ (count ≡ k)
      cases zero zero below = inr refl
      cases zero (suc k) below = absurd (omega arith)
      cases (suc count) zero below = inl (omega arith)
      cases (suc count) (suc k) below = ⊎_elim (λ (b : k < count). inl (omega arith)) (λ (e : count ≡ k). inr
          (ap suc e))
          (cases count k (omega arith))

      at_last : slice_index_or (children_of pass (suc count)) count q ≡ last
      at_last = subst (λ n. slice_index_or (children_of pass count ++ last ∷ []) n q ≡ last) (count_children pass count)
          (get_or-append_seam (children_of pass count) last [] q)

  -- the passes that were split off a gate's first pass are new
  pub are_new : (gate : TableId) (start : A) (count : ℕ) (pass later : Known A E) (passes : List (Known A E))
      → pass ≡ first_known gate start → IsMany pass count later passes → AreNew gate count passes
  are_new gate start count pass later passes is many =
      subst (AreNew gate count) (sym many.given) (record {
        count_is = count_children pass count;
        each = each_child (IsNew gate) pass new count;
      })
    where
      new : (k room : ℕ) → IsNew gate k (child_of pass (pass.next + k) room)
      new k room = subst (λ (it : Known A E). IsNew gate k (child_of it (it.next + k) room)) (sym is) (record {
        gate_is = refl;
        name = ap (λ n. n ∷ []) (omega arith);
        own = refl;
        split = refl;
        joined = refl;
      })

  -- a pass that made entries has its name, and gave out no more names and joined no more
  pub still : (pass later : Known A E) (made : List E) → Makes pass made later
      → (later.name ≡ pass.name) × (later.split ≡ pass.split) × (later.joined ≡ pass.joined) × (later.gate ≡ pass.gate)
  still pass later made makes = (
    ap (λ (it : Known A E). it.name) makes.same,
    ap (λ (it : Known A E). it.split) makes.same,
    ap (λ (it : Known A E). it.joined) makes.same,
    ap (λ (it : Known A E). it.gate) makes.same,
  )

  -- the entries under the name of a new pass that made these, in what goes on from it
  pub left_by : (gate : TableId) (k : ℕ) (pass later last : Known A E) (made : List E) → IsNew gate k pass
      → Makes pass made later → Continues later last → entries (entries_by (child_name [] k) last.seen) ≡ made
  left_by gate k pass later last made new makes goes =
      let name_is : later.name ≡ child_name [] k = (still pass later made makes).0 ∙ new.name in
      ap (λ name. entries (entries_by name last.seen)) (sym name_is)
      ∙ (ap entries goes.mine ∙ (makes.own ∙ ap (λ front. front ++ made) new.own))

  -- a name that was joined is one of the others'
  joined_only : (others : List (Known A E)) (names : List (List ℕ)) (name : List ℕ)
      → ((other : Known A E) → Contains others other → other.joined ≡ []) → Contains (joined_with names others) name
      → Contains names name ⊎ ((other : Known A E) × Contains others other × (other.name ≡ name))
  joined_only [] names name none has = inl has
  joined_only (other ∷ others) names name none has =
      ⊎_elim (λ (front : Contains ((names ++ other.joined) ++ other.name ∷ []) name).
      ⊎_elim (λ (in_front : Contains (names ++ other.joined) name).
      ⊎_elim (λ (old : Contains names name). inl old)
      (λ (theirs : Contains other.joined name). absurd (contains_none name
      (subst (λ it. Contains it name) (none other (contains_here other others)) theirs)))
      (Contains-append_cases names other.joined name in_front))
      (λ (last : Contains (other.name ∷ []) name). inr
      (other, contains_here other others, contains_one other.name name last))
      (Contains-append_cases (names ++ other.joined) (other.name ∷ []) name front))
      (λ (rest : (one : Known A E) × Contains others one × (one.name ≡ name)).
      inr (rest.0, contains_there other others rest.0 rest.1, rest.2))
      (joined_only others ((names ++ other.joined) ++ other.name ∷ []) name
      (λ one is. none one (contains_there other others one is)) has)

module _ {E : Type 0} where
  -- an entry stands among those of its name
  pub stands_by : (seen : List (Signed E)) (made : Signed E) → Contains seen made
      → Contains (entries_by made.name seen) made
  stands_by [] made has = absurd (contains_none made has)
  stands_by (first ∷ seen) made has =
      ⊎_elim (λ (is : first ≡ made). subst (λ (it : Signed E). Contains (entries_by it.name (first ∷ seen)) it) is
      (rw (is_name-self first.name) (contains_here first (entries_by first.name seen))))
      (λ (rest : Contains seen made). kept (is_name made.name first.name) (stands_by seen made rest))
      (contains_cases first seen made has)
    where
      kept : (test : _) → Contains (entries_by made.name seen) made
          → Contains (cond test (first ∷ entries_by made.name seen) (entries_by made.name seen)) made
      kept true has = contains_there first (entries_by made.name seen) made has
      kept _ has = has

-- the names that were given out are those of children
given_name : (count : ℕ) (name : List ℕ) → Contains (child_names [] 0 count) name
    → (k : ℕ) × (k < count) × (name ≡ child_name [] k)
given_name zero name has = absurd (contains_none name has)
given_name (suc count) name has =
    ⊎_elim (λ (old : Contains (child_names [] 0 count) name). let found = given_name count name old in
    (found.0, omega (arith, found.1), found.2))
    (λ (new : Contains (child_name [] (0 + count) ∷ []) name). (
      count,
      omega arith,
      sym (contains_one (child_name [] (0 + count)) name new) ∙ ap (λ n. n ∷ []) (omega arith),
    ))
    (Contains-append_cases (child_names [] 0 count) (child_name [] (0 + count) ∷ []) name has)

module _ {A E : Type 0} (law : A → List E → E → Type 0) (gate : TableId) (start : A) (count : ℕ)
    (pass later last : Known A E) (passes passes' : List (Known A E)) (is : pass ≡ first_known gate start)
    (many : IsMany pass count later passes) (were : WereMade passes passes')
    (all : IsAllJoined law later passes' last) where
  -- a pass that is joined, by its number
  record IsBack (k : ℕ) (other : Known A E) : Type 0 where
    pub below : k < count
    pub name : other.name ≡ child_name [] k
    pub split : other.split ≡ []
    pub joined : other.joined ≡ []
    pub gate_is : other.gate ≡ gate

  news : AreNew gate count passes
  news = are_new gate start count pass later passes is many

  back_at : (k : ℕ) (q : Known A E) → k < count → IsBack k (slice_index_or passes' k q)
  back_at k q below =
      let new = news.each k q below in
      let made = were.1 k q (omega (arith, news.count_is)) in
      let kept = still (slice_index_or passes k q) (slice_index_or passes' k q) made.0 made.1 in
      record {
        below = below;
        name = kept.0 ∙ new.name;
        split = kept.1 ∙ new.split;
        joined = kept.2 ∙ new.joined;
        gate_is = kept.3 ∙ new.gate_is;
      }

  back : (other : Known A E) → Contains passes' other → (k : ℕ) × IsBack k other
  back other has = (
    has.0,
    subst (IsBack has.0) has.2
        (back_at has.0 other (omega (arith, has.1, were.0, news.count_is))),
  )

  first_name : later.name ≡ []
  first_name = ap (λ (it : Known A E). it.name) many.becomes ∙ ap (λ (it : Known A E). it.name) is

  first_seen : later.seen ≡ []
  first_seen = ap (λ (it : Known A E). it.seen) many.becomes ∙ ap (λ (it : Known A E). it.seen) is

  first_joined : later.joined ≡ []
  first_joined = ap (λ (it : Known A E). it.joined) many.becomes ∙ ap (λ (it : Known A E). it.joined) is

  first_start : later.start ≡ Some start
  first_start = ap (λ (it : Known A E). it.start) many.becomes ∙ ap (λ (it : Known A E). it.start) is

  first_split : later.split ≡ child_names [] 0 count
  first_split = ap (λ (it : Known A E). it.split) many.becomes
      ∙ ap (λ (it : Known A E). it.split ++ child_names it.name it.next count) is

  back_names : (name : List ℕ) → Contains later.split name
      → Contains (map (λ (other : Known A E). other.name) passes') name
  back_names name has =
      let found = given_name count name (subst (λ it. Contains it name) first_split has) in
      let below : found.0 < length passes' = omega (arith, found.1, were.0, news.count_is) in
      subst (Contains (map (λ (other : Known A E). other.name) passes'))
      ((back_at found.0 pass found.1).name ∙ sym found.2)
      (Contains-map passes' (slice_index_or passes' found.0 pass) (contains_at passes' found.0 pass below))
    where
      Contains-map : (others : List (Known A E)) (other : Known A E) → Contains others other
          → Contains (map (λ (other : Known A E). other.name) others) other.name
      Contains-map [] other has = absurd (contains_none other has)
      Contains-map (one ∷ others) other has = ⊎_elim (λ (same : one ≡ other).
          subst (λ (it : Known A E). Contains (map (λ (other : Known A E). other.name) (one ∷ others)) it.name) same
          (contains_here one.name (map (λ (other : Known A E). other.name) others)))
          (λ rest. contains_there one.name (map (λ (other : Known A E). other.name) others) other.name
          (Contains-map others other rest)) (contains_cases one others other has)

  last_name : last.name ≡ []
  last_name = ap (λ (it : Known A E). it.name) all.becomes ∙ first_name

  none_of_first : entries_by [] last.seen ≡ []
  none_of_first = subst (λ name. entries_by name last.seen ≡ entries_by name later.seen) first_name all.own.mine
      ∙ ap (entries_by []) first_seen

  has_named : HasNamed later
  has_named first joined made has = absurd (contains_none made (subst (λ it. Contains it made) first_seen has))

  -- each entry has the name of one of the passes
  pub all_named : (made : Signed E) → Contains last.seen made → (k : ℕ) × (k < count) × (made.name ≡ child_name [] k)
  all_named made has =
      ⊎_elim (λ (none : made.name ≡ []). absurd (contains_none made (subst (λ it. Contains it made) none_of_first
      (subst (λ name. Contains (entries_by name last.seen) made) none (stands_by last.seen made has)))))
      (λ (joined : Contains last.joined made.name).
      ⊎_elim (λ (old : Contains later.joined made.name). absurd (contains_none made.name
      (subst (λ it. Contains it made.name) first_joined old)))
      (λ (new : (other : Known A E) × Contains passes' other × (other.name ≡ made.name)).
      let from = back new.0 new.1 in (from.0, from.1.below, sym new.2 ∙ from.1.name))
      (joined_only passes' later.joined made.name (λ other one. (back other one).1.joined)
      (subst (λ (it : Known A E). Contains it.joined made.name) all.becomes joined)))
      (all.named has_named last_name (all_back law later last passes' all back_names
      (λ other one. (back other one).1.split)) made has)

  -- the entries of each, and what it had seen
  pub made_by : (k : ℕ) (q : Known A E) (made : List E) → k < count
      → Makes (slice_index_or passes k q) made (slice_index_or passes' k q)
      → (entries (entries_by (child_name [] k) last.seen) ≡ made) × IsPrefix (slice_index_or passes' k q).seen last.seen
  made_by k q made below makes =
      let goes = all.theirs (slice_index_or passes' k q) (contains_at passes' k q (omega
      (arith, below, were.0, news.count_is))) in (
        left_by gate k (slice_index_or passes k q) (slice_index_or passes' k q) last made
            (news.each k q below) makes goes,
        goes.front,
      )

  -- what is seen is legal
  pub all_legal : (from : A) × (last.start ≡ Some from) × Legal law from (entries last.seen)
  all_legal = all.legal (
    start,
    first_start,
    λ before entry front. absurd (none_behind before entry
        (subst (λ it. IsPrefix (before ++ entry ∷ []) (entries it)) first_seen front)),
  )
    where
      none_behind : (before : List E) (entry : E) → IsPrefix (before ++ entry ∷ []) [] → ⊥
      none_behind before entry front = omega (
        arith,
        ap length front.1,
        length-append (before
            ++ entry ∷ []) front.0,
        length-append before (entry ∷ []),
      )

  pub same_start : last.start ≡ Some start
  same_start = ap (λ (it : Known A E). it.start) all.becomes ∙ first_start

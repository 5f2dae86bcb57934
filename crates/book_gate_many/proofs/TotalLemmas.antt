-- The total of a crew, from the entries of each of its passes.
use Rattle.std.proofs.Common.{◌≡◌, ◌≢◌, ◌⊎◌, ℕ, zero, suc, ◌+◌, ◌*◌, ◌%◌, ◌^◌, ◌<◌, ◌≤◌, Bool, true, false, cond, List}
use Rattle.std.proofs.Common.{[], ◌∷◌, ◌++◌, length, reverse, Some, refl, sym, ap, ◌∙◌, subst, inl, inr, ⊎_elim}
use Rattle.std.proofs.Common.{arith}
use Rattle.std.specs.Prelude.{All, Contains, slice_index}
use Rattle.std.proofs.Math.Nat.{mod-add-mod}
use Rattle.std.proofs.lemmas.List.Elements.{Contains-append_left, Contains-append_cases}
use mathlib.Core.Logic.{dite}
use native.Mathlib.Decide.{ℕ_discrete}
use Rattle.book_gate.specs.declared.view.Signed.{Signed}
use Rattle.book_gate.specs.Histories.{is_name, entries, entries_by, signed}
use Rattle.book_gate.specs.Names.{child_name}
use Rattle.book_gate.specs.Known.{TableId, Known}
use Rattle.book_gate.specs.Calls.{HasNamed}
use Rattle.book_gate.proofs.ListLemmas.{contains_none, contains_one, contains_here, contains_there, contains_last}
use Rattle.book_gate.proofs.ListLemmas.{contains_cases}
use Rattle.book_gate.proofs.HistoryLemmas.{is_name-self, is_name-apart}
use Rattle.book_gate_many.specs.declared.tally.Added.{Added}
use Rattle.book_gate_many.specs.Tallies.{total_of, added}
use Rattle.book_gate_many.specs.Many.{child_names, joined_with, IsAllJoined}
use Rattle.book_gate_many.specs.Adding.{ones_by}
use Rattle.book_gate_many.specs.Crews.{names_of, IsLeaf, IsCrew, HaveAdded}
use Rattle.book_gate_many.proofs.ManyLemmas.{all_back}
use Rattle.book_gate_many.proofs.AddingLemmas.{length-ones}
use Rattle.book_gate_many.proofs.CrewLemmas.{to_reverse, among, back_names, back_none, one_named, its_name}

module _ {E : Type 0} where
  -- How many entries have one of the names below the count
  abbrev pub named_below : List (Signed E) → ℕ → ℕ
  named_below xs zero = 0
  named_below xs (suc count) = named_below xs count + length (entries_by (count ∷ []) xs)

  by_same : (x : Signed E) (xs : List (Signed E)) (k : ℕ) → x.name ≡ k ∷ []
      → length (entries_by (k ∷ []) (x ∷ xs)) ≡ length (entries_by (k ∷ []) xs) + 1
  by_same x xs k is = rw (ap (is_name (k ∷ [])) is ∙ is_name-self (k ∷ [])) (omega arith)

  by_other : (x : Signed E) (xs : List (Signed E)) (k other : ℕ) → x.name ≡ k ∷ [] → other ≢ k
      → length (entries_by (other ∷ []) (x ∷ xs)) ≡ length (entries_by (other ∷ []) xs)
  by_other x xs k other is apart = rw (ap (is_name (other ∷ [])) is
      ∙ is_name-apart (other ∷ []) (k ∷ []) (λ same. apart (ap (λ (names : List ℕ). slice_index names 0) same))) refl

  none_below : (x : Signed E) (xs : List (Signed E)) (k count : ℕ) → x.name ≡ k ∷ [] → count ≤ k
      → named_below (x ∷ xs) count ≡ named_below xs count
  none_below x xs k zero is above = refl
  none_below x xs k (suc count) is above = omega (
    arith,
    none_below x xs k count is (omega (arith, above)),
    by_other x xs k count is (λ same. omega (arith, same, above)),
  )

  one_below : (x : Signed E) (xs : List (Signed E)) (k count : ℕ) → x.name ≡ k ∷ [] → k < count
      → named_below (x ∷ xs) count ≡ named_below xs count + 1
  one_below x xs k zero is below = absurd (omega (arith, below))
  one_below x xs k (suc count) is below = dite (ℕ_discrete count k)
      (λ same. omega (
        arith,
        none_below x xs k count is (omega (arith, same)),
        by_same x xs count (is ∙ ap (λ n. n ∷ []) (sym same)),
      ))
      (λ apart. omega (arith, one_below x xs k count is (omega (arith, below, apart)), by_other x xs k count is apart))

  none_named : (xs : List (Signed E)) (count : ℕ) → xs ≡ [] → named_below xs count ≡ 0
  none_named xs zero is = refl
  none_named xs (suc count) is = omega (
    arith,
    none_named xs count is,
    ap (λ list. length (entries_by (count ∷ []) list)) is,
  )

  -- Where each entry has one of these names, they are all counted
  all_named : (xs : List (Signed E)) (count : ℕ) → ((x : Signed E) → Contains xs x
      → (k : ℕ) × (k < count) × (x.name ≡ k ∷ [])) → named_below xs count ≡ length xs
  all_named [] count known = none_named [] count refl
  all_named (x ∷ xs) count known =
      let first = known x (contains_here x xs) in
      omega (
        arith,
        one_below x xs first.0 count first.2 first.1,
        all_named xs count (λ y has. known y (contains_there x xs y has)),
      )

  each_named : (xs : List (Signed E)) (count times : ℕ) → ((k : ℕ) → k < count
      → length (entries_by (k ∷ []) xs) ≡ times) → named_below xs count ≡ count * times
  each_named xs zero times each = omega arith
  each_named xs (suc count) times each = omega (
    arith,
    each_named xs count times
        (λ k below. each k (omega (arith, below))),
    each count (omega arith),
  )

  contains_if : (test : Bool) (y x : Signed E) (rest : List (Signed E)) → Contains rest x
      → Contains (cond test (y ∷ rest) rest) x
  contains_if true y x rest has = contains_there y rest x has
  contains_if false y x rest has = has

  -- An entry is one of those with its name
  by_its_name : (xs : List (Signed E)) (x : Signed E) → Contains xs x → Contains (entries_by x.name xs) x
  by_its_name [] x has = absurd (contains_none x has)
  by_its_name (y ∷ ys) x has =
      let rest = entries_by x.name ys in
      ⊎_elim (λ (same : y ≡ x). subst (λ test. Contains (cond test (y ∷ rest) rest) x)
      (sym (ap (λ (it : Signed E). is_name x.name it.name) same ∙ is_name-self x.name))
      (subst (Contains (y ∷ rest)) same (contains_here y rest)))
      (λ later. contains_if (is_name x.name y.name) y x rest (by_its_name ys x later)) (contains_cases y ys x has)

-- Each entry adds 1
ones_add : (name totals : List ℕ) (x : Signed Added) → Contains (ones_by name totals) x → x.entry.by ≡ 1
ones_add name [] x has = absurd (contains_none x has)
ones_add name (total ∷ totals) x has = ⊎_elim (λ (is : signed name (added 1 total) ≡ x).
    ap (λ (it : Signed Added). it.entry.by) (sym is)) (λ rest. ones_add name totals x rest)
    (contains_cases (signed name (added 1 total)) (ones_by name totals) x has)

total_of_ones : (start : ℕ) (xs : List (Signed Added)) → start < 2 ^ 64
    → ((x : Signed Added) → Contains xs x → x.entry.by ≡ 1) → total_of start (entries xs) ≡ (start + length xs) % 2 ^ 64
total_of_ones start [] below one = omega (arith, below)
total_of_ones start (x ∷ xs) below one =
    let by = one x (contains_here x xs) in
    let sum : (start + x.entry.by) + length xs ≡ start + suc (length xs) = omega (arith, by) in
    total_of_ones ((start + x.entry.by) % 2 ^ 64) xs (omega arith) (λ y has. one y (contains_there x xs y has))
    ∙ (mod-add-mod (start + x.entry.by) (2 ^ 64) (length xs) ∙ ap (λ (n : ℕ). n % 2 ^ 64) sum)

-- The names of a crew are the numbers below their count
module _ (name : List ℕ) where
  child_known : (count : ℕ) → Contains (child_names [] 0 count) name → (k : ℕ) × (k < count) × (name ≡ k ∷ [])
  child_known zero has = absurd (contains_none name has)
  child_known (suc count) has = ⊎_elim (λ old. let known = child_known count old in
      (known.0, omega (arith, known.1), known.2)) (λ last. (
        count,
        omega arith,
        sym (contains_one (child_name [] (0 + count)) name last) ∙ ap (λ k. k ∷ []) (omega arith),
      ))
      (Contains-append_cases (child_names [] 0 count) (child_name [] (0 + count) ∷ []) name has)

child_there : (k count : ℕ) → k < count → Contains (child_names [] 0 count) (k ∷ [])
child_there k zero below = absurd (omega (arith, below))
child_there k (suc count) below = dite (ℕ_discrete (0 + count) k)
    (λ same. subst (λ n. Contains (child_names [] 0 (suc count)) (n ∷ [])) same
    (contains_last (child_names [] 0 count) (child_name [] (0 + count))))
    (λ apart. Contains-append_left (child_names [] 0 count) (child_name [] (0 + count) ∷ []) (k ∷ [])
    (child_there k count (omega (arith, below, apart))))

-- A name joined with leaves is one of theirs
joined_only : (gate : TableId) (names : List (List ℕ)) (others : List (Known ℕ Added)) (name : List ℕ)
    → ((other : Known ℕ Added) → Contains others other → IsLeaf gate other) → Contains (joined_with names others) name
    → Contains names name ⊎ Contains (names_of others) name
joined_only gate names [] name leaves has = inl has
joined_only gate names (other ∷ others) name leaves has =
    let leaf = leaves other (contains_here other others) in
    ⊎_elim
    (λ (before : Contains ((names ++ other.joined) ++ other.name ∷ []) name).
    ⊎_elim
    (λ (old : Contains (names ++ other.joined) name).
    ⊎_elim (λ (own : Contains names name). inl own) (λ (theirs : Contains other.joined name).
    absurd (contains_none name (subst (λ it. Contains it name) leaf.joined_is theirs)))
    (Contains-append_cases names other.joined name old))
    (λ (last : Contains (other.name ∷ []) name). inr (subst (Contains (names_of (other ∷ others)))
    (contains_one other.name name last) (contains_here other.name (names_of others))))
    (Contains-append_cases (names ++ other.joined) (other.name ∷ []) name before))
    (λ (rest : Contains (names_of others) name). inr (contains_there other.name (names_of others) name rest))
    (joined_only gate ((names ++ other.joined) ++ other.name ∷ []) others name
    (λ one in_rest. leaves one (contains_there other others one in_rest)) has)

module _ (law : ℕ → List Added → Added → Type 0) (gate : TableId) (pass later : Known ℕ Added)
    (others back : List (Known ℕ Added)) (times : ℕ) (is : back ≡ reverse others) (crew : IsCrew gate 0 pass others)
    (joined : IsAllJoined law pass back later) (have : HaveAdded times others) where
  -- The entries of one pass, of all that were seen
  own_entries : (other : Known ℕ Added) → Contains others other
      → (totals : List ℕ) × (length totals ≡ times) × (entries_by other.name later.seen ≡ ones_by other.name totals)
  own_entries other has =
      let made = have other has in
      let goes_on = joined.theirs other (subst (λ it. Contains it other) (sym is) (to_reverse others other has)) in
      (made.totals, made.count, goes_on.mine ∙ made.mine)

  all_joined_back : All (Contains later.joined) later.split
  all_joined_back = all_back law pass later back joined (back_names gate 0 pass others back is crew)
      (back_none gate 0 pass others back is crew)

  named : HasNamed later
  named = joined.named (λ root all x has. absurd (contains_none x (subst (λ it. Contains it x) crew.seen_is has)))

  -- Each entry that was seen was made by one of the others
  maker : (x : Signed Added) → Contains later.seen x → (other : Known ℕ Added) × Contains others other
      × (other.name ≡ x.name)
  maker x has = ⊎_elim first joined_one (named (ap (λ (it : Known ℕ Added). it.name) joined.becomes ∙ crew.name_is)
      all_joined_back x has)
    where
      first : x.name ≡ [] → (other : Known ℕ Added) × Contains others other × (other.name ≡ x.name)
      first root =
          let none : entries_by [] later.seen ≡ [] = subst (λ name.
          entries_by name later.seen ≡ entries_by name pass.seen) crew.name_is joined.own.mine
          ∙ ap (entries_by []) crew.seen_is in
          absurd (contains_none x (subst (λ it. Contains it x) (ap (λ name. entries_by name later.seen) root ∙ none)
          (by_its_name later.seen x has)))

      joined_one : Contains later.joined x.name → (other : Known ℕ Added) × Contains others other
          × (other.name ≡ x.name)
      joined_one in_joined =
          let all : Contains (joined_with [] back) x.name = subst (λ it. Contains it x.name)
          (ap (λ (it : Known ℕ Added). it.joined) joined.becomes
          ∙ ap (λ names. joined_with names back) crew.joined_is) in_joined in
          let found = one_named back x.name (⊎_elim (λ (none : Contains [] x.name). absurd (contains_none x.name none))
          (λ (theirs : Contains (names_of back) x.name). theirs)
          (joined_only gate [] back x.name (λ other there.
          crew.leaves other (among gate 0 pass others back is crew other there)) all)) in
          (found.0, among gate 0 pass others back is crew found.0 found.1, found.2)

  each_adds_one : (x : Signed Added) → Contains later.seen x → x.entry.by ≡ 1
  each_adds_one x has =
      let other = maker x has in
      let own = own_entries other.0 other.1 in
      ones_add other.0.name own.0 x (subst (λ it. Contains it x) own.2
      (subst (λ name. Contains (entries_by name later.seen) x) (sym other.2) (by_its_name later.seen x has)))

  each_known : (x : Signed Added) → Contains later.seen x → (k : ℕ) × (k < length others) × (x.name ≡ k ∷ [])
  each_known x has =
      let other = maker x has in
      child_known x.name (length others) (subst (λ it. Contains it x.name) crew.names_are
      (subst (Contains (names_of others)) other.2 (its_name others other.0 other.1)))

  each_counted : (k : ℕ) → k < length others → length (entries_by (k ∷ []) later.seen) ≡ times
  each_counted k below =
      let other = one_named others (k ∷ []) (subst (λ it. Contains it (k ∷ [])) (sym crew.names_are)
      (child_there k (length others) below)) in
      let own = own_entries other.0 other.1 in
      ap (λ name. length (entries_by name later.seen)) (sym other.2)
      ∙ (ap length own.2 ∙ (length-ones other.0.name own.0 ∙ own.1))

  pub count_is : length later.seen ≡ length others * times
  count_is = sym (all_named later.seen (length others) each_known)
      ∙ each_named later.seen (length others) times each_counted

  total : total_of 0 (entries later.seen) ≡ (length others * times) % 2 ^ 64
  total =
      let plain : 0 + length later.seen ≡ length later.seen = omega arith in
      total_of_ones 0 later.seen (omega arith) each_adds_one ∙ ap (λ (n : ℕ). n % 2 ^ 64) (plain ∙ count_is)

pub total_is : (law : ℕ → List Added → Added → Type 0) (gate : TableId) (pass later : Known ℕ Added)
    (others back : List (Known ℕ Added)) (times value : ℕ) → back ≡ reverse others → IsCrew gate 0 pass others
    → IsAllJoined law pass back later → ((start : ℕ) → later.start ≡ Some start
    → value ≡ total_of start (entries later.seen)) → HaveAdded times others
    → value ≡ (length others * times) % 2 ^ 64
total_is law gate pass later others back times value is crew joined stands have =
    stands 0 (ap (λ (it : Known ℕ Added). it.start) joined.becomes ∙ crew.start_is)
    ∙ total law gate pass later others back times is crew joined have

pub count_and_times : (len len' count times times' value : ℕ) → len' ≡ len → len ≡ count → times' ≡ times
    → value ≡ (len' * times') % 2 ^ 64 → value ≡ (count * times) % 2 ^ 64
count_and_times len len' count times times' value same is times_is total = total
    ∙ (λ i. ((same ∙ is) i * times_is i) % 2 ^ 64)

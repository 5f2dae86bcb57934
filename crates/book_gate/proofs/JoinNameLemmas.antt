-- Names of passes through a join, and where all are joined.
use Rattle.std.proofs.Common.{◌≡◌, ◌≢◌, ◌⊎◌, ℕ, zero, suc, ◌<◌, ◌≤◌, true, true≢false, List, []}
use Rattle.std.proofs.Common.{◌∷◌, ◌++◌, length, set, refl, sym, ap, subst, ◌∙◌, inl, inr, ⊎_elim, arith, length-append}
use Rattle.std.proofs.Common.{le_refl}
use Rattle.std.specs.Prelude.{Contains}
use Rattle.std.proofs.lemmas.List.Elements.{Contains-append_left, Contains-append_right, Contains-append_cases}
use mathlib.Core.Option.{some}
use lib.ListN.{get_elem?}
use Rattle.book_gate.specs.Names.{Lineage, child_name, IsGivenOut, IsTrueLine, NamesAgree}
use Rattle.book_gate.proofs.ListLemmas.{prefix_self, prefix_more, each_set, pairs_set}
use Rattle.book_gate.proofs.ListLemmas.{contains_one, contains_last}
use Rattle.book_gate.proofs.NameLemmas.{joined_line, no_line, AreFar}

-- What was joined into the two, and the other's name
pub joined_cases : (line other : Lineage) (name : List ℕ) → Contains ((line.joined ++ other.joined) ++ other.name ∷ [])
    name → (Contains line.joined name ⊎ Contains other.joined name) ⊎ (other.name ≡ name)
joined_cases line other name has =
    ⊎_elim (λ old. inl (Contains-append_cases line.joined other.joined name old))
    (λ last. inr (contains_one other.name name last)) (Contains-append_cases (line.joined ++ other.joined)
    (other.name ∷ []) name has)

module _ (given : List ℕ → ℕ) (lines : List Lineage) (me at_other : ℕ) (line other : Lineage)
    (agree : NamesAgree given lines) (at : get_elem? lines me ≡ some line)
    (there : get_elem? lines at_other ≡ some other) (live : line.live ≡ true) (alive : other.live ≡ true) where
  join_both : IsTrueLine given (joined_line line other)
  join_both = let mine = agree.each me line at live in let theirs = agree.each at_other other there alive in record {
    out = mine.out;
    next = mine.next;
    split = λ parent k from below.
        ⊎_elim
        (λ (own : parent ≡ line.name). Contains-append_left line.split other.split (child_name parent k)
        (mine.split parent k (inl own) below))
        (λ has. ⊎_elim
        (λ one. ⊎_elim
        (λ (by : Contains line.joined parent). Contains-append_left line.split other.split (child_name parent k)
        (mine.split parent k (inr by) below))
        (λ (by : Contains other.joined parent). Contains-append_right line.split other.split (child_name parent k)
        (theirs.split parent k (inr by) below))
        one)
        (λ (is : other.name ≡ parent). Contains-append_right line.split other.split (child_name parent k)
        (theirs.split parent k (inl (sym is)) below))
        (joined_cases line other parent has))
        from;
    joined = λ name has. ⊎_elim (λ one. ⊎_elim (λ (by : Contains line.joined name). mine.joined name by)
        (λ (by : Contains other.joined name). theirs.joined name by) one)
        (λ (is : other.name ≡ name). subst (IsGivenOut given) is theirs.out)
        (joined_cases line other name has);
    only = λ name has. ⊎_elim
        (λ left. let by = mine.only name left in (
          by.0,
          by.1,
          by.2,
          by.3,
          ⊎_elim (λ (own : by.0 ≡ line.name). inl own) (λ (one : Contains line.joined by.0).
              inr (Contains-append_left (line.joined ++ other.joined) (other.name ∷ []) by.0
              (Contains-append_left line.joined other.joined by.0 one))) by.4,
        ))
        (λ right. let by = theirs.only name right in (
          by.0,
          by.1,
          by.2,
          by.3,
          inr (⊎_elim (λ (own : by.0 ≡ other.name). subst (Contains ((line.joined ++ other.joined) ++ other.name ∷ []))
              (sym own) (contains_last (line.joined ++ other.joined) other.name))
              (λ (one : Contains other.joined by.0). Contains-append_left (line.joined ++ other.joined)
              (other.name ∷ []) by.0 (Contains-append_right line.joined other.joined by.0 one)) by.4),
        ))
        (Contains-append_cases line.split other.split name has);
  }

  -- No view but the other's has a name that is now joined
  gone_for : (j : ℕ) (third : Lineage) → j ≢ at_other → get_elem? lines j ≡ some third → third.live ≡ true
      → Contains ((line.joined ++ other.joined) ++ other.name ∷ []) third.name → ⊥
  gone_for j third else here lives has =
      ⊎_elim
      (λ one. ⊎_elim (λ (by : Contains line.joined third.name).
      (agree.pairs me j line third at here live lives).gone by)
      (λ (by : Contains other.joined third.name). (agree.pairs at_other j other third there here alive lives).gone
      by) one)
      (λ (is : other.name ≡ third.name). else ((agree.pairs j at_other third other here there lives alive).one
      (sym is)))
      (joined_cases line other third.name has)

  -- The list with both, where places other than the other's are looked at
  set_pairs : (i j : ℕ) (first second : Lineage) → i ≢ at_other → j ≢ at_other
      → get_elem? (set lines me (joined_line line other)) i ≡ some first
      → get_elem? (set lines me (joined_line line other)) j ≡ some second → AreFar i j first second
  set_pairs i j first second else else' here here' =
      pairs_set (λ i j first second. i ≢ at_other → j ≢ at_other → AreFar i j first second) lines me
      (joined_line line other) (λ apart _ _ _. record { one = λ _. refl; gone = gone_for me line apart at live })
      (λ j third apart here. (
        (λ _ apart' _ lives. let far = agree.pairs me j line third at here live lives in
            record { one = far.one; gone = gone_for j third apart' here lives }),
        (λ _ _ lives _. let far = agree.pairs j me third line here at lives live in
            record { one = far.one; gone = far.gone }),
      ))
      (λ i j first second _ _ here here' _ _. agree.pairs i j first second here here')
      i j first second here here' else else'

  pub names_join : NamesAgree given (set (set lines me (joined_line line other)) at_other no_line)
  names_join = record {
    each = each_set (λ _ (third : Lineage). third.live ≡ true → IsTrueLine given third)
        (set lines me (joined_line line other)) at_other no_line (λ dead. absurd (true≢false (sym dead)))
        (λ j third _ here. each_set (λ _ (third : Lineage). third.live ≡ true → IsTrueLine given third) lines me
        (joined_line line other) (λ _. join_both) (λ i fourth _ here' lives. agree.each i fourth here' lives) j
        third here);
    pairs = pairs_set AreFar (set lines me (joined_line line other)) at_other no_line
        (λ dead. absurd (true≢false (sym dead)))
        (λ j third _ _. ((λ dead. absurd (true≢false (sym dead))), (λ _ dead. absurd (true≢false (sym dead)))))
        (λ i j first second else else' here here'. set_pairs i j first second else else' here here');
    unused = agree.unused;
  }

-- A list is empty, or a list and a last
last_of : (bound : ℕ) (name : List ℕ) → length name ≡ bound → (name ≡ [])
    ⊎ ((parent : List ℕ) × (k : ℕ) × (name ≡ child_name parent k))
last_of bound [] is = inl refl
last_of bound (x ∷ []) is = inr ([], x, refl)
last_of bound (x ∷ y ∷ ys) is =
    ⊎_elim (λ (none : (y ∷ ys) ≡ []). absurd (let short = ap length none in omega arith))
    (λ (rest : (parent : List ℕ) × (k : ℕ) × ((y ∷ ys) ≡ child_name parent k)).
    inr (x ∷ rest.0, rest.1, ap (λ names. x ∷ names) rest.2)) (last_of (length (y ∷ ys)) (y ∷ ys) refl)

module _ (given : List ℕ → ℕ) (line : Lineage) (fits : IsTrueLine given line) (root : line.name ≡ [])
    (all : (name : List ℕ) → Contains line.split name → Contains line.joined name) where
  back_step : (bound : ℕ) (name : List ℕ) → length name ≤ suc bound → IsGivenOut given name
      → ((shorter : List ℕ) → length shorter ≤ bound → IsGivenOut given shorter
      → (shorter ≡ []) ⊎ Contains line.joined shorter) → (parent : List ℕ) (k : ℕ) → name ≡ child_name parent k
      → Contains line.joined name
  back_step bound name short out shorter parent k is =
      let out' : IsGivenOut given (child_name parent k) = subst (IsGivenOut given) is out in
      let below : k < given parent = out' parent k (prefix_self (child_name parent k)) in
      let above : IsGivenOut given parent = λ ancestor j front.
      out' ancestor j (prefix_more (child_name ancestor j) parent (k ∷ []) front) in
      let from = shorter parent (omega (arith, ap length is, length-append parent (k ∷ []))) above in
      subst (Contains line.joined) (sym is) (all (child_name parent k)
      (fits.split parent k (⊎_elim (λ (none : parent ≡ []). inl (none ∙ sym root)) inr from) below))

  back : (bound : ℕ) (name : List ℕ) → length name ≤ bound → IsGivenOut given name
      → (name ≡ []) ⊎ Contains line.joined name
  back zero name short out = inl (by_length name (omega arith))
    where
      by_length : (name : List ℕ) → length name ≡ 0 → name ≡ []
      by_length [] is = refl
      by_length (x ∷ xs) is = absurd (omega arith)
  back (suc bound) name short out = ⊎_elim inl (λ (last : (parent : List ℕ) × (k : ℕ) × (name ≡ child_name parent k)).
      inr (back_step bound name short out (λ shorter less out. back bound shorter less out) last.0 last.1 last.2))
      (last_of (length name) name refl)

  -- Where the first pass has all names that it gave out joined into it, each name that was given out is its own or a
  -- joined one
  pub all_joined : (name : List ℕ) → IsGivenOut given name → (name ≡ []) ⊎ Contains line.joined name
  all_joined name out = back (length name) name (le_refl (length name)) out

  -- So no other pass is left
  pub alone : (lines : List Lineage) (i j : ℕ) (other : Lineage) → NamesAgree given lines
      → get_elem? lines i ≡ some line → line.live ≡ true → get_elem? lines j ≡ some other → other.live ≡ true → j ≡ i
  alone lines i j other agree at live there alive =
      ⊎_elim (λ (none : other.name ≡ []). (agree.pairs j i other line there at alive live).one (none ∙ sym root))
      (λ (has : Contains line.joined other.name). absurd ((agree.pairs i j line other at there live alive).gone
      has))
      (all_joined other.name (agree.each j other there alive).out)

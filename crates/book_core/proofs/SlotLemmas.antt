-- Behind a reload no two slots hold the same one, and no more slots are used than there may be.
use Rattle.std.proofs.Common.{◌≡◌, ℕ, ◌<◌, ◌≤◌, ◌+◌, zero, suc, Bool, true, false, List, [], ◌∷◌, length, map}
use Rattle.std.proofs.Common.{Some, None, refl, sym, ap, ◌∙◌, subst, arith, inl, inr}
use Rattle.std.proofs.lemmas.List.{length-map}
use Rattle.std.proofs.lemmas.Option.{same_Some}
use Rattle.std.specs.Prelude.{◌||◌, ◌⊎◌, filter, find, not, count_by, if◌then◌else◌, Option, is_some}
use Rattle.std.specs.List.{list_any, AllByRecursion, IsDistinct}
use Rattle.book_history.specs.Slots.{holds, placed, reloaded, section_kept}
use Rattle.book_core.specs.Stands.{filled}

module _ {A : Type 0} where
  filled_all : (news : List A) → filled (map Some news) ≡ news
  filled_all [] = refl
  filled_all (new ∷ news) = ap (λ xs. new ∷ xs) (filled_all news)

  -- what holds of the new ones and of those that stay holds of all
  all_placed : (P : A → Type 0) (news : List A) (slots : List (Option A)) → AllByRecursion P news
      → AllByRecursion P (filled slots) → AllByRecursion P (filled (placed news slots))
  all_placed P news [] new old = subst (AllByRecursion P) (sym (filled_all news)) new
  all_placed P news (Some one ∷ slots) new old = (old.0, all_placed P news slots new old.1)
  all_placed P [] (None ∷ slots) new old = old
  all_placed P (n ∷ news) (None ∷ slots) new old = (new.0, all_placed P news slots new.1 old)

  -- so many slots, or so many sections
  few_placed : (many : ℕ) (news : List A) (slots : List (Option A)) → length slots ≤ many
      → length (filled slots) + length news ≤ many → length (placed news slots) ≤ many
  few_placed many news [] short few = let same = length-map news Some in omega (arith, few, same)
  few_placed zero news (Some one ∷ slots) short few = absurd (omega (arith, short))
  few_placed (suc many) news (Some one ∷ slots) short few =
      let later = few_placed many news slots (omega (arith, short)) (omega (arith, few)) in omega (arith, later)
  few_placed many [] (None ∷ slots) short few = short
  few_placed zero (n ∷ news) (None ∷ slots) short few = absurd (omega (arith, short))
  few_placed (suc many) (n ∷ news) (None ∷ slots) short few =
      let later = few_placed many news slots (omega (arith, short)) (omega (arith, few)) in omega (arith, later)

  filter_both : (p q : A → Bool) → ((x : A) → p x ≡ true → q x ≡ false) → (xs : List A)
      → length (filter (λ x. p x || q x) xs) ≡ length (filter p xs) + length (filter q xs)
  filter_both p q apart [] = omega arith
  filter_both p q apart (x ∷ xs) =
      let later = filter_both p q apart xs in
      elim (p x) as (λ a. p x ≡ a → length (if a || q x then x ∷ filter (λ y. p y || q y) xs
      else filter (λ y. p y || q y) xs) ≡ length (if a then x ∷ filter p xs else filter p xs)
      + length (if q x then x ∷ filter q xs else filter q xs)) [
        | true ↦ λ is. subst (λ b. length (x ∷ filter (λ y. p y || q y) xs) ≡ length (x ∷ filter p xs)
            + length (if b then x ∷ filter q xs else filter q xs)) (sym (apart x is)) (omega (arith, later))
        | false ↦ λ is. elim (q x) as (λ b. length (if b then x ∷ filter (λ y. p y || q y) xs
            else filter (λ y. p y || q y) xs) ≡ length (filter p xs)
            + length (if b then x ∷ filter q xs else filter q xs)) [
              | true ↦ omega (arith, later)
              | false ↦ later
            ]
      ] refl

  filter_parts : (p : A → Bool) (xs : List A) → length (filter p xs) + length (filter (λ x. not (p x)) xs) ≡ length xs
  filter_parts p [] = omega arith
  filter_parts p (x ∷ xs) =
      let later = filter_parts p xs in
      elim (p x) as (λ a. length (if a then x ∷ filter p xs else filter p xs)
      + length (if not a then x ∷ filter (λ y. not (p y)) xs else filter (λ y. not (p y)) xs) ≡ length (x ∷ xs)) [
        | true ↦ omega (arith, later)
        | false ↦ omega (arith, later)
      ]

  -- what is found passes the test
  found_passes : (test : A → Bool) (xs : List A) (x : A) → find test xs ≡ Some x → test x ≡ true
  found_passes test [] x is = absurd (let no_way : ◌≡◌ {A = Option A} None (Some x) = is in cc)
  found_passes test (y ∷ xs) x is =
      elim (test y) as (λ a. test y ≡ a → (if a then Some y else find test xs) ≡ Some x → test x ≡ true) [
        | true ↦ λ so at. subst (λ z. test z ≡ true) (same_Some y x at) so
        | false ↦ λ so at. found_passes test xs x at
      ] refl is

  -- and where one is found, one passes it
  found_one : (test : A → Bool) (xs : List A) (x : A) → find test xs ≡ Some x → 1 ≤ length (filter test xs)
  found_one test [] x is = absurd (let no_way : ◌≡◌ {A = Option A} None (Some x) = is in cc)
  found_one test (y ∷ xs) x is =
      elim (test y) as (λ a. (if a then Some y else find test xs) ≡ Some x
      → 1 ≤ length (if a then y ∷ filter test xs else filter test xs)) [
        | true ↦ λ at. omega arith
        | false ↦ λ at. found_one test xs x at
      ] is

all_mapped : {A B : Type 0} (Q : B → Type 0) (f : A → B) (xs : List A) → AllByRecursion (λ x. Q (f x)) xs
    → AllByRecursion Q (map f xs)
all_mapped Q f [] all = tt
all_mapped Q f (x ∷ xs) all = (all.0, all_mapped Q f xs all.1)

all_unmapped : {A B : Type 0} (Q : B → Type 0) (f : A → B) (xs : List A) → AllByRecursion Q (map f xs)
    → AllByRecursion (λ x. Q (f x)) xs
all_unmapped Q f [] all = tt
all_unmapped Q f (x ∷ xs) all = (all.0, all_unmapped Q f xs all.1)

all_kept : {A : Type 0} (P : A → Type 0) (test : A → Bool) (xs : List A) → AllByRecursion P xs
    → AllByRecursion P (filter test xs)
all_kept P test [] all = tt
all_kept P test (x ∷ xs) all =
    let later = all_kept P test xs all.1 in
    elim (test x) as (λ a. AllByRecursion P (if a then x ∷ filter test xs else filter test xs)) [
      | true ↦ (all.0, later)
      | false ↦ later
    ]

module _ {A K : Type 0} (same : K → K → Bool) (key : A → K) (is : (a b : K) → same a b ≡ true → a ≡ b)
    (self : (a : K) → same a a ≡ true) where
  -- sections of the same one
  abbrev alike : A → A → Bool
  alike a b = same (key a) (key b)

  -- a key is that of none of these
  abbrev IsApart : K → List A → Type 0
  IsApart k xs = AllByRecursion (λ x. same k (key x) ≡ false) xs

  -- no two of these have one key
  abbrev AreApart : List A → Type 0
  AreApart xs = IsDistinct same (map key xs)

  turned : (a b : K) → same a b ≡ false → same b a ≡ false
  turned a b other = elim (same b a) as (λ so. same b a ≡ so → so ≡ false) [
    | true ↦ λ so. sym (self a) ∙ ap (same a) (sym (is b a so)) ∙ other
    | false ↦ λ so. refl
  ] refl

  apart_first : (x : A) (xs : List A) → AreApart (x ∷ xs) → IsApart (key x) xs
  unfolding IsDistinct
  apart_first x xs apart = all_unmapped (λ k. same (key x) k ≡ false) key xs apart.0

  apart_rest : (x : A) (xs : List A) → AreApart (x ∷ xs) → AreApart xs
  unfolding IsDistinct
  apart_rest x xs apart = apart.1

  apart_both : (x : A) (xs : List A) → IsApart (key x) xs → AreApart xs → AreApart (x ∷ xs)
  unfolding IsDistinct
  apart_both x xs first later = (all_mapped (λ k. same (key x) k ≡ false) key xs first, later)

  apart_none : AreApart []
  unfolding IsDistinct
  apart_none = tt

  found_key : (sections : List A) (old new : A) → find (alike old) sections ≡ Some new → key old ≡ key new
  found_key sections old new at = is (key old) (key new) (found_passes (alike old) sections new at)

  -- sections of slots whose keys differ from one still do
  kept_from : (sections : List A) (k : K) (slots : List (Option A)) → IsApart k (filled slots)
      → IsApart k (filled (map (section_kept alike sections) slots))
  kept_from sections k [] apart = tt
  kept_from sections k (None ∷ slots) apart = kept_from sections k slots apart
  kept_from sections k (Some old ∷ slots) apart =
      let later = kept_from sections k slots apart.1 in
      elim (find (alike old) sections) as (λ o. find (alike old) sections ≡ o
      → IsApart k (filled (o ∷ map (section_kept alike sections) slots))) [
        | None ↦ λ at. later
        | Some new ↦ λ at. (subst (λ j. same k j ≡ false) (found_key sections old new at) apart.0, later)
      ] refl

  kept_apart : (sections : List A) (slots : List (Option A)) → AreApart (filled slots)
      → AreApart (filled (map (section_kept alike sections) slots))
  kept_apart sections [] apart = apart_none
  kept_apart sections (None ∷ slots) apart = kept_apart sections slots apart
  kept_apart sections (Some old ∷ slots) apart =
      let later = kept_apart sections slots (apart_rest old (filled slots) apart) in
      let from = kept_from sections (key old) slots (apart_first old (filled slots) apart) in
      elim (find (alike old) sections) as (λ o. find (alike old) sections ≡ o
      → AreApart (filled (o ∷ map (section_kept alike sections) slots))) [
        | None ↦ λ at. later
        | Some new ↦ λ at. apart_both new (filled (map (section_kept alike sections) slots))
            (subst (λ k. IsApart k (filled (map (section_kept alike sections) slots))) (found_key sections old new at)
            from) later
      ] refl

  some_apart : (test : A → Bool) (xs : List A) → AreApart xs → AreApart (filter test xs)
  some_apart test [] apart = apart
  some_apart test (x ∷ xs) apart =
      let later = some_apart test xs (apart_rest x xs apart) in
      elim (test x) as (λ a. AreApart (if a then x ∷ filter test xs else filter test xs)) [
        | true ↦ apart_both x (filter test xs)
            (all_kept (λ y. same (key x) (key y) ≡ false) test xs (apart_first x xs apart)) later
        | false ↦ later
      ]

  -- each of these is apart from each of those
  abbrev AreFrom : List A → List A → Type 0
  AreFrom news olds = AllByRecursion (λ new. IsApart (key new) olds) news

  placed_apart : (news : List A) (slots : List (Option A)) → AreApart news → AreApart (filled slots)
      → AreFrom news (filled slots) → AreApart (filled (placed news slots))
  placed_apart news [] new old from = subst AreApart (sym (filled_all news)) new
  placed_apart news (Some one ∷ slots) new old from =
      apart_both one (filled (placed news slots))
      (all_placed (λ x. same (key one) (key x) ≡ false) news slots (from_one news from)
      (apart_first one (filled slots) old))
      (placed_apart news slots new (apart_rest one (filled slots) old) (from_rest news from))
    where
      from_one : (news : List A) → AreFrom news (one ∷ filled slots) → IsApart (key one) news
      from_one [] from = tt
      from_one (n ∷ news) from = (turned (key n) (key one) from.0.0, from_one news from.1)

      from_rest : (news : List A) → AreFrom news (one ∷ filled slots) → AreFrom news (filled slots)
      from_rest [] from = tt
      from_rest (n ∷ news) from = (from.0.1, from_rest news from.1)
  placed_apart [] (None ∷ slots) new old from = old
  placed_apart (n ∷ news) (None ∷ slots) new old from =
      apart_both n (filled (placed news slots))
      (all_placed (λ x. same (key n) (key x) ≡ false) news slots (apart_first n news new) from.0)
      (placed_apart news slots (apart_rest n news new) old from.1)

  -- a section that no slot holds is apart from what is in them
  not_held : (new : A) (slots : List (Option A)) → list_any (holds alike new) slots ≡ false
      → IsApart (key new) (filled slots)
  not_held new [] none = tt
  not_held new (None ∷ slots) none = not_held new slots none
  not_held new (Some old ∷ slots) none =
      elim (same (key old) (key new)) as (λ a. same (key old) (key new) ≡ a
      → (a || list_any (holds alike new) slots) ≡ false → IsApart (key new) (old ∷ filled slots)) [
        | true ↦ λ so all. absurd (let no_way : true ≡ false = all in cc)
        | false ↦ λ so all. (turned (key old) (key new) so, not_held new slots all)
      ] refl none

  held_not : (new : A) (slots : List (Option A)) → IsApart (key new) (filled slots)
      → list_any (holds alike new) slots ≡ false
  held_not new [] apart = refl
  held_not new (None ∷ slots) apart = held_not new slots apart
  held_not new (Some old ∷ slots) apart =
      ap (λ a. a || list_any (holds alike new) slots) (turned (key new) (key old) apart.0)
      ∙ held_not new slots apart.1

  abbrev is_new : List (Option A) → A → Bool
  is_new slots new = not (list_any (holds alike new) slots)

  news_from : (sections : List A) (slots : List (Option A)) (xs : List A)
      → AreFrom (filter (is_new slots) xs) (filled (map (section_kept alike sections) slots))
  news_from sections slots [] = tt
  news_from sections slots (x ∷ xs) =
      let later = news_from sections slots xs in
      elim (list_any (holds alike x) slots) as (λ a. list_any (holds alike x) slots ≡ a
      → AreFrom (if not a then x ∷ filter (is_new slots) xs else filter (is_new slots) xs)
      (filled (map (section_kept alike sections) slots))) [
        | true ↦ λ so. later
        | false ↦ λ so. (kept_from sections (key x) slots (not_held x slots so), later)
      ] refl

  -- no more slots keep a section than there are sections that aren't new
  few_kept : (sections : List A) (slots : List (Option A)) → AreApart (filled slots)
      → length (filled (map (section_kept alike sections) slots))
      ≤ length (filter (λ new. list_any (holds alike new) slots) sections)
  few_kept sections [] apart = omega arith
  few_kept sections (None ∷ slots) apart = few_kept sections slots apart
  few_kept sections (Some old ∷ slots) apart =
      let later = few_kept sections slots (apart_rest old (filled slots) apart) in
      let first = apart_first old (filled slots) apart in
      let sum = filter_both (alike old) (λ new. list_any (holds alike new) slots)
      (λ new so. held_not new slots (subst (λ k. IsApart k (filled slots)) (is (key old) (key new) so) first))
      sections in
      elim (find (alike old) sections) as (λ o. find (alike old) sections ≡ o
      → length (filled (o ∷ map (section_kept alike sections) slots))
      ≤ length (filter (λ new. list_any (holds alike new) (Some old ∷ slots)) sections)) [
        | None ↦ λ at. omega (arith, later, sum)
        | Some new ↦ λ at. let one = found_one (alike old) sections new at in omega (arith, later, sum, one)
      ] refl

  -- the slots behind a reload
  pub few_reloaded : (many : ℕ) (sections : List A) (slots : List (Option A)) → AreApart (filled slots)
      → length slots ≤ many → length sections ≤ many → length (reloaded alike sections slots) ≤ many
  few_reloaded many sections slots apart short few =
      let kept = few_kept sections slots apart in
      let parts = filter_parts (λ new. list_any (holds alike new) slots) sections in
      let same = length-map slots (section_kept alike sections) in
      few_placed many (filter (is_new slots) sections) (map (section_kept alike sections) slots)
      (omega (arith, same, short)) (omega (arith, kept, parts, few))

  pub apart_reloaded : (sections : List A) (slots : List (Option A)) → AreApart sections → AreApart (filled slots)
      → AreApart (filled (reloaded alike sections slots))
  apart_reloaded sections slots new old =
      placed_apart (filter (is_new slots) sections) (map (section_kept alike sections) slots)
      (some_apart (is_new slots) sections new) (kept_apart sections slots old) (news_from sections slots sections)

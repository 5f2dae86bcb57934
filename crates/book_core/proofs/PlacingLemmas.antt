-- What stands in a slot when new sections are placed.
use Rattle.std.proofs.Common.{◌≡◌, ℕ, ◌<◌, ◌≤◌, ◌+◌, zero, suc, Bool, true, false, List, [], ◌∷◌, length, Some}
use Rattle.std.proofs.Common.{None, refl, sym, ap, ◌∙◌, arith}
use Rattle.std.specs.Prelude.{◌-◌, filter, get_or, slice_get, if◌then◌else◌, Option, is_some}
use Rattle.std.specs.Option.{option_and_then, option_or}
use Rattle.std.proofs.lemmas.Option.{slice_get-get_or}
use Rattle.book_history.specs.Slots.{placed, slot}
use Rattle.book_core.specs.Placing.{and_vacant, marked_from, number_placed, vacant_below}

module _ {A : Type 0} where
  -- the slots behind the first
  abbrev rest : List (Option A) → List (Option A)
  rest [] = []
  rest (held ∷ slots) = slots

  slot_rest : (slots : List (Option A)) (n : ℕ) → slot slots (suc n) ≡ slot (rest slots) n
  slot_rest [] n = refl
  slot_rest (held ∷ slots) n = refl

  -- what is left to be placed behind a slot
  abbrev left_over : Option A → List A → List A
  left_over (Some one) news = news
  left_over None [] = []
  left_over None (new ∷ news) = news

  placed_none : (slots : List (Option A)) → placed [] slots ≡ slots
  placed_none [] = refl
  placed_none (Some one ∷ slots) = ap (λ s. Some one ∷ s) (placed_none slots)
  placed_none (None ∷ slots) = refl

  slot_first : (news : List A) (slots : List (Option A))
      → slot (placed news slots) 0 ≡ option_or (slot slots 0) (slice_get news 0)
  slot_first [] [] = refl
  slot_first (new ∷ news) [] = refl
  slot_first news (Some one ∷ slots) = refl
  slot_first [] (None ∷ slots) = refl
  slot_first (new ∷ news) (None ∷ slots) = refl

  slot_later : (news : List A) (slots : List (Option A)) (n : ℕ)
      → slot (placed news slots) (suc n) ≡ slot (placed (left_over (slot slots 0) news) (rest slots)) n
  slot_later [] [] n = refl
  slot_later (new ∷ news) [] n = refl
  slot_later news (Some one ∷ slots) n = refl
  slot_later [] (None ∷ slots) n = ap (λ s. slot s n) (sym (placed_none slots))
  slot_later (new ∷ news) (None ∷ slots) n = refl

  and_swap : (first later : Option A) (many : ℕ)
      → and_vacant later (and_vacant first many) ≡ and_vacant first (and_vacant later many)
  and_swap (Some x) (Some y) many = refl
  and_swap (Some x) None many = refl
  and_swap None (Some y) many = refl
  and_swap None None many = refl

  vacant_first : (slots : List (Option A)) (n : ℕ)
      → vacant_below slots (suc n) ≡ and_vacant (slot slots 0) (vacant_below (rest slots) n)
  vacant_first slots zero = refl
  vacant_first slots (suc n) =
      ap (and_vacant (slot slots (suc n))) (vacant_first slots n)
      ∙ ap (λ held. and_vacant held (and_vacant (slot slots 0) (vacant_below (rest slots) n))) (slot_rest slots n)
      ∙ and_swap (slot slots 0) (slot (rest slots) n) (vacant_below (rest slots) n)

  one_later : (new : A) (news : List A) (k : ℕ) → slice_get news k ≡ slice_get (new ∷ news) (k + 1)
  one_later new news k = let later : suc k ≡ k + 1 = omega arith in ap (slice_get (new ∷ news)) later

  behind : (held : Option A) (news : List A) (k : ℕ)
      → slice_get (left_over held news) k ≡ slice_get news (and_vacant held k)
  behind (Some one) news k = refl
  behind None [] k = refl
  behind None (new ∷ news) k = one_later new news k

  -- a slot keeps what stands in it; a vacant one has the next new section behind those of the vacant slots below it
  pub placed_at : (news : List A) (slots : List (Option A)) (n : ℕ)
      → slot (placed news slots) n ≡ option_or (slot slots n) (slice_get news (vacant_below slots n))
  placed_at news slots zero = slot_first news slots
  placed_at news slots (suc n) =
      slot_later news slots n ∙ placed_at (left_over (slot slots 0) news) (rest slots) n
      ∙ ap (λ held. option_or held (slice_get (left_over (slot slots 0) news) (vacant_below (rest slots) n)))
      (sym (slot_rest slots n))
      ∙ ap (option_or (slot slots (suc n))) (behind (slot slots 0) news (vacant_below (rest slots) n)
      ∙ ap (slice_get news) (sym (vacant_first slots n)))

-- ---- sections by their numbers

module _ {A : Type 0} (all : List A) where
  -- whether there is a section, and it passes the test
  abbrev passes : (A → Bool) → Option A → Bool
  passes test None = false
  passes test (Some one) = test one

  first_is : (one : A) (xs : List A) (mark : Bool) (test : A → Bool) (same : test one ≡ mark)
      → filter test (one ∷ xs) ≡ (if mark then one ∷ filter test xs else filter test xs)
  first_is one xs mark test same = ap (λ so. if so then one ∷ filter test xs else filter test xs) same

  -- the marked numbers are those of the sections that pass the test, in order
  numbered : (test : A → Bool) (xs : List A) (marks : List Bool) (first : ℕ)
      → length xs ≤ length marks → ((n : ℕ) → slice_get all (first + n) ≡ slice_get xs n)
      → ((n : ℕ) (mark : Bool) → slice_get marks n ≡ Some mark → mark ≡ passes test (slice_get xs n))
      → (rank : ℕ) → option_and_then (slice_get all) (slice_get (marked_from first marks) rank)
      ≡ slice_get (filter test xs) rank
  numbered test [] [] first few here told rank = refl
  numbered test (x ∷ xs) [] first few here told rank = absurd (omega (arith, few))
  numbered test [] (mark ∷ marks) first few here told rank =
      let off : mark ≡ false = told 0 mark refl in
      let next : slice_get (marked_from first (mark ∷ marks)) rank ≡ slice_get (marked_from (suc first) marks) rank =
      ap (λ m. slice_get (marked_from first (m ∷ marks)) rank) off in
      ap (option_and_then (slice_get all)) next
      ∙ numbered test [] marks (suc first) (omega arith)
      (λ n. ap (slice_get all) (let e : suc first + n ≡ first + suc n = omega arith in e) ∙ here (suc n))
      (λ n m at. told (suc n) m at) rank
  numbered test (x ∷ xs) (true ∷ marks) first few here told zero =
      ap (slice_get all) (let e : first ≡ first + 0 = omega arith in e) ∙ here 0
      ∙ ap (λ ys. slice_get ys 0) (sym (first_is x xs true test (sym (told 0 true refl))))
  numbered test (x ∷ xs) (true ∷ marks) first few here told (suc rank) =
      numbered test xs marks (suc first) (omega (arith, few))
      (λ n. ap (slice_get all) (let e : suc first + n ≡ first + suc n = omega arith in e) ∙ here (suc n))
      (λ n m at. told (suc n) m at) rank
      ∙ ap (λ ys. slice_get ys (suc rank)) (sym (first_is x xs true test (sym (told 0 true refl))))
  numbered test (x ∷ xs) (false ∷ marks) first few here told rank =
      numbered test xs marks (suc first) (omega (arith, few))
      (λ n. ap (slice_get all) (let e : suc first + n ≡ first + suc n = omega arith in e) ∙ here (suc n))
      (λ n m at. told (suc n) m at) rank
      ∙ ap (λ ys. slice_get ys rank) (sym (first_is x xs false test (sym (told 0 false refl))))

  -- the same slots are vacant
  vacant_same : (B : Type 0) (kept : List (Option ℕ)) (slots : List (Option B))
      → ((n : ℕ) → is_some (slot kept n) ≡ is_some (slot slots n)) → (n : ℕ)
      → vacant_below kept n ≡ vacant_below slots n
  vacant_same B kept slots same zero = refl
  vacant_same B kept slots same (suc n) =
      ap (λ so. if so then vacant_below kept n else vacant_below kept n + 1) (same n)
      ∙ ap (and_vacant (slot slots n)) (vacant_same B kept slots same n)

  either_got : (held : Option ℕ) (is : Option A) (number : Option ℕ) (new : Option A)
      → option_and_then (slice_get all) held ≡ is → is_some held ≡ is_some is
      → option_and_then (slice_get all) number ≡ new
      → option_and_then (slice_get all) (option_or held number) ≡ option_or is new
  either_got (Some n) (Some one) number new got so next = got
  either_got (Some n) None number new got so next = absurd (let no_way : true ≡ false = so in cc)
  either_got None (Some one) number new got so next = absurd (let no_way : false ≡ true = so in cc)
  either_got None None number new got so next = next

  -- the section whose number is placed in a slot is the section that is placed there
  pub number_is : (test : A → Bool) (marks : List Bool) (kept : List (Option ℕ)) (slots : List (Option A))
      → length all ≤ length marks
      → ((n : ℕ) (mark : Bool) → slice_get marks n ≡ Some mark → mark ≡ passes test (slice_get all n))
      → ((n : ℕ) → option_and_then (slice_get all) (slot kept n) ≡ slot slots n)
      → ((n : ℕ) → is_some (slot kept n) ≡ is_some (slot slots n)) → (n : ℕ)
      → option_and_then (slice_get all) (number_placed kept marks n) ≡ slot (placed (filter test all) slots) n
  number_is test marks kept slots few told got so n =
      either_got (slot kept n) (slot slots n) (slice_get (marked_from 0 marks) (vacant_below kept n))
      (slice_get (filter test all) (vacant_below slots n)) (got n) (so n)
      (numbered test all marks 0 few (λ m. ap (slice_get all) (let e : 0 + m ≡ m = omega arith in e)) told
      (vacant_below kept n)
      ∙ ap (slice_get (filter test all)) (vacant_same A kept slots so n))
      ∙ sym (placed_at (filter test all) slots n)

-- ---- a slot by its number

or_held : (held other : Option ℕ) → is_some held ≡ true → held ≡ option_or held other
or_held (Some n) other is = refl
or_held None other is = absurd (let no_way : false ≡ true = is in cc)

or_other : (held other : Option ℕ) → is_some held ≡ false → other ≡ option_or held other
or_other (Some n) other is = absurd (let no_way : true ≡ false = is in cc)
or_other None other is = refl

stands_in : (kept : List (Option ℕ)) (n : ℕ) → n < length kept → slot kept n ≡ get_or kept n None
stands_in kept n within = ap (option_and_then (λ (h : Option ℕ). h)) (slice_get-get_or kept n None within)

pub placed_held : (kept : List (Option ℕ)) (news : List Bool) (n : ℕ) → n < length kept
    → is_some (get_or kept n None) ≡ true → get_or kept n None ≡ number_placed kept news n
placed_held kept news n within is =
    let new = slice_get (marked_from 0 news) (vacant_below kept n) in
    or_held (get_or kept n None) new is ∙ ap (λ held. option_or held new) (sym (stands_in kept n within))

pub placed_new : (kept : List (Option ℕ)) (news : List Bool) (n : ℕ) (given : Option ℕ) → n < length kept
    → is_some (get_or kept n None) ≡ false → given ≡ slice_get (marked_from 0 news) (vacant_below kept n)
    → given ≡ number_placed kept news n
placed_new kept news n given within is new =
    new ∙ or_other (get_or kept n None) (slice_get (marked_from 0 news) (vacant_below kept n)) is
    ∙ ap (λ held. option_or held (slice_get (marked_from 0 news) (vacant_below kept n))) (sym (stands_in kept n within))

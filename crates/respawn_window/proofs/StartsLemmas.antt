-- Starts and the last five of them.
use Rattle.std.proofs.Common.{ℕ, suc, ◌≡◌, ◌+◌, ◌-◌, ◌<◌, ◌≤◌, max, ltb, Bool, true, false, cond, List, [], ◌∷◌, ◌++◌}
use Rattle.std.proofs.Common.{length, take, drop, get_or, refl, sym, ap, subst, ◌∙◌, arith, add-zero, inl, inr}
use Rattle.std.specs.List.{count_by, remove}
use Rattle.std.specs.List.Sorted.{IsNonDecreasing}
use Rattle.std.proofs.lemmas.Bool.{lt-ltb, le-ltb, cases_lt, cond-true, cond-false}
use Rattle.std.proofs.lemmas.List.{length-take, length-drop, length_push, get_or-drop, get_or-take, get_or_append_left}
use Rattle.std.proofs.lemmas.List.{get_or_push, get_or_default, drop-append-le, drop-drop}
use Rattle.std.proofs.lemmas.List.Sorted.{IsNonDecreasingBy-push}
use Rattle.std.proofs.lemmas.List.Sums.{sum_by-cons, sum_by-take-drop, sum_by-drop_more, count_by-le-length}
use Rattle.respawn_window.specs.Starts.{greatest, raised, window, with_start, Remembers}

-- what doesn't fall doesn't fall behind its first number
rising_rest : (x : ℕ) (xs : List ℕ) → IsNonDecreasing (x ∷ xs) → IsNonDecreasing xs
rising_rest x xs rising = λ i j d le lt. rising (suc i) (suc j) d (omega arith) (omega arith)

-- the last of some numbers
last_of : (x : ℕ) (xs : List ℕ) → get_or (x ∷ xs) (length (x ∷ xs) - 1) 0 ≡ get_or (x ∷ xs) (length xs) 0
last_of x xs = let at : length (x ∷ xs) - 1 ≡ length xs = omega arith in ap (λ i. get_or (x ∷ xs) i 0) at

-- the greatest is the last
greatest_last : (xs : List ℕ) → IsNonDecreasing xs → greatest xs ≡ get_or xs (length xs - 1) 0
greatest_last [] rising = refl
greatest_last (x ∷ []) rising = omega arith
greatest_last (x ∷ y ∷ ys) rising =
    let rest : IsNonDecreasing (y ∷ ys) = rising_rest x (y ∷ ys) rising in
    let last : greatest (y ∷ ys) ≡ get_or {A = ℕ} (y ∷ ys) (length ys) 0 = greatest_last (y ∷ ys) rest ∙ last_of y ys in
    let below : x ≤ get_or {A = ℕ} (y ∷ ys) (length ys) 0 = rising 0 (suc (length ys)) 0 (omega arith) (omega arith) in
    let larger : max x (greatest (y ∷ ys)) ≡ get_or {A = ℕ} (y ∷ ys) (length ys) 0 = omega arith in
    larger ∙ sym (last_of x (y ∷ ys))

-- a test that holds of all counts them
count_all : (p : ℕ → Bool) (xs : List ℕ) → ((i : ℕ) → i < length xs → p (get_or xs i 0) ≡ true)
    → count_by p xs ≡ length xs
count_all p [] all = refl
count_all p (x ∷ xs) all =
    let first : p x ≡ true = all 0 (omega arith) in
    let one : cond {A = ℕ} (p x) 1 0 ≡ 1 = cond-true (p x) 1 0 first in
    let rest : count_by p xs ≡ length xs = count_all p xs (λ i lt. all (suc i) (omega arith)) in
    omega (arith, sum_by-cons (λ y. cond (p y) 1 0) x xs)

-- and one that holds of none counts none
count_none : (p : ℕ → Bool) (xs : List ℕ) → ((i : ℕ) → i < length xs → p (get_or xs i 0) ≡ false) → count_by p xs ≡ 0
count_none p [] none = refl
count_none p (x ∷ xs) none =
    let first : p x ≡ false = none 0 (omega arith) in
    let one : cond {A = ℕ} (p x) 1 0 ≡ 0 = cond-false (p x) 1 0 first in
    let rest : count_by p xs ≡ 0 = count_none p xs (λ i lt. none (suc i) (omega arith)) in
    omega (arith, sum_by-cons (λ y. cond (p y) 1 0) x xs)

-- a moment counts by the last start that is kept
pub raised_kept : (starts kept : List ℕ) (now : ℕ) → Remembers starts kept
    → raised starts now ≡ max now (get_or kept (length kept - 1) 0)
raised_kept starts kept now is =
    let last : get_or kept (length kept - 1) 0 ≡ get_or starts (length starts - 5 + (length kept - 1)) 0 =
    ap (λ (xs : List ℕ). get_or xs (length kept - 1) 0) is.last_five
    ∙ get_or-drop (length starts - 5) starts (length kept - 1) 0 in
    let at : length starts - 5 + (length kept - 1) ≡ length starts - 1 =
    omega (arith, ap length is.last_five, length-drop (length starts - 5) starts) in
    ap (max now) (greatest_last starts is.rising ∙ sym (last ∙ ap (λ i. get_or starts i 0) at))

-- where fewer than five are kept, all are
few_kept : (starts kept : List ℕ) → Remembers starts kept → length kept < 5 → (length starts < 5) × (kept ≡ starts)
few_kept starts kept is few =
    let all : length starts < 5 = omega (arith, ap length is.last_five, length-drop (length starts - 5) starts) in
    let from : length starts - 5 ≡ 0 = omega arith in
    (all, is.last_five ∙ ap (λ n. drop n starts) from)

-- the last start isn't above a moment that counts
last_below : (starts : List ℕ) (now : ℕ) → IsNonDecreasing starts
    → get_or starts (length starts - 1) 0 ≤ raised starts now
last_below starts now rising = omega (arith, greatest_last starts rising)

rises_on : (starts : List ℕ) (now : ℕ) → IsNonDecreasing starts → IsNonDecreasing (starts ++ raised starts now ∷ [])
rises_on starts now rising =
    IsNonDecreasingBy-push (λ x. x) starts (raised starts now) rising
    (λ d some.
    let same : get_or starts (length starts - 1) d ≡ get_or starts (length starts - 1) 0 =
    get_or_default starts (length starts - 1) d 0 (omega arith) in
    omega (arith, last_below starts now rising))

-- a start is allowed where fewer than five are kept
pub allowed_few : (starts kept : List ℕ) (now : ℕ) → Remembers starts kept → length kept < 5 → window starts now < 5
allowed_few starts kept now is few =
    let all = few_kept starts kept is few in
    omega (arith, all.0, count_by-le-length (λ start. ltb (raised starts now - start) 60000) starts)

-- and it's recorded
pub recorded_few : (starts kept : List ℕ) (now : ℕ) → Remembers starts kept → length kept < 5
    → Remembers (starts ++ raised starts now ∷ []) (kept ++ raised starts now ∷ [])
recorded_few starts kept now is few =
    let all = few_kept starts kept is few in
    let short : length starts < 5 = all.0 in
    let longer : length (starts ++ raised starts now ∷ []) ≡ length starts + 1 =
    length_push starts (raised starts now) in
    let from : 0 ≡ length (starts ++ raised starts now ∷ []) - 5 = omega arith in
    record {
      last_five = ap (λ (xs : List ℕ). xs ++ raised starts now ∷ []) all.1
          ∙ ap (λ n. drop n (starts ++ raised starts now ∷ [])) from;
      rising = rises_on starts now is.rising;
      spaced = λ i within. absurd (omega arith);
    }

-- where five are kept, the first of them is the fifth last start
record AreFive (starts kept : List ℕ) : Type 0 where
  pub many : 5 ≤ length starts
  pub first : get_or kept 0 0 ≡ get_or starts (length starts - 5) 0

five_kept : (starts kept : List ℕ) → Remembers starts kept → length kept ≡ 5 → AreFive starts kept
five_kept starts kept is full = record {
  many = omega (arith, ap length is.last_five, length-drop (length starts - 5) starts);
  first = ap (λ (xs : List ℕ). get_or xs 0 0) is.last_five ∙ get_or-drop (length starts - 5) starts 0 0
      ∙ ap (λ n. get_or starts n 0) (add-zero (length starts - 5));
}

-- the starts before the fifth last, and from there on
window_parts : (starts : List ℕ) (p : ℕ → Bool)
    → count_by p (take (length starts - 5) starts) + count_by p (drop (length starts - 5) starts) ≡ count_by p starts
window_parts starts p = sum_by-take-drop (λ start. cond (p start) 1 0) starts (length starts - 5)

-- a start isn't allowed where the first of five lies within the span
pub refused_full : (starts kept : List ℕ) (now : ℕ) → Remembers starts kept → length kept ≡ 5
    → raised starts now - get_or kept 0 0 < 60000 → 5 ≤ window starts now
refused_full starts kept now is full within =
    let five : AreFive starts kept = five_kept starts kept is full in
    let many = five.many in
    let first = five.first in
    let p : ℕ → Bool = λ (start : ℕ). ltb (raised starts now - start) 60000 in
    let all : count_by p (drop (length starts - 5) starts) ≡ length (drop (length starts - 5) starts) =
    count_all p (drop (length starts - 5) starts) (λ i lt.
    let at : get_or (drop (length starts - 5) starts) i 0 ≡ get_or starts (length starts - 5 + i) 0 =
    get_or-drop (length starts - 5) starts i 0 in
    let above : get_or starts (length starts - 5) 0 ≤ get_or starts (length starts - 5 + i) 0 =
    is.rising (length starts - 5) (length starts - 5 + i) 0 (omega arith)
    (omega (arith, length-drop (length starts - 5) starts)) in
    lt-ltb _ _ (omega arith)) in
    omega (arith, window_parts starts p, length-drop (length starts - 5) starts)

-- and it is where that lies before the span
pub allowed_full : (starts kept : List ℕ) (now : ℕ) → Remembers starts kept → length kept ≡ 5
    → 60000 ≤ raised starts now - get_or kept 0 0 → window starts now < 5
allowed_full starts kept now is full before =
    let five : AreFive starts kept = five_kept starts kept is full in
    let many = five.many in
    let first = five.first in
    let p : ℕ → Bool = λ (start : ℕ). ltb (raised starts now - start) 60000 in
    let none : count_by p (take (length starts - 5) starts) ≡ 0 =
    count_none p (take (length starts - 5) starts) (λ i lt.
    let low : i < length starts - 5 = omega (arith, length-take (length starts - 5) starts) in
    let at : get_or (take (length starts - 5) starts) i 0 ≡ get_or starts i 0 =
    get_or-take (length starts - 5) starts i 0 low in
    let below : get_or starts i 0 ≤ get_or starts (length starts - 5) 0 =
    is.rising i (length starts - 5) 0 (omega arith) (omega arith) in
    le-ltb _ _ (omega arith)) in
    let not_first : p (get_or starts (length starts - 5) 0) ≡ false = le-ltb _ _ (omega arith) in
    let counts_none : cond {A = ℕ} (p (get_or starts (length starts - 5) 0)) 1 0 ≡ 0 =
    cond-false (p (get_or starts (length starts - 5) 0)) 1 0 not_first in
    let behind : count_by p (drop (length starts - 5) starts)
    ≡ cond {A = ℕ} (p (get_or starts (length starts - 5) 0)) 1 0 + count_by p
    (drop (length starts - 5 + 1) starts) =
    sum_by-drop_more (λ start. cond (p start) 1 0) starts (length starts - 5) 0 (omega arith) in
    omega (
      arith,
      window_parts starts p,
      count_by-le-length p (drop (length starts - 5 + 1) starts),
      length-drop (length starts - 5 + 1) starts,
    )

-- it's recorded in the place of the first of five
pub recorded_full : (starts kept : List ℕ) (now : ℕ) → Remembers starts kept → length kept ≡ 5
    → 60000 ≤ raised starts now - get_or kept 0 0 → Remembers (starts ++ raised starts now ∷ [])
    (remove kept 0 ++ raised starts now ∷ [])
recorded_full starts kept now is full before =
    let five : AreFive starts kept = five_kept starts kept is full in
    let many = five.many in
    let first = five.first in
    let longer : length (starts ++ raised starts now ∷ []) ≡ length starts + 1 =
    length_push starts (raised starts now) in
    let rest : drop 1 kept ≡ drop (length starts - 5 + 1) starts = ap (drop 1) is.last_five
    ∙ drop-drop 1 (length starts - 5) starts in
    let cut : drop (length starts - 5 + 1) (starts ++ raised starts now ∷ []) ≡ drop (length starts - 5 + 1) starts
    ++ raised starts now ∷ [] =
    drop-append-le (length starts - 5 + 1) starts (raised starts now ∷ []) (omega arith) in
    let from : length starts - 5 + 1 ≡ length (starts ++ raised starts now ∷ []) - 5 = omega arith in
    record {
      last_five = ap (λ (xs : List ℕ). xs ++ raised starts now ∷ []) rest ∙ sym cut
          ∙ ap (λ n. drop n (starts ++ raised starts now ∷ [])) from;
      rising = rises_on starts now is.rising;
      spaced = λ i within. elim (cases_lt (i + 5) (length starts)) [
        | inl old ↦
            rw (
              get_or_append_left starts (raised starts now ∷ []) 0 i (omega arith),
              get_or_append_left starts (raised starts now ∷ []) 0 (i + 5) old,
            ) (is.spaced i old)
        | inr new ↦
            let at : length starts - 5 ≡ i = omega arith in
            let old : get_or (starts ++ raised starts now ∷ []) i 0 ≡ get_or starts i 0 =
            get_or_append_left starts (raised starts now ∷ []) 0 i (omega arith) in
            let last : get_or (starts ++ raised starts now ∷ []) (i + 5) 0 ≡ raised starts now =
            get_or_push starts (raised starts now) 0 (i + 5) (omega arith) in
            let fifth : get_or starts (length starts - 5) 0 ≡ get_or starts i 0 = ap (λ n. get_or starts n 0) at in
            omega arith
      ];
    }

-- Each way to answer, by the moment that the code works out.

-- fewer than five are kept
pub asked_few : (starts kept : List ℕ) (now moment : ℕ) → Remembers starts kept
    → moment ≡ max now (get_or kept (length kept - 1) 0) → length kept < 5
    → Remembers (with_start true starts now) (kept ++ moment ∷ [])
asked_few starts kept now moment is at few =
    subst (λ m. Remembers (with_start true starts now) (kept ++ m ∷ [])) (raised_kept starts kept now is ∙ sym at)
    (recorded_few starts kept now is few)

-- five are kept, and the first of them is near
pub asked_near : (starts kept : List ℕ) (now moment : ℕ) → Remembers starts kept
    → moment ≡ max now (get_or kept (length kept - 1) 0) → length kept ≡ 5 → moment - get_or kept 0 0 < 60000
    → 5 ≤ window starts now
asked_near starts kept now moment is at full near =
    refused_full starts kept now is full (subst (λ m. m - get_or kept 0 0 < 60000)
    (at ∙ sym (raised_kept starts kept now is)) near)

-- five are kept, and the first of them is far
pub asked_far : (starts kept : List ℕ) (now moment : ℕ) → Remembers starts kept
    → moment ≡ max now (get_or kept (length kept - 1) 0) → length kept ≡ 5 → 60000 ≤ moment - get_or kept 0 0
    → (window starts now < 5) × Remembers (with_start true starts now) (remove kept 0 ++ moment ∷ [])
asked_far starts kept now moment is at full far =
    let same : moment ≡ raised starts now = at ∙ sym (raised_kept starts kept now is) in
    let before : 60000 ≤ raised starts now - get_or kept 0 0 = subst (λ m. 60000 ≤ m - get_or kept 0 0) same far in (
      allowed_full starts kept now is full before,
      subst (λ m. Remembers (with_start true starts now) (remove kept 0 ++ m ∷ [])) (sym same)
          (recorded_full starts kept now is full before),
    )

-- the moment that the code works out
pub moment_of : (kept seen : List ℕ) (now latest moment : ℕ) → moment ≡ max now latest
    → latest ≡ get_or seen (length seen - 1) 0 → seen ≡ kept → moment ≡ max now (get_or kept (length kept - 1) 0)
moment_of kept seen now latest moment is last same = cc

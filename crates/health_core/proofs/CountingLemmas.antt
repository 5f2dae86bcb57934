-- A counter follows what is defined over all outcomes.
use Rattle.std.proofs.Common.{ℕ, zero, suc, ◌≡◌, ◌+◌, ◌-◌, ◌<◌, ◌≤◌, ◌^◌, ◌&&◌, ◌⊎◌, Bool, true, false, not, cond, leb}
use Rattle.std.proofs.Common.{ltb, List, [], ◌∷◌, ◌++◌, length, take, min, reverse, refl, sym, ap, ap₂, subst, ◌∙◌}
use Rattle.std.proofs.Common.{arith, inl, inr}
use Rattle.std.specs.List.{list_all, prefix_len}
use Rattle.std.proofs.Math.Dec.{leb-zero, leb-suc-zero, leb-suc-suc}
use Rattle.std.proofs.lemmas.Bool.Decides.{leb_tells}
use Rattle.std.proofs.lemmas.List.{reverse-append, length-reverse, length-append, take-append-le, take_all}
use Rattle.outside.specs.declared.probe.Outcome.{Outcome}
use Rattle.outside.specs.declared.probe.Outcome.TheVariants.{Up, Down}
use Rattle.health_core.specs.declared.counter.Counter.{Counter}
use Rattle.health_core.specs.Counting.{Counts, change_at, change_of, ends_in, in_a_row, is_outcome, is_up, is_up_next}
use Rattle.health_core.specs.Counting.{is_up_now, other_outcome, streak, with_outcome}

-- THE LAST OUTCOMES

and_false : (so : Bool) → (so && false) ≡ false
and_false true = refl
and_false false = refl

one_further : (n long count : ℕ) (rest first : Bool) → (leb n long && rest) ≡ leb n count
    → (leb (suc n) (suc long) && (first && rest)) ≡ leb (suc n) (cond first (1 + count) 0)
one_further n long count rest true is =
    let next : suc count ≡ 1 + count = omega arith in
    ap (λ (so : Bool). so && rest) (leb-suc-suc n long) ∙ is ∙ sym (leb-suc-suc n count) ∙ ap (leb (suc n)) next
one_further n long count rest false is = and_false (leb (suc n) (suc long)) ∙ sym (leb-suc-zero n)

-- there are so many at the front, and all are such: so many such ones are at the front
front_all : (p : Outcome → Bool) (n : ℕ) (xs : List Outcome)
    → (leb n (length xs) && list_all p (take n xs)) ≡ leb n (prefix_len p xs)
front_all p zero xs = ap (λ (so : Bool). so && true) (leb-zero (length xs)) ∙ sym (leb-zero (prefix_len p xs))
front_all p (suc n) [] = ap (λ (so : Bool). so && true) (leb-suc-zero n) ∙ sym (leb-suc-zero n)
front_all p (suc n) (x ∷ xs) =
    one_further n (length xs) (prefix_len p xs) (list_all p (take n xs)) (p x) (front_all p n xs)

ends_by_streak : (which : Outcome) (n : ℕ) (outcomes : List Outcome)
    → ends_in which n outcomes ≡ leb n (streak which outcomes)
ends_by_streak which n outcomes =
    ap (λ (long : ℕ). leb n long && list_all (is_outcome which) (take n (reverse outcomes)))
    (sym (length-reverse outcomes)) ∙ front_all (is_outcome which) n (reverse outcomes)

streak_more : (which : Outcome) (outcomes : List Outcome) (next : Outcome)
    → streak which (outcomes ++ next ∷ []) ≡ cond (is_outcome which next) (1 + streak which outcomes) 0
streak_more which outcomes next = ap (prefix_len (is_outcome which)) (reverse-append outcomes (next ∷ []))

-- WHETHER THE SERVICE IS UP

pub earlier : (rise fall : ℕ) (outcomes : List Outcome) (next : Outcome) (k : ℕ) → k ≤ length outcomes
    → is_up rise fall (outcomes ++ next ∷ []) k ≡ is_up rise fall outcomes k
unfolding is_up
earlier rise fall outcomes next zero few = refl
earlier rise fall outcomes next (suc k) few =
    ap₂ (λ (was : Bool) (front : List Outcome). cond was (not (ends_in Down fall front)) (ends_in Up rise front))
    (earlier rise fall outcomes next k (omega (arith, few)))
    (take-append-le (suc k) outcomes (next ∷ []) few)

pub long : (outcomes : List Outcome) (next : Outcome) → length (outcomes ++ next ∷ []) ≡ suc (length outcomes)
long outcomes next = omega (arith, length-append outcomes (next ∷ []))

up_next : (rise fall : ℕ) (outcomes : List Outcome) (next : Outcome)
    → is_up_now rise fall (outcomes ++ next ∷ [])
    ≡ cond (is_up_now rise fall outcomes) (not (ends_in Down fall (outcomes ++ next ∷ [])))
    (ends_in Up rise (outcomes ++ next ∷ []))
unfolding is_up
up_next rise fall outcomes next =
    ap (is_up rise fall (outcomes ++ next ∷ [])) (long outcomes next)
    ∙ ap₂ (λ (was : Bool) (front : List Outcome). cond was (not (ends_in Down fall front)) (ends_in Up rise front))
    (earlier rise fall outcomes next (length outcomes) (omega arith))
    (take_all (suc (length outcomes)) (outcomes ++ next ∷ []) (omega (arith, long outcomes next)))

-- WHAT A COUNTER KEEPS

-- a number as far as 32 bits go
kept : ℕ → ℕ
kept n = min n (2 ^ 32 - 1)

kept_more : (held real : ℕ) → held ≡ kept real → kept (held + 1) ≡ kept (1 + real)
unfolding kept
kept_more held real is = omega (arith, is)

kept_first : (real : ℕ) → real ≡ 0 → 1 ≡ kept (1 + real)
unfolding kept
kept_first real is = omega (arith, is)

kept_none : 0 ≡ kept 0
unfolding kept
kept_none = refl

-- the streak of the last outcome
streak_kept : (last next : Outcome) (held : ℕ) (outcomes : List Outcome) → held ≡ kept (streak last outcomes)
    → streak (other_outcome last) outcomes ≡ 0
    → cond (is_outcome last next) (kept (held + 1)) 1 ≡ kept (streak next (outcomes ++ next ∷ []))
streak_kept Up Up held outcomes is broken =
    kept_more held (streak Up outcomes) is ∙ ap kept (sym (streak_more Up outcomes Up))
streak_kept Up Down held outcomes is broken =
    kept_first (streak Down outcomes) broken ∙ ap kept (sym (streak_more Down outcomes Down))
streak_kept Down Up held outcomes is broken =
    kept_first (streak Up outcomes) broken ∙ ap kept (sym (streak_more Up outcomes Up))
streak_kept Down Down held outcomes is broken =
    kept_more held (streak Down outcomes) is ∙ ap kept (sym (streak_more Down outcomes Down))

streak_broken : (outcomes : List Outcome) (next : Outcome) → streak (other_outcome next) (outcomes ++ next ∷ []) ≡ 0
streak_broken outcomes Up = streak_more Down outcomes Up
streak_broken outcomes Down = streak_more Up outcomes Down

-- the streak of either outcome
row_kept : (which next : Outcome) (held : ℕ) (outcomes : List Outcome)
    → held ≡ kept (streak next (outcomes ++ next ∷ []))
    → cond (is_outcome next which) held 0 ≡ kept (streak which (outcomes ++ next ∷ []))
row_kept Up Up held outcomes is = is
row_kept Down Down held outcomes is = is
row_kept Up Down held outcomes is = kept_none ∙ ap kept (sym (streak_broken outcomes Down))
row_kept Down Up held outcomes is = kept_none ∙ ap kept (sym (streak_broken outcomes Up))

-- a test of what is kept is one of the number itself
Tells : ℕ → ℕ → Type 0
Tells a b = ((leb a b ≡ true) × (a ≤ b)) ⊎ ((leb a b ≡ false) × (b < a))

by_both : (n held real : ℕ) → n < 2 ^ 32 → held ≡ kept real → Tells n held → Tells n real → leb n held ≡ leb n real
unfolding kept Tells
by_both n held real few is (inl (is_so, le)) (inl (also, le')) = is_so ∙ sym also
by_both n held real few is (inl (is_so, le)) (inr (also, lt)) = absurd (omega (arith, few, is, le, lt))
by_both n held real few is (inr (is_so, lt)) (inl (also, le)) = absurd (omega (arith, few, is, lt, le))
by_both n held real few is (inr (is_so, lt)) (inr (also, lt')) = is_so ∙ sym also

at_least : (n held real : ℕ) → n < 2 ^ 32 → held ≡ kept real → leb n held ≡ leb n real
unfolding Tells
at_least n held real few is = by_both n held real few is (leb_tells n held) (leb_tells n real)

below_both : (n held : ℕ) → Tells (suc held) n → Tells n held → ltb held n ≡ not (leb n held)
unfolding Tells
below_both n held (inl (is, le)) (inl (also, le')) = absurd (omega (arith, le, le'))
below_both n held (inl (is, le)) (inr (also, lt)) = is ∙ ap not (sym also)
below_both n held (inr (is, lt)) (inl (also, le)) = is ∙ ap not (sym also)
below_both n held (inr (is, lt)) (inr (also, lt')) = absurd (omega (arith, lt, lt'))

below : (n held : ℕ) → ltb held n ≡ not (leb n held)
unfolding Tells
below n held = below_both n held (leb_tells (suc held) n) (leb_tells n held)

-- A STEP

by_tests : (up : Bool) (rise fall downs ups real_downs real_ups : ℕ) → rise < 2 ^ 32 → fall < 2 ^ 32
    → downs ≡ kept real_downs → ups ≡ kept real_ups
    → cond up (ltb downs fall) (leb rise ups) ≡ cond up (not (leb fall real_downs)) (leb rise real_ups)
by_tests true rise fall downs ups real_downs real_ups few few' downs_are ups_are =
    below fall downs ∙ ap not (at_least fall downs real_downs few' downs_are)
by_tests false rise fall downs ups real_downs real_ups few few' downs_are ups_are =
    at_least rise ups real_ups few ups_are

-- the streak that the counter keeps behind one more outcome
more_kept : (rise fall : ℕ) (outcomes : List Outcome) (counter : Counter) (next : Outcome)
    → Counts rise fall outcomes counter
    → (with_outcome counter next).streak ≡ kept (streak next (outcomes ++ next ∷ []))
unfolding kept
more_kept rise fall outcomes counter next counts =
    streak_kept counter.last next counter.streak outcomes counts.streak_is counts.broken

up_by_row : (rise fall : ℕ) (outcomes : List Outcome) (counter : Counter) (next : Outcome)
    → counter.rise < 2 ^ 32 → counter.fall < 2 ^ 32 → Counts rise fall outcomes counter
    → is_up_next (with_outcome counter next)
    ≡ cond counter.up (not (leb counter.fall (streak Down (outcomes ++ next ∷ []))))
    (leb counter.rise (streak Up (outcomes ++ next ∷ [])))
up_by_row rise fall outcomes counter next few few' counts =
    let held = more_kept rise fall outcomes counter next counts in
    by_tests counter.up counter.rise counter.fall (in_a_row (with_outcome counter next) Down)
    (in_a_row (with_outcome counter next) Up) (streak Down (outcomes ++ next ∷ [])) (streak Up (outcomes ++ next ∷ []))
    few few' (row_kept Down next (with_outcome counter next).streak outcomes held)
    (row_kept Up next (with_outcome counter next).streak outcomes held)

-- whether the service is up behind one more outcome
pub up_follows : (rise fall : ℕ) (outcomes : List Outcome) (counter : Counter) (next : Outcome)
    → counter.rise < 2 ^ 32 → counter.fall < 2 ^ 32 → Counts rise fall outcomes counter
    → is_up_next (with_outcome counter next) ≡ is_up_now rise fall (outcomes ++ next ∷ [])
up_follows rise fall outcomes counter next few few' counts =
    let all = outcomes ++ next ∷ [] in
    up_by_row rise fall outcomes counter next few few' counts
    ∙ ap₂ (λ (was : Bool) (n : ℕ). cond was (not (leb n (streak Down all))) (leb counter.rise (streak Up all)))
    counts.up_is counts.fall_is
    ∙ ap (λ (n : ℕ). cond (is_up_now rise fall outcomes) (not (leb fall (streak Down all))) (leb n (streak Up all)))
    counts.rise_is
    ∙ ap₂ (λ (downs ups : Bool). cond (is_up_now rise fall outcomes) (not downs) ups)
    (sym (ends_by_streak Down fall all)) (sym (ends_by_streak Up rise all))
    ∙ sym (up_next rise fall outcomes next)

pub counts_more : (rise fall : ℕ) (outcomes : List Outcome) (counter after : Counter) (next : Outcome)
    → counter.rise < 2 ^ 32 → counter.fall < 2 ^ 32
    → after ≡ record (with_outcome counter next) { up = is_up_next (with_outcome counter next) }
    → Counts rise fall outcomes counter → Counts rise fall (outcomes ++ next ∷ []) after
unfolding kept
counts_more rise fall outcomes counter after next few few' is counts =
    subst (λ (held : Counter). Counts rise fall (outcomes ++ next ∷ []) held) (sym is) (record {
      rise_is = counts.rise_is;
      fall_is = counts.fall_is;
      up_is = up_follows rise fall outcomes counter next few few' counts;
      streak_is = more_kept rise fall outcomes counter next counts;
      broken = streak_broken outcomes next;
    })

pub changes : (rise fall : ℕ) (outcomes : List Outcome) (counter : Counter) (next : Outcome)
    → counter.rise < 2 ^ 32 → counter.fall < 2 ^ 32 → Counts rise fall outcomes counter
    → change_of counter.up (is_up_next (with_outcome counter next)) ≡ change_at rise fall outcomes next
changes rise fall outcomes counter next few few' counts =
    ap₂ change_of counts.up_is (up_follows rise fall outcomes counter next few few' counts)

pub counts_none : (rise fall : ℕ)
    → Counts rise fall [] (record { rise = rise; fall = fall; up = false; last = Down; streak = 0 })
unfolding is_up
counts_none rise fall = record { rise_is = refl; fall_is = refl; up_is = refl; streak_is = refl; broken = refl }

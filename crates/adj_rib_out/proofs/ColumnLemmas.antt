-- Columns of counts in which one changes, and the numbers that are noted.
use Rattle.std.proofs.Common.{◌≡◌, ◌≢◌, ◌==◌, ℕ, ◌+◌, ◌-◌, ◌<◌, ◌≤◌, Bool, true, false, List, [], ◌∷◌, ◌++◌, cond}
use Rattle.std.proofs.Common.{zero, suc, length, refl, sym, ap, ap₂, subst, ◌∙◌, ◌||◌, inl, inr, arith, length-append}
use Rattle.std.specs.Prelude.{nat_lt}
use Rattle.std.proofs.lemmas.Grind.{common_steps}
use Rattle.std.proofs.lemmas.Bool.{cases_eq, eq-eqb, ne_eqb, ltb-false}
use Rattle.std.proofs.lemmas.List.{append-nil, get_or-set_same, get_or-set_other}
use Rattle.linked_pending.specs.Links.{link}
use Rattle.linked_pending.specs.Listing.{has, without}
use Rattle.linked_pending.proofs.ApartLemmas.{without-append}
use Rattle.linked_pending.proofs.ListingLemmas.{has-append, has-without, without_absent}
use Rattle.value_pool.proofs.PoolLemmas.{gone_without}
use Rattle.value_pool.specs.Pool.{noted}
use Rattle.adj_rib_out.specs.Stock.{more, fewer, widened}

plus_zero : (n : ℕ) → n ≡ n + 0
plus_zero n = omega arith

module _ (counts : List ℕ) (number : ℕ) (within : number < length counts) where
  pub link_more : (v : ℕ) → link (more counts number) v ≡ link counts v + cond (number == v) 1 0
  link_more v = elim (cases_eq number v) [
    | inl same ↦ subst (λ (w : ℕ). link (more counts number) w ≡ link counts w + cond (number == w) 1 0) same
        (get_or-set_same counts number (link counts number + 1) 0 within
        ∙ ap (λ (t : Bool). link counts number + cond t 1 0) (sym (eq-eqb number number refl)))
    | inr differs ↦ get_or-set_other counts number v (link counts number + 1) 0 (λ same. differs (sym same))
        ∙ plus_zero (link counts v)
        ∙ ap (λ (t : Bool). link counts v + cond t 1 0) (sym (ne_eqb number v differs))
  ]

  pub link_fewer : 0 < link counts number → (v : ℕ)
      → link (fewer counts number) v + cond (number == v) 1 0 ≡ link counts v
  link_fewer some v = elim (cases_eq number v) [
    | inl same ↦ subst (λ (w : ℕ). link (fewer counts number) w + cond (number == w) 1 0 ≡ link counts w) same
        (ap (λ (t : Bool). link (fewer counts number) number + cond t 1 0) (eq-eqb number number refl)
        ∙ ap (λ n. n + 1) (get_or-set_same counts number (link counts number - 1) 0 within)
        ∙ omega arith)
    | inr differs ↦ ap (λ (t : Bool). link (fewer counts number) v + cond t 1 0) (ne_eqb number v differs)
        ∙ sym (plus_zero (link (fewer counts number) v))
        ∙ get_or-set_other counts number v (link counts number - 1) 0 (λ same. differs (sym same))
  ]

link_push : (counts : List ℕ) (v : ℕ) → link (counts ++ 0 ∷ []) v ≡ link counts v
link_push [] zero = refl
link_push [] (suc v) = refl
link_push (count ∷ counts) zero = refl
link_push (count ∷ counts) (suc v) = link_push counts v

pub link_widened : (counts : List ℕ) (number v : ℕ) → link (widened counts number) v ≡ link counts v
link_widened counts number v = elim (number == length counts) as (λ (t : Bool).
    link (cond t (counts ++ 0 ∷ []) counts) v ≡ link counts v) [
      | true ↦ link_push counts v
      | false ↦ refl
    ]

-- a list that grows by one place where the number is the next
abbrev pub grown : ℕ → ℕ → ℕ
grown count number = count + cond (number == count) 1 0

pub length_widened : (counts : List ℕ) (number : ℕ) → length (widened counts number) ≡ grown (length counts) number
length_widened counts number = elim (number == length counts) as (λ (t : Bool).
    length (cond t (counts ++ 0 ∷ []) counts) ≡ length counts + cond t 1 0) [
      | true ↦ length-append counts (0 ∷ [])
      | false ↦ plus_zero (length counts)
    ]

-- a count that isn't above 0 is 0
pub none_counted : (count : ℕ) → nat_lt 0 count ≡ false → count ≡ 0
none_counted count is =
    let below = ltb-false 0 count is in omega arith

-- ---- what is noted

pub still_has : (v number : ℕ) (idle : List ℕ) → v ≢ number → has v idle ≡ true → has v (without number idle) ≡ true
still_has v number idle differs there = has-without v number idle
    ∙ ap (λ (t : Bool). cond t false (has v idle)) (ne_eqb v number differs) ∙ there

pub has_noted : (v number : ℕ) (idle : List ℕ) → has v idle ≡ true → has v (noted number idle) ≡ true
has_noted v number idle there = has-append v (without number idle) (number ∷ [])
    ∙ elim (cases_eq v number) [
      | inl same ↦ grind (arith, common_steps, eq-eqb v number same)
      | inr differs ↦ ap (λ (t : Bool). t || has v (number ∷ [])) (still_has v number idle differs there)
    ]

pub noted_has : (number : ℕ) (idle : List ℕ) → has number (noted number idle) ≡ true
noted_has number idle = has-append number (without number idle) (number ∷ [])
    ∙ grind (arith, common_steps, eq-eqb number number refl)

pub without_shorter : (number : ℕ) (idle : List ℕ) → length (without number idle) ≤ length idle
without_shorter number [] = omega arith
without_shorter number (first ∷ rest) =
    let shorter = without_shorter number rest in
    grind (arith, common_steps)

-- noted and then taken off is taken off
pub without_noted : (number : ℕ) (idle : List ℕ) → without number (noted number idle) ≡ without number idle
without_noted number idle = without-append number (without number idle) (number ∷ [])
    ∙ ap₂ (λ (xs ys : List ℕ). xs ++ ys)
    (without_absent number (without number idle) (gone_without number idle))
    (ap (λ (t : Bool). cond t [] (number ∷ [])) (eq-eqb number number refl))
    ∙ append-nil (without number idle)

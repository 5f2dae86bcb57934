-- How often wire attributes are used, as written values come and go.
use Rattle.std.proofs.Common.{◌≡◌, ℕ, ◌+◌, ◌≤◌, Bool, true, false, List, [], ◌∷◌, ◌++◌, Option, Some, None}
use Rattle.std.proofs.Common.{cond, length, refl, ap, subst, ◌∙◌, arith}
use Rattle.std.specs.Prelude.{nat_lt, slice_set, slice_index_or}
use Rattle.std.specs.List.{sum_by}
use Rattle.std.proofs.lemmas.Bool.{ltb-true}
use Rattle.std.proofs.lemmas.List.Sums.{sum_by-set, sum_by_push, get_or-le-sum_by}
use Rattle.value_pool.specs.Pool.{item_at, with_item}
use Rattle.adj_rib_out.proofs.NumberLemmas.{under_within}

-- a value more adds what it counts, and one that goes takes it
module _ {T : Type 0} (count : Option (T × ℕ) → ℕ) (none : count None ≡ 0) (items : List (Option (T × ℕ)))
    (number : ℕ) where
  pub sum_with : (item : T × ℕ) → item_at items number ≡ None
      → sum_by count (with_item items number item) ≡ sum_by count items + count (Some item)
  sum_with item free = elim (nat_lt number (length items)) as (λ (t : Bool). nat_lt number (length items) ≡ t
      → sum_by count (cond t (slice_set items number (Some item)) (items ++ Some item ∷ []))
      ≡ sum_by count items + count (Some item)) [
        | true ↦ λ inside.
            let whole = sum_by-set count items number (Some item) None (ltb-true number (length items) inside) in
            let nothing : count (slice_index_or items number None) ≡ 0 = ap count free ∙ none in
            omega arith
        | false ↦ λ next. sum_by_push count items (Some item)
      ] refl

  pub sum_without : (item : T × ℕ) → item_at items number ≡ Some item
      → sum_by count (slice_set items number None) + count (Some item) ≡ sum_by count items
  sum_without item here =
      let whole = sum_by-set count items number None None (under_within items number item here) in
      let was : count (slice_index_or items number None) ≡ count (Some item) = ap count here in
      omega arith

  -- what stands is counted
  pub counted_in : (item : T × ℕ) → item_at items number ≡ Some item → count (Some item) ≤ sum_by count items
  counted_in item here = subst (λ (n : ℕ). n ≤ sum_by count items) (ap count here)
      (get_or-le-sum_by count items number None (under_within items number item here))

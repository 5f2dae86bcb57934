-- Sums over numbers.
use Rattle.std.proofs.Common.{◌≡◌, ℕ, ◌<◌, ◌+◌, zero, suc, [], refl, ap, arith}
use Rattle.std.proofs.lemmas.List.Sums.{sum_by-cons}
use Rattle.std.specs.List.{sum_by}
use Rattle.book_history.specs.Bounds.{numbers_from}

-- one number more
pub sum_last : (f : ℕ → ℕ) (first many : ℕ)
    → sum_by f (numbers_from first (suc many)) ≡ sum_by f (numbers_from first many) + f (first + many)
sum_last f first zero =
    let one = sum_by-cons f first [] in
    let same : f (first + 0) ≡ f first = ap f (let e : first + 0 ≡ first = omega arith in e) in
    let none : sum_by f [] ≡ 0 = refl in
    omega (arith, one, same, none)
sum_last f first (suc many) =
    let whole = sum_by-cons f first (numbers_from (suc first) (suc many)) in
    let less = sum_by-cons f first (numbers_from (suc first) many) in
    let later = sum_last f (suc first) many in
    let same : f (suc first + many) ≡ f (first + suc many) =
    ap f (let e : suc first + many ≡ first + suc many = omega arith in e) in
    omega (arith, whole, less, later, same)

-- functions that are alike at each of the numbers
pub sums_alike : (f g : ℕ → ℕ) (first many : ℕ) → ((n : ℕ) → n < first + many → f n ≡ g n)
    → sum_by f (numbers_from first many) ≡ sum_by g (numbers_from first many)
sums_alike f g first zero alike = refl
sums_alike f g first (suc many) alike =
    let one = sum_by-cons f first (numbers_from (suc first) many) in
    let other = sum_by-cons g first (numbers_from (suc first) many) in
    let here : f first ≡ g first = alike first (omega arith) in
    let later = sums_alike f g (suc first) many (λ n within. alike n (omega (arith, within))) in
    omega (arith, one, other, here, later)

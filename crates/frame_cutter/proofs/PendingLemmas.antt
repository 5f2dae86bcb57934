-- Ranges of cells that lose their front, or grow at their end.
use Rattle.std.proofs.Common.{ℕ, ◌≡◌, ◌+◌, ◌-◌, ◌≤◌, List, ◌++◌, length, take, drop, slice_range, sym, ap, ◌∙◌, arith}
use Rattle.std.proofs.lemmas.List.{drop-take, drop-drop, drop-append-le, length-take, length-drop}
use Rattle.std.proofs.lemmas.Slice.{between_is, take-put_mid}
use borrow.Rule.Slice.PartMut.{put_mid}

-- how many cells a range has
pub range_len : (xs : List ℕ) (start end : ℕ) → end ≤ length xs → length (slice_range xs start end) ≡ end - start
range_len xs start end within = omega (arith, length-take (end - start) (drop start xs), length-drop start xs)

-- a range that begins later is the range without its front
pub range_later : (xs : List ℕ) (start count end : ℕ) → start + count ≤ end
    → slice_range xs (start + count) end ≡ drop count (slice_range xs start end)
range_later xs start count end within =
    let split : end - start ≡ count + (end - (start + count)) = omega arith in
    let front : drop count (take (end - start) (drop start xs))
    ≡ take (end - (start + count)) (drop count (drop start xs)) =
    rw split (drop-take count (end - (start + count)) (drop start xs)) in
    let same : drop count (drop start xs) ≡ drop (start + count) xs = drop-drop count start xs in
    sym (front ∙ ap (λ (ys : List ℕ). take (end - (start + count)) ys) same)

-- a range that grows over what was written behind it
pub range_grown : (xs ys : List ℕ) (count start end more : ℕ) → start ≤ end → end ≤ length xs → length ys ≡ more
    → slice_range (put_mid end count xs ys) start (end + more) ≡ slice_range xs start end ++ ys
range_grown xs ys count start end more order within len =
    let wide : slice_range (put_mid end count xs ys) start (end + more)
    ≡ drop start (take (end + more) (put_mid end count xs ys)) =
    between_is (put_mid end count xs ys) start (end + more) in
    let kept : take (end + more) (put_mid end count xs ys) ≡ take end xs ++ ys =
    take-put_mid end count xs ys (end + more) (omega arith) within in
    let cut : drop start (take end xs ++ ys) ≡ drop start (take end xs) ++ ys =
    drop-append-le start (take end xs) ys (omega (arith, length-take end xs)) in
    let narrow : drop start (take end xs) ≡ slice_range xs start end = sym (between_is xs start end) in
    wide ∙ (ap (λ (zs : List ℕ). drop start zs) kept ∙ (cut ∙ ap (λ (zs : List ℕ). zs ++ ys) narrow))

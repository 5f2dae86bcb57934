-- What is sent has no longer lists than what was written.
use Rattle.std.proofs.Common.{ℕ, ◌≡◌, ◌≤◌, Bool, true, false, not, cond, List, [], ◌∷◌, length, filter, Option}
use Rattle.std.proofs.Common.{Some, None, nat_eq, arith, ap, if◌then◌else◌}
use Rattle.std.specs.Cmp.Lexicographic.{pointwise}
use Rattle.route_values.specs.declared.attrs.Attrs.{Attrs}
use Rattle.route_values.specs.declared.attrs.Large.{Large}
use Rattle.route_values.specs.declared.path.Segment.{Segment}
use Rattle.route_values.specs.declared.settings.Side.{Side}
use Rattle.route_values.specs.Limits.{numbers_in, numbers_written, counts_written, IsWithinLimits}
use Rattle.route_values.specs.Sent.{first_places, is_internal, path_sent}

-- a list with one more at its front, where it may be left out
one_more : {X : Type 0} (x : X) (kept xs : List X) (keep : Bool) → length kept ≤ length xs
    → length (cond keep (x ∷ kept) kept) ≤ length (x ∷ xs)
one_more x kept xs true h = omega arith
one_more x kept xs false h = omega arith

-- no list grows by leaving out, nor by keeping first places alone
length-filter_le : {X : Type 0} (test : X → Bool) (xs : List X) → length (filter test xs) ≤ length xs
length-filter_le test [] = omega arith
length-filter_le test (x ∷ xs) = one_more x (filter test xs) xs (test x) (length-filter_le test xs)

length-first_places : {X : Type 0} (same : X → X → Bool) (xs : List X) → length (first_places same xs) ≤ length xs
length-first_places same [] = omega arith
length-first_places same (x ∷ xs) =
    let kept = length-filter_le (λ y. not (same x y)) (first_places same xs) in
    omega (arith, kept, length-first_places same xs)

-- the path that stands for an unwritten one has one number at most
default_numbers : (internal : Bool) (asn : ℕ)
    → numbers_in (if internal then [] else (record { set = false; numbers = asn ∷ [] } ∷ [])) ≤ 255
default_numbers true asn = omega arith
default_numbers false asn = omega arith

-- a path has no more numbers as it is sent, or one
path_numbers : (path : Option (List Segment)) (side : Side) → numbers_written path ≤ 255
    → numbers_in (path_sent path side) ≤ 255
path_numbers (Some path) side h = h
path_numbers None side h = default_numbers (is_internal side) side.local_as

-- a list of first places is within what its source is within
list_within : {X : Type 0} (same : X → X → Bool) (written kept : List X) (most : ℕ)
    → kept ≡ first_places same written → length written ≤ most → length kept ≤ most
list_within same written kept most is h =
    let e = length-first_places same written in omega (arith, ap length is, e, h)

-- attributes within their limits are sent within them
pub sent_within : (a : Attrs) (side : Side) (same : Large → Large → Bool)
    (path : List Segment) (communities clusters : List ℕ) (extended : List (List ℕ)) (large : List Large)
    → path ≡ path_sent a.path side
    → communities ≡ first_places nat_eq a.communities
    → clusters ≡ first_places nat_eq a.clusters
    → extended ≡ first_places (pointwise nat_eq) a.extended
    → large ≡ first_places same a.large
    → IsWithinLimits (counts_written a)
    → IsWithinLimits (record {
      numbers = numbers_in path;
      communities = length communities;
      clusters = length clusters;
      extended = length extended;
      large = length large;
    })
sent_within a side same path communities clusters extended large path_is comms_are clusters_are ext_are large_are h =
    record {
      numbers = omega (arith, ap numbers_in path_is, path_numbers a.path side h.numbers);
      communities = list_within nat_eq a.communities communities 200 comms_are h.communities;
      clusters = list_within nat_eq a.clusters clusters 32 clusters_are h.clusters;
      extended = list_within (pointwise nat_eq) a.extended extended 64 ext_are h.extended;
      large = list_within same a.large large 64 large_are h.large;
    }

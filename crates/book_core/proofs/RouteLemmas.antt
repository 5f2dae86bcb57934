-- Routes that were written within the limits can be announced.
use Rattle.std.proofs.Common.{◌≡◌, ℕ, ◌<◌, ◌≤◌, ◌^◌, Bool, true, false, not, List, [], ◌∷◌, length, Some, None, refl}
use Rattle.std.proofs.Common.{subst, arith}
use Rattle.std.proofs.lemmas.List.Sums.{sum_by-cons}
use Rattle.std.specs.Prelude.{filter, nat_eq, if◌then◌else◌, Option, unwrap_or, IfSome}
use Rattle.std.specs.Cmp.Lexicographic.{pointwise}
use Rattle.std.specs.List.{AllByRecursion}
use Rattle.route_values.specs.declared.addr.Family.{Family}
use Rattle.route_values.specs.declared.attrs.Attrs.{Attrs}
use Rattle.route_values.specs.declared.attrs.Hop.{Hop}
use Rattle.route_values.specs.declared.attrs.Hop.TheVariants.{Own, Is}
use Rattle.route_values.specs.declared.path.Segment.{Segment}
use Rattle.route_values.specs.declared.settings.Side.{Side}
use Rattle.route_values.specs.Addr.{family_of, bits_of, number_of}
use Rattle.route_values.specs.Limits.{counts_written, numbers_in, numbers_written, IsWithinLimits}
use Rattle.route_values.specs.Path.{AllFilled}
use Rattle.route_values.specs.Sent.{first_places, hop_sent, is_internal, path_sent, same_large, sent}
use Rattle.route_values.proofs.LimitsLemmas.{sent_within}
use Rattle.update_grammar.specs.Values.{IsExt, IsLarge, IsNumber, IsSegment}
use Rattle.update_grammar.specs.Written.{IsHop}
use Rattle.batch_cutter.specs.Heads.{IsRoute}
use Rattle.book_core.specs.Routes.{AreSegments, IsAddr, IsAttrs, IsHopWritten}

-- ---- what holds of all values holds of each at its first place

all_where : {A : Type 0} (P : A → Type 0) (test : A → Bool) (xs : List A) → AllByRecursion P xs
    → AllByRecursion P (filter test xs)
all_where P test [] all = tt
all_where P test (x ∷ xs) all =
    let rest = all_where P test xs all.1 in
    elim (test x) as (λ so. AllByRecursion P (if so then x ∷ filter test xs else filter test xs)) [
      | true ↦ (all.0, rest)
      | false ↦ rest
    ]

all_first : {A : Type 0} (P : A → Type 0) (same : A → A → Bool) (xs : List A) → AllByRecursion P xs
    → AllByRecursion P (first_places same xs)
all_first P same [] all = tt
all_first P same (x ∷ xs) all =
    (all.0, all_where P (λ y. not (same x y)) (first_places same xs) (all_first P same xs all.1))

-- segments that aren't empty, with numbers in range
pub all_filled : (path : List Segment) → AllFilled path
    → AllByRecursion (λ (segment : Segment). AllByRecursion IsNumber segment.numbers) path → AreSegments path
all_filled [] filled numbers = tt
all_filled (segment ∷ path) filled numbers =
    (record { filled = filled.0; numbers = numbers.0 }, all_filled path filled.1 numbers.1)

-- ---- parts of a route

module _ (family : Family) (side : Side) where
  hop_is : (hop : Hop) → family_of (hop_sent hop side) ≡ family → IsHopWritten hop → IsAddr side.local
      → IsHop family (hop_sent hop side)
  hop_is Own of_family written local = record {
    of_family = of_family;
    fits = subst (λ f. number_of side.local < 2 ^ bits_of f) of_family local;
  }
  hop_is (Is addr) of_family written local = record {
    of_family = of_family;
    fits = subst (λ f. number_of addr < 2 ^ bits_of f) of_family written;
  }

  segments_are : (path : List Segment) → numbers_in path ≤ 255 → AreSegments path → AllByRecursion IsSegment path
  segments_are [] few filled = tt
  segments_are (segment ∷ path) few filled =
      let sum = sum_by-cons (λ (s : Segment). length s.numbers) segment path in (
        record {
          filled = filled.0.filled;
          short = omega (arith, sum, few);
          numbers = filled.0.numbers;
        },
        segments_are path (omega (arith, sum, few)) filled.1,
      )

  unwritten : (internal : Bool) → IsNumber side.local_as → AllByRecursion IsSegment
      (if internal then [] else (record { set = false; numbers = side.local_as ∷ [] } ∷ []))
  unwritten true small = tt
  unwritten false small = (record { filled = omega arith; short = omega arith; numbers = (small, tt) }, tt)

  path_is : (path : Option (List Segment)) → numbers_written path ≤ 255 → IfSome path AreSegments
      → IsNumber side.local_as → AllByRecursion IsSegment (path_sent path side)
  path_is None few filled small = unwritten (is_internal side) small
  path_is (Some path) few filled small = segments_are path few filled

  preferred : (internal : Bool) (written : Option ℕ) → IfSome written IsNumber
      → IfSome (if internal then Some (unwrap_or written 100) else None) IsNumber
  preferred false written is = tt
  preferred true None is = omega arith
  preferred true (Some number) is = is

  -- a route within the limits, whose numbers are in range
  pub route_is : (written : Attrs) → family_of (hop_sent written.hop side) ≡ family
      → IsWithinLimits (counts_written written) → IsAttrs written → IsAddr side.local → IsNumber side.local_as
      → IsRoute family (sent written side)
  route_is written of_family limits is local small = record {
    sendable = record {
      hop = hop_is written.hop of_family is.hop local;
      path = path_is written.path limits.numbers is.path small;
      med = is.med;
      local_pref = preferred (is_internal side) written.local_pref is.local_pref;
      aggregator = is.aggregator;
      communities = all_first IsNumber nat_eq written.communities is.communities;
      originator = is.originator;
      clusters = all_first IsNumber nat_eq written.clusters is.clusters;
      extended = all_first IsExt (pointwise nat_eq) written.extended is.extended;
      large = all_first IsLarge same_large written.large is.large;
    };
    within = sent_within written side same_large (path_sent written.path side)
        (first_places nat_eq written.communities) (first_places nat_eq written.clusters)
        (first_places (pointwise nat_eq) written.extended) (first_places same_large written.large) refl refl refl refl
        refl limits;
  }

-- Attributes as they are sent can be sent: their numbers are in range.
use Rattle.std.proofs.Common.{◌≡◌, ℕ, ◌+◌, ◌<◌, ◌≤◌, ◌^◌, Bool, true, false, not, List, [], ◌∷◌, ◌++◌}
use Rattle.std.proofs.Common.{length, Some, None, get_or, take, refl, sym, subst, arith}
use Rattle.std.specs.Prelude.{filter, nat_eq, Option, IfSome, unwrap_or, if◌then◌else◌}
use Rattle.std.specs.Cmp.Lexicographic.{pointwise}
use Rattle.std.specs.List.{AllByRecursion}
use Rattle.std.proofs.lemmas.List.{take_more}
use Rattle.std.proofs.lemmas.List.Sums.{sum_by-cons}
use Rattle.route_values.specs.declared.addr.Family.{Family}
use Rattle.route_values.specs.declared.attrs.Attrs.{Attrs}
use Rattle.route_values.specs.declared.attrs.Hop.{Hop}
use Rattle.route_values.specs.declared.attrs.Hop.TheVariants.{Own, Is}
use Rattle.route_values.specs.declared.path.Segment.{Segment}
use Rattle.route_values.specs.declared.settings.Side.{Side}
use Rattle.route_values.specs.Addr.{family_of, bits_of, number_of}
use Rattle.route_values.specs.Limits.{numbers_in, counts_sent, counts_written, IsWithinLimits}
use Rattle.route_values.specs.Path.{AllFilled}
use Rattle.route_values.specs.Sent.{first_places, hop_sent, path_sent, is_internal, same_large, sent}
use Rattle.route_values.proofs.LimitsLemmas.{sent_within}
use Rattle.update_grammar.specs.Values.{IsAggregator, IsExt, IsLarge, IsNumber, IsSegment}
use Rattle.update_grammar.specs.Written.{IsHop}
use Rattle.batch_cutter.specs.Heads.{IsRoute}
use Rattle.peer_book.specs.Known.{AreNumbers, IsHopKnown, IsPathKnown}

-- ---- lists

all_kept : {A : Type 0} (P : A → Type 0) (test : A → Bool) (items : List A) → AllByRecursion P items
    → AllByRecursion P (filter test items)
all_kept P test [] all = tt
all_kept P test (x ∷ xs) all = by_test (test x) (all_kept P test xs all.1)
  where
    by_test : (so : Bool) → AllByRecursion P (filter test xs)
        → AllByRecursion P (if so then x ∷ filter test xs else filter test xs)
    by_test true rest = (all.0, rest)
    by_test false rest = rest

-- what holds of each value holds of those at their first places
pub all_first : {A : Type 0} (P : A → Type 0) (same : A → A → Bool) (items : List A) → AllByRecursion P items
    → AllByRecursion P (first_places same items)
all_first P same [] all = tt
all_first P same (x ∷ xs) all =
    (all.0, all_kept P (λ y. not (same x y)) (first_places same xs) (all_first P same xs all.1))

all_more : {A : Type 0} (P : A → Type 0) (items : List A) (item : A) → AllByRecursion P items → P item
    → AllByRecursion P (items ++ item ∷ [])
all_more P [] item all is = (is, tt)
all_more P (x ∷ xs) item all is = (all.0, all_more P xs item all.1 is)

-- one more of the items that were looked at
pub all_next : {A : Type 0} (P : A → Type 0) (items : List A) (i : ℕ) (other : A) → i < length items
    → AllByRecursion P (take i items) → P (get_or items i other) → AllByRecursion P (take (i + 1) items)
all_next P items i other within all holds =
    subst (AllByRecursion P) (sym (take_more items i other within))
    (all_more P (take i items) (get_or items i other) all holds)

-- ---- paths

-- no segment has more numbers than the whole path
segments_known : (segments : List Segment) (most : ℕ) → AllFilled segments
    → AllByRecursion (λ segment. AreNumbers segment.numbers) segments → numbers_in segments ≤ most → most ≤ 255
    → AllByRecursion IsSegment segments
segments_known [] most filled numbers few short = tt
segments_known (s ∷ ss) most filled numbers few short =
    let split : numbers_in (s ∷ ss) ≡ length s.numbers + numbers_in ss =
    sum_by-cons (λ (segment : Segment). length segment.numbers) s ss in (
      record { filled = filled.0; short = omega (arith, split, few, short); numbers = numbers.0 },
      segments_known ss most filled.1 numbers.1 (omega (arith, split, few)) short,
    )

module _ (side : Side) (small : IsNumber side.local_as)
    (fits : number_of side.local < 2 ^ bits_of (family_of side.local)) where
  unwritten : (internal : Bool) → AllByRecursion IsSegment
      (if internal then [] else (record { set = false; numbers = side.local_as ∷ [] } ∷ []))
  unwritten true = tt
  unwritten false = (record { filled = omega arith; short = omega arith; numbers = (small, tt) }, tt)

  path_known : (path : Option (List Segment)) → IsPathKnown path → numbers_in (path_sent path side) ≤ 255
      → AllByRecursion IsSegment (path_sent path side)
  path_known (Some segments) known few =
      segments_known segments 255 known.filled known.numbers few (omega arith)
  path_known None known few = unwritten (is_internal side)

  hop_known : (family : Family) (hop : Hop) → IsHopKnown hop → family_of (hop_sent hop side) ≡ family
      → IsHop family (hop_sent hop side)
  hop_known family Own known is =
      record { of_family = is; fits = subst (λ f. number_of side.local < 2 ^ bits_of f) is fits }
  hop_known family (Is addr) known is =
      record { of_family = is; fits = subst (λ f. number_of addr < 2 ^ bits_of f) is known }

  preferred : (internal : Bool) (written : Option ℕ) → IfSome written IsNumber
      → IfSome (if internal then Some (unwrap_or written 100) else None) IsNumber
  preferred false written is = tt
  preferred true None is = omega arith
  preferred true (Some number) is = is

  module _ (written : Attrs) (hop : IsHopKnown written.hop) (path : IsPathKnown written.path)
      (med : IfSome written.med IsNumber) (local_pref : IfSome written.local_pref IsNumber)
      (aggregator : IfSome written.aggregator IsAggregator) (communities : AreNumbers written.communities)
      (originator : IfSome written.originator IsNumber) (clusters : AreNumbers written.clusters)
      (extended : AllByRecursion IsExt written.extended) (large : AllByRecursion IsLarge written.large) where
    pub route_known : (family : Family) → family_of (hop_sent written.hop side) ≡ family
        → IsWithinLimits (counts_written written) → IsRoute family (sent written side)
    route_known family of_family limits =
        let within : IsWithinLimits (counts_sent (sent written side)) =
        sent_within written side same_large _ _ _ _ _ refl refl refl refl refl limits in
        record {
          sendable = record {
            hop = hop_known family written.hop hop of_family;
            path = path_known written.path path within.numbers;
            med = med;
            local_pref = preferred (is_internal side) written.local_pref local_pref;
            aggregator = aggregator;
            communities = all_first IsNumber nat_eq written.communities communities;
            originator = originator;
            clusters = all_first IsNumber nat_eq written.clusters clusters;
            extended = all_first IsExt (pointwise nat_eq) written.extended extended;
            large = all_first IsLarge same_large written.large large;
          };
          within = within;
        }

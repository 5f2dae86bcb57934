-- The tests of attributes tell them apart.
use Rattle.std.proofs.Common.{◌≡◌, ℕ, Bool, true, List, Option, Some, None, refl, sym, ap, ◌∙◌}
use Rattle.std.specs.Prelude.{nat_eq}
use Rattle.std.specs.Bool.{Decides}
use Rattle.std.specs.Cmp.{unsigned_Decides, booleans_Decides, decided, IsEquivalence}
use Rattle.std.specs.Cmp.Lexicographic.{pointwise_decides}
use Rattle.std.specs.Option.{option_eq}
use Rattle.std.proofs.lemmas.Bool.Decides.{Decides-and, Decides-like, Decides-at}
use Rattle.std.proofs.lemmas.Bool.{true≢false}
use Rattle.route_values.specs.declared.addr.Addr.{Addr}
use Rattle.route_values.specs.declared.addr.Addr.TheVariants.{V4, V6}
use Rattle.route_values.specs.declared.attrs.Aggregator.{Aggregator}
use Rattle.route_values.specs.declared.attrs.Attrs.{Attrs}
use Rattle.route_values.specs.declared.attrs.Hop.{Hop}
use Rattle.route_values.specs.declared.attrs.Hop.TheVariants.{Own, Is}
use Rattle.route_values.specs.declared.attrs.Large.{Large}
use Rattle.route_values.specs.declared.attrs.Origin.{Origin}
use Rattle.route_values.specs.declared.attrs.Origin.TheVariants.{Igp, Egp, Incomplete}
use Rattle.route_values.specs.declared.attrs.WireAttrs.{WireAttrs}
use Rattle.route_values.specs.declared.key.Key.{Key}
use Rattle.route_values.specs.declared.path.Segment.{Segment}
use Rattle.route_values.specs.contracts.addr.AddrPartialEq.TheImpl.{ghosts as addr_test}
use Rattle.route_values.specs.contracts.attrs.HopPartialEq.TheImpl.{ghosts as hop_test}
use Rattle.route_values.specs.contracts.attrs.OriginPartialEq.TheImpl.{ghosts as origin_test}
use Rattle.route_values.specs.contracts.attrs.AggregatorPartialEq.TheImpl.{ghosts as aggregator_test}
use Rattle.route_values.specs.contracts.attrs.LargePartialEq.TheImpl.{ghosts as large_test}
use Rattle.route_values.specs.contracts.key.KeyPartialEq.TheImpl.{ghosts as key_test}
use Rattle.route_values.specs.Key.{same_key}
use Rattle.route_values.proofs.KeyLemmas.{same_key_is, same_key-self}
use Rattle.route_values.proofs.ComparedLemmas.{key_tested}
use Rattle.pooled_attrs.specs.Same.{same_segment, same_path, same_numbers, same_written, same_wire, written_input}
use Rattle.pooled_attrs.specs.Same.{wire_input}

-- a test that is reflexive and finds the same alone
decides_by : {A : Type 0} (test : A → A → Bool) → ((a b : A) → test a b ≡ true → a ≡ b) → ((a : A) → test a a ≡ true)
    → (a b : A) → Decides (test a b) (a ≡ b)
decides_by test is self a b = (is a b, λ same. ap (test a) (sym same) ∙ self a)

option_is : {A : Type 0} (test : A → A → Bool) → ((a b : A) → Decides (test a b) (a ≡ b)) → (a b : Option A)
    → option_eq test a b ≡ true → a ≡ b
option_is test each None None same = refl
option_is test each None (Some b) same = absurd (true≢false (sym same))
option_is test each (Some a) None same = absurd (true≢false (sym same))
option_is test each (Some a) (Some b) same = ap Some ((each a b).0 same)

option_self : {A : Type 0} (test : A → A → Bool) → ((a b : A) → Decides (test a b) (a ≡ b)) → (a : Option A)
    → option_eq test a a ≡ true
option_self test each None = refl
option_self test each (Some a) = (each a a).1 refl

options_decide : {A : Type 0} (test : A → A → Bool) → ((a b : A) → Decides (test a b) (a ≡ b)) → (a b : Option A)
    → Decides (option_eq test a b) (a ≡ b)
options_decide test each = decides_by (option_eq test) (option_is test each) (option_self test each)

-- ---- the parts

addr_is : (a b : Addr) → addr_test.eq a b ≡ true → a ≡ b
addr_is (V4 m) (V4 n) same = ap V4 ((unsigned_Decides m n).0 same)
addr_is (V4 m) (V6 n) same = absurd (true≢false (sym same))
addr_is (V6 m) (V4 n) same = absurd (true≢false (sym same))
addr_is (V6 m) (V6 n) same = ap V6 ((unsigned_Decides m n).0 same)

addr_self : (a : Addr) → addr_test.eq a a ≡ true
addr_self (V4 n) = (unsigned_Decides n n).1 refl
addr_self (V6 n) = (unsigned_Decides n n).1 refl

addrs_decide : (a b : Addr) → Decides (addr_test.eq a b) (a ≡ b)
addrs_decide = decides_by addr_test.eq addr_is addr_self

hop_is : (a b : Hop) → hop_test.eq a b ≡ true → a ≡ b
hop_is Own Own same = refl
hop_is Own (Is b) same = absurd (true≢false (sym same))
hop_is (Is a) Own same = absurd (true≢false (sym same))
hop_is (Is a) (Is b) same = ap Is (addr_is a b same)

hop_self : (a : Hop) → hop_test.eq a a ≡ true
hop_self Own = refl
hop_self (Is a) = addr_self a

hops_decide : (a b : Hop) → Decides (hop_test.eq a b) (a ≡ b)
hops_decide = decides_by hop_test.eq hop_is hop_self

origin_is : (a b : Origin) → origin_test.eq a b ≡ true → a ≡ b
origin_is Igp Igp same = refl
origin_is Igp Egp same = absurd (true≢false (sym same))
origin_is Igp Incomplete same = absurd (true≢false (sym same))
origin_is Egp Igp same = absurd (true≢false (sym same))
origin_is Egp Egp same = refl
origin_is Egp Incomplete same = absurd (true≢false (sym same))
origin_is Incomplete Igp same = absurd (true≢false (sym same))
origin_is Incomplete Egp same = absurd (true≢false (sym same))
origin_is Incomplete Incomplete same = refl

origin_self : (a : Origin) → origin_test.eq a a ≡ true
origin_self Igp = refl
origin_self Egp = refl
origin_self Incomplete = refl

origins_decide : (a b : Origin) → Decides (origin_test.eq a b) (a ≡ b)
origins_decide = decides_by origin_test.eq origin_is origin_self

aggregators_decide : (a b : Aggregator) → Decides (aggregator_test.eq a b) (a ≡ b)
aggregators_decide a b = Decides-like (aggregator_test.eq a b)
    (λ h i. record { asn = h.0 i; addr = h.1 i }) (λ e. (ap (λ r. r.asn) e, ap (λ r. r.addr) e))
    (Decides-and (nat_eq a.asn b.asn) (nat_eq a.addr b.addr)
    (unsigned_Decides a.asn b.asn) (unsigned_Decides a.addr b.addr))

numbers_decide : (a b : List ℕ) → Decides (same_numbers a b) (a ≡ b)
numbers_decide = pointwise_decides unsigned_Decides

segments_decide : (a b : Segment) → Decides (same_segment a b) (a ≡ b)
segments_decide a b = Decides-like (same_segment a b)
    (λ h i. record { set = h.0 i; numbers = h.1 i }) (λ e. (ap (λ r. r.set) e, ap (λ r. r.numbers) e))
    (Decides-and _ _ (booleans_Decides a.set b.set) (numbers_decide a.numbers b.numbers))

paths_decide : (a b : List Segment) → Decides (same_path a b) (a ≡ b)
paths_decide = pointwise_decides segments_decide

-- the derived test of keys tells them apart
pub keys_decide : (a b : Key) → Decides (key_test.eq a b) (a ≡ b)
keys_decide a b = Decides-at (key_test.eq a b) (same_key a b) (key_tested a b)
    (decides_by same_key same_key_is same_key-self a b)

larges_decide : (a b : Large) → Decides (large_test.eq a b) (a ≡ b)
larges_decide a b = Decides-like (large_test.eq a b)
    (λ h i. record { global = h.0 i; first = h.1.0 i; second = h.1.1 i })
    (λ e. (ap (λ r. r.global) e, (ap (λ r. r.first) e, ap (λ r. r.second) e)))
    (Decides-and _ _ (unsigned_Decides a.global b.global)
    (Decides-and _ _ (unsigned_Decides a.first b.first) (unsigned_Decides a.second b.second)))

-- ---- the whole

pub written_decide : (a b : Attrs) → Decides (same_written a b) (a ≡ b)
written_decide a b = Decides-like (same_written a b)
    (λ h i. record {
      hop = h.0 i;
      origin = h.1.0 i;
      path = h.1.1.0 i;
      med = h.1.1.1.0 i;
      local_pref = h.1.1.1.1.0 i;
      atomic = h.1.1.1.1.1.0 i;
      aggregator = h.1.1.1.1.1.1.0 i;
      communities = h.1.1.1.1.1.1.1.0 i;
      originator = h.1.1.1.1.1.1.1.1.0 i;
      clusters = h.1.1.1.1.1.1.1.1.1.0 i;
      extended = h.1.1.1.1.1.1.1.1.1.1.0 i;
      large = h.1.1.1.1.1.1.1.1.1.1.1 i;
    })
    (λ e. (
      ap (λ r. r.hop) e,
      (
        ap (λ r. r.origin) e,
        (
          ap (λ r. r.path) e,
          (
            ap (λ r. r.med) e,
            (
              ap (λ r. r.local_pref) e,
              (
                ap (λ r. r.atomic) e,
                (
                  ap (λ r. r.aggregator) e,
                  (
                    ap (λ r. r.communities) e,
                    (ap (λ r. r.originator) e, (ap (λ r. r.clusters) e, (ap (λ r. r.extended) e, ap (λ r. r.large) e))),
                  ),
                ),
              ),
            ),
          ),
        ),
      ),
    ))
    (Decides-and _ _ (hops_decide a.hop b.hop)
    (Decides-and _ _ (options_decide origin_test.eq origins_decide a.origin b.origin)
    (Decides-and _ _ (options_decide same_path paths_decide a.path b.path)
    (Decides-and _ _ (options_decide nat_eq unsigned_Decides a.med b.med)
    (Decides-and _ _ (options_decide nat_eq unsigned_Decides a.local_pref b.local_pref)
    (Decides-and _ _ (booleans_Decides a.atomic b.atomic)
    (Decides-and _ _ (options_decide aggregator_test.eq aggregators_decide a.aggregator b.aggregator)
    (Decides-and _ _ (numbers_decide a.communities b.communities)
    (Decides-and _ _ (options_decide nat_eq unsigned_Decides a.originator b.originator)
    (Decides-and _ _ (numbers_decide a.clusters b.clusters)
    (Decides-and _ _ (pointwise_decides numbers_decide a.extended b.extended)
    (pointwise_decides larges_decide a.large b.large))))))))))))

pub wire_decide : (a b : WireAttrs) → Decides (same_wire a b) (a ≡ b)
wire_decide a b = Decides-like (same_wire a b)
    (λ h i. record {
      hop = h.0 i;
      origin = h.1.0 i;
      path = h.1.1.0 i;
      med = h.1.1.1.0 i;
      local_pref = h.1.1.1.1.0 i;
      atomic = h.1.1.1.1.1.0 i;
      aggregator = h.1.1.1.1.1.1.0 i;
      communities = h.1.1.1.1.1.1.1.0 i;
      originator = h.1.1.1.1.1.1.1.1.0 i;
      clusters = h.1.1.1.1.1.1.1.1.1.0 i;
      extended = h.1.1.1.1.1.1.1.1.1.1.0 i;
      large = h.1.1.1.1.1.1.1.1.1.1.1 i;
    })
    (λ e. (
      ap (λ r. r.hop) e,
      (
        ap (λ r. r.origin) e,
        (
          ap (λ r. r.path) e,
          (
            ap (λ r. r.med) e,
            (
              ap (λ r. r.local_pref) e,
              (
                ap (λ r. r.atomic) e,
                (
                  ap (λ r. r.aggregator) e,
                  (
                    ap (λ r. r.communities) e,
                    (ap (λ r. r.originator) e, (ap (λ r. r.clusters) e, (ap (λ r. r.extended) e, ap (λ r. r.large) e))),
                  ),
                ),
              ),
            ),
          ),
        ),
      ),
    ))
    (Decides-and _ _ (addrs_decide a.hop b.hop)
    (Decides-and _ _ (origins_decide a.origin b.origin)
    (Decides-and _ _ (paths_decide a.path b.path)
    (Decides-and _ _ (options_decide nat_eq unsigned_Decides a.med b.med)
    (Decides-and _ _ (options_decide nat_eq unsigned_Decides a.local_pref b.local_pref)
    (Decides-and _ _ (booleans_Decides a.atomic b.atomic)
    (Decides-and _ _ (options_decide aggregator_test.eq aggregators_decide a.aggregator b.aggregator)
    (Decides-and _ _ (numbers_decide a.communities b.communities)
    (Decides-and _ _ (options_decide nat_eq unsigned_Decides a.originator b.originator)
    (Decides-and _ _ (numbers_decide a.clusters b.clusters)
    (Decides-and _ _ (pointwise_decides numbers_decide a.extended b.extended)
    (pointwise_decides larges_decide a.large b.large))))))))))))

-- the tests are equivalences, as a law of `Eq` asks
pub written_equiv : IsEquivalence same_written
written_equiv = decided same_written written_decide

pub wire_equiv : IsEquivalence same_wire
wire_equiv = decided same_wire wire_decide

-- equal attributes feed a hasher alike
pub written_alike : (a b : Attrs) → same_written a b ≡ true → written_input a ≡ written_input b
written_alike a b same = ap written_input ((written_decide a b).0 same)

pub wire_alike : (a b : WireAttrs) → same_wire a b ≡ true → wire_input a ≡ wire_input b
wire_alike a b same = ap wire_input ((wire_decide a b).0 same)

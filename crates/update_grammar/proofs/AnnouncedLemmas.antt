-- The attributes of an announcement as they are written, by their codes.
use Rattle.std.proofs.Common.{ℕ, ◌≡◌, ◌^◌, ◌<◌, List, [], ◌∷◌, length, arith, append-nil, ap, sym, refl, subst, Option}
use Rattle.std.proofs.Common.{eqb, if◌then◌else◌}
use Rattle.std.specs.Option.{IfSome}
use Rattle.std.specs.List.{flat_map, AllByRecursion}
use Rattle.route_values.specs.declared.addr.Family.{Family}
use Rattle.route_values.specs.declared.attrs.WireAttrs.{WireAttrs}
use Rattle.route_values.specs.Caps.{Caps}
use Rattle.update_grammar.specs.declared.effect.Attr.{Attr}
use Rattle.update_grammar.specs.declared.effect.Attr.TheVariants as says
use Rattle.update_grammar.specs.declared.effect.Reached.{Reached}
use Rattle.update_grammar.specs.Values.{IsNumber, number_text, numbers_text, origin_number, path_text, IsSegment}
use Rattle.update_grammar.specs.Values.{aggregator_text, IsAggregator, exts_text, IsExt, larges_text, IsLarge}
use Rattle.update_grammar.specs.Attributes.{Raw, raw_text, transitive, optional, optional_transitive, IsRaw}
use Rattle.update_grammar.specs.Meanings.{Is, Means, SpellsAttributes}
use Rattle.update_grammar.specs.Written.{raw, raw_if, raw_some, raw_when, hop_raws, reach_raws, raws_of}
use Rattle.update_grammar.specs.Written.{attributes_text, IsSendable}
use Rattle.update_grammar.proofs.PairLemmas.{◌&◌}
use Rattle.update_grammar.proofs.PiecesLemmas.{all_apply}
use Rattle.update_grammar.proofs.RawLemmas.{plain_transitive, plain_optional, plain_both, IsPlain, values_short}
use Rattle.update_grammar.proofs.GroupLemmas.{Group, group_one, group_if, group_some, group_when, said_if, said_some}
use Rattle.update_grammar.proofs.GroupLemmas.{said_when, written_is, code_of}
use Rattle.update_grammar.proofs.JoinLemmas.{AreRising, AreGroups, groups_fit, groups_apart, groups_meant}
use Rattle.update_grammar.proofs.SaidLemmas.{announced_codes, said_group, said_of}

-- the attributes of an announcement by their codes
unfoldable pub raw_group : Family → WireAttrs → List ℕ → ℕ → List Raw
raw_group family w prefixes code =
    if eqb code 1 then (raw transitive 1 (origin_number w.origin ∷ []) ∷ []) else
    if eqb code 2 then (raw transitive 2 (path_text w.path) ∷ []) else
    if eqb code 3 then hop_raws family w.hop else
    if eqb code 4 then raw_if number_text optional 4 w.med else
    if eqb code 5 then raw_if number_text transitive 5 w.local_pref else
    if eqb code 6 then raw_when w.atomic transitive 6 else
    if eqb code 7 then raw_if aggregator_text optional_transitive 7 w.aggregator else
    if eqb code 8 then raw_some numbers_text optional_transitive 8 w.communities else
    if eqb code 9 then raw_if number_text optional 9 w.originator else
    if eqb code 10 then raw_some numbers_text optional 10 w.clusters else
    if eqb code 14 then reach_raws family w.hop prefixes else
    if eqb code 16 then raw_some exts_text optional_transitive 16 w.extended else
    if eqb code 32 then raw_some larges_text optional_transitive 32 w.large else []

-- the groups joined are the attributes of the announcement
raws_joined : (family : Family) (w : WireAttrs) (prefixes : List ℕ)
    → flat_map (raw_group family w prefixes) announced_codes ≡ raws_of family w prefixes
unfolding raw_group
raws_joined family w prefixes = simp append-nil

-- the codes of an announcement rise
codes_rise : AreRising 0 announced_codes
codes_rise =
    (omega arith) & (omega arith) & (omega arith) & (omega arith) & (omega arith) & (omega arith) & (omega arith)
    & (omega arith) & (omega arith) & (omega arith) & (omega arith) & (omega arith) & (omega arith) & tt

-- ORIGIN says the origin
origin_group : (caps : Caps) (w : WireAttrs) → Group caps 1 (raw transitive 1 (origin_number w.origin ∷ []) ∷ [])
    (says.Origin w.origin ∷ [])
origin_group caps w =
    let value : List ℕ = origin_number w.origin ∷ [] in
    group_one caps transitive 1 value (says.Origin w.origin) plain_transitive (omega arith)
    (written_is transitive 1 value plain_transitive) refl

-- AS_PATH says the path
path_group : (caps : Caps) (w : WireAttrs) → AllByRecursion IsSegment w.path
    → Group caps 2 (raw transitive 2 (path_text w.path) ∷ []) (says.Path w.path ∷ [])
path_group caps w fit =
    let value : List ℕ = path_text w.path in
    group_one caps transitive 2 value (says.Path w.path) plain_transitive (omega arith)
    (written_is transitive 2 value plain_transitive, fit) refl

-- a number that may be absent is said by its attribute
number_group : (caps : Caps) (flags code : ℕ) (say : ℕ → Attr) → IsPlain flags → code < 256
    → ((n : ℕ) → Is (raw flags code (number_text n)) flags code (number_text n) → IsNumber n
    → Means caps (raw flags code (number_text n)) (say n)) → ((n : ℕ) → code_of (say n) ≡ code)
    → (number : Option ℕ) → IfSome number IsNumber → Group caps code (raw_if number_text flags code number)
    (said_if say number)
number_group caps flags code say plain small means told number fit =
    group_if caps number_text flags code say IsNumber plain small means told number fit

-- numbers are said by their attribute, where there are any
numbers_group : (caps : Caps) (flags code : ℕ) (say : List ℕ → Attr) → IsPlain flags → code < 256
    → ((ns : List ℕ) → Is (raw flags code (numbers_text ns)) flags code (numbers_text ns) → AllByRecursion IsNumber ns
    → Means caps (raw flags code (numbers_text ns)) (say ns))
    → ((ns : List ℕ) → code_of (say ns) ≡ code) → (numbers : List ℕ) → AllByRecursion IsNumber numbers
    → Group caps code (raw_some numbers_text flags code numbers) (said_some say numbers)
numbers_group caps flags code say plain small means told numbers fit =
    group_some caps numbers_text flags code say (AllByRecursion IsNumber) plain small means told numbers fit

-- ATOMIC_AGGREGATE says that its mark stands
atomic_group : (caps : Caps) (w : WireAttrs) → Group caps 6 (raw_when w.atomic transitive 6)
    (said_when says.Atomic w.atomic)
atomic_group caps w = group_when caps transitive 6 says.Atomic plain_transitive (omega arith)
    (written_is transitive 6 [] plain_transitive) refl w.atomic

-- AGGREGATOR says the aggregator
aggregator_group : (caps : Caps) (w : WireAttrs) → IfSome w.aggregator IsAggregator
    → Group caps 7 (raw_if aggregator_text optional_transitive 7 w.aggregator) (said_if says.Aggregator w.aggregator)
aggregator_group caps w fit = group_if caps aggregator_text optional_transitive 7 says.Aggregator IsAggregator
    plain_both (omega arith) (λ by is fits. (is, fits)) (λ by. refl) w.aggregator fit

-- EXTENDED COMMUNITIES says the extended communities
extended_group : (caps : Caps) (w : WireAttrs) → AllByRecursion IsExt w.extended
    → Group caps 16 (raw_some exts_text optional_transitive 16 w.extended) (said_some says.Extended w.extended)
extended_group caps w fit = group_some caps exts_text optional_transitive 16 says.Extended (AllByRecursion IsExt)
    plain_both (omega arith) (λ exts is fits. (is, fits)) (λ exts. refl) w.extended fit

-- LARGE_COMMUNITY says the large communities
large_group : (caps : Caps) (w : WireAttrs) → AllByRecursion IsLarge w.large
    → Group caps 32 (raw_some larges_text optional_transitive 32 w.large) (said_some says.Large w.large)
large_group caps w fit = group_some caps larges_text optional_transitive 32 says.Large (AllByRecursion IsLarge)
    plain_both (omega arith) (λ larges is fits. (is, fits)) (λ larges. refl) w.large fit

-- each group of an announcement means what is said in it, where NEXT_HOP and MP_REACH_NLRI do
pub groups_written : (caps : Caps) (family : Family) (w : WireAttrs) (prefixes : List ℕ) (hop : Option ℕ)
    (reach : Option (Option Reached)) → IsSendable family w
    → Group caps 3 (hop_raws family w.hop) (said_if says.NextHop hop)
    → Group caps 14 (reach_raws family w.hop prefixes) (said_if says.Reach reach)
    → AreGroups caps (raw_group family w prefixes) (said_group w hop reach) announced_codes
unfolding raw_group said_group
groups_written caps family w prefixes hop reach sendable hop_group reach_group =
    let raws : ℕ → List Raw = raw_group family w prefixes in
    let said : ℕ → List Attr = said_group w hop reach in
    let med = number_group caps optional 4 says.Med plain_optional (omega arith) (λ n is fits. (is, fits)) (λ n. refl)
    w.med sendable.med in
    let local_pref = number_group caps transitive 5 says.LocalPref plain_transitive (omega arith)
    (λ n is fits. (is, fits)) (λ n. refl) w.local_pref sendable.local_pref in
    let communities = numbers_group caps optional_transitive 8 says.Communities plain_both (omega arith)
    (λ ns is fits. (is, fits)) (λ ns. refl) w.communities sendable.communities in
    let originator = number_group caps optional 9 says.Originator plain_optional (omega arith) (λ n is fits. (is, fits))
    (λ n. refl) w.originator sendable.originator in
    let clusters = numbers_group caps optional 10 says.Clusters plain_optional (omega arith) (λ ns is fits. (is, fits))
    (λ ns. refl) w.clusters sendable.clusters in
    origin_group caps w & path_group caps w sendable.path & hop_group & med & local_pref & atomic_group caps w
    & aggregator_group caps w sendable.aggregator & communities & originator & clusters & reach_group
    & extended_group caps w sendable.extended & large_group caps w sendable.large & tt

-- the attributes of an announcement spell what is said in its groups
pub attributes_spelled : (caps : Caps) (family : Family) (w : WireAttrs) (prefixes : List ℕ) (hop : Option ℕ)
    (reach : Option (Option Reached))
    → AreGroups caps (raw_group family w prefixes) (said_group w hop reach) announced_codes
    → length (attributes_text family w prefixes) < 2 ^ 16
    → SpellsAttributes caps (attributes_text family w prefixes) (said_of w hop reach)
unfolding attributes_text said_of
attributes_spelled caps family w prefixes hop reach groups short =
    let raws : List Raw = flat_map (raw_group family w prefixes) announced_codes in
    let text : attributes_text family w prefixes ≡ flat_map raw_text raws =
    ap (flat_map raw_text) (sym (raws_joined family w prefixes)) in
    let values : AllByRecursion (λ a. length a.value < 2 ^ 16) raws =
    values_short raws (2 ^ 16) (subst (λ bytes. length bytes < 2 ^ 16) text short) in
    record {
      raws = raws;
      text = text;
      each = all_apply (λ a. length a.value < 2 ^ 16) IsRaw raws values
          (groups_fit caps (raw_group family w prefixes) (said_group w hop reach) announced_codes groups);
      once = groups_apart caps (raw_group family w prefixes) (said_group w hop reach) 0 announced_codes codes_rise
          groups;
      meant = groups_meant caps (raw_group family w prefixes) (said_group w hop reach) announced_codes groups;
    }

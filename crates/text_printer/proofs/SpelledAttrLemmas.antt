-- What the attributes of a message say is in range: numbers of 32 bits, segments of numbers, keys of their family.
use Rattle.std.proofs.Common.{ℕ, zero, suc, Option, Some, None, List, [], ◌∷◌, ◌++◌, length, refl, sym, subst, arith}
use Rattle.std.proofs.Common.{inl, inr}
use Rattle.std.specs.List.{flat_map, AllByRecursion}
use Rattle.std.specs.Prelude.{⊤}
use Rattle.route_values.specs.declared.addr.Addr.{Addr}
use Rattle.route_values.specs.declared.addr.Family.{Family}
use Rattle.route_values.specs.declared.addr.Family.TheVariants.{Ipv4, Ipv6}
use Rattle.route_values.specs.declared.key.Key.{Key}
use Rattle.route_values.specs.Caps.{Caps}
use Rattle.route_values.specs.Visible.{has_path}
use Rattle.update_grammar.specs.declared.effect.Attr.{Attr}
use Rattle.update_grammar.specs.declared.effect.Attr.TheVariants as says
use Rattle.update_grammar.specs.declared.effect.Reached.{Reached}
use Rattle.update_grammar.specs.Attributes.{Raw, raw_head, raw_text}
use Rattle.update_grammar.specs.Families.{family_text, SpellsHop, SpellsReach, SpellsUnreach}
use Rattle.update_grammar.specs.Laws.{AreBytes as AreOctets}
use Rattle.update_grammar.specs.Meanings.{Means, MeansAll}
use Rattle.update_grammar.specs.Values.{IsNumber, IsSegment, IsAggregator, IsLarge, IsExt, exts_text}
use Rattle.update_grammar.specs.Written.{IsHop}
use Rattle.update_grammar.proofs.ByteLemmas.{bytes_front, bytes_behind, bytes_rest}
use Rattle.text_printer.specs.Laws.{IsKey, AreBytes}
use Rattle.text_printer.proofs.SpelledKeyLemmas.{IsKeyOf, keys_of, any_keys}

-- bytes one by one, and at each place
pub bytes_at : (bytes : List ℕ) → AreBytes bytes → AreOctets bytes
bytes_at [] are i = omega arith
bytes_at (b ∷ bytes) are zero = are.0
bytes_at (b ∷ bytes) are (suc i) = bytes_at bytes are.1 i

bytes_all : (bytes : List ℕ) → AreOctets bytes → AreBytes bytes
bytes_all [] are = tt
bytes_all (b ∷ bytes) are = (are 0, bytes_all bytes (bytes_rest b bytes are))

exts_all : (exts : List (List ℕ)) → AreOctets (exts_text exts) → AllByRecursion AreBytes exts
exts_all [] are = tt
exts_all (ext ∷ exts) are =
    (bytes_all ext (bytes_front ext (exts_text exts) are), exts_all exts (bytes_behind ext (exts_text exts) are))

-- a next hop and keys, all of one family
pub record IsReach (reached : Reached) : Type 0 where
  pub family : Family
  pub hop : IsHop family reached.hop
  pub keys : AllByRecursion (IsKeyOf family) reached.keys

abbrev pub IsReachOf : Option Reached → Type 0
IsReachOf None = ⊤
IsReachOf (Some reached) = IsReach reached

abbrev pub AreKeysOf : Option (List Key) → Type 0
AreKeysOf None = ⊤
AreKeysOf (Some keys) = AllByRecursion IsKey keys

-- what an attribute says is in range
abbrev pub IsFit : Attr → Type 0
IsFit (says.Origin origin) = ⊤
IsFit (says.Path path) = AllByRecursion IsSegment path
IsFit (says.NextHop n) = IsNumber n
IsFit (says.Med n) = IsNumber n
IsFit (says.LocalPref n) = IsNumber n
IsFit says.Atomic = ⊤
IsFit (says.Aggregator by) = IsAggregator by
IsFit (says.Communities ns) = AllByRecursion IsNumber ns
IsFit (says.Originator n) = IsNumber n
IsFit (says.Clusters ns) = AllByRecursion IsNumber ns
IsFit (says.Reach reached) = IsReachOf reached
IsFit (says.Unreach keys) = AreKeysOf keys
IsFit (says.Extended exts) = AllByRecursion IsExt exts × AllByRecursion AreBytes exts
IsFit (says.Large larges) = AllByRecursion IsLarge larges

hop_is : (family : Family) (text : List ℕ) (hop : Addr) → SpellsHop family text hop → IsHop family hop
hop_is Ipv4 text hop (n, small, is, text_is) =
    subst (λ (addr : Addr). IsHop Ipv4 addr) (sym is) (record { of_family = refl; fits = small })
hop_is Ipv6 text hop (n, small, is, more, len, text_is) =
    subst (λ (addr : Addr). IsHop Ipv6 addr) (sym is) (record { of_family = refl; fits = small })

reach_is : (caps : Caps) (value : List ℕ) (reached : Reached) → AreOctets value → SpellsReach caps value reached
    → IsReach reached
reach_is caps value reached are spelled =
    let family : Family = spelled.family in
    let front : List ℕ = spelled.hop_text in
    let all = subst AreOctets spelled.text are in
    let hop = bytes_behind (family_text family) (length front ∷ (front ++ spelled.reserved ∷ spelled.prefixes)) all in
    let behind = bytes_behind front (spelled.reserved ∷ spelled.prefixes)
    (bytes_rest (length front) (front ++ spelled.reserved ∷ spelled.prefixes) hop) in
    let prefixes = bytes_rest spelled.reserved spelled.prefixes behind in
    record {
      family = family;
      hop = hop_is family front reached.hop spelled.hop;
      keys = keys_of (has_path caps family) family spelled.prefixes reached.keys prefixes spelled.spelled;
    }

unreach_is : (caps : Caps) (value : List ℕ) (keys : List Key) → AreOctets value → SpellsUnreach caps value keys
    → AllByRecursion IsKey keys
unreach_is caps value keys are spelled =
    let family : Family = spelled.family in
    let prefixes = bytes_behind (family_text family) spelled.prefixes (subst AreOctets spelled.text are) in
    any_keys family keys (keys_of (has_path caps family) family spelled.prefixes keys prefixes spelled.spelled)

fit_of : (caps : Caps) (a : Raw) (one : Attr) → AreOctets a.value → Means caps a one → IsFit one
fit_of caps a (says.Origin origin) are means = tt
fit_of caps a (says.Path path) are means = means.1
fit_of caps a (says.NextHop n) are means = means.1
fit_of caps a (says.Med n) are means = means.1
fit_of caps a (says.LocalPref n) are means = means.1
fit_of caps a says.Atomic are means = tt
fit_of caps a (says.Aggregator by) are means = means.1
fit_of caps a (says.Communities ns) are means = means.1
fit_of caps a (says.Originator n) are means = means.1
fit_of caps a (says.Clusters ns) are means = means.1
fit_of caps a (says.Reach None) are means = tt
fit_of caps a (says.Reach (Some reached)) are means = reach_is caps a.value reached are means.1
fit_of caps a (says.Unreach None) are means = tt
fit_of caps a (says.Unreach (Some keys)) are means = unreach_is caps a.value keys are means.1
fit_of caps a (says.Extended exts) are means = (means.1, exts_all exts (subst AreOctets means.0.1 are))
fit_of caps a (says.Large larges) are means = means.1

value_are : (a : Raw) → AreOctets (raw_text a) → AreOctets a.value
value_are a are = bytes_behind (raw_head a.flags a.code (length a.value)) a.value are

pub all_fit : (caps : Caps) (raws : List Raw) (said : List Attr) → AreOctets (flat_map raw_text raws)
    → MeansAll caps raws said → AllByRecursion IsFit said
all_fit caps [] said are meant = subst (λ (some : List Attr). AllByRecursion IsFit some) (sym meant) tt
all_fit caps (a ∷ raws) said are (inl meant) =
    all_fit caps raws said (bytes_behind (raw_text a) (flat_map raw_text raws) are) meant.1
all_fit caps (a ∷ raws) said are (inr (first, rest, is, means, others)) =
    subst (λ (some : List Attr). AllByRecursion IsFit some) (sym is) (
      fit_of caps a first (value_are a (bytes_front (raw_text a) (flat_map raw_text raws) are)) means,
      all_fit caps raws rest (bytes_behind (raw_text a) (flat_map raw_text raws) are) others,
    )

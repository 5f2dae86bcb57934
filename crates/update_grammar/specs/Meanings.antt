-- What path attributes mean (RFC 4271, section 5; RFC 4760; RFC 1997; RFC 4360; RFC 4456; RFC 8092).
use Rattle.std.specs.Prelude.{ℕ, ◌≡◌, ◌⊎◌, List, [], ◌∷◌, Some, None}
use Rattle.std.specs.List.{flat_map, AllByRecursion}
use Rattle.route_values.specs.Caps.{Caps}
use Rattle.update_grammar.specs.Codes.{code_origin, code_as_path, code_next_hop, code_med, code_local_pref, code_atomic}
use Rattle.update_grammar.specs.Codes.{code_aggregator, code_communities, code_originator, code_clusters, code_reach}
use Rattle.update_grammar.specs.Codes.{code_unreach, code_extended, code_large}
use Rattle.update_grammar.specs.declared.effect.Attr.{Attr}
use Rattle.update_grammar.specs.declared.effect.Attr.TheVariants as says
use Rattle.update_grammar.specs.Values.{IsNumber, number_text, numbers_text, origin_number, path_text, IsSegment}
use Rattle.update_grammar.specs.Values.{aggregator_text, IsAggregator, exts_text, IsExt, larges_text, IsLarge}
use Rattle.update_grammar.specs.Attributes.{Raw, transitive, optional, optional_transitive, IsOf, IsRaw, IsPassedOver}
use Rattle.update_grammar.specs.Attributes.{AreApart, raw_text}
use Rattle.update_grammar.specs.Families.{IsElsewhere, SpellsReach, SpellsUnreach}

-- an attribute of this code and these flags with this value
abbrev pub Is : Raw → ℕ → ℕ → List ℕ → Type 0
Is a flags code value = IsOf a flags code × (a.value ≡ value)

-- what an attribute with its flags, code and value says
abbrev pub Means : Caps → Raw → Attr → Type 0
Means caps a (says.Origin origin) = Is a transitive code_origin (origin_number origin ∷ [])
Means caps a (says.Path path) = Is a transitive code_as_path (path_text path) × AllByRecursion IsSegment path
Means caps a (says.NextHop n) = Is a transitive code_next_hop (number_text n) × IsNumber n
Means caps a (says.Med n) = Is a optional code_med (number_text n) × IsNumber n
Means caps a (says.LocalPref n) = Is a transitive code_local_pref (number_text n) × IsNumber n
Means caps a says.Atomic = Is a transitive code_atomic []
Means caps a (says.Aggregator by) = Is a optional_transitive code_aggregator (aggregator_text by) × IsAggregator by
Means caps a (says.Communities ns) = Is a optional_transitive code_communities (numbers_text ns)
    × AllByRecursion IsNumber ns
Means caps a (says.Originator n) = Is a optional code_originator (number_text n) × IsNumber n
Means caps a (says.Clusters ns) = Is a optional code_clusters (numbers_text ns) × AllByRecursion IsNumber ns
Means caps a (says.Reach None) = IsOf a optional code_reach × IsElsewhere caps a.value
Means caps a (says.Reach (Some reached)) = IsOf a optional code_reach × SpellsReach caps a.value reached
Means caps a (says.Unreach None) = IsOf a optional code_unreach × IsElsewhere caps a.value
Means caps a (says.Unreach (Some keys)) = IsOf a optional code_unreach × SpellsUnreach caps a.value keys
Means caps a (says.Extended exts) = Is a optional_transitive code_extended (exts_text exts) × AllByRecursion IsExt exts
Means caps a (says.Large larges) = Is a optional_transitive code_large (larges_text larges)
    × AllByRecursion IsLarge larges

-- what attributes say one after another, without those that are passed over
abbrev pub MeansAll : Caps → List Raw → List Attr → Type 0
MeansAll caps [] said = said ≡ []
MeansAll caps (a ∷ others) said =
    (IsPassedOver a × MeansAll caps others said) ⊎
    ((first : Attr) × (rest : List Attr) × (said ≡ first ∷ rest) × Means caps a first × MeansAll caps others rest)

-- the attributes of a body, each code at most once
pub record SpellsAttributes (caps : Caps) (bytes : List ℕ) (said : List Attr) : Type 0 where
  pub raws : List Raw
  pub text : bytes ≡ flat_map raw_text raws
  pub each : AllByRecursion IsRaw raws
  pub once : AreApart raws
  pub meant : MeansAll caps raws said

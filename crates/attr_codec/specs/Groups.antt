-- The attributes of an announcement in groups, in rising order of their codes.
use Rattle.std.specs.Prelude.{ℕ, Bool, Option, List, [], ◌∷◌, ◌++◌}
use Rattle.std.specs.List.{flat_map}
use Rattle.route_values.specs.declared.addr.Family.{Family}
use Rattle.route_values.specs.declared.attrs.Aggregator.{Aggregator}
use Rattle.route_values.specs.declared.attrs.Large.{Large}
use Rattle.route_values.specs.declared.attrs.WireAttrs.{WireAttrs}
use Rattle.route_values.specs.declared.path.Segment.{Segment}
use Rattle.update_grammar.specs.Attributes.{Raw, raw_text, transitive, optional_transitive}
use Rattle.update_grammar.specs.Codes.{code_origin, code_as_path, code_med, code_local_pref, code_atomic}
use Rattle.update_grammar.specs.Codes.{code_aggregator, code_communities, code_originator, code_clusters}
use Rattle.update_grammar.specs.Codes.{code_extended, code_large}
use Rattle.update_grammar.specs.Values.{number_text, numbers_text, origin_number, path_text, aggregator_text, exts_text}
use Rattle.update_grammar.specs.Values.{larges_text}
use Rattle.update_grammar.specs.Written.{raw, raw_if, raw_some, raw_when, hop_raws, reach_raws}
use Rattle.attr_codec.specs.declared.codes.Kind.{Kind}
use Rattle.attr_codec.specs.declared.codes.Kind.TheVariants.{WellKnown, Optional, OptionalTransitive}
use Rattle.attr_codec.specs.Kind.{flags_of}

-- attributes end to end
abbrev pub raws_text : List Raw → List ℕ
raws_text raws = flat_map raw_text raws

-- an attribute with a number in four bytes, where there is one
abbrev pub number_attr : Kind → ℕ → Option ℕ → List ℕ
number_attr kind code number = raws_text (raw_if number_text (flags_of kind) code number)

-- an attribute with a list of numbers, unless it is empty
abbrev pub numbers_attr : Kind → ℕ → List ℕ → List ℕ
numbers_attr kind code numbers = raws_text (raw_some numbers_text (flags_of kind) code numbers)

-- AS_PATH
abbrev pub path_attr : List Segment → List ℕ
path_attr path = raw_text (raw transitive code_as_path (path_text path))

-- ATOMIC_AGGREGATE, where it stands
abbrev pub atomic_attr : Bool → List ℕ
atomic_attr stands = raws_text (raw_when stands transitive code_atomic)

-- AGGREGATOR, where there is one
abbrev pub aggregator_attr : Option Aggregator → List ℕ
aggregator_attr by = raws_text (raw_if aggregator_text optional_transitive code_aggregator by)

-- EXTENDED COMMUNITIES, unless there is none
abbrev pub exts_attr : List (List ℕ) → List ℕ
exts_attr exts = raws_text (raw_some exts_text optional_transitive code_extended exts)

-- LARGE_COMMUNITY, unless there is none
abbrev pub larges_attr : List Large → List ℕ
larges_attr larges = raws_text (raw_some larges_text optional_transitive code_large larges)

-- ORIGIN, AS_PATH and NEXT_HOP
abbrev pub first_text : Family → WireAttrs → List ℕ
first_text family w =
    raw_text (raw transitive code_origin (origin_number w.origin ∷ []))
    ++ (path_attr w.path ++ raws_text (hop_raws family w.hop))

-- MULTI_EXIT_DISC, LOCAL_PREF, ATOMIC_AGGREGATE and AGGREGATOR
abbrev pub second_text : WireAttrs → List ℕ
second_text w =
    number_attr Optional code_med w.med
    ++ (number_attr WellKnown code_local_pref w.local_pref
    ++ (atomic_attr w.atomic ++ aggregator_attr w.aggregator))

-- COMMUNITIES, ORIGINATOR_ID and CLUSTER_LIST
abbrev pub third_text : WireAttrs → List ℕ
third_text w =
    numbers_attr OptionalTransitive code_communities w.communities
    ++ (number_attr Optional code_originator w.originator ++ numbers_attr Optional code_clusters w.clusters)

-- MP_REACH_NLRI without prefixes, EXTENDED COMMUNITIES and LARGE_COMMUNITY
abbrev pub last_text : Family → WireAttrs → List ℕ
last_text family w = raws_text (reach_raws family w.hop []) ++ (exts_attr w.extended ++ larges_attr w.large)

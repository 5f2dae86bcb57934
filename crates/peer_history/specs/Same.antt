-- Whether two routes are sent alike: tests of equality that compute.
use Rattle.std.specs.Prelude.{◌==◌, ◌&&◌, Bool, true, false, not, nat_eq, Option}
use Rattle.std.specs.Bool.{beq}
use Rattle.std.specs.Cmp.Lexicographic.{pointwise}
use Rattle.std.specs.Option.{option_eq}
use Rattle.route_values.specs.declared.addr.Family.{Family}
use Rattle.route_values.specs.declared.addr.Family.TheVariants.{Ipv4, Ipv6}
use Rattle.route_values.specs.declared.attrs.Aggregator.{Aggregator}
use Rattle.route_values.specs.declared.attrs.Origin.{Origin}
use Rattle.route_values.specs.declared.attrs.Origin.TheVariants.{Igp, Egp, Incomplete}
use Rattle.route_values.specs.declared.attrs.WireAttrs.{WireAttrs}
use Rattle.route_values.specs.declared.path.Segment.{Segment}
use Rattle.route_values.specs.Key.{same_addr}
use Rattle.route_values.specs.Sent.{same_large}

-- whether two families are the same
abbrev pub same_family : Family → Family → Bool
same_family Ipv4 Ipv4 = true
same_family Ipv6 Ipv6 = true
same_family _ _ = false

-- whether two origins are the same
abbrev pub same_origin : Origin → Origin → Bool
same_origin Igp Igp = true
same_origin Egp Egp = true
same_origin Incomplete Incomplete = true
same_origin _ _ = false

-- whether two segments of a path are the same
abbrev pub same_segment : Segment → Segment → Bool
same_segment a b = beq a.set b.set && pointwise nat_eq a.numbers b.numbers

-- whether two aggregators are the same
abbrev pub same_aggregator : Aggregator → Aggregator → Bool
same_aggregator a b = a.asn == b.asn && a.addr == b.addr

-- whether what every announcement has is the same
abbrev pub same_needed : WireAttrs → WireAttrs → Bool
same_needed a b = same_addr a.hop b.hop && same_origin a.origin b.origin && pointwise same_segment a.path b.path

-- whether the single values are the same
abbrev pub same_single : WireAttrs → WireAttrs → Bool
same_single a b =
    option_eq nat_eq a.med b.med && option_eq nat_eq a.local_pref b.local_pref && beq a.atomic b.atomic
    && option_eq same_aggregator a.aggregator b.aggregator && option_eq nat_eq a.originator b.originator

-- whether the lists are the same
abbrev pub same_lists : WireAttrs → WireAttrs → Bool
same_lists a b =
    pointwise nat_eq a.communities b.communities && pointwise nat_eq a.clusters b.clusters
    && pointwise (pointwise nat_eq) a.extended b.extended && pointwise same_large a.large b.large

-- whether two attributes as they are sent are the same
abbrev pub same_attrs : WireAttrs → WireAttrs → Bool
same_attrs a b = same_needed a b && same_single a b && same_lists a b

-- whether a key has different values in two tables; None where it isn't in a table
abbrev pub differ : Option WireAttrs → Option WireAttrs → Bool
differ a b = not (option_eq same_attrs a b)

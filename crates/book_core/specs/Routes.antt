-- What is known of attributes that were written.
use Rattle.std.specs.Prelude.{◌<◌, ◌^◌, ⊤, length, List, IfSome}
use Rattle.std.specs.List.{AllByRecursion}
use Rattle.route_values.specs.declared.addr.Addr.{Addr}
use Rattle.route_values.specs.declared.attrs.Attrs.{Attrs}
use Rattle.route_values.specs.declared.attrs.Hop.{Hop}
use Rattle.route_values.specs.declared.attrs.Hop.TheVariants.{Own, Is}
use Rattle.route_values.specs.declared.path.Segment.{Segment}
use Rattle.route_values.specs.Addr.{family_of, bits_of, number_of}
use Rattle.update_grammar.specs.Values.{IsNumber, IsAggregator, IsExt, IsLarge}

-- an address within its family
abbrev pub IsAddr : Addr → Type 0
IsAddr addr = number_of addr < 2 ^ bits_of (family_of addr)

abbrev pub IsHopWritten : Hop → Type 0
IsHopWritten Own = ⊤
IsHopWritten (Is addr) = IsAddr addr

-- a segment with a number or more
pub record IsFilled (segment : Segment) : Type 0 where
  pub filled : 0 < length segment.numbers
  pub numbers : AllByRecursion IsNumber segment.numbers

abbrev pub AreSegments : List Segment → Type 0
AreSegments path = AllByRecursion IsFilled path

-- numbers in range, and segments that aren't empty
pub record IsAttrs (attrs : Attrs) : Type 0 where
  pub hop : IsHopWritten attrs.hop
  pub path : IfSome attrs.path AreSegments
  pub med : IfSome attrs.med IsNumber
  pub local_pref : IfSome attrs.local_pref IsNumber
  pub aggregator : IfSome attrs.aggregator IsAggregator
  pub communities : AllByRecursion IsNumber attrs.communities
  pub originator : IfSome attrs.originator IsNumber
  pub clusters : AllByRecursion IsNumber attrs.clusters
  pub extended : AllByRecursion IsExt attrs.extended
  pub large : AllByRecursion IsLarge attrs.large

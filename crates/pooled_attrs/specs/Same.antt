-- Tests of attributes that compute: whether each part is the same.
use Rattle.std.specs.Prelude.{ℕ, ◌++◌, Bool, ◌&&◌, List, [], Option, Some, None, nat_eq}
use Rattle.std.specs.Option.{option_eq}
use Rattle.std.specs.Hash as fed
use Rattle.std.specs.List.{flat_map}
use Rattle.std.proofs.Math.Bool.{beq}
use Rattle.std.specs.Cmp.Lexicographic.{pointwise}
use Rattle.route_values.specs.declared.attrs.Attrs.{Attrs}
use Rattle.route_values.specs.declared.attrs.WireAttrs.{WireAttrs}
use Rattle.route_values.specs.declared.attrs.Hop.{Hop}
use Rattle.route_values.specs.declared.attrs.Hop.TheVariants.{Own, Is}
use Rattle.route_values.specs.declared.path.Segment.{Segment}
use Rattle.route_values.specs.contracts.addr.AddrHash.TheImpl.{ghosts as addr_hash}
use Rattle.route_values.specs.contracts.addr.AddrPartialEq.TheImpl.{ghosts as addr_test}
use Rattle.route_values.specs.contracts.attrs.HopPartialEq.TheImpl.{ghosts as hop_test}
use Rattle.route_values.specs.contracts.attrs.OriginPartialEq.TheImpl.{ghosts as origin_test}
use Rattle.route_values.specs.contracts.attrs.AggregatorPartialEq.TheImpl.{ghosts as aggregator_test}
use Rattle.route_values.specs.contracts.attrs.LargePartialEq.TheImpl.{ghosts as large_test}

-- whether two parts of a path are the same
abbrev pub same_segment : Segment → Segment → Bool
same_segment a b = beq a.set b.set && pointwise nat_eq a.numbers b.numbers

-- whether two paths are
abbrev pub same_path : List Segment → List Segment → Bool
same_path a b = pointwise same_segment a b

-- whether two paths that may be missing are
abbrev pub same_optional_path : Option (List Segment) → Option (List Segment) → Bool
same_optional_path a b = option_eq same_path a b

-- whether two lists of numbers are
abbrev pub same_numbers : List ℕ → List ℕ → Bool
same_numbers a b = pointwise nat_eq a b

-- whether two written values are
abbrev pub same_written : Attrs → Attrs → Bool
same_written a b = hop_test.eq a.hop b.hop && (option_eq origin_test.eq a.origin b.origin
    && (option_eq same_path a.path b.path && (option_eq nat_eq a.med b.med &&
    (option_eq nat_eq a.local_pref b.local_pref
    && (beq a.atomic b.atomic && (option_eq aggregator_test.eq a.aggregator b.aggregator
    && (same_numbers a.communities b.communities && (option_eq nat_eq a.originator b.originator
    && (same_numbers a.clusters b.clusters && (pointwise (pointwise nat_eq) a.extended b.extended
    && pointwise large_test.eq a.large b.large))))))))))

-- whether two values on the wire are
abbrev pub same_wire : WireAttrs → WireAttrs → Bool
same_wire a b = addr_test.eq a.hop b.hop && (origin_test.eq a.origin b.origin
    && (same_path a.path b.path && (option_eq nat_eq a.med b.med && (option_eq nat_eq a.local_pref b.local_pref
    && (beq a.atomic b.atomic && (option_eq aggregator_test.eq a.aggregator b.aggregator
    && (same_numbers a.communities b.communities && (option_eq nat_eq a.originator b.originator
    && (same_numbers a.clusters b.clusters && (pointwise (pointwise nat_eq) a.extended b.extended
    && pointwise large_test.eq a.large b.large))))))))))

-- what a next hop feeds a hasher
abbrev pub hop_input : Hop → fed.HashWrites
hop_input Own = fed.u8 0
hop_input (Is addr) = addr_hash.hash_input addr

-- what a part of a path feeds one
abbrev pub segment_input : Segment → fed.HashWrites
segment_input segment = fed.slice fed.u32 segment.numbers

-- what a path feeds one
abbrev pub path_input : List Segment → fed.HashWrites
path_input path = flat_map segment_input path

-- what a path that may be missing feeds one
abbrev pub optional_path_input : Option (List Segment) → fed.HashWrites
optional_path_input None = []
optional_path_input (Some path) = path_input path

-- what written attributes feed one
abbrev pub written_input : Attrs → fed.HashWrites
written_input attrs = hop_input attrs.hop ++ optional_path_input attrs.path ++ fed.option fed.u32 attrs.med
    ++ fed.option fed.u32 attrs.local_pref ++ fed.slice fed.u32 attrs.communities

-- what attributes on the wire feed one
abbrev pub wire_input : WireAttrs → fed.HashWrites
wire_input attrs = addr_hash.hash_input attrs.hop ++ path_input attrs.path ++ fed.option fed.u32 attrs.med
    ++ fed.option fed.u32 attrs.local_pref ++ fed.slice fed.u32 attrs.communities

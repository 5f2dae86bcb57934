-- What all attributes are as they are written: the numbers in them are in their types' ranges.
use Rattle.std.specs.Prelude.{ℕ, ◌^◌, ◌<◌, ⊤, List, Option, Some, None}
use Rattle.std.specs.List.{AllByRecursion}
use Rattle.route_values.specs.declared.attrs.Hop.{Hop}
use Rattle.route_values.specs.declared.attrs.Hop.TheVariants.{Own, Is}
use Rattle.route_values.specs.declared.path.Segment.{Segment}
use Rattle.route_values.specs.Addr.{family_of, bits_of, number_of}
use Rattle.route_values.specs.Path.{AllFilled}
use Rattle.update_grammar.specs.Values.{IsNumber}

abbrev pub AreNumbers : List ℕ → Type 0
AreNumbers numbers = AllByRecursion IsNumber numbers

-- the address of a next hop that was written has so many bits as its family's have
abbrev pub IsHopKnown : Hop → Type 0
IsHopKnown Own = ⊤
IsHopKnown (Is addr) = number_of addr < 2 ^ bits_of (family_of addr)

-- segments of a path have numbers, and each has one at least
pub record AreSegments (segments : List Segment) : Type 0 where
  pub filled : AllFilled segments
  pub numbers : AllByRecursion (λ segment. AreNumbers segment.numbers) segments

abbrev pub IsPathKnown : Option (List Segment) → Type 0
IsPathKnown None = ⊤
IsPathKnown (Some segments) = AreSegments segments

-- Parts of attributes and of paths as they are cut off, without where they lie.
use Rattle.std.specs.Prelude.{◌≡◌, ◌==◌, Bool, List, ◌++◌, Option, Some, None, option_to_list, if◌then◌else◌}
use Rattle.route_values.specs.declared.path.Segment.{Segment}
use Rattle.update_grammar.specs.Codes.{set_type}
use Rattle.update_grammar.specs.Attributes.{Raw}
use Rattle.update_grammar.specs.ReadValues.{Part, is_segment}
use Rattle.attr_codec.specs.declared.reading.path.RawSegment.{RawSegment}
use Rattle.attr_codec.specs.declared.reading.raw.RawAttr.{RawAttr}

-- an attribute whose value isn't looked at yet
abbrev pub raw_of : RawAttr → Raw
raw_of a = record { flags = a.flags; code = a.code; value = a.value.now }

-- what stands in the place of a segment
abbrev pub part_of : RawSegment → Part
part_of s = record { kind = s.kind; numbers = s.numbers }

-- the segment that a part is, if it is one
abbrev pub as_segment : Part → Option Segment
as_segment part = if is_segment part then Some (record { set = part.kind == set_type; numbers = part.numbers }) else
    None

-- whether a part is a segment has been answered, and then it was put at the end
pub record IsTold (answer : Bool) (before : List Segment) (part : Part) (after : List Segment) : Type 0 where
  pub good : answer ≡ is_segment part
  pub told : after ≡ before ++ option_to_list (as_segment part)

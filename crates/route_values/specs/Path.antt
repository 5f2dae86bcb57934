-- A path of AS numbers (RFC 4271, section 4.3).
use Rattle.std.specs.Prelude.{◌<◌, List, length}
use Rattle.std.specs.List.{AllByRecursion}
use Rattle.route_values.specs.declared.path.Segment.{Segment}

-- each segment has at least one number
abbrev pub AllFilled : List Segment → Type 0
AllFilled segments = AllByRecursion (λ s. 0 < length s.numbers) segments

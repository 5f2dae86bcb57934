-- Attributes that came in a message, as they are written in a command.
use Rattle.std.specs.Prelude.{List, [], ◌∷◌, ◌++◌, ◌||◌, false, if◌then◌else◌, Some}
use Rattle.route_values.specs.declared.attrs.Attrs.{Attrs}
use Rattle.route_values.specs.declared.attrs.Hop.TheVariants.{Is}
use Rattle.route_values.specs.declared.attrs.WireAttrs.{WireAttrs}
use Rattle.route_values.specs.declared.path.Segment.{Segment}

-- a segment in front of segments: two sequences that meet are one
abbrev pub before : Segment → List Segment → List Segment
before first [] = first ∷ []
before first (next ∷ others) =
    if first.set || next.set then first ∷ next ∷ others
    else (record { set = false; numbers = first.numbers ++ next.numbers } ∷ others)

-- a path of which neighbouring sequences are joined, as a command writes them
abbrev pub merged : List Segment → List Segment
merged [] = []
merged (first ∷ others) = before first (merged others)

-- the same attributes, of which next hop, origin and path are written, too
abbrev pub plain_of : WireAttrs → Attrs
plain_of sent = record {
  hop = Is sent.hop;
  origin = Some sent.origin;
  path = Some (merged sent.path);
  med = sent.med;
  local_pref = sent.local_pref;
  atomic = sent.atomic;
  aggregator = sent.aggregator;
  communities = sent.communities;
  originator = sent.originator;
  clusters = sent.clusters;
  extended = sent.extended;
  large = sent.large;
}

-- Path attributes of which no more is given than each route has.
use Rattle.std.specs.Prelude.{false, List, [], None}
use Rattle.route_values.specs.declared.addr.Addr.{Addr}
use Rattle.route_values.specs.declared.attrs.Hop.{Hop}
use Rattle.route_values.specs.declared.attrs.Origin.{Origin}
use Rattle.route_values.specs.declared.attrs.Attrs.{Attrs}
use Rattle.route_values.specs.declared.attrs.WireAttrs.{WireAttrs}
use Rattle.route_values.specs.declared.path.Segment.{Segment}

-- attributes of which the next hop alone is written
abbrev pub unwritten : Hop → Attrs
unwritten hop = record {
  hop = hop;
  origin = None;
  path = None;
  med = None;
  local_pref = None;
  atomic = false;
  aggregator = None;
  communities = [];
  originator = None;
  clusters = [];
  extended = [];
  large = [];
}

-- attributes with the three that every announcement has (RFC 4271, section 5), and no others
abbrev pub plain : Addr → Origin → List Segment → WireAttrs
plain hop origin path = record {
  hop = hop;
  origin = origin;
  path = path;
  med = None;
  local_pref = None;
  atomic = false;
  aggregator = None;
  communities = [];
  originator = None;
  clusters = [];
  extended = [];
  large = [];
}

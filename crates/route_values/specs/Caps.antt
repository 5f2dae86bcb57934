-- What may be written in one direction of a session: families (RFC 4760, section 8), those whose prefixes have path
-- identifiers (RFC 7911, section 4), and extended messages (RFC 8654).
use Rattle.std.specs.Prelude.{Bool, true, false, IsTrue}
use Rattle.route_values.specs.declared.addr.Family.{Family}
use Rattle.route_values.specs.declared.addr.Family.TheVariants.{Ipv4, Ipv6}

-- what a contract sees of capabilities
pub record Caps : Type 0 where
  pub ipv4 : Bool
  pub ipv6 : Bool
  pub ipv4_path : Bool
  pub ipv6_path : Bool
  pub extended : Bool

-- capabilities by their five flags
abbrev pub flags : Bool → Bool → Bool → Bool → Bool → Caps
flags ipv4 ipv6 ipv4_path ipv6_path extended = record {
  ipv4 = ipv4;
  ipv6 = ipv6;
  ipv4_path = ipv4_path;
  ipv6_path = ipv6_path;
  extended = extended;
}

-- a family has path identifiers only where it is carried
pub record AreKept (caps : Caps) : Type 0 where
  pub ipv4 : IsTrue caps.ipv4_path → IsTrue caps.ipv4
  pub ipv6 : IsTrue caps.ipv6_path → IsTrue caps.ipv6

-- no family, and messages of 4,096 bytes
abbrev pub no_caps : Caps
no_caps = flags false false false false false

-- the family is carried, with path identifiers or without; all else is as before
abbrev pub with_family : Caps → Family → Bool → Caps
with_family caps Ipv4 path = record caps { ipv4 = true; ipv4_path = path }
with_family caps Ipv6 path = record caps { ipv6 = true; ipv6_path = path }

-- messages may have up to 65,535 bytes; all else is as before
abbrev pub with_extended : Caps → Caps
with_extended caps = record caps { extended = true }

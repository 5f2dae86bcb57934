-- How many bytes the part of a message takes in which its prefixes stand (RFC 4271, section 4.3; RFC 4760, sections 3
-- and 4).
use Rattle.std.specs.Prelude.{ℕ, ◌+◌}
use Rattle.route_values.specs.declared.addr.Family.TheVariants.{Ipv4, Ipv6}
use Rattle.update_grammar.specs.Codes.{family_len, ipv6_hop_len}
use Rattle.attr_codec.specs.Sizes.{attr_size, reach_fixed}
use Rattle.batch_cutter.specs.declared.kind.Kind.{Kind}
use Rattle.batch_cutter.specs.declared.kind.Kind.TheVariants.{Gone, Here, End}

-- The prefixes of IPv4 have a field of their own. Those of IPv6 stand in an attribute: behind the family where they are
-- withdrawn, and behind the family and a next hop where they are announced.
abbrev pub field_size : Kind → ℕ → ℕ
field_size (Gone Ipv4) filled = filled
field_size (Gone Ipv6) filled = attr_size (family_len + filled)
field_size (Here Ipv4) filled = filled
field_size (Here Ipv6) filled = attr_size (reach_fixed + ipv6_hop_len + filled)
field_size (End family) filled = filled

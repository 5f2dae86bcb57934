-- The numbers of an UPDATE message on the wire.
use Rattle.std.specs.Prelude.{ℕ}

-- how many bytes of ones begin a message (RFC 4271, section 4.1)
abbrev pub marker_len : ℕ
marker_len = 16

-- where the length of the whole message ends, which stands behind them
abbrev pub length_end : ℕ
length_end = 18

-- how many bytes a header has
abbrev pub header_len : ℕ
header_len = 19

-- the type of an UPDATE
abbrev pub update_type : ℕ
update_type = 2

-- the greatest length that one byte tells
abbrev pub short_max : ℕ
short_max = 255

-- the codes of attributes (RFC 4271, section 5.1; RFC 1997; RFC 4456; RFC 4760; RFC 4360; RFC 8092)
abbrev pub code_origin : ℕ
code_origin = 1

abbrev pub code_as_path : ℕ
code_as_path = 2

abbrev pub code_next_hop : ℕ
code_next_hop = 3

abbrev pub code_med : ℕ
code_med = 4

abbrev pub code_local_pref : ℕ
code_local_pref = 5

abbrev pub code_atomic : ℕ
code_atomic = 6

abbrev pub code_aggregator : ℕ
code_aggregator = 7

abbrev pub code_communities : ℕ
code_communities = 8

abbrev pub code_originator : ℕ
code_originator = 9

abbrev pub code_clusters : ℕ
code_clusters = 10

abbrev pub code_reach : ℕ
code_reach = 14

abbrev pub code_unreach : ℕ
code_unreach = 15

abbrev pub code_extended : ℕ
code_extended = 16

abbrev pub code_large : ℕ
code_large = 32

-- the types of the segments of an AS_PATH (RFC 4271, section 4.3)
abbrev pub set_type : ℕ
set_type = 1

abbrev pub sequence_type : ℕ
sequence_type = 2

-- how many bytes a number, an AGGREGATOR, an extended and a large community have (RFC 6793; RFC 4360; RFC 8092)
abbrev pub number_len : ℕ
number_len = 4

abbrev pub aggregator_len : ℕ
aggregator_len = 8

abbrev pub ext_len : ℕ
ext_len = 8

abbrev pub large_len : ℕ
large_len = 12

-- AFI and SAFI of the families, and how many bytes both have (RFC 4760, section 3)
abbrev pub afi_ipv4 : ℕ
afi_ipv4 = 1

abbrev pub afi_ipv6 : ℕ
afi_ipv6 = 2

abbrev pub safi_unicast : ℕ
safi_unicast = 1

abbrev pub family_len : ℕ
family_len = 3

-- how many bytes a next hop has: an IPv6 one may have a link-local address behind it (RFC 4760; RFC 2545, section 3)
abbrev pub ipv4_hop_len : ℕ
ipv4_hop_len = 4

abbrev pub ipv6_hop_len : ℕ
ipv6_hop_len = 16

abbrev pub ipv6_hops_len : ℕ
ipv6_hops_len = 32

-- how many bytes a path identifier has (RFC 7911, section 3)
abbrev pub id_len : ℕ
id_len = 4

-- the most bytes that a message has (RFC 4271, section 4.1), and where extended ones were agreed (RFC 8654, section 3)
abbrev pub message_max : ℕ
message_max = 4096

abbrev pub extended_max : ℕ
extended_max = 65535

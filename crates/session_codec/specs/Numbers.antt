-- The numbers of OPEN and NOTIFICATION on the wire (RFC 4271, sections 4 and 6.2).
use Rattle.std.specs.Prelude.{ℕ}

-- the types of messages (RFC 4271, section 4.1; RFC 2918, section 3)
abbrev pub open_type : ℕ
open_type = 1

abbrev pub notification_type : ℕ
notification_type = 3

abbrev pub keepalive_type : ℕ
keepalive_type = 4

abbrev pub refresh_type : ℕ
refresh_type = 5

-- the room that a buffer for these messages has at least: the greatest length of an OPEN (RFC 4271, section 4.2)
abbrev pub least_room : ℕ
least_room = 4096

-- the version, and the parameter that holds capabilities (RFC 4271, section 4.2; RFC 5492, section 4)
abbrev pub version : ℕ
version = 4

abbrev pub caps_type : ℕ
caps_type = 2

-- what stands in two bytes for the number of an AS that needs four (RFC 6793, section 9)
abbrev pub as_trans : ℕ
as_trans = 23456

-- capabilities (RFC 4760, section 8; RFC 2918, section 2; RFC 8654, section 3; RFC 6793, section 3; RFC 7911,
-- section 4)
abbrev pub cap_family : ℕ
cap_family = 1

abbrev pub cap_refresh : ℕ
cap_refresh = 2

abbrev pub cap_extended : ℕ
cap_extended = 6

abbrev pub cap_as : ℕ
cap_as = 65

abbrev pub cap_paths : ℕ
cap_paths = 69

-- how many bytes an OPEN has before its optional parameters (RFC 4271, section 4.2)
abbrev pub fixed_len : ℕ
fixed_len = 10

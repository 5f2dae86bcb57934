-- What a message is for: withdrawals, announcements with one value, or the End-of-RIB marker (RFC 4724, section 2),
-- of one family.
use Rattle.route_values.specs.declared.addr.Family.{Family}
use Rattle.route_values.specs.declared.attrs.WireAttrs.{WireAttrs}

pub data Head : Type 0 where
  Gone : Family → Head
  Here : Family → WireAttrs → Head
  End : Family → Head

-- Routes within the limits fit a message of 4,096 bytes, for which every session has room (RFC 4271, section 4.1).
use Rattle.std.specs.Prelude.{ℕ, ◌≡◌, ◌≤◌, [], ◌∷◌, length}
use Rattle.route_values.specs.declared.addr.Family.{Family}
use Rattle.route_values.specs.declared.addr.Family.TheVariants.{Ipv4, Ipv6}
use Rattle.route_values.specs.declared.attrs.WireAttrs.{WireAttrs}
use Rattle.route_values.specs.Caps.{Caps}
use Rattle.route_values.specs.declared.key.Key.{Key}
use Rattle.route_values.specs.Key.{family_of_key}
use Rattle.route_values.specs.Limits.{counts_sent, IsWithinLimits}
use Rattle.update_grammar.specs.Head as head
use Rattle.update_grammar.specs.Written.{attributes_text, written, IsSendable}

-- the most bytes that attributes take: NEXT_HOP is among them, or MP_REACH_NLRI without prefixes
abbrev pub most_attributes : Family → ℕ
most_attributes Ipv4 = 3803
most_attributes Ipv6 = 3820

-- the most bytes that the announcement of one key has
abbrev pub most_announced : Family → ℕ
most_announced Ipv4 = 3835
most_announced Ipv6 = 3864

-- the most bytes that the withdrawal of one key has
abbrev pub most_withdrawn : Family → ℕ
most_withdrawn Ipv4 = 32
most_withdrawn Ipv6 = 50

-- the attributes of a route within the limits, without prefixes
abbrev pub AttributesFit : Type 0
AttributesFit = (family : Family) (w : WireAttrs) → IsSendable family w → IsWithinLimits (counts_sent w)
    → length (attributes_text family w []) ≤ most_attributes family

-- the message that announces one key with them, whether it has an identifier or not
abbrev pub AnnouncementFits : Type 0
AnnouncementFits = (caps : Caps) (family : Family) (w : WireAttrs) (key : Key) → IsSendable family w
    → IsWithinLimits (counts_sent w) → family_of_key key ≡ family
    → length (written caps (head.Here family w) (key ∷ [])) ≤ most_announced family

-- the message that withdraws one key
abbrev pub WithdrawalFits : Type 0
WithdrawalFits = (caps : Caps) (family : Family) (key : Key) → family_of_key key ≡ family
    → length (written caps (head.Gone family) (key ∷ [])) ≤ most_withdrawn family

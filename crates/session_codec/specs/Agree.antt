-- What two sides agree on (RFC 4271, section 4.2; RFC 4760, section 8; RFC 7911, section 4; RFC 8654; RFC 2918).
use Rattle.std.specs.Prelude.{Bool, true, false, ◌&&◌, min, if◌then◌else◌}
use Rattle.route_values.specs.declared.addr.Family.{Family}
use Rattle.route_values.specs.declared.settings.Settings.{Settings}
use Rattle.route_values.specs.Caps.{Caps, with_family}
use Rattle.session_codec.specs.declared.negotiation.Agreed.{Agreed}
use Rattle.session_codec.specs.declared.offer.Open.{Open}
use Rattle.session_codec.specs.declared.offer.Path.{Path}
use Rattle.session_codec.specs.declared.offer.Path.TheVariants as way

-- a speaker that takes prefixes with identifiers, and one that writes them
abbrev pub is_receiver : Path → Bool
is_receiver way.None = false
is_receiver way.Receive = true
is_receiver way.Send = false
is_receiver way.Both = true

abbrev pub is_sender : Path → Bool
is_sender way.None = false
is_sender way.Receive = false
is_sender way.Send = true
is_sender way.Both = true

-- a family that both sides have or not, beside what is carried
abbrev pub with_carried : Caps → Family → Bool → Bool → Caps
with_carried caps family both path = if both then with_family caps family path else caps

-- one direction: for each family whether both sides have it, and whether identifiers are sent and taken
abbrev pub carried : Bool → Bool → Bool → Bool → Bool → Caps
carried ipv4 ipv4_path ipv6 ipv6_path extended = record {
  ipv4 = ipv4;
  ipv6 = ipv6;
  ipv4_path = ipv4 && ipv4_path;
  ipv6_path = ipv6 && ipv6_path;
  extended = extended;
}

-- what is written to the peer: identifiers where the own side sends and the peer takes them
abbrev pub to_peer_of : Settings → Open → Caps
to_peer_of own theirs =
    carried (own.ipv4 && theirs.ipv4) (own.ipv4_send && is_receiver theirs.ipv4_path) (own.ipv6 && theirs.ipv6)
    (own.ipv6_send && is_receiver theirs.ipv6_path) (own.extended && theirs.extended)

-- what the peer writes: identifiers where the peer sends and the own side takes them
abbrev pub from_peer_of : Settings → Open → Caps
from_peer_of own theirs =
    carried (own.ipv4 && theirs.ipv4) (own.ipv4_receive && is_sender theirs.ipv4_path) (own.ipv6 && theirs.ipv6)
    (own.ipv6_receive && is_sender theirs.ipv6_path) (own.extended && theirs.extended)

-- the lesser hold time, and what both sides offer
abbrev pub agree : Settings → Open → Agreed
agree own theirs = record {
  to_peer = to_peer_of own theirs;
  from_peer = from_peer_of own theirs;
  hold = min own.hold theirs.hold;
  refresh = own.refresh && theirs.refresh;
}

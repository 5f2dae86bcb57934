-- The law of OPEN: what is written is read back.
use Rattle.std.specs.Prelude.{◌≡◌, ◌≢◌, ◌^◌, ◌<◌, ◌||◌, IsTrue, Ok}
use Rattle.route_values.specs.declared.addr.Family.TheVariants.{Ipv4, Ipv6}
use Rattle.route_values.specs.declared.settings.Settings.{Settings}
use Rattle.session_codec.specs.declared.offer.Open.{Open}
use Rattle.session_codec.specs.Written.{way_offered, open_body}
use Rattle.session_codec.specs.ReadOpen.{opens}

-- what settings offer
abbrev pub offer_of : Settings → Open
offer_of own = record {
  asn = own.local_as;
  hold = own.hold;
  id = own.router_id;
  ipv4 = own.ipv4;
  ipv6 = own.ipv6;
  refresh = own.refresh;
  extended = own.extended;
  ipv4_path = way_offered own Ipv4;
  ipv6_path = way_offered own Ipv6;
}

-- settings with a family, an identifier that isn't 0 and a hold time that isn't 1 or 2; their numbers fit their types
pub record IsOffer (own : Settings) : Type 0 where
  pub asn : own.local_as < 2 ^ 32
  pub hold : own.hold < 2 ^ 16
  pub id : own.router_id < 2 ^ 32
  pub family : IsTrue (own.ipv4 || own.ipv6)
  pub known : own.router_id ≢ 0
  pub not_one : own.hold ≢ 1
  pub not_two : own.hold ≢ 2

-- a neighbour whose configured peer AS is the writer's reads what the writer offers
abbrev pub WrittenIsRead : Type 0
WrittenIsRead = (own theirs : Settings) → IsOffer own → theirs.peer_as ≡ own.local_as
    → opens theirs (open_body own) ≡ Ok (offer_of own)

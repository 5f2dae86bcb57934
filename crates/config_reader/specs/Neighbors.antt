-- The section of a neighbour.
use Rattle.std.specs.Prelude.{ℕ, ◌≡◌, Bool, true, false, not, ◌&&◌, is_some, is_none, codes, List, []}
use Rattle.std.specs.Prelude.{map, Option, Some, None, option_map, option_and_then, unwrap_or, if◌then◌else◌}
use Rattle.std.specs.List.{list_any}
use Rattle.arrayvec.specs.ArrayVec.{ArrayVec}
use Rattle.route_values.specs.declared.addr.Addr.{Addr}
use Rattle.route_values.specs.declared.addr.Addr.TheVariants.{V4, V6}
use Rattle.route_values.specs.declared.addr.Family.{Family}
use Rattle.route_values.specs.declared.addr.Family.TheVariants.{Ipv4, Ipv6}
use Rattle.route_values.specs.declared.attrs.Hop.{Hop}
use Rattle.route_values.specs.declared.attrs.Hop.TheVariants.{Own, Is}
use Rattle.route_values.specs.declared.settings.Settings.{Settings}
use Rattle.route_values.specs.Addr.{family_of}
use Rattle.route_values.specs.Key.{family_of_key}
use Rattle.route_values.specs.Sent.{first_places}
use Rattle.text_forms.specs.Addresses.{IsIpv4}
use Rattle.text_forms.specs.Families.{IsAddrText}
use Rattle.text_forms.specs.Numbers.{IsAsn}
use Rattle.config_model.specs.declared.fault.ConfigKind.{ConfigKind}
use Rattle.config_model.specs.declared.fault.ConfigKind.TheVariants as kind
use Rattle.config_model.specs.declared.sections.Neighbor.{Neighbor}
use Rattle.config_model.specs.declared.sections.StaticRoute.{StaticRoute}
use Rattle.config_model.specs.Sections.{place_of_peer, same_name}
use Rattle.config_reader.specs.declared.keywords.NeighborStatement.{NeighborStatement}
use Rattle.config_reader.specs.declared.keywords.NeighborStatement.TheVariants as says
use Rattle.config_reader.specs.declared.written.Capabilities.{Capabilities}
use Rattle.config_reader.specs.declared.written.Families.{Families}
use Rattle.config_reader.specs.declared.written.Heard.{Heard}
use Rattle.config_reader.specs.declared.written.NeighborRead.{NeighborRead}
use Rattle.config_reader.specs.declared.written.NeighborWritten.{NeighborWritten}
use Rattle.config_reader.specs.declared.written.Ways.{Ways}
use Rattle.config_reader.specs.Rules.{Rule, ◌>>=◌, saying, given, where_so, sign, sign_or, is_sign, until}
use Rattle.config_reader.specs.Words.{word_or, word_ended, any_word, IsHold, IsPort}
use Rattle.config_reader.specs.Capabilities.{no_capability, capabilities_at}
use Rattle.config_reader.specs.Families.{lists, families_at}
use Rattle.config_reader.specs.Heard.{heard_at}
use Rattle.config_reader.specs.Statics.{statics_at}

-- the first word of each statement
abbrev pub neighbor_word : NeighborStatement → List ℕ
neighbor_word says.Description = codes "description"
neighbor_word says.RouterId = codes "router-id"
neighbor_word says.LocalAddress = codes "local-address"
neighbor_word says.LocalAs = codes "local-as"
neighbor_word says.PeerAs = codes "peer-as"
neighbor_word says.HoldTime = codes "hold-time"
neighbor_word says.Connect = codes "connect"
neighbor_word says.Family = codes "family"
neighbor_word says.AddPath = codes "add-path"
neighbor_word says.Capability = codes "capability"
neighbor_word says.Static = codes "static"
neighbor_word says.Api = codes "api"

abbrev pub IsNeighborStatement : List ℕ → NeighborStatement → Type 0
IsNeighborStatement text which = text ≡ neighbor_word which

-- no statement is written
abbrev pub neighbor_unwritten : NeighborWritten
neighbor_unwritten = record {
  description = false;
  router_id = None;
  local = None;
  local_as = None;
  peer_as = None;
  hold = None;
  port = None;
  families = None;
  paths = None;
  capabilities = None;
  statics = [];
  heard = [];
}

-- whether a statement is written that stands once at most
abbrev pub neighbor_has : NeighborWritten → NeighborStatement → Bool
neighbor_has written says.Description = written.description
neighbor_has written says.RouterId = is_some written.router_id
neighbor_has written says.LocalAddress = is_some written.local
neighbor_has written says.LocalAs = is_some written.local_as
neighbor_has written says.PeerAs = is_some written.peer_as
neighbor_has written says.HoldTime = is_some written.hold
neighbor_has written says.Connect = is_some written.port
neighbor_has written says.Family = is_some written.families
neighbor_has written says.AddPath = is_some written.paths
neighbor_has written says.Capability = is_some written.capabilities
neighbor_has written says.Static = false
neighbor_has written says.Api = false

-- whether two addresses have one family
abbrev pub same_family : Addr → Addr → Bool
same_family (V4 m) (V4 n) = true
same_family (V4 m) (V6 n) = false
same_family (V6 m) (V4 n) = false
same_family (V6 m) (V6 n) = true

-- the own address, which has the neighbour's family, and `;`
abbrev pub local_at : Addr → Rule Addr
local_at peer = do
  local ← word_or IsAddrText (λ local. where_so kind.Family (not (same_family local peer)))
  ended ← sign 59
  saying local

-- a word that means nothing, and such words up to `;`
abbrev pub word_passed : Unit {0} → Rule (Unit {0})
word_passed passed = any_word >>= λ next. saying (tt {0})

abbrev pub words_further : Rule (Unit {0})
words_further = until (is_sign 59) word_passed (tt {0})

abbrev pub words_passed : Rule (Unit {0})
words_passed = word_passed tt >>= λ first. words_further >>= λ all. sign 59

-- what stands behind a statement's first word
abbrev pub neighbor_operand : Addr → NeighborWritten → NeighborStatement → Rule NeighborWritten
neighbor_operand peer written says.Description =
    words_passed >>= λ passed. saying (record written { description = true })
neighbor_operand peer written says.RouterId =
    word_ended IsIpv4 >>= λ value. saying (record written { router_id = Some value })
neighbor_operand peer written says.LocalAddress =
    local_at peer >>= λ value. saying (record written { local = Some value })
neighbor_operand peer written says.LocalAs =
    word_ended IsAsn >>= λ value. saying (record written { local_as = Some value })
neighbor_operand peer written says.PeerAs =
    word_ended IsAsn >>= λ value. saying (record written { peer_as = Some value })
neighbor_operand peer written says.HoldTime =
    word_ended IsHold >>= λ value. saying (record written { hold = Some value })
neighbor_operand peer written says.Connect =
    word_ended IsPort >>= λ value. saying (record written { port = Some value })
neighbor_operand peer written says.Family =
    families_at >>= λ value. saying (record written { families = Some value })
neighbor_operand peer written says.AddPath =
    families_at >>= λ value. saying (record written { paths = Some value })
neighbor_operand peer written says.Capability =
    capabilities_at >>= λ value. saying (record written { capabilities = Some value })
neighbor_operand peer written says.Static =
    statics_at written.statics >>= λ value. saying (record written { statics = value })
neighbor_operand peer written says.Api =
    heard_at written.heard >>= λ value. saying (record written { heard = value })

-- a statement
abbrev pub neighbor_statement : Addr → NeighborWritten → Rule NeighborWritten
neighbor_statement peer written = do
  which ← word_or IsNeighborStatement (λ which. where_so kind.Twice (neighbor_has written which))
  neighbor_operand peer written which

-- the number of an IPv4 address, which is the identifier where none is written (RFC 4271, section 4.2)
abbrev pub own_identifier : Addr → Option ℕ
own_identifier (V4 number) = Some number
own_identifier (V6 number) = None

abbrev pub identifier_of : Option ℕ → Addr → Option ℕ
identifier_of (Some written) local = Some written
identifier_of None local = own_identifier local

-- whether a family is on: without a section each is
abbrev pub carries : Option Families → Family → Bool
carries listed family = unwrap_or (option_map (λ families. lists families family) listed) true

-- whether path identifiers of a family are offered in a way: one that the family is on for, and that a section of
-- families for them lists where there is one
abbrev pub offers_path : Bool → NeighborWritten → Family → Bool
offers_path way written family = way && carries written.families family && carries written.paths family

-- the capabilities that are written, and the ways in which path identifiers are offered
abbrev pub capabilities_of : NeighborWritten → Capabilities
capabilities_of written = unwrap_or written.capabilities no_capability

abbrev pub ways_of : NeighborWritten → Ways
ways_of written = unwrap_or (capabilities_of written).paths (record { send = false; receive = false })

-- the settings with what has no default
abbrev pub settings_of : Addr → NeighborWritten → Addr → ℕ → ℕ → ℕ → Settings
settings_of peer written local local_as peer_as router_id = record {
  peer = peer;
  local = local;
  port = unwrap_or written.port 179;
  local_as = local_as;
  peer_as = peer_as;
  router_id = router_id;
  hold = unwrap_or written.hold 180;
  ipv4 = carries written.families Ipv4;
  ipv6 = carries written.families Ipv6;
  ipv4_send = offers_path (ways_of written).send written Ipv4;
  ipv6_send = offers_path (ways_of written).send written Ipv6;
  ipv4_receive = offers_path (ways_of written).receive written Ipv4;
  ipv6_receive = offers_path (ways_of written).receive written Ipv6;
  refresh = unwrap_or (capabilities_of written).refresh true;
  extended = unwrap_or (capabilities_of written).extended false;
}

-- the settings, or none where a statement is missing
abbrev pub settings_written : Addr → NeighborWritten → Option Settings
settings_written peer written =
    option_and_then (λ local. option_and_then (λ local_as. option_and_then (λ peer_as. option_map
    (λ router_id. settings_of peer written local local_as peer_as router_id)
    (identifier_of written.router_id local)) written.peer_as) written.local_as) written.local

-- whether a route's next hop is the own address
abbrev pub is_own : Hop → Bool
is_own Own = true
is_own (Is addr) = false

-- whether two families are one
abbrev pub is_family : Family → Family → Bool
is_family Ipv4 Ipv4 = true
is_family Ipv4 Ipv6 = false
is_family Ipv6 Ipv4 = false
is_family Ipv6 Ipv6 = true

-- a static route whose next hop would be an own address of another family
abbrev pub is_foreign : Settings → StaticRoute → Bool
is_foreign settings route =
    is_own route.attrs.hop && not (is_family (family_of settings.local) (family_of_key route.key))

-- what is wrong at the closing brace: a statement is missing, or there is such a route
abbrev pub neighbor_wrong : Option Settings → NeighborWritten → Option ConfigKind
neighbor_wrong None written = Some kind.Missing
neighbor_wrong (Some settings) written = where_so kind.Family (list_any (is_foreign settings) written.statics)

-- the names that are heard, each at its first place
abbrev pub names_of : List Heard → List (ArrayVec ℕ)
names_of heard = first_places (λ a b. same_name a.items b.items) (map (λ one. one.name) heard)

-- a neighbour, and the names that it hears as they are written
abbrev pub neighbor_read : NeighborWritten → Settings → NeighborRead
neighbor_read written settings = record {
  neighbor = record { settings = settings; statics = written.statics; processes = names_of written.heard };
  heard = written.heard;
}

-- statements up to a closing brace
abbrev pub neighbor_statements : Addr → Rule NeighborWritten
neighbor_statements peer = until (is_sign 125) (neighbor_statement peer) neighbor_unwritten

-- the closing brace, where nothing is wrong
abbrev pub neighbor_closed : Addr → NeighborWritten → Rule NeighborRead
neighbor_closed peer written = do
  closed ← sign_or 125 (neighbor_wrong (settings_written peer written) written)
  given (option_map (neighbor_read written) (settings_written peer written))

-- behind the word `neighbor`: an address that no neighbour before it has, and statements between braces
abbrev pub neighbor_at : List Neighbor → Rule NeighborRead
neighbor_at before = do
  peer ← word_or IsAddrText (λ peer. where_so kind.Twice (is_some (place_of_peer before peer)))
  opened ← sign 123
  written ← neighbor_statements peer
  neighbor_closed peer written

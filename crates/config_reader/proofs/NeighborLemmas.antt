-- What a neighbour's section gives is a neighbour, and each of its static routes is at least one token.
use Rattle.std.proofs.Common.{ℕ, ◌≡◌, ◌+◌, ◌≤◌, ◌&&◌, Bool, true, false, not, is_some, List, [], ◌∷◌, length, Option}
use Rattle.std.proofs.Common.{Some}
use Rattle.std.proofs.Common.{None, refl, sym, ◌∙◌, ap, subst, arith}
use Rattle.std.specs.Prelude.{option_and_then, option_map}
use Rattle.std.specs.List.{AllByRecursion, list_any}
use Rattle.route_values.specs.declared.addr.Addr.{Addr}
use Rattle.route_values.specs.declared.addr.Addr.TheVariants.{V4, V6}
use Rattle.route_values.specs.declared.addr.Family.{Family}
use Rattle.route_values.specs.declared.addr.Family.TheVariants.{Ipv4, Ipv6}
use Rattle.route_values.specs.declared.attrs.Hop.{Hop}
use Rattle.route_values.specs.declared.attrs.Hop.TheVariants.{Own, Is}
use Rattle.route_values.specs.declared.settings.Settings.{Settings}
use Rattle.route_values.specs.Addr.{family_of}
use Rattle.route_values.specs.Key.{family_of_key}
use Rattle.route_values.specs.Sent.{hop_sent}
use Rattle.route_values.specs.Settings.{side_of}
use Rattle.text_forms.specs.Addresses.{IsIpv4}
use Rattle.text_forms.specs.Numbers.{IsAsn}
use Rattle.token_reader.specs.declared.token.Place.{Place}
use Rattle.token_reader.specs.Tokens.{Placed}
use Rattle.config_model.specs.declared.fault.ConfigKind.TheVariants as kind
use Rattle.config_model.specs.declared.sections.Neighbor.{Neighbor}
use Rattle.config_model.specs.declared.sections.StaticRoute.{StaticRoute}
use Rattle.config_model.specs.Drafts.{IsNeighbor, IsRoute}
use Rattle.config_model.specs.Sections.{place_of_peer}
use Rattle.config_reader.specs.declared.keywords.NeighborStatement.{NeighborStatement}
use Rattle.config_reader.specs.declared.keywords.NeighborStatement.TheVariants as says
use Rattle.config_reader.specs.declared.written.NeighborRead.{NeighborRead}
use Rattle.config_reader.specs.declared.written.NeighborWritten.{NeighborWritten}
use Rattle.config_reader.specs.Capabilities.{capabilities_at}
use Rattle.config_reader.specs.Families.{families_at}
use Rattle.config_reader.specs.Heard.{heard_at}
use Rattle.config_reader.specs.Neighbors.{identifier_of, is_family, is_foreign, is_own, local_at, names_of}
use Rattle.config_reader.specs.Neighbors.{neighbor_at, neighbor_closed, neighbor_operand, neighbor_read}
use Rattle.config_reader.specs.Neighbors.{neighbor_statement}
use Rattle.config_reader.specs.Neighbors.{neighbor_unwritten, neighbor_wrong, same_family, settings_of}
use Rattle.config_reader.specs.Neighbors.{settings_written, words_passed}
use Rattle.config_reader.specs.Rules.{Rule, Gives, Until, done, given, is_sign, more, saying, where_so, ◌>>=◌}
use Rattle.config_reader.specs.Statics.{statics_at}
use Rattle.config_reader.specs.Words.{IsHold, IsPort, word_ended}
use Rattle.config_reader.proofs.ItemFitLemmas.{AttrsFit, HopFits}
use Rattle.config_reader.proofs.KeepLemmas.{capabilities_keep, families_keep, heard_keeps, local_keeps}
use Rattle.config_reader.proofs.KeepLemmas.{operand_keeps, passed_keep, sign_keeps}
use Rattle.config_reader.proofs.ProcessLemmas.{ended_keeps}
use Rattle.config_reader.proofs.RuleLemmas.{not_found, not_so}
use Rattle.config_reader.proofs.RouteFitLemmas.{AreRoutes, any_none, none_routes, statics_are, statics_count}
use Rattle.config_reader.proofs.ShrinkLemmas.{Keeps, front_passed, given_keeps}

-- WHAT IS WRITTEN

-- an own address has the neighbour's family, and the static routes are routes
record WrittenFits (peer : Addr) (written : NeighborWritten) : Type 0 where
  local : (addr : Addr) → written.local ≡ Some addr → family_of addr ≡ family_of peer
  routes : AreRoutes written.statics

-- what is said of a value behind a statement
said_fits : {V : Type 0} (P : NeighborWritten → Type 0) (R : Rule V) (say : V → NeighborWritten)
    → ((value : V) (end : Place) (tokens mid : List Placed) → R end tokens (Gives value mid) → P (say value))
    → (end : Place) (tokens rest : List Placed) (after : NeighborWritten)
    → (R >>= λ value. saying (say value)) end tokens (Gives after rest) → P after
said_fits P R say holds end tokens rest after (value, mid, here, is) =
    let same : after ≡ say value = cc in subst P (sym same) (holds value end tokens mid here)

one_family : (local peer : Addr) → where_so kind.Family (not (same_family local peer)) ≡ None
    → family_of local ≡ family_of peer
one_family (V4 m) (V4 n) is = refl
one_family (V4 m) (V6 n) is = absurd (cc)
one_family (V6 m) (V4 n) is = absurd (cc)
one_family (V6 m) (V6 n) is = refl

local_family : (peer local : Addr) (end : Place) (tokens rest : List Placed)
    → local_at peer end tokens (Gives local rest) → family_of local ≡ family_of peer
local_family peer local end tokens rest (read, mid, here, (ended, last, closed, is)) =
    let same : local ≡ read = cc in
    subst (λ (addr : Addr). family_of addr ≡ family_of peer) (sym same) (one_family read peer here.3)

-- a written own address is the one that is put
put_local : (peer local : Addr) → family_of local ≡ family_of peer → (addr : Addr) → Some local ≡ Some addr
    → family_of addr ≡ family_of peer
put_local peer local is addr same =
    let one : addr ≡ local = cc in subst (λ (a : Addr). family_of a ≡ family_of peer) (sym one) is

operand_fits : (peer : Addr) (written : NeighborWritten) (which : NeighborStatement) → WrittenFits peer written
    → (end : Place) (tokens rest : List Placed) (after : NeighborWritten)
    → neighbor_operand peer written which end tokens (Gives after rest) → WrittenFits peer after
operand_fits peer written says.Description fits =
    said_fits (WrittenFits peer) words_passed _
    (λ value end tokens mid here. record { local = fits.local; routes = fits.routes })
operand_fits peer written says.RouterId fits =
    said_fits (WrittenFits peer) (word_ended IsIpv4) _
    (λ value end tokens mid here. record { local = fits.local; routes = fits.routes })
operand_fits peer written says.LocalAddress fits =
    said_fits (WrittenFits peer) (local_at peer) _
    (λ value end tokens mid here. record {
      local = put_local peer value (local_family peer value end tokens mid here);
      routes = fits.routes;
    })
operand_fits peer written says.LocalAs fits =
    said_fits (WrittenFits peer) (word_ended IsAsn) _
    (λ value end tokens mid here. record { local = fits.local; routes = fits.routes })
operand_fits peer written says.PeerAs fits =
    said_fits (WrittenFits peer) (word_ended IsAsn) _
    (λ value end tokens mid here. record { local = fits.local; routes = fits.routes })
operand_fits peer written says.HoldTime fits =
    said_fits (WrittenFits peer) (word_ended IsHold) _
    (λ value end tokens mid here. record { local = fits.local; routes = fits.routes })
operand_fits peer written says.Connect fits =
    said_fits (WrittenFits peer) (word_ended IsPort) _
    (λ value end tokens mid here. record { local = fits.local; routes = fits.routes })
operand_fits peer written says.Family fits =
    said_fits (WrittenFits peer) families_at _
    (λ value end tokens mid here. record { local = fits.local; routes = fits.routes })
operand_fits peer written says.AddPath fits =
    said_fits (WrittenFits peer) families_at _
    (λ value end tokens mid here. record { local = fits.local; routes = fits.routes })
operand_fits peer written says.Capability fits =
    said_fits (WrittenFits peer) capabilities_at _
    (λ value end tokens mid here. record { local = fits.local; routes = fits.routes })
operand_fits peer written says.Static fits =
    said_fits (WrittenFits peer) (statics_at written.statics) _
    (λ value end tokens mid here. record {
      local = fits.local;
      routes = statics_are written.statics value end tokens mid fits.routes here;
    })
operand_fits peer written says.Api fits =
    said_fits (WrittenFits peer) (heard_at written.heard) _
    (λ value end tokens mid here. record { local = fits.local; routes = fits.routes })

written_until : (peer : Addr) (end : Place) (written all : NeighborWritten) (tokens rest : List Placed)
    → WrittenFits peer written
    → Until (is_sign 125) (neighbor_statement peer) end written tokens (Gives all rest) → WrittenFits peer all
written_until peer end written all tokens rest fits (done known left is) = fits
written_until peer end written all tokens rest fits
    (more known after left mid outcome is (which, next, first, second) behind) =
    written_until peer end after all mid rest (operand_fits peer known which fits end next mid after second) behind

unwritten_fits : (peer : Addr) → WrittenFits peer neighbor_unwritten
unwritten_fits peer = record { local = λ addr is. absurd (cc); routes = none_routes }

-- SETTINGS

-- the settings are of the neighbour and of the own address
record SettingsAre (peer : Addr) (local : Option Addr) (settings : Settings) : Type 0 where
  peer_is : settings.peer ≡ peer
  local_is : local ≡ Some settings.local

named_settings : (peer local : Addr) (written : NeighborWritten) (local_as peer_as : ℕ) (id : Option ℕ)
    (settings : Settings)
    → option_map (λ router_id. settings_of peer written local local_as peer_as router_id) id ≡ Some settings
    → SettingsAre peer (Some local) settings
named_settings peer local written local_as peer_as None settings is = absurd (cc)
named_settings peer local written local_as peer_as (Some router_id) settings is =
    let same : settings_of peer written local local_as peer_as router_id ≡ settings = cc in
    record {
      peer_is = sym (ap (λ (s : Settings). s.peer) same);
      local_is = ap (λ (s : Settings). Some s.local) same;
    }

all_settings : (peer : Addr) (written : NeighborWritten) (local : Option Addr) (local_as peer_as : Option ℕ)
    (settings : Settings)
    → option_and_then (λ addr. option_and_then (λ own. option_and_then (λ other. option_map
    (λ router_id. settings_of peer written addr own other router_id)
    (identifier_of written.router_id addr)) peer_as) local_as) local ≡ Some settings
    → SettingsAre peer local settings
all_settings peer written None local_as peer_as settings is = absurd (cc)
all_settings peer written (Some addr) None peer_as settings is = absurd (cc)
all_settings peer written (Some addr) (Some own) None settings is = absurd (cc)
all_settings peer written (Some addr) (Some own) (Some other) settings is =
    named_settings peer addr written own other (identifier_of written.router_id addr) settings is

settings_are : (peer : Addr) (written : NeighborWritten) (settings : Settings)
    → settings_written peer written ≡ Some settings → SettingsAre peer written.local settings
settings_are peer written settings is =
    all_settings peer written written.local written.local_as written.peer_as settings is

-- THE SECTION

-- at the closing brace there are settings, and no route is foreign to them
record Closed (peer : Addr) (written : NeighborWritten) (one : NeighborRead) : Type 0 where
  settings : Settings
  are : SettingsAre peer written.local settings
  one_is : one ≡ neighbor_read written settings
  home : list_any (is_foreign settings) written.statics ≡ false

closed_by : (peer : Addr) (written : NeighborWritten) (option : Option Settings) (one : NeighborRead) (end : Place)
    (mid rest : List Placed) → ((settings : Settings) → option ≡ Some settings
    → SettingsAre peer written.local settings)
    → neighbor_wrong option written ≡ None → given (option_map (neighbor_read written) option) end mid (Gives one rest)
    → Closed peer written one
closed_by peer written None one end mid rest are right is = absurd is
closed_by peer written (Some settings) one end mid rest are right is = record {
  settings = settings;
  are = are settings refl;
  one_is = cc;
  home = not_so kind.Family (list_any (is_foreign settings) written.statics) right;
}

closed : (peer : Addr) (written : NeighborWritten) (one : NeighborRead) (end : Place) (tokens rest : List Placed)
    → neighbor_closed peer written end tokens (Gives one rest) → Closed peer written one
closed peer written one end tokens rest (ended, mid, here, is) =
    closed_by peer written (settings_written peer written) one end mid rest (settings_are peer written) here.3 is

same_families : (one other : Family) → not (is_family one other) ≡ false → one ≡ other
same_families Ipv4 Ipv4 is = refl
same_families Ipv4 Ipv6 is = absurd (cc)
same_families Ipv6 Ipv4 is = absurd (cc)
same_families Ipv6 Ipv6 is = refl

hop_family : (settings : Settings) (family : Family) (hop : Hop) → HopFits family hop
    → is_own hop && not (is_family (family_of settings.local) family) ≡ false
    → family_of (hop_sent hop (side_of settings)) ≡ family
hop_family settings family Own fits is = same_families (family_of settings.local) family is
hop_family settings family (Is addr) fits is = fits

routes_are : (settings : Settings) (routes : List StaticRoute)
    → AllByRecursion (λ (route : StaticRoute). AttrsFit (family_of_key route.key) route.attrs) routes
    → AllByRecursion (λ (route : StaticRoute). is_foreign settings route ≡ false) routes
    → AllByRecursion (IsRoute settings) routes
routes_are settings [] fit home = tt
routes_are settings (route ∷ routes) (this, these) (here, others) = (
  record { family = hop_family settings (family_of_key route.key) route.attrs.hop this.hop here; limits = this.limits },
  routes_are settings routes these others,
)

is_neighbor : (peer : Addr) (written : NeighborWritten) (settings : Settings) → WrittenFits peer written
    → SettingsAre peer written.local settings → list_any (is_foreign settings) written.statics ≡ false
    → IsNeighbor (neighbor_read written settings).neighbor
is_neighbor peer written settings fits are home = record {
  family = fits.local settings.local are.local_is ∙ sym (ap family_of are.peer_is);
  keys = fits.routes.keys;
  routes = routes_are settings written.statics fits.routes.each
      (any_none (is_foreign settings) written.statics home);
}

-- the section is one of a neighbour
pub neighbor_is : (before : List Neighbor) (one : NeighborRead) (end : Place) (tokens rest : List Placed)
    → neighbor_at before end tokens (Gives one rest) → IsNeighbor one.neighbor
neighbor_is before one end tokens rest (peer, mid, here, (opened, next, second, (written, last, third, is))) =
    let end_is = closed peer written one end last rest is in
    subst (λ (read : NeighborRead). IsNeighbor read.neighbor) (sym end_is.one_is)
    (is_neighbor peer written end_is.settings
    (written_until peer end neighbor_unwritten written next last (unwritten_fits peer) third) end_is.are
    end_is.home)

-- and its address is new
pub neighbor_new : (before : List Neighbor) (one : NeighborRead) (end : Place) (tokens rest : List Placed)
    → neighbor_at before end tokens (Gives one rest) → place_of_peer before one.neighbor.settings.peer ≡ None
neighbor_new before one end tokens rest (peer, mid, here, (opened, next, second, (written, last, third, is))) =
    let end_is = closed peer written one end last rest is in
    let peer_is : one.neighbor.settings.peer ≡ peer =
    ap (λ (read : NeighborRead). read.neighbor.settings.peer) end_is.one_is ∙ end_is.are.peer_is in
    subst (λ (addr : Addr). place_of_peer before addr ≡ None) (sym peer_is)
    (not_found (place_of_peer before peer) here.3)

-- COUNTS

said_counts : {V : Type 0} (R : Rule V) (say : V → NeighborWritten) (count : ℕ) → Keeps R
    → ((value : V) → length (say value).statics ≡ count) → (end : Place) (tokens rest : List Placed)
    (after : NeighborWritten) → (R >>= λ value. saying (say value)) end tokens (Gives after rest)
    → length after.statics + length rest ≤ count + length tokens
said_counts R say count keeps same end tokens rest after (value, mid, here, is) =
    let after_is : after ≡ say value = cc in
    let rest_is : rest ≡ mid = cc in
    omega (
      arith,
      ap (λ (w : NeighborWritten). length w.statics) after_is,
      ap length rest_is,
      same value,
      keeps end tokens mid value here,
    )

static_counts : (peer : Addr) (written : NeighborWritten) (end : Place) (tokens rest : List Placed)
    (after : NeighborWritten) → neighbor_operand peer written says.Static end tokens (Gives after rest)
    → length after.statics + length rest ≤ length written.statics + length tokens
static_counts peer written end tokens rest after (value, mid, here, is) =
    let after_is : after ≡ record written { statics = value } = cc in
    let rest_is : rest ≡ mid = cc in
    omega (
      arith,
      ap (λ (w : NeighborWritten). length w.statics) after_is,
      ap length rest_is,
      statics_count written.statics value end tokens mid here,
    )

operand_counts : (peer : Addr) (written : NeighborWritten) (which : NeighborStatement) (end : Place)
    (tokens rest : List Placed) (after : NeighborWritten)
    → neighbor_operand peer written which end tokens (Gives after rest)
    → length after.statics + length rest ≤ length written.statics + length tokens
operand_counts peer written says.Description =
    said_counts words_passed _ (length written.statics) passed_keep (λ value. refl)
operand_counts peer written says.RouterId =
    said_counts (word_ended IsIpv4) _ (length written.statics) (ended_keeps IsIpv4) (λ value. refl)
operand_counts peer written says.LocalAddress =
    said_counts (local_at peer) _ (length written.statics) (local_keeps peer) (λ value. refl)
operand_counts peer written says.LocalAs =
    said_counts (word_ended IsAsn) _ (length written.statics) (ended_keeps IsAsn) (λ value. refl)
operand_counts peer written says.PeerAs =
    said_counts (word_ended IsAsn) _ (length written.statics) (ended_keeps IsAsn) (λ value. refl)
operand_counts peer written says.HoldTime =
    said_counts (word_ended IsHold) _ (length written.statics) (ended_keeps IsHold) (λ value. refl)
operand_counts peer written says.Connect =
    said_counts (word_ended IsPort) _ (length written.statics) (ended_keeps IsPort) (λ value. refl)
operand_counts peer written says.Family =
    said_counts families_at _ (length written.statics) families_keep (λ value. refl)
operand_counts peer written says.AddPath =
    said_counts families_at _ (length written.statics) families_keep (λ value. refl)
operand_counts peer written says.Capability =
    said_counts capabilities_at _ (length written.statics) capabilities_keep (λ value. refl)
operand_counts peer written says.Static = static_counts peer written
operand_counts peer written says.Api =
    said_counts (heard_at written.heard) _ (length written.statics) (heard_keeps written.heard) (λ value. refl)

written_counts : (peer : Addr) (end : Place) (written all : NeighborWritten) (tokens rest : List Placed)
    → Until (is_sign 125) (neighbor_statement peer) end written tokens (Gives all rest)
    → length all.statics + length rest ≤ length written.statics + length tokens
written_counts peer end written all tokens rest (done known left is) = omega arith
written_counts peer end written all tokens rest
    (more known after left mid outcome is (which, next, first, second) behind) =
    omega (
      arith,
      front_passed left next first.0 first.1 first.4,
      operand_counts peer known which end next mid after second,
      written_counts peer end after all mid rest behind,
    )

-- no more static routes than tokens are read
pub neighbor_counts : (before : List Neighbor) (one : NeighborRead) (end : Place) (tokens rest : List Placed)
    → neighbor_at before end tokens (Gives one rest)
    → length one.neighbor.statics + length rest ≤ length tokens
neighbor_counts before one end tokens rest
    (peer, mid, here, (opened, next, second, (written, last, third, (ended, behind, fourth, is)))) =
    let end_is = closed peer written one end last rest (ended, behind, fourth, is) in
    omega (
      arith,
      ap (λ (read : NeighborRead). length read.neighbor.statics) end_is.one_is,
      front_passed tokens mid here.0 here.1 here.4,
      sign_keeps 123 end mid next opened second,
      written_counts peer end neighbor_unwritten written next last third,
      front_passed last behind fourth.0 fourth.1 fourth.4,
      given_keeps (option_map (neighbor_read written) (settings_written peer written)) end behind rest one is,
    )

-- a neighbour hears the names that are written, each once
pub neighbor_names : (before : List Neighbor) (one : NeighborRead) (end : Place) (tokens rest : List Placed)
    → neighbor_at before end tokens (Gives one rest) → one.neighbor.processes ≡ names_of one.heard
neighbor_names before one end tokens rest (peer, mid, here, (opened, next, second, (written, last, third, is))) =
    let end_is = closed peer written one end last rest is in
    subst (λ (read : NeighborRead). read.neighbor.processes ≡ names_of read.heard) (sym end_is.one_is) refl

-- the section gives no token back
pub neighbor_keeps : (before : List Neighbor) → Keeps (neighbor_at before)
neighbor_keeps before end tokens rest one is = omega (arith, neighbor_counts before one end tokens rest is)

-- What a reload does to the neighbours, which are matched by their addresses.
use Rattle.std.specs.Prelude.{Bool, not, ◌==◌, ◌&&◌, List, map, filter, is_some}
use Rattle.std.specs.List.{list_any}
use Rattle.std.specs.Bool.{beq}
use Rattle.route_values.specs.declared.addr.Addr.{Addr}
use Rattle.route_values.specs.declared.settings.Settings.{Settings}
use Rattle.route_values.specs.Key.{same_addr}
use Rattle.config_model.specs.declared.plan.Plan.{Plan}
use Rattle.config_model.specs.declared.plan.Standing.{Standing}
use Rattle.config_model.specs.declared.plan.Standing.TheVariants.{Same, Changed, Absent}
use Rattle.config_model.specs.declared.sections.Neighbor.{Neighbor}
use Rattle.config_model.specs.Sections.{Sections, place_of_peer}

-- whether two neighbours' sessions carry the same
abbrev pub same_offer : Settings → Settings → Bool
same_offer a b =
    beq a.ipv4 b.ipv4 && beq a.ipv6 b.ipv6
    && beq a.ipv4_send b.ipv4_send && beq a.ipv6_send b.ipv6_send
    && beq a.ipv4_receive b.ipv4_receive && beq a.ipv6_receive b.ipv6_receive
    && beq a.refresh b.refresh && beq a.extended b.extended

-- whether two settings are the same
abbrev pub same_settings : Settings → Settings → Bool
same_settings a b =
    same_addr a.peer b.peer && same_addr a.local b.local && a.port == b.port
    && a.local_as == b.local_as && a.peer_as == b.peer_as && a.router_id == b.router_id && a.hold == b.hold
    && same_offer a b

-- whether a neighbour of this address stands among others
abbrev pub stands : List Neighbor → Neighbor → Bool
stands others neighbor = is_some (place_of_peer others neighbor.settings.peer)

-- whether one with the same settings does, the address among them
abbrev pub stands_same : List Neighbor → Neighbor → Bool
stands_same others neighbor = list_any (λ other. same_settings other.settings neighbor.settings) others

-- how a neighbour stands among others
abbrev pub has_standing : Standing → List Neighbor → Neighbor → Bool
has_standing Same others neighbor = stands_same others neighbor
has_standing Changed others neighbor = stands others neighbor && not (stands_same others neighbor)
has_standing Absent others neighbor = not (stands others neighbor)

-- the addresses of those neighbours that stand so among others
abbrev pub peers_with : Standing → List Neighbor → List Neighbor → List Addr
peers_with standing others neighbors =
    map (λ neighbor. neighbor.settings.peer) (filter (has_standing standing others) neighbors)

-- what a reload does
abbrev pub plan_of : Sections → Sections → Plan
plan_of old new = record {
  keep = peers_with Same new.neighbors old.neighbors;
  reset = peers_with Changed new.neighbors old.neighbors;
  add = peers_with Absent old.neighbors new.neighbors;
  remove = peers_with Absent new.neighbors old.neighbors;
}

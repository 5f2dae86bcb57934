-- Small tables, on which the definitions are worked out.
use Rattle.std.proofs.Common.{◌≡◌, ℕ, true, false, [], ◌∷◌, Option, Some, None, refl}
use Rattle.route_values.specs.declared.addr.Addr.TheVariants.{V4, V6}
use Rattle.route_values.specs.declared.addr.Family.TheVariants.{Ipv4, Ipv6}
use Rattle.route_values.specs.declared.attrs.Hop.TheVariants.{Is}
use Rattle.route_values.specs.declared.key.Key.{Key}
use Rattle.route_values.specs.declared.settings.Side.{Side}
use Rattle.route_values.specs.Attrs.{unwritten}
use Rattle.route_values.specs.Caps.{flags}
use Rattle.route_values.specs.Sent.{sent}
use Rattle.adj_rib_out.specs.declared.entry.Owner.TheVariants.{Helper}
use Rattle.adj_rib_out.specs.State.{State, Row, is_ready, route_at, told_at, shown_at, is_refreshed, route_of}
use Rattle.adj_rib_out.specs.Batch.{owed_markers}
use Rattle.adj_rib_out.specs.Calls.{again, fresh, is_open}
use Rattle.adj_rib_out.specs.Nodes.{pair_at, is_node, is_kept, nodes, next_of}
use Rattle.adj_rib_out.specs.Nodes.Next.{Ends, Nothing}

-- 10.0.0.0/24 with an identifier, and 2001:db8::/32
abbrev ten : ℕ → Key
ten id = record { prefix = record { addr = V4 167772160; len = 24 }; id = id }

abbrev documentation : Key
documentation = record { prefix = record { addr = V6 42540766411282592856903984951653826560; len = 32 }; id = 0 }

abbrev side : Side
side = record { local = V4 3221225993; local_as = 65001; peer_as = 65002 }

abbrev row : Key → Option Row
row key = Some (record { key = key; route = Some (route_of side (unwritten (Is (V4 3221225985))) Helper); told = None })

-- two keys of one prefix and one of IPv6, on a session of IPv4 without identifiers
abbrev table : State
table = record {
  side = side;
  rows = row (ten 7) ∷ None ∷ row (ten 0) ∷ row documentation ∷ [];
  values = [];
  session = Some (fresh (flags true false false false false));
  left = [];
  markers = [];
}

ready : is_ready table (ten 7) ≡ true
ready = refl

not_ready : is_ready table (ten 5) ≡ false
not_ready = refl

-- a route of an identifier stands in the table, and isn't shown
stands : route_at table (ten 7) ≡ Some (route_of side (unwritten (Is (V4 3221225985))) Helper)
stands = refl

withheld : shown_at table (ten 7) ≡ None
withheld = refl

shown : shown_at table (ten 0) ≡ Some (sent (unwritten (Is (V4 3221225985))) side)
shown = refl

of_no_family : shown_at table documentation ≡ None
of_no_family = refl

nothing_told : told_at table (ten 0) ≡ None
nothing_told = refl

-- the first batch owes the marker of each family that is carried, IPv4 first
one_marker : owed_markers table.session ≡ Ipv4 ∷ []
one_marker = refl

two_markers : owed_markers (Some (fresh (flags true true false false false))) ≡ Ipv4 ∷ Ipv6 ∷ []
two_markers = refl

no_session : owed_markers None ≡ []
no_session = refl

refreshed : is_refreshed (Some (again Ipv6 (fresh (flags true true false false false)))) Ipv6 ≡ true
refreshed = refl

not_refreshed : is_refreshed (Some (again Ipv6 (fresh (flags true true false false false)))) Ipv4 ≡ false
not_refreshed = refl

closed : is_open table ≡ false
closed = refl

at_place : pair_at table 2 ≡ Some (ten 0, route_of side (unwritten (Is (V4 3221225985))) Helper)
at_place = refl

at_free_place : pair_at table 1 ≡ None
at_free_place = refl

behind_all : pair_at table 4 ≡ None
behind_all = refl

node : is_node table (ten 7) ≡ true
node = refl

not_kept : is_kept table (ten 7) ≡ false
not_kept = refl

three_nodes : nodes table ≡ 3
three_nodes = refl

marker_next : next_of [] (Ipv4 ∷ Ipv6 ∷ []) ≡ Ends Ipv4
marker_next = refl

nothing_next : next_of [] [] ≡ Nothing
nothing_next = refl

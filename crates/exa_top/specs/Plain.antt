-- The configuration of commands that name no file: one process, and one neighbour that it may speak to.
use Rattle.std.specs.Prelude.{ℕ, codes, true, false, [], ◌∷◌}
use Rattle.route_values.specs.declared.addr.Addr.TheVariants.{V4}
use Rattle.route_values.specs.declared.settings.Settings.{Settings}
use Rattle.config_model.specs.declared.sections.Neighbor.{Neighbor}
use Rattle.config_model.specs.declared.sections.Process.{Process}
use Rattle.config_model.specs.Sections.{Sections, sections}

-- a session with 127.0.0.1 between these AS numbers, from this address: it offers IPv4 alone, and the defaults
abbrev pub plain_settings : ℕ → ℕ → ℕ → Settings
plain_settings local_as peer_as local = record {
  peer = V4 2130706433;
  local = V4 local;
  port = 179;
  local_as = local_as;
  peer_as = peer_as;
  router_id = local;
  hold = 180;
  ipv4 = true;
  ipv6 = false;
  ipv4_send = false;
  ipv6_send = false;
  ipv4_receive = false;
  ipv6_receive = false;
  refresh = true;
  extended = false;
}

-- the process `h`, which is run by that word
abbrev pub plain_process : Process
plain_process =
    record { name = record { items = codes "h" }; run = record { items = codes "h" }; json = false; respawn = true }

-- the neighbour, which hears the process
abbrev pub plain_neighbor : ℕ → ℕ → ℕ → Neighbor
plain_neighbor local_as peer_as local = record {
  settings = plain_settings local_as peer_as local;
  statics = [];
  processes = record { items = codes "h" } ∷ [];
}

-- both
abbrev pub plain_sections : ℕ → ℕ → ℕ → Sections
plain_sections local_as peer_as local =
    sections (plain_process ∷ []) (plain_neighbor local_as peer_as local ∷ [])

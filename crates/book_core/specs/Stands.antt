-- When a book stands for a history of the daemon.
use Rattle.std.specs.Prelude.{ℕ, ◌≡◌, ◌≤◌, List, [], map, length, slice_get, Option, Some, None}
use Rattle.std.specs.List.{flat_map, IsDistinct}
use Rattle.std.specs.Option.{option_to_list}
use Rattle.arrayvec.specs.ArrayVec.{ArrayVec}
use Rattle.route_values.specs.Key.{same_addr}
use Rattle.config_model.specs.declared.sections.Neighbor.{Neighbor}
use Rattle.config_model.specs.Limits.{max_helpers, max_peers}
use Rattle.config_model.specs.Sections.{Sections, same_name}
use Rattle.helper_book.specs.Seen.{Seen as Helper}
use Rattle.helper_book.specs.Stands as of_helper
use Rattle.peer_book.specs.Stands as of_peer
use Rattle.book_history.specs.Bounds.{max_nodes}
use Rattle.book_history.specs.Entries.{History}
use Rattle.book_history.specs.Legal.{IsLegal, is_reload_due}
use Rattle.book_history.specs.Nodes.{nodes}
use Rattle.book_history.specs.PeerSteps.{steps_of}
use Rattle.book_history.specs.Slots.{helper_slots, neighbor_at, peer_slots}
use Rattle.book_history.specs.Verdicts.{is_stopping}
use Rattle.book_core.specs.declared.peering.Peering.{Peering}
use Rattle.book_core.specs.Seen.{Seen}

-- the names of the processes that a slot's neighbour hears
abbrev pub names_heard : Option Neighbor → List (ArrayVec ℕ)
names_heard None = []
names_heard (Some neighbor) = neighbor.processes

-- the n-th neighbour slot stands for its steps, and hears whom its neighbour hears
pub record PeerStands (cfg : Sections) (H : History) (n : ℕ) (peering : Peering) : Type 0 where
  pub slot : of_peer.Stands (steps_of cfg n H) peering.slot
  pub names : peering.names ≡ names_heard (neighbor_at cfg H n)

-- each neighbour slot stands
abbrev pub PeersStand : Sections → History → List Peering → Type 0
PeersStand cfg H peers =
    (n : ℕ) (peering : Peering) → slice_get peers n ≡ Some peering → PeerStands cfg H n peering

-- each helper slot stands
abbrev pub HelpersStand : Sections → History → List Helper → Type 0
HelpersStand cfg H helpers =
    (h : ℕ) (helper : Helper) → slice_get helpers h ≡ Some helper → of_helper.Stands cfg H h helper

-- it is known whether the daemon ends, and whether a reload is due
pub record DaemonStands (H : History) (book : Seen) : Type 0 where
  pub stopping : book.stopping ≡ is_stopping H
  pub reload_due : book.reload_due ≡ is_reload_due H

-- what stands in slots
abbrev pub filled : {A : Type 0} → List (Option A) → List A
filled slots = flat_map option_to_list slots

-- No more slots were ever used than there are, and no two hold the same neighbour or the same process. So a reload
-- finds a vacant slot for each new section.
pub record AreSlots (cfg : Sections) (H : History) : Type 0 where
  pub few_helpers : length (helper_slots cfg H) ≤ max_helpers
  pub few_peers : length (peer_slots cfg H) ≤ max_peers
  pub names : IsDistinct same_name (map (λ process. process.name.items) (filled (helper_slots cfg H)))
  pub addrs : IsDistinct same_addr (map (λ neighbor. neighbor.settings.peer) (filled (peer_slots cfg H)))

-- the history is one that a book may have: each answer was allowed, and the bound on route nodes was kept
pub record IsHeld (cfg : Sections) (H : History) : Type 0 where
  pub legal : IsLegal cfg H
  pub bounded : nodes cfg H ≤ max_nodes
  pub slots : AreSlots cfg H

-- A book stands for a history of a configuration. How many route nodes there are isn't kept: each slot tells its own.
pub record Stands (cfg : Sections) (H : History) (book : Seen) : Type 0 where
  pub helpers : HelpersStand cfg H book.helpers
  pub peers : PeersStand cfg H book.peers
  pub daemon : DaemonStands H book
  pub held : IsHeld cfg H

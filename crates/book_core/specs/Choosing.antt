-- Which neighbour slots a command is for, by what the book keeps of them.
use Rattle.std.specs.Prelude.{ℕ, ◌≡◌, ◌&&◌, Bool, true, false, List, [], slice_get, Option, Some, None}
use Rattle.std.specs.List.{list_any}
use Rattle.std.specs.Option.{option_map}
use Rattle.arrayvec.specs.ArrayVec.{ArrayVec}
use Rattle.route_values.specs.declared.addr.Family.{Family}
use Rattle.route_values.specs.declared.pick.Pick.{Pick}
use Rattle.route_values.specs.declared.settings.Settings.{Settings}
use Rattle.command_grammar.specs.declared.command.Command.{Command}
use Rattle.command_grammar.specs.declared.command.Command.TheVariants as command
use Rattle.config_model.specs.declared.sections.Neighbor.{Neighbor}
use Rattle.config_model.specs.declared.sections.Process.{Process}
use Rattle.config_model.specs.Sections.{same_name}
use Rattle.book_history.specs.declared.outcomes.Verdict.{Verdict}
use Rattle.book_history.specs.declared.outcomes.Verdict.TheVariants as verdict
use Rattle.book_history.specs.Selecting.{has_own_hop, is_picked, own_family, pick_of}
use Rattle.book_core.specs.declared.peering.Peering.{Peering}

-- whether a neighbour with these settings that hears these names is meant by a process's selector
abbrev pub is_meant : Option Process → List Pick → Option Family → Option Settings → List (ArrayVec ℕ)
    → Bool
is_meant None pick family settings names = false
is_meant (Some process) pick family None names = false
is_meant (Some process) pick family (Some own) names =
    list_any (λ name. same_name name.items process.name.items) names && is_picked pick own && has_own_hop family own

-- a section with these settings that hears these names
abbrev pub section_of : Settings → List (ArrayVec ℕ) → Neighbor
section_of settings names = record { settings = settings; statics = []; processes = names }

-- the same of a command's selector, if it has one
abbrev pub is_meant_by : Option Process → Option Family → Option (List Pick) → Peering → Bool
is_meant_by process family None peering = false
is_meant_by process family (Some pick) peering = is_meant process pick family peering.slot.settings peering.names

-- whether a command of a process is for a neighbour slot
abbrev pub is_chosen : Option Process → Command → Peering → Bool
is_chosen process given peering = is_meant_by process (own_family given) (pick_of given) peering

-- whether each neighbour slot is chosen, by the numbers of the slots
abbrev pub AreChosen : Option Process → Command → List Peering → List Bool → Type 0
AreChosen process given peers chosen =
    (n : ℕ) → slice_get chosen n
    ≡ option_map (is_chosen process given) (slice_get peers n)

-- whether a line is done
abbrev pub is_done : Verdict → Bool
is_done verdict.Done = true
is_done _ = false

-- whether a command ends the daemon, and whether one asks for a reload
abbrev pub is_shutdown : Command → Bool
is_shutdown command.Shutdown = true
is_shutdown _ = false

abbrev pub is_reload : Command → Bool
is_reload command.Reload = true
is_reload _ = false

-- whether a command may add route nodes
abbrev pub is_announce : Command → Bool
is_announce (command.Announce pick keys attrs) = true
is_announce _ = false

-- whether a command asks for routes to be shown
abbrev pub is_show : Command → Bool
is_show (command.Show pick within) = true
is_show _ = false

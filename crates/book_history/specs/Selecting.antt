-- Which neighbours a helper's command is for, by tests that compute.
use Rattle.std.specs.Prelude.{ℕ, ◌&&◌, Bool, true, false, nat_eq, List, [], ◌∷◌, Option, Some, None}
use Rattle.std.specs.List.{list_any}
use Rattle.route_values.specs.declared.addr.Family.{Family}
use Rattle.route_values.specs.declared.attrs.Hop.{Hop}
use Rattle.route_values.specs.declared.attrs.Hop.TheVariants.{Own, Is}
use Rattle.route_values.specs.declared.key.Key.{Key}
use Rattle.route_values.specs.declared.pick.Pick.{Pick}
use Rattle.route_values.specs.declared.settings.Settings.{Settings}
use Rattle.route_values.specs.Addr.{family_of}
use Rattle.route_values.specs.Key.{family_of_key, same_addr}
use Rattle.peer_history.specs.Same.{same_family}
use Rattle.command_grammar.specs.declared.command.Command.{Command}
use Rattle.command_grammar.specs.declared.command.Command.TheVariants as command
use Rattle.config_model.specs.declared.sections.Neighbor.{Neighbor}
use Rattle.config_model.specs.declared.sections.Process.{Process}
use Rattle.config_model.specs.Sections.{Sections, same_name}
use Rattle.book_history.specs.Entries.{History}
use Rattle.book_history.specs.Slots.{neighbor_at, process_at}

-- a qualifier that isn't written is no condition
abbrev pub is_so : {A : Type 0} → (A → A → Bool) → Option A → A → Bool
is_so same None setting = true
is_so same (Some written) setting = same written setting

-- whether a pick means a neighbour with these settings
abbrev pub is_match : Pick → Settings → Bool
is_match pick settings =
    same_addr pick.peer settings.peer && is_so same_addr pick.local settings.local
    && is_so nat_eq pick.local_as settings.local_as && is_so nat_eq pick.peer_as settings.peer_as
    && is_so nat_eq pick.router_id settings.router_id

-- whether a selector does; the empty one means every neighbour
abbrev pub is_picked : List Pick → Settings → Bool
is_picked [] settings = true
is_picked (p ∷ ps) settings = list_any (λ pick. is_match pick settings) (p ∷ ps)

-- whether the own address has the family of a command with `next-hop self`
abbrev pub has_own_hop : Option Family → Settings → Bool
has_own_hop None settings = true
has_own_hop (Some family) settings = same_family family (family_of settings.local)

-- whether a slot's neighbour hears a slot's process, and the command is for it
abbrev pub is_selected : Option Process → List Pick → Option Family → Option Neighbor → Bool
is_selected None pick family neighbor = false
is_selected (Some process) pick family None = false
is_selected (Some process) pick family (Some neighbor) =
    list_any (λ name. same_name name.items process.name.items) neighbor.processes
    && is_picked pick neighbor.settings && has_own_hop family neighbor.settings

-- the selector of a command; none of one that is for no neighbour
abbrev pub pick_of : Command → Option (List Pick)
pick_of (command.Announce pick keys attrs) = Some pick
pick_of (command.Withdraw pick keys) = Some pick
pick_of (command.Flush pick) = Some pick
pick_of (command.Clear pick) = Some pick
pick_of (command.Show pick within) = Some pick
pick_of (command.Teardown pick sub) = Some pick
pick_of _ = None

-- the family of the first key
abbrev pub first_family : List Key → Option Family
first_family [] = None
first_family (k ∷ ks) = Some (family_of_key k)

-- the family that the own address has to have for these keys
abbrev pub family_of_hop : Hop → List Key → Option Family
family_of_hop Own keys = first_family keys
family_of_hop (Is addr) keys = None

abbrev pub own_family : Command → Option Family
own_family (command.Announce pick keys attrs) = family_of_hop attrs.hop keys
own_family _ = None

-- whether a command with this selector is for the neighbour in the n-th slot
abbrev pub selects_by : Sections → History → ℕ → Option Family → Option (List Pick) → ℕ → Bool
selects_by cfg H h family None n = false
selects_by cfg H h family (Some pick) n = is_selected (process_at cfg H h) pick family (neighbor_at cfg H n)

-- whether a command of the helper in slot h selects the neighbour in slot n
abbrev pub selects : Sections → History → ℕ → Command → ℕ → Bool
selects cfg H h given n = selects_by cfg H h (own_family given) (pick_of given) n

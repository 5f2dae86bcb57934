-- What is shown of tables.
use Rattle.std.specs.Prelude.{ℕ, ◌-◌, ◌/◌, ◌^◌, ◌&&◌, Bool, true, not, List, [], filter, nat_lt, nat_eq}
use Rattle.std.specs.Prelude.{Option, Some, None, if◌then◌else◌}
use Rattle.std.specs.List.{flat_map}
use Rattle.std.specs.Option.{option_map, option_to_list}
use Rattle.route_values.specs.declared.key.Key.{Key}
use Rattle.route_values.specs.declared.settings.Settings.{Settings}
use Rattle.route_values.specs.Addr.{family_of, number_of, width_of}
use Rattle.route_values.specs.Prefix.{Block}
use Rattle.route_values.specs.Sent.{hop_sent}
use Rattle.route_values.specs.Settings.{side_of}
use Rattle.ack_queue.specs.declared.reply.Shown.{Shown}
use Rattle.command_grammar.specs.declared.command.Command.{Command}
use Rattle.command_grammar.specs.declared.command.Command.TheVariants as command
use Rattle.config_model.specs.Sections.{Sections}
use Rattle.peer_history.specs.Ordered.{wanted_keys}
use Rattle.peer_history.specs.Same.{same_family}
use Rattle.peer_history.specs.Steps.{Step}
use Rattle.peer_history.specs.Table.{Route, want, settings_in, is_of_helper}
use Rattle.book_history.specs.Bounds.{peer_numbers}
use Rattle.book_history.specs.Entries.{History}
use Rattle.book_history.specs.PeerSteps.{steps_of}
use Rattle.book_history.specs.Selecting.{selects}

-- the first bits of a prefix's address, as a number
abbrev pub first_bits : ℕ → Block → ℕ
first_bits len prefix = number_of prefix.addr / 2 ^ (width_of prefix.addr - len)

-- whether a prefix lies in another of its family
abbrev pub lies_in : Block → Block → Bool
lies_in outer inner =
    same_family (family_of outer.addr) (family_of inner.addr) && not (nat_lt inner.len outer.len)
    && nat_eq (first_bits outer.len inner) (first_bits outer.len outer)

-- whether a key is to be shown, where its prefix has to lie in another or not
abbrev pub is_within : Option Block → Key → Bool
is_within None key = true
is_within (Some outer) key = lies_in outer key.prefix

-- a route as a helper sees it
abbrev pub shown_as : Settings → Key → Route → Shown
shown_as settings key route = record {
  peer = settings.peer;
  key = key;
  hop = hop_sent route.attrs.hop (side_of settings);
  fixed = not (is_of_helper (Some route));
}

-- the routes of one slot's table, in the order of their keys
abbrev pub shown_of : Option Block → List Step → Option Settings → List Shown
shown_of within steps None = []
shown_of within steps (Some settings) = flat_map (λ key.
    option_to_list (option_map (shown_as settings key) (want steps key)))
    (filter (is_within within) (wanted_keys steps))

-- the routes of the neighbours that a command selects, slot by slot
abbrev pub shown_by : Sections → History → ℕ → Command → Option Block → List Shown
shown_by cfg H h given within = flat_map (λ n. if selects cfg H h given n
    then shown_of within (steps_of cfg n H) (settings_in (steps_of cfg n H)) else []) peer_numbers

-- what a command asks to be shown
abbrev pub shown : Sections → History → ℕ → Command → List Shown
shown cfg H h (command.Show pick within) = shown_by cfg H h (command.Show pick within) within
shown cfg H h _ = []

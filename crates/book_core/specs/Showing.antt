-- Routes that are shown, by what the slots stand for.
use Rattle.std.specs.Prelude.{ℕ, ◌≡◌, Bool, true, false, List, [], ◌∷◌, length, filter, slice_get, if◌then◌else◌}
use Rattle.std.specs.Prelude.{Option, Some, None, Ok}
use Rattle.std.specs.List.{flat_map}
use Rattle.std.specs.Option.{option_map, option_to_list}
use Rattle.text_forms.specs.Lines.{Line}
use Rattle.route_values.specs.declared.key.Key.{Key}
use Rattle.route_values.specs.declared.settings.Settings.{Settings}
use Rattle.route_values.specs.Prefix.{Block}
use Rattle.ack_queue.specs.declared.reply.Shown.{Shown}
use Rattle.command_grammar.specs.declared.command.Command.{Command}
use Rattle.command_grammar.specs.Readings.{Says}
use Rattle.config_model.specs.Sections.{Sections}
use Rattle.adj_rib_out.specs.declared.entry.Owner.{Owner as Keeper}
use Rattle.adj_rib_out.specs.declared.entry.Owner.TheVariants as keeper
use Rattle.adj_rib_out.specs.State as table
use Rattle.peer_book.specs.Stands as of_peer
use Rattle.peer_history.specs.Ordered.{wanted_keys}
use Rattle.peer_history.specs.Steps.{Step}
use Rattle.peer_history.specs.Table.{settings_in, want}
use Rattle.book_history.specs.declared.outcomes.Verdict.{Verdict}
use Rattle.book_history.specs.declared.outcomes.Verdict.TheVariants as verdict
use Rattle.book_history.specs.Bounds.{numbers_from}
use Rattle.book_history.specs.Entries.{History}
use Rattle.book_history.specs.Entries.Entry.{LineEntered}
use Rattle.book_history.specs.Legal.{Allows}
use Rattle.book_history.specs.Shows.{is_within, shown, shown_as, shown_of}
use Rattle.book_history.specs.Verdicts.{overflows, reading_verdict}
use Rattle.book_core.specs.declared.peering.Peering.{Peering}
use Rattle.book_core.specs.Carrying.{is_among}
use Rattle.book_core.specs.Lines.{IsInTime}
use Rattle.book_core.specs.Seen.{Seen}
use Rattle.book_core.specs.Stands.{Stands}

-- each neighbour slot stands for its steps
abbrev pub AllStand : (ℕ → List Step) → List Peering → Type 0
AllStand steps peers =
    (n : ℕ) (peering : Peering) → slice_get peers n ≡ Some peering → of_peer.Stands (steps n) peering.slot

-- what is shown of a slot, which is chosen or isn't
abbrev pub shown_if : Bool → Option Block → List Step → List Shown
shown_if so within steps = if so then shown_of within steps (settings_in steps) else []

-- what is shown of the first slots, so many of them
abbrev pub shown_below : ℕ → List Bool → Option Block → (ℕ → List Step) → List Shown
shown_below many chosen within steps =
    flat_map (λ n. shown_if (is_among chosen n) within (steps n)) (numbers_from 0 many)

-- what is counted of all slots, and what is listed, is what they show
abbrev pub AreCounted : List Peering → List Bool → Option Block → ℕ → Type 0
AreCounted peers chosen within count =
    (steps : ℕ → List Step) → AllStand steps peers → count ≡ length (shown_below (length peers) chosen within steps)

abbrev pub AreListed : List Peering → List Bool → Option Block → List Shown → Type 0
AreListed peers chosen within routes =
    (steps : ℕ → List Step) → AllStand steps peers → routes ≡ shown_below (length peers) chosen within steps

-- the keys of a slot's routes that are shown, in their order
abbrev pub keys_shown : Option Block → List Step → List Key
keys_shown within steps = filter (is_within within) (wanted_keys steps)

-- the route of a key as it is shown, if there is one
abbrev pub shown_one : Settings → List Step → Key → List Shown
shown_one settings steps key = option_to_list (option_map (shown_as settings key) (want steps key))

-- those of several keys
abbrev pub shown_each : Settings → List Step → List Key → List Shown
shown_each settings steps keys = flat_map (shown_one settings steps) keys

-- the key of a pair of a table, if it is shown
abbrev pub key_shown : Option Block → Option (Key × table.Route) → Option Key
key_shown within None = None
key_shown within (Some pair) = if is_within within pair.0 then Some pair.0 else None

-- whether a route is the configuration's
abbrev pub is_fixed : Keeper → Bool
is_fixed keeper.Static = true
is_fixed keeper.Helper = false

-- A line in time that asks for these routes, and has no other verdict than whether its replies fit, has this verdict,
-- and the book then stands.
abbrev pub Tells : ℕ → Command → List Shown → Verdict → Seen → Seen → Type 0
Tells h given routes answer old new =
    (cfg : Sections) (H : History) (inc : ℕ) (line : Line) → Says line (Ok given) → IsInTime cfg H h inc
    → routes ≡ shown cfg H h given → reading_verdict cfg H h inc line (Ok given)
    ≡ (if overflows cfg H h inc given then verdict.Busy else verdict.Done) → Stands cfg H old
    → Allows cfg H (LineEntered h inc line (Ok given) answer)
    × Stands cfg (LineEntered h inc line (Ok given) answer ∷ H) new

-- The table that a neighbour is to have: what was asked for, and of it what its session carries, as it is sent.
use Rattle.std.specs.Prelude.{◌==◌, ◌&&◌, ◌||◌, Bool, true, false, List, [], ◌∷◌, if◌then◌else◌}
use Rattle.std.specs.Prelude.{Option, Some, None}
use Rattle.std.specs.Option.{option_map, option_and_then}
use Rattle.route_values.specs.declared.attrs.Attrs.{Attrs}
use Rattle.route_values.specs.declared.attrs.WireAttrs.{WireAttrs}
use Rattle.route_values.specs.declared.key.Key.{Key}
use Rattle.route_values.specs.declared.settings.Settings.{Settings}
use Rattle.route_values.specs.Caps.{Caps}
use Rattle.route_values.specs.Key.{family_of_key, same_key}
use Rattle.route_values.specs.Sent.{sent}
use Rattle.route_values.specs.Settings.{side_of}
use Rattle.route_values.specs.Visible.{has_family, has_path}
use Rattle.peer_history.specs.Keys.{is_named}
use Rattle.peer_history.specs.Steps.{Step, Static}
use Rattle.peer_history.specs.Steps.Step.{Announced, Withdrawn, Cleared, Placed, Kept, Vacated}

-- who asked for a route: the configuration, or a helper
pub data Owner : Type 0 where
  Configuration : Owner
  Helper : Owner

-- a route of the table: its attributes as they are written, and who asked for it
pub record Route : Type 0 where
  pub attrs : Attrs
  pub owner : Owner

-- whether a helper asked for what stands at a key
abbrev pub is_of_helper : Option Route → Bool
is_of_helper None = false
is_of_helper (Some route) = elim route.owner [ Configuration ↦ false | Helper ↦ true ]

-- the static route at a key
abbrev pub static_at : List Static → Key → Option Route
static_at [] key = None
static_at (s ∷ ss) key =
    if same_key s.key key then Some (record { attrs = s.attrs; owner = Configuration }) else static_at ss key

-- what the last step that speaks of the key gives; a section that is read anew speaks of each key that no helper owns
abbrev pub want : List Step → Key → Option Route
want [] key = None
want (Announced keys attrs ∷ steps) key =
    if is_named keys key then Some (record { attrs = attrs; owner = Helper }) else want steps key
want (Withdrawn keys ∷ steps) key = if is_named keys key then None else want steps key
want (Cleared ∷ steps) key = None
want (Placed settings statics ∷ steps) key = static_at statics key
want (Kept settings statics ∷ steps) key =
    if is_of_helper (want steps key) then want steps key else static_at statics key
want (Vacated ∷ steps) key = None
want (_ ∷ steps) key = want steps key

-- the settings of the neighbour in the slot
abbrev pub settings_in : List Step → Option Settings
settings_in [] = None
settings_in (Placed settings statics ∷ steps) = Some settings
settings_in (Kept settings statics ∷ steps) = Some settings
settings_in (Vacated ∷ steps) = None
settings_in (_ ∷ steps) = settings_in steps

-- whether a session carries the key
abbrev pub is_visible : Caps → Key → Bool
is_visible caps key =
    has_family caps (family_of_key key) && (key.id == 0 || has_path caps (family_of_key key))

-- a route as it is sent under these settings
abbrev pub route_sent : Option Settings → Option Route → Option WireAttrs
route_sent settings route = option_and_then (λ own. option_map (λ r. sent r.attrs (side_of own)) route) settings

-- the table as a session shows it: of each key that it carries the attributes as they are sent
abbrev pub view : Caps → List Step → Key → Option WireAttrs
view caps steps key = if is_visible caps key then route_sent (settings_in steps) (want steps key) else None

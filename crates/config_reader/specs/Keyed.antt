-- Static routes with their keys beside them, and parts of a route's rule.
use Rattle.std.specs.Prelude.{◌≡◌, List, [], ◌∷◌, ◌++◌}
use Rattle.std.specs.List.{list_any}
use Rattle.route_values.specs.declared.key.Key.{Key}
use Rattle.route_values.specs.Key.{same_key}
use Rattle.route_values.specs.Prefix.{Block}
use Rattle.route_grammar.specs.declared.fault.LineFault.{LineFault}
use Rattle.route_grammar.specs.declared.fault.LineFault.TheVariants.{BadToken, TooMany, TooLong}
use Rattle.route_grammar.specs.declared.items.Items.{Items}
use Rattle.config_model.specs.declared.fault.ConfigKind.{ConfigKind}
use Rattle.config_model.specs.declared.fault.ConfigKind.TheVariants as kind
use Rattle.config_model.specs.declared.sections.StaticRoute.{StaticRoute}
use Rattle.config_reader.specs.Rules.{Rule, ◌>>=◌, saying, sign_or}
use Rattle.config_reader.specs.Statics.{stood, route_of, route_wrong}

-- a key is among these exactly where a route has it
abbrev pub AreKeys : List Key → List StaticRoute → Type 0
AreKeys keys routes = (key : Key) → list_any (same_key key) keys ≡ stood routes key

-- the kind of a fault that the items' reader names
abbrev pub kind_of : LineFault → ConfigKind
kind_of (BadToken place) = kind.Token
kind_of (TooMany place limit) = kind.Many
kind_of TooLong = kind.Token

-- behind a route's items
abbrev pub route_ended : List StaticRoute → Block → Items → Rule (List StaticRoute)
route_ended routes block items =
    sign_or 59 (route_wrong routes block items) >>= λ ended. saying (routes ++ route_of block items ∷ [])

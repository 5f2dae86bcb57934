-- Static routes: a prefix and items, as in a line that announces it.
use Rattle.std.specs.Prelude.{◌≡◌, Bool, true, false, not, codes, List, [], ◌∷◌, ◌++◌, map, Option, Some, None}
use Rattle.std.specs.Prelude.{if◌then◌else◌}
use Rattle.std.specs.List.{list_any}
use Rattle.route_values.specs.declared.key.Key.{Key}
use Rattle.route_values.specs.declared.addr.Family.{Family}
use Rattle.route_values.specs.Addr.{family_of}
use Rattle.route_values.specs.Key.{same_key}
use Rattle.route_values.specs.Prefix.{Block}
use Rattle.text_forms.specs.Families.{IsBlockText}
use Rattle.token_reader.specs.Tokens.{Placed, front_place}
use Rattle.route_grammar.specs.declared.items.Items.{Items}
use Rattle.route_grammar.specs.Answered.{Reads, Faults}
use Rattle.route_grammar.specs.Items.{ReadsItems, items_further}
use Rattle.route_grammar.specs.Limits.{Counted, in_force}
use Rattle.config_model.specs.declared.fault.ConfigKind.{ConfigKind}
use Rattle.config_model.specs.declared.fault.ConfigKind.TheVariants as kind
use Rattle.config_model.specs.declared.sections.StaticRoute.{StaticRoute}
use Rattle.config_reader.specs.Rules.{Rule, Gives, Stops, ◌>>=◌, saying, fault_at, sign, sign_or, is_sign, until}
use Rattle.config_reader.specs.Words.{word, keyword}

-- the kind of a fault in items: one element too many of a list, or a token that goes on with no reading
abbrev pub kind_over : Option Counted → ConfigKind
kind_over None = kind.Token
kind_over (Some which) = kind.Many

-- items of a route of a family, as the grammar of items has them
abbrev pub items_at : Family → Rule Items
items_at family end tokens (Gives items rest) =
    Reads (ReadsItems (Some family)) items_further in_force tokens rest items
items_at family end tokens (Stops fault) =
    (left : List Placed) × (over : Option Counted)
    × Faults (ReadsItems (Some family)) items_further in_force tokens left over
    × (fault ≡ fault_at (kind_over over) (front_place left end))

-- the route of a prefix and its items
abbrev pub route_of : Block → Items → StaticRoute
route_of block items = record { key = record { prefix = block; id = items.id }; attrs = items.attrs }

-- whether a route's key stood before
abbrev pub stood : List StaticRoute → Key → Bool
stood routes key = list_any (λ route. same_key route.key key) routes

-- what is wrong at a route's `;`: there is no next hop, or its key stood before
abbrev pub route_wrong : List StaticRoute → Block → Items → Option ConfigKind
route_wrong routes block items =
    if not items.has_hop then Some kind.Token else
    if stood routes (route_of block items).key then Some kind.Twice else None

-- a route behind those before it
abbrev pub route_statement : List StaticRoute → Rule (List StaticRoute)
route_statement routes = do
  first ← keyword (codes "route")
  block ← word IsBlockText
  items ← items_at (family_of block.addr)
  ended ← sign_or 59 (route_wrong routes block items)
  saying (routes ++ route_of block items ∷ [])

-- routes between braces, behind those of earlier sections
abbrev pub statics_at : List StaticRoute → Rule (List StaticRoute)
statics_at routes = do
  opened ← sign 123
  all ← until (is_sign 125) route_statement routes
  closed ← sign 125
  saying all

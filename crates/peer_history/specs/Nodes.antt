-- The route nodes of a neighbour: the keys that a table has to keep something for.
use Rattle.std.specs.Prelude.{◌||◌, Bool, false, List, Option, Some, None, is_some}
use Rattle.route_values.specs.declared.key.Key.{Key}
use Rattle.route_values.specs.Caps.{Caps}
use Rattle.peer_history.specs.Batches.{opened}
use Rattle.peer_history.specs.Sessions.{live, peer}
use Rattle.peer_history.specs.Steps.{Step}
use Rattle.peer_history.specs.Table.{want, view}

-- whether the key is in the target of a batch that was opened after this history
abbrev pub is_targeted : Caps → Option (List Step) → Key → Bool
is_targeted caps None key = false
is_targeted caps (Some before) key = is_some (view caps before key)

-- whether the live session still needs the key: its peer has it, or is to get it by the open batch
abbrev pub is_held : Option Caps → List Step → Key → Bool
is_held None steps key = false
is_held (Some caps) steps key = is_some (peer caps steps key) || is_targeted caps (opened steps) key

-- whether the key is a node: it is in the table, or the live session needs it
abbrev pub is_node : List Step → Key → Bool
is_node steps key = is_some (want steps key) || is_held (live steps) steps key

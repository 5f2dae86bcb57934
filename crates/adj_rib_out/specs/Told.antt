-- What answers tell of a table, and what is left of its open batch as the items of a batch.
use Rattle.std.specs.Prelude.{ℕ, List, ◌++◌, map, Option, Some, None}
use Rattle.route_values.specs.declared.attrs.WireAttrs.{WireAttrs}
use Rattle.route_values.specs.declared.key.Key.{Key}
use Rattle.batch_cutter.specs.declared.batch.Due.{Due}
use Rattle.batch_cutter.specs.declared.batch.Due.TheVariants as due
use Rattle.batch_cutter.specs.Items as batch
use Rattle.adj_rib_out.specs.declared.entry.Entry.{Entry}
use Rattle.adj_rib_out.specs.State.{State, Route, Item}
use Rattle.adj_rib_out.specs.Nodes.{Next, Says, Ends, Nothing}

-- the route that an entry shows
abbrev pub route_told : Entry → Route
route_told entry = record { written = entry.written.now; attrs = entry.attrs.now; owner = entry.owner }

-- a key with its route, where both stand
abbrev pub pair_if : Option Key → Option Route → Option (Key × Route)
pair_if None route = None
pair_if (Some key) None = None
pair_if (Some key) (Some route) = Some (key, route)

-- what is due, with what references show
abbrev pub next_told : Due → Next
next_told (due.Gone key) = Says (record { key = key.now; says = None })
next_told (due.Here number key attrs) = Says (record { key = key.now; says = Some (number, attrs.now) })
next_told (due.End family) = Ends family
next_told due.Empty = Nothing

-- what is said of a key, as an item of a batch
abbrev pub item_by : Key → Option (ℕ × WireAttrs) → batch.Item
item_by key None = batch.Gone key
item_by key (Some said) = batch.Here said.0 key said.1

abbrev pub batch_item : Item → batch.Item
batch_item item = item_by item.key item.says

-- what is left of the open batch: keys, and the markers behind them
abbrev pub items_left : State → List batch.Item
items_left state = map batch_item state.left ++ map batch.End state.markers

-- Tables as lists of keys in their order.
use Rattle.std.specs.Prelude.{◌≡◌, Bool, List, [], ◌∷◌, ◌++◌, map, filter, if◌then◌else◌, is_some}
use Rattle.std.specs.declared.cmp.Ordering.TheVariants.{Less, Equal, Greater}
use Rattle.route_values.specs.declared.key.Key.{Key}
use Rattle.route_values.specs.Order.{key_cmp}
use Rattle.peer_history.specs.Keys.{is_named, times_named}
use Rattle.peer_history.specs.Nodes.{is_node}
use Rattle.peer_history.specs.Steps.{Step}
use Rattle.peer_history.specs.Steps.Step.{Announced, Placed, Kept}
use Rattle.peer_history.specs.Table.{want}

-- a key put before the first that is greater
abbrev pub put_before : Key → List Key → List Key
put_before key [] = key ∷ []
put_before key (k ∷ ks) = elim (key_cmp key k) [
  | Less ↦ key ∷ k ∷ ks
  | Equal ↦ k ∷ put_before key ks
  | Greater ↦ k ∷ put_before key ks
]

-- keys in their order, each once
abbrev pub in_order : List Key → List Key
in_order [] = []
in_order (k ∷ ks) = if is_named ks k then in_order ks else put_before k (in_order ks)

-- the keys that anyone asked for
abbrev pub asked_for : List Step → List Key
asked_for [] = []
asked_for (Announced keys attrs ∷ steps) = keys ++ asked_for steps
asked_for (Placed settings statics ∷ steps) = map (λ s. s.key) statics ++ asked_for steps
asked_for (Kept settings statics ∷ steps) = map (λ s. s.key) statics ++ asked_for steps
asked_for (_ ∷ steps) = asked_for steps

-- the keys of the table, in their order
abbrev pub wanted_keys : List Step → List Key
wanted_keys steps = filter (λ key. is_some (want steps key)) (in_order (asked_for steps))

-- the route nodes, in their order
abbrev pub node_keys : List Step → List Key
node_keys steps = filter (is_node steps) (in_order (asked_for steps))

-- the list has just the keys that pass the test, each once
abbrev pub AreThose : (Key → Bool) → List Key → Type 0
AreThose test keys = (key : Key) → times_named keys key ≡ (if test key then 1 else 0)

-- Groups of nodes, in order.
use Rattle.std.specs.Prelude.{ℕ, List, [], ◌∷◌, ◌++◌, ◌==◌, if◌then◌else◌, Option, Some, None, slice_get}
use Rattle.std.specs.Option.{option_map}
use Rattle.linked_pending.specs.declared.pending.Place.{Place}
use Rattle.linked_pending.specs.Listing.{has, without}

-- a group: its number, and its nodes in the order in which they joined
pub record Group : Type 0 where
  pub number : ℕ
  pub nodes : List ℕ

-- the group of this number that has these nodes
abbrev pub group_with : ℕ → List ℕ → Group
group_with number nodes = record { number = number; nodes = nodes }

-- the groups with a node at the end of its group, and that group at the list's end where it is new
abbrev pub with_node : ℕ → ℕ → List Group → List Group
with_node number node [] = group_with number (node ∷ []) ∷ []
with_node number node (first ∷ rest) =
    if number == first.number then group_with first.number (first.nodes ++ node ∷ []) ∷ rest
    else first ∷ with_node number node rest

-- the group before the others, or the others alone where it has no node
abbrev pub unless_empty : ℕ → List ℕ → List Group → List Group
unless_empty number [] others = others
unless_empty number (first ∷ rest) others = group_with number (first ∷ rest) ∷ others

-- the groups without a node, and without its group where it has no other
abbrev pub without_node : ℕ → List Group → List Group
without_node node [] = []
without_node node (first ∷ rest) =
    unless_empty first.number (without node first.nodes) (without_node node rest)

-- the number of the group that a node is in
abbrev pub group_of : ℕ → List Group → Option ℕ
group_of node [] = None
group_of node (first ∷ rest) = if has node first.nodes then Some first.number else group_of node rest

-- the first node of the first group
abbrev pub front_of : List Group → Option Place
front_of [] = None
front_of (first ∷ rest) =
    option_map (λ node. record { group = first.number; node = node }) (slice_get first.nodes 0)

-- all nodes of the groups, in order
abbrev pub nodes_of : List Group → List ℕ
nodes_of [] = []
nodes_of (first ∷ rest) = first.nodes ++ nodes_of rest

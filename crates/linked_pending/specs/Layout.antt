-- Groups in one flat list of places: for each group its nodes, and then a place that marks its end.
use Rattle.std.specs.Prelude.{◌≡◌, ℕ, ◌+◌, ◌-◌, ◌*◌, ◌/◌, ◌%◌, Bool, true, false, ◌||◌, List, [], ◌∷◌, ◌==◌}
use Rattle.std.specs.Prelude.{if◌then◌else◌, ⊤}
use Rattle.linked_pending.specs.Listing.{has, put_before}
use Rattle.linked_pending.specs.Links.{link}
use Rattle.linked_pending.specs.Group.{Group, group_with}

-- where a node stands: at an odd place
abbrev pub node_place : ℕ → ℕ
node_place node = 2 * node + 1

-- where a group's end stands: at an even place, and not at 0
abbrev pub end_place : ℕ → ℕ
end_place number = 2 * number + 2

-- the places of the nodes, before other places
abbrev pub node_places : List ℕ → List ℕ → List ℕ
node_places [] others = others
node_places (first ∷ rest) others = node_place first ∷ node_places rest others

-- the groups as one list of places
abbrev pub flat : List Group → List ℕ
flat [] = []
flat (first ∷ rest) = node_places first.nodes (end_place first.number ∷ flat rest)

-- the places with a group's end, at the list's end where it is new
abbrev pub opened : ℕ → List ℕ → List ℕ
opened end places = if has end places then places else put_before 0 end places

-- the groups with a node before the first group's nodes
abbrev pub onto_first : ℕ → List Group → List Group
onto_first node [] = []
onto_first node (first ∷ rest) = group_with first.number (node ∷ first.nodes) ∷ rest

-- the groups that a list of places shows, read from its end
abbrev pub parse : List ℕ → List Group
parse [] = []
parse (first ∷ rest) =
    if (first % 2) == 0 then group_with (first / 2 - 1) [] ∷ parse rest else onto_first (first / 2) (parse rest)

-- whether a group has this number
abbrev pub has_group : ℕ → List Group → Bool
has_group number [] = false
has_group number (first ∷ rest) = (number == first.number) || has_group number rest

-- whether a node is in a group
abbrev pub has_node : ℕ → List Group → Bool
has_node node [] = false
has_node node (first ∷ rest) = has node first.nodes || has_node node rest

-- whether there is no node
abbrev pub is_empty : List ℕ → Bool
is_empty [] = true
is_empty (first ∷ rest) = false

-- each group has a node, and no number stands twice
abbrev pub AreFull : List Group → Type 0
AreFull [] = ⊤
AreFull (first ∷ rest) =
    (is_empty first.nodes ≡ false) × (has_group first.number rest ≡ false) × AreFull rest

-- each node is in the group that the table gives
abbrev pub AreMembers : List ℕ → List Group → Type 0
AreMembers table [] = ⊤
AreMembers table (first ∷ rest) =
    ((node : ℕ) → has node first.nodes ≡ true → link table node ≡ first.number) × AreMembers table rest

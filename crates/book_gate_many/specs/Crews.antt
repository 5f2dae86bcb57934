-- The first pass of a gate and those that were split off it.
use Rattle.std.specs.Prelude.{◌≡◌, ℕ, List, [], length, Some, Contains, map}
use Rattle.book_gate.specs.Known.{TableId, Known}
use Rattle.book_gate_many.specs.declared.tally.Added.{Added}
use Rattle.book_gate_many.specs.Many.{child_names}
use Rattle.book_gate_many.specs.Adding.{HasAdded}

module _ {A E : Type 0} where
  -- The names of passes
  abbrev pub names_of : List (Known A E) → List (List ℕ)
  names_of passes = map (λ pass. pass.name) passes

  -- A pass of this gate that gave out no name and has none joined into it
  pub record IsLeaf (gate : TableId) (pass : Known A E) : Type 0 where
    pub gate_is : pass.gate ≡ gate
    pub split_is : pass.split ≡ []
    pub joined_is : pass.joined ≡ []

  -- The first pass of a gate, which has seen nothing and gave out the names of the others alone, which are leaves
  pub record IsCrew (gate : TableId) (start : A) (pass : Known A E) (others : List (Known A E)) : Type 0 where
    pub gate_is : pass.gate ≡ gate
    pub start_is : pass.start ≡ Some start
    pub name_is : pass.name ≡ []
    pub seen_is : pass.seen ≡ []
    pub joined_is : pass.joined ≡ []
    pub split_is : pass.split ≡ child_names [] 0 (length others)
    pub names_are : names_of others ≡ child_names [] 0 (length others)
    pub leaves : (other : Known A E) → Contains others other → IsLeaf gate other

-- Each of the passes made this many entries, all of which added 1
abbrev pub HaveAdded : ℕ → List (Known ℕ Added) → Type 0
HaveAdded times passes = (pass : Known ℕ Added) → Contains passes pass → HasAdded times pass

-- What is told of the items of a list.
use Rattle.std.specs.Prelude.{List, [], ◌∷◌}
use Rattle.std.specs.declared.option.Option.{Option}
use Rattle.std.specs.declared.option.Option.TheVariants.{Some, None}

module _ {B : Type 0} where
  -- an item before others, where all are told
  abbrev pub joined : Option B → Option (List B) → Option (List B)
  joined None others = None
  joined (Some first) None = None
  joined (Some first) (Some others) = Some (first ∷ others)

module _ {A B : Type 0} where
  -- what the items tell, where each tells it
  abbrev pub told_in : (A → Option B) → List A → Option (List B)
  told_in tell [] = Some []
  told_in tell (first ∷ others) = joined (tell first) (told_in tell others)

  -- the same, where the list is told
  abbrev pub all_told : (A → Option B) → Option (List A) → Option (List B)
  all_told tell None = None
  all_told tell (Some items) = told_in tell items

-- Lists of what was told grow by an item.
use Rattle.std.proofs.Common.{◌≡◌, List, [], ◌∷◌, ◌++◌, ap, refl, map}
use Rattle.std.proofs.lemmas.List.{map-append}
use Rattle.std.specs.declared.option.Option.{Option}
use Rattle.std.specs.declared.option.Option.TheVariants.{Some, None}
use Rattle.outside.specs.Ended.{Gathers}
use Rattle.outside.specs.Rolls.{joined, told_in, all_told}

module _ {A B : Type 0} where
  -- what is read of a list with one more item is what was read before and what is read of the item
  pub map_more :
      (read : A → B) (before : List A) (item : A) →
      map read (before ++ item ∷ []) ≡ map read before ++ read item ∷ []
  map_more read before item = map-append read before (item ∷ [])

module _ {B : Type 0} where
  -- what a head joins to both sides keeps the step between them
  head_joins :
      (head : Option B) (old new : Option (List B)) (item : Option B) →
      Gathers old new item → Gathers (joined head old) (joined head new) item
  head_joins None old new item step = tt
  head_joins (Some first) old None item step = tt
  head_joins (Some first) old (Some now) None step = absurd step
  head_joins (Some first) None (Some now) (Some item) step = absurd step
  head_joins (Some first) (Some was) (Some now) (Some item) step = ap (λ rest. first ∷ rest) step

  -- the first item
  head_alone : (head : Option B) → Gathers (Some []) (joined head (Some [])) head
  head_alone None = tt
  head_alone (Some first) = refl

module _ {A B : Type 0} where
  -- what is told of a list grows by what is told of one more item
  pub told_more :
      (tell : A → Option B) (before : List A) (item : A) →
      Gathers (told_in tell before) (told_in tell (before ++ item ∷ [])) (tell item)
  told_more tell [] item = head_alone (tell item)
  told_more tell (first ∷ others) item =
      head_joins (tell first) _ _ (tell item) (told_more tell others item)

  -- the same where the list itself is told
  pub all_told_more :
      (tell : A → Option B) (old new : Option (List A)) (item : A) →
      Gathers old new (Some item) → Gathers (all_told tell old) (all_told tell new) (tell item)
  all_told_more tell old None item step = tt
  all_told_more tell None (Some now) item step = absurd step
  all_told_more tell (Some was) (Some now) item step =
      rw step (told_more tell was item)

-- Told bytes grow and shrink piece by piece, and a count that was counted up has risen.
use Rattle.std.proofs.Common.{ℕ, ◌≡◌, List, [], ◌∷◌, ◌++◌, ◌∙◌, sym, ap, append_assoc, arith}
use Rattle.std.specs.declared.option.Option.{Option}
use Rattle.std.specs.declared.option.Option.TheVariants.{Some, None}
use Rattle.outside.specs.Told.{Grows, Shrinks, Rose, GaveNothing, counted}
use Rattle.outside.specs.Ended.{Gathers}

-- by two pieces, one behind the other
pub grows_more :
    (old mid new : Option (List ℕ)) (first second : List ℕ) →
    Grows old mid first → Grows mid new second → Grows old new (first ++ second)
grows_more old mid None first second before after = tt
grows_more old None (Some now) first second before after = absurd after
grows_more None (Some then) (Some now) first second before after = absurd before
grows_more (Some was) (Some then) (Some now) first second before after =
    after ∙ ap (λ bytes. bytes ++ second) before ∙ append_assoc was first second

-- by two pieces, one behind the other
pub shrinks_more :
    (old mid new : Option (List ℕ)) (first second : List ℕ) →
    Shrinks old mid first → Shrinks mid new second → Shrinks old new (first ++ second)
shrinks_more None None None first second before after = tt
shrinks_more None None (Some now) first second before after = absurd after
shrinks_more None (Some then) new first second before after = absurd before
shrinks_more (Some was) None new first second before after = absurd before
shrinks_more (Some was) (Some then) None first second before after = absurd after
shrinks_more (Some was) (Some then) (Some now) first second before after =
    before ∙ ap (λ bytes. first ++ bytes) after ∙ sym (append_assoc first second now)

-- a count of one more has risen
pub counted_rose : (before now : ℕ) → now ≡ counted before → Rose before now
counted_rose before now is = omega arith

-- a list that grows by an item grows by the piece that is that item
pub item_grows :
    (old new : Option (List ℕ)) (item : ℕ) → Gathers old new (Some item) → Grows old new (item ∷ [])
item_grows old None item step = tt
item_grows None (Some now) item step = absurd step
item_grows (Some was) (Some now) item step = step

-- where nothing is told to have been given, nothing was given
pub none_given : (told : Option (List ℕ)) → told ≡ Some [] → GaveNothing told
none_given None is = tt
none_given (Some bytes) is = cc

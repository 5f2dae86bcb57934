-- What follows from what an answer that may be None is.
use Rattle.std.proofs.Common.{◌≡◌, Option, Some, None, refl}
use Rattle.std.specs.Option.{option_map, option_and_then}

-- a mapped answer is a value only by a value
pub record IsMapped {A B : Type 0} (f : A → B) (answer : Option A) (y : B) : Type 0 where
  pub value : A
  pub answer_is : answer ≡ Some value
  pub gives : f value ≡ y

pub mapped : {A B : Type 0} (f : A → B) (answer : Option A) (y : B) → option_map f answer ≡ Some y
    → IsMapped f answer y
mapped f None y is = absurd (cc)
mapped f (Some x) y is = record { value = x; answer_is = refl; gives = cc }

-- an answer and then another are a value only by both
pub record AreBoth {A B : Type 0} (f : A → Option B) (answer : Option A) (y : B) : Type 0 where
  pub value : A
  pub answer_is : answer ≡ Some value
  pub gives : f value ≡ Some y

pub both : {A B : Type 0} (f : A → Option B) (answer : Option A) (y : B) → option_and_then f answer ≡ Some y
    → AreBoth f answer y
both f None y is = absurd (cc)
both f (Some x) y is = record { value = x; answer_is = refl; gives = is }

-- Steps of making, seen in places that are pushed to.
use Rattle.std.proofs.Common.{ℕ, ◌≡◌, ◌+◌, ◌≤◌, List, [], ◌∷◌, ◌++◌, length, ap, sym, subst, ◌∙◌, arith}
use Rattle.std.specs.Prelude.{map, reverse}
use Rattle.std.proofs.lemmas.List.{length-map, length-reverse}
use Rattle.crew.specs.Jobs.{Job}
use Rattle.daemon.specs.declared.stock.Stock.{Stock}
use Rattle.daemon.specs.Making.{MovesHelpers, MovesPeers}
use Rattle.daemon.proofs.MakingLemmas.{pushed}

-- as many jobs as places
counted : {X J : Type 0} (f : X → J) (xs : List X) → length (reverse (map f xs)) ≡ length xs
counted f xs = length-reverse (map f xs) ∙ length-map xs f

-- what is left to be made fits in the places
pub space_stays : {X J : Type 0} (f : X → J) (old new : List X) (left left' room room' : ℕ)
    → left' + length (reverse (map f new)) ≡ left + length (reverse (map f old)) → length old + left ≤ room
    → room' ≡ room → length new + left' ≤ room'
space_stays f old new left left' room room' counts fits same =
    let p : length (reverse (map f old)) ≡ length old = counted f old in
    let q : length (reverse (map f new)) ≡ length new = counted f new in
    omega (arith, p, q, counts, fits, same)

module _ {F S D E C X : Type 0} (f : X → Job F S D E C) (old new : Stock S D E) (xs ys : List X) (x : X) where
  -- one more place
  pub talker_added : ys ≡ xs ++ x ∷ [] → MovesPeers old (reverse (map f xs)) new (f x ∷ reverse (map f xs))
      → MovesPeers old (reverse (map f xs)) new (reverse (map f ys))
  talker_added is moves =
      subst (λ (jobs : List (Job F S D E C)). MovesPeers old (reverse (map f xs)) new jobs)
      (sym (pushed f xs ys x is)) moves

  -- two more places
  pub slot_added : (clock : C) (zs : List X) (y : X) → ys ≡ xs ++ x ∷ [] → zs ≡ ys ++ y ∷ []
      → MovesHelpers clock old (reverse (map f xs)) new (f y ∷ f x ∷ reverse (map f xs))
      → MovesHelpers clock old (reverse (map f xs)) new (reverse (map f zs))
  slot_added clock zs y is then moves =
      subst (λ (jobs : List (Job F S D E C)). MovesHelpers clock old (reverse (map f xs)) new jobs)
      (sym (pushed f ys zs y then ∙ ap (λ (jobs : List (Job F S D E C)). f y ∷ jobs) (pushed f xs ys x is))) moves

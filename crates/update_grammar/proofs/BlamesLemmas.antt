-- What an answer that blames a fault, or finds no memory, tells of a definition.
use Rattle.std.proofs.Common.{◌≡◌, Option, Some, None, Result, Err}
use Rattle.answers.specs.Gives.{Blames}

-- where another definition has each fault of the first, the answer blames it for that one too
pub blames_along : {Y Z F : Type 0} (blamed : Option F) (first : Result Y F) (second : Result Z F)
    → ((fault : F) → first ≡ Err fault → second ≡ Err fault) → Blames blamed first → Blames blamed second
blames_along (Some fault) first second along is = along fault is
blames_along None first second along is = tt

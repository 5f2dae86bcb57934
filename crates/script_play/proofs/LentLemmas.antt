-- As many sources are out as before.
use Rattle.std.proofs.Common.{ℕ, Option, Some, None, refl, ◌∙◌}
use Rattle.outside.specs.Lent.{LendsNone}

pub lent_same : (lent : Option ℕ) → LendsNone lent lent
lent_same None = tt
lent_same (Some out) = refl

pub lent_on : (lent between later : Option ℕ) → LendsNone lent between → LendsNone between later → LendsNone lent later
lent_on lent between None first second = tt
lent_on lent None (Some now) first second = absurd second
lent_on None (Some then) (Some now) first second = absurd first
lent_on (Some was) (Some then) (Some now) first second = second ∙ first

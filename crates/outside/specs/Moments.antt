-- The moments that a clock may read.
use Rattle.std.specs.Prelude.{ℕ, Bool, T, ⊤}
use Rattle.std.specs.declared.option.Option.{Option}
use Rattle.std.specs.declared.option.Option.TheVariants.{Some, None}

-- where the clock tells its moments, it is one of them
abbrev pub MayRead : Option (ℕ → Bool) → ℕ → Type 0
MayRead None moment = ⊤
MayRead (Some moments) moment = T (moments moment)

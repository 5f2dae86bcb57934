-- How many of the sources that were opened are out.
use Rattle.std.specs.Prelude.{ℕ, ◌≡◌, ◌+◌, ◌-◌, ◌^◌, nat_lt, if◌then◌else◌, ⊤}
use Rattle.std.specs.declared.option.Option.{Option}
use Rattle.std.specs.declared.option.Option.TheVariants.{Some, None}
use Rattle.outside.specs.declared.files.Opened.{Opened}
use Rattle.outside.specs.declared.files.Opened.TheVariants as opened

-- the number goes by a step; what is told after a call was told before it
abbrev pub GoesBy : (ℕ → ℕ) → Option ℕ → Option ℕ → Type 0
GoesBy step old None = ⊤
GoesBy step None (Some now) = ⊥
GoesBy step (Some was) (Some now) = now ≡ step was

-- one more is out
abbrev pub Lends : Option ℕ → Option ℕ → Type 0
Lends = GoesBy (λ count. count + 1)

-- one came back
abbrev pub TakesBack : Option ℕ → Option ℕ → Type 0
TakesBack = GoesBy (λ count. count - 1)

-- as many are out as before
abbrev pub LendsNone : Option ℕ → Option ℕ → Type 0
LendsNone = GoesBy (λ count. count)

-- one more than a number, where 64 bits hold it
abbrev pub one_more : Option ℕ → Option ℕ
one_more None = None
one_more (Some count) = if nat_lt (count + 1) (2 ^ 64) then Some (count + 1) else None

-- one less than a number, and not below 0
abbrev pub one_less : Option ℕ → Option ℕ
one_less None = None
one_less (Some count) = Some (count - 1)

module _ {S : Type 0} where
  -- opening lends one source, and failing to open none
  abbrev pub OpenLends : Option ℕ → Option ℕ → Opened S → Type 0
  OpenLends old new (opened.Open source) = Lends old new
  OpenLends old new opened.Failed = LendsNone old new

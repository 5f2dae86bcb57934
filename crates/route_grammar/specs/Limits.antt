-- How many elements the lists of a line may have.
use Rattle.std.specs.Prelude.{ℕ, ◌+◌, ◌==◌, if◌then◌else◌}

-- what is counted: the AS numbers of a path, four lists of a route, and the prefixes of a line
pub data Counted : Type 0 where
  Numbers : Counted
  Communities : Counted
  Clusters : Counted
  Extended : Counted
  Large : Counted
  Prefixes : Counted

-- how many of each there may be
abbrev pub Limits : Type 0
Limits = Counted → ℕ

-- the limits that lines have
abbrev pub in_force : Limits
in_force Numbers = 255
in_force Communities = 200
in_force Clusters = 32
in_force Extended = 64
in_force Large = 64
in_force Prefixes = 1024

-- a number for each, so that two of them can be compared
abbrev pub counted_code : Counted → ℕ
counted_code Numbers = 0
counted_code Communities = 1
counted_code Clusters = 2
counted_code Extended = 3
counted_code Large = 4
counted_code Prefixes = 5

-- limits of which one is raised
abbrev pub raised : Counted → Limits → Limits
raised which limits other =
    if counted_code which == counted_code other then limits other + 1 else limits other

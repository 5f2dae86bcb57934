-- The words of a file of a health check.
use Rattle.std.specs.Prelude.{ℕ, ◌≡◌, ◌≤◌, Bool, true, false, codes, decimal, List}
use Rattle.health_core.specs.declared.keywords.Statement.{Statement}
use Rattle.health_core.specs.declared.keywords.Statement.TheVariants.{Rise, Fall, Every, Turns, Run, Prefix, NextHop}
use Rattle.health_core.specs.declared.keywords.Statement.TheVariants.{UpMed, Down}

-- the first word of each statement
abbrev pub statement_word : Statement → List ℕ
statement_word Rise = codes "rise"
statement_word Fall = codes "fall"
statement_word Every = codes "every"
statement_word Turns = codes "turns"
statement_word Run = codes "run"
statement_word Prefix = codes "prefix"
statement_word NextHop = codes "next-hop"
statement_word UpMed = codes "up-med"
statement_word Down = codes "down"

abbrev pub IsStatement : List ℕ → Statement → Type 0
IsStatement text which = text ≡ statement_word which

-- a number between two others, both taken in
abbrev pub IsBetween : ℕ → ℕ → List ℕ → ℕ → Type 0
IsBetween least most text number = (least ≤ number) × (number ≤ most) × (text ≡ decimal number)

-- how many checks in a row, how many milliseconds, how many checks in all, and a MED
abbrev pub IsTally : List ℕ → ℕ → Type 0
IsTally = IsBetween 1 1000

abbrev pub IsPause : List ℕ → ℕ → Type 0
IsPause = IsBetween 1 86400000

abbrev pub IsTurns : List ℕ → ℕ → Type 0
IsTurns = IsBetween 1 1099511627776

abbrev pub IsMed : List ℕ → ℕ → Type 0
IsMed = IsBetween 0 4294967295

-- what is done while the service is down: whether it is announced with a MED
abbrev pub IsDownWord : List ℕ → Bool → Type 0
IsDownWord text true = text ≡ codes "med"
IsDownWord text false = text ≡ codes "withdraw"

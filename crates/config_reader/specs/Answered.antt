-- What a reader of a rule answers.
use Rattle.std.specs.Prelude.{List, Result, Ok, Err}
use Rattle.token_reader.specs.declared.token.Place.{Place}
use Rattle.token_reader.specs.Tokens.{Placed}
use Rattle.config_reader.specs.declared.fault.ConfigError.{ConfigError}
use Rattle.config_reader.specs.declared.fault.ConfigError.TheVariants.{Refused, NoMemory}
use Rattle.config_reader.specs.Rules.{Rule, Gives, Stops}

-- the value that the rule gives, where the tokens behind it are left; or its first fault; or want of memory, which may
-- come in place of either
abbrev pub Answers : {V : Type 0} → Rule V → Place → List Placed → List Placed → Result V ConfigError → Type 0
Answers R end tokens left (Ok value) = R end tokens (Gives value left)
Answers R end tokens left (Err (Refused fault)) = R end tokens (Stops fault)
Answers R end tokens left (Err NoMemory) = Unit {0}

-- The processes that a neighbour hears.
use Rattle.std.specs.Prelude.{codes, List, [], ◌∷◌, ◌++◌}
use Rattle.config_reader.specs.declared.written.Heard.{Heard}
use Rattle.config_reader.specs.Rules.{Rule, ◌>>=◌, saying, here, by_front, sign, is_sign, until}
use Rattle.config_reader.specs.Words.{word, keyword, IsName}

-- a name behind those before it
abbrev pub name_heard : List Heard → Rule (List Heard)
name_heard heard = do
  place ← here
  name ← word IsName
  saying (heard ++ record { name = name; place = place } ∷ [])

-- a further name, with or without a comma before it
abbrev pub comma_heard : List Heard → Rule (List Heard)
comma_heard heard = sign 44 >>= λ comma. name_heard heard

abbrev pub further_heard : List Heard → Rule (List Heard)
further_heard heard = by_front (is_sign 44) (comma_heard heard) (name_heard heard)

-- the names behind the first one
abbrev pub names_further : List Heard → Rule (List Heard)
names_further first = until (is_sign 93) further_heard first

abbrev pub names_listed : List Heard → Rule (List Heard)
names_listed heard = name_heard heard >>= names_further

-- names up to a bracket
abbrev pub names_heard : List Heard → Rule (List Heard)
names_heard heard = by_front (is_sign 93) (saying heard) (names_listed heard)

-- a name of the section itself, which means nothing
abbrev pub section_name : Rule (Unit {0})
section_name = by_front (is_sign 123) (saying tt) (word IsName >>= λ name. saying tt)

-- what stands before the names, and behind them
abbrev pub heard_opened : Rule (Unit {0})
heard_opened = do
  named ← section_name
  opened ← sign 123
  first ← keyword (codes "processes")
  sign 91

abbrev pub heard_closed : Rule (Unit {0})
heard_closed = sign 93 >>= λ complete. sign 59 >>= λ ended. sign 125

-- behind the word `api`
abbrev pub heard_at : List Heard → Rule (List Heard)
heard_at heard = do
  opened ← heard_opened
  all ← names_heard heard
  closed ← heard_closed
  saying all

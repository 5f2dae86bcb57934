-- The section of a process.
use Rattle.std.specs.Prelude.{ℕ, ◌≡◌, Bool, true, false, nat_lt, is_some, is_none, codes, List, ◌∷◌, ◌++◌, length}
use Rattle.std.specs.Prelude.{Option, Some, None, option_map, unwrap_or}
use Rattle.arrayvec.specs.ArrayVec.{ArrayVec}
use Rattle.config_model.specs.declared.fault.ConfigKind.TheVariants as kind
use Rattle.config_model.specs.declared.sections.Process.{Process}
use Rattle.config_model.specs.Sections.{place_of_name}
use Rattle.config_reader.specs.declared.keywords.ProcessStatement.{ProcessStatement}
use Rattle.config_reader.specs.declared.keywords.ProcessStatement.TheVariants.{Run, Encoder, Respawn}
use Rattle.config_reader.specs.declared.written.ProcessWritten.{ProcessWritten}
use Rattle.config_reader.specs.Rules.{Rule, ◌>>=◌, saying, given, where_so, sign, sign_or, is_sign, until}
use Rattle.config_reader.specs.Words.{word_or, word_ended, any_word, IsName, IsSwitch}

-- the first word of each statement
abbrev pub process_word : ProcessStatement → List ℕ
process_word Run = codes "run"
process_word Encoder = codes "encoder"
process_word Respawn = codes "respawn"

abbrev pub IsProcessStatement : List ℕ → ProcessStatement → Type 0
IsProcessStatement text which = text ≡ process_word which

-- no statement is written
abbrev pub process_unwritten : ProcessWritten
process_unwritten = record { run = None; json = None; respawn = None }

-- whether a statement is written
abbrev pub process_has : ProcessWritten → ProcessStatement → Bool
process_has written Run = is_some written.run
process_has written Encoder = is_some written.json
process_has written Respawn = is_some written.respawn

-- a further word behind a zero byte
abbrev pub joined : List ℕ → Rule (List ℕ)
joined run = any_word >>= λ next. saying (run ++ 0 ∷ next)

abbrev pub words_joined : Rule (List ℕ)
words_joined = any_word >>= λ first. until (is_sign 59) joined first

-- the words of `run`, joined; over 1,024 bytes are too many, which shows at the `;`
abbrev pub run_words : Rule (ArrayVec ℕ)
run_words = do
  run ← words_joined
  ended ← sign_or 59 (where_so kind.Many (nat_lt 1024 (length run)))
  saying (record { items = run })

-- which encoder is asked for, and whether something is so
abbrev pub IsEncoder : List ℕ → Bool → Type 0
IsEncoder = IsSwitch (codes "text") (codes "json")

abbrev pub IsTruth : List ℕ → Bool → Type 0
IsTruth = IsSwitch (codes "false") (codes "true")

-- what stands behind a statement's first word
abbrev pub process_operand : ProcessWritten → ProcessStatement → Rule ProcessWritten
process_operand written Run = run_words >>= λ run. saying (record written { run = Some run })
process_operand written Encoder = word_ended IsEncoder >>= λ json. saying (record written { json = Some json })
process_operand written Respawn =
    word_ended IsTruth >>= λ respawn. saying (record written { respawn = Some respawn })

-- a statement, which stands once at most
abbrev pub process_statement : ProcessWritten → Rule ProcessWritten
process_statement written = do
  which ← word_or IsProcessStatement (λ which. where_so kind.Twice (process_has written which))
  process_operand written which

-- the process of which at least `run` is written
abbrev pub process_of : ArrayVec ℕ → ProcessWritten → Option Process
process_of name written = option_map (λ run. record {
  name = name;
  run = run;
  json = unwrap_or written.json false;
  respawn = unwrap_or written.respawn true;
}) written.run

-- statements up to a closing brace
abbrev pub process_statements : Rule ProcessWritten
process_statements = until (is_sign 125) process_statement process_unwritten

-- the closing brace, where nothing is missing
abbrev pub process_closed : ArrayVec ℕ → ProcessWritten → Rule Process
process_closed name written =
    sign_or 125 (where_so kind.Missing (is_none written.run)) >>= λ closed. given (process_of name written)

-- behind the word `process`: a name that no process before it has, and statements between braces
abbrev pub process_at : List Process → Rule Process
process_at stood = do
  name ← word_or IsName (λ name. where_so kind.Twice (is_some (place_of_name stood name.items)))
  opened ← sign 123
  written ← process_statements
  process_closed name written

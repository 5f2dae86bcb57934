-- The statements of a file of a health check.
use Rattle.std.specs.Prelude.{ℕ, nat_lt, Bool, is_some, unwrap_or, length, List, [], ◌∷◌, if◌then◌else◌}
use Rattle.std.specs.Prelude.{Option, Some, None, option_map, true, false}
use Rattle.arrayvec.specs.ArrayVec.{ArrayVec}
use Rattle.route_values.specs.declared.addr.Addr.{Addr}
use Rattle.route_values.specs.declared.attrs.Hop.TheVariants.{Own}
use Rattle.config_model.specs.declared.fault.ConfigKind.TheVariants as kind
use Rattle.config_reader.specs.Rules.{Rule, ◌>>=◌, saying, where_so, either, sign, sign_or, is_end, until}
use Rattle.config_reader.specs.Words.{word, word_or, word_ended, any_word}
use Rattle.health_core.specs.declared.keywords.Statement.{Statement}
use Rattle.health_core.specs.declared.keywords.Statement.TheVariants.{Rise, Fall, Every, Turns, Run, Prefix, NextHop}
use Rattle.health_core.specs.declared.keywords.Statement.TheVariants.{UpMed, Down}
use Rattle.health_core.specs.declared.health.Health.{Health}
use Rattle.health_core.specs.declared.written.Written.{Written}
use Rattle.health_core.specs.Prefixes.{addr_of_hop, prefixes_at, hop_at}
use Rattle.health_core.specs.Words.{IsStatement, IsTally, IsPause, IsTurns, IsMed, IsDownWord}

-- no statement is written
abbrev pub unwritten : Written
unwritten = record {
  rise = None;
  fall = None;
  every = None;
  turns = None;
  run = None;
  prefixes = [];
  hop = None;
  up_med = None;
  down = None;
}

-- whether a list has an element
abbrev pub is_filled : {A : Type 0} → List A → Bool
is_filled [] = false
is_filled (first ∷ others) = true

-- whether a statement is written
abbrev pub states : Written → Statement → Bool
states written Rise = is_some written.rise
states written Fall = is_some written.fall
states written Every = is_some written.every
states written Turns = is_some written.turns
states written Run = is_some written.run
states written Prefix = is_filled written.prefixes
states written NextHop = is_some written.hop
states written UpMed = is_some written.up_med
states written Down = is_some written.down

-- the program of `run` is one word; over 1,024 bytes are too many, which shows at the `;`
abbrev pub run_at : Rule (ArrayVec ℕ)
run_at = do
  run ← any_word
  ended ← sign_or 59 (where_so kind.Many (nat_lt 1024 (length run)))
  saying (record { items = run })

-- what is done while the service is down: the MED of the announcement, or a withdrawal
abbrev pub down_with : Bool → Rule (Option ℕ)
down_with announced = either announced (word IsMed >>= λ med. saying (Some med)) (saying None)

abbrev pub down_at : Rule (Option ℕ)
down_at = do
  announced ← word IsDownWord
  med ← down_with announced
  ended ← sign 59
  saying med

-- the address of the next hop that is written
abbrev pub hop_before : Written → Option Addr
hop_before written = addr_of_hop (unwrap_or written.hop Own)

-- what stands behind a statement's first word
abbrev pub statement_operand : Written → Statement → Rule Written
statement_operand written Rise = word_ended IsTally >>= λ n. saying (record written { rise = Some n })
statement_operand written Fall = word_ended IsTally >>= λ n. saying (record written { fall = Some n })
statement_operand written Every = word_ended IsPause >>= λ n. saying (record written { every = Some n })
statement_operand written Turns = word_ended IsTurns >>= λ n. saying (record written { turns = Some n })
statement_operand written Run = run_at >>= λ run. saying (record written { run = Some run })
statement_operand written Prefix =
    prefixes_at (hop_before written) >>= λ keys. saying (record written { prefixes = keys })
statement_operand written NextHop = hop_at written.prefixes >>= λ hop. saying (record written { hop = Some hop })
statement_operand written UpMed = word_ended IsMed >>= λ n. saying (record written { up_med = Some n })
statement_operand written Down = down_at >>= λ down. saying (record written { down = Some down })

-- a statement, which stands once at most
abbrev pub statement_at : Written → Rule Written
statement_at written = do
  which ← word_or IsStatement (λ which. where_so kind.Twice (states written which))
  statement_operand written which

-- statements up to the end of the file
abbrev pub statements_read : Rule Written
statements_read = until is_end statement_at unwritten

-- with what isn't written: 3 checks each way, 5,000 ms, 2^40 checks, the own address, MED 100, and a withdrawal
abbrev pub health_from : Written → ArrayVec ℕ → Health
health_from written run = record {
  rise = unwrap_or written.rise 3;
  fall = unwrap_or written.fall 3;
  every = unwrap_or written.every 5000;
  turns = unwrap_or written.turns 1099511627776;
  run = run;
  prefixes = written.prefixes;
  hop = unwrap_or written.hop Own;
  up_med = unwrap_or written.up_med 100;
  down = unwrap_or written.down None;
}

-- what the statements say, of which at least `run` and `prefix` are written
abbrev pub health_of : Written → Option Health
health_of written = if is_filled written.prefixes then option_map (health_from written) written.run else None

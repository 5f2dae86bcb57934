-- The rules of a health check's file read tokens, and give none back.
use Rattle.std.proofs.Common.{ℕ, Bool, nat_lt, List, [], ◌∷◌, ◌++◌, length, Option, Some, None}
use Rattle.route_values.specs.declared.addr.Addr.{Addr}
use Rattle.route_values.specs.declared.key.Key.{Key}
use Rattle.text_forms.specs.Families.{IsBlockText}
use Rattle.route_grammar.specs.Numbers.{IsHop}
use Rattle.config_model.specs.declared.fault.ConfigKind.{ConfigKind}
use Rattle.config_model.specs.declared.fault.ConfigKind.TheVariants.{Many, Twice}
use Rattle.config_reader.specs.Rules.{Rule, SaysSign, ◌>>=◌, is_sign, saying, sign, sign_or, where_so}
use Rattle.config_reader.specs.Words.{SaysBytes, SaysWord, any_word, word, word_ended, word_or}
use Rattle.config_reader.specs.Rules.{never}
use Rattle.config_reader.proofs.ProcessLemmas.{ended_keeps}
use Rattle.config_reader.proofs.ShrinkLemmas.{Keeps, Shrinks, either_keeps, front_shrinks, saying_keeps, shrinks_keeps}
use Rattle.config_reader.proofs.ShrinkLemmas.{then_keeps, then_shrinks, until_keeps}
use Rattle.health_core.specs.declared.keywords.Statement.{Statement}
use Rattle.health_core.specs.declared.keywords.Statement.TheVariants as says
use Rattle.health_core.specs.declared.written.Written.{Written}
use Rattle.health_core.specs.Prefixes.{hop_at, hop_wrong, key_of, prefix_more, prefix_wrong, prefixes_at}
use Rattle.health_core.specs.Prefixes.{prefixes_further}
use Rattle.health_core.specs.Prefixes.{prefixes_listed}
use Rattle.health_core.specs.Statements.{down_at, down_with, hop_before, run_at, statement_at, statement_operand}
use Rattle.health_core.specs.Statements.{states}
use Rattle.health_core.specs.Words.{IsDownWord, IsMed, IsPause, IsStatement, IsTally, IsTurns}

sign_keeps : (which : ℕ) (wrong : Option ConfigKind) → Keeps (sign_or which wrong)
sign_keeps which wrong =
    shrinks_keeps (sign_or which wrong) (front_shrinks (SaysSign which) (λ value. wrong))

word_keeps : {V : Type 0} (Spells : List ℕ → V → Type 0) (wrong : V → Option ConfigKind) → Keeps (word_or Spells wrong)
word_keeps Spells wrong = shrinks_keeps (word_or Spells wrong) (front_shrinks (SaysWord Spells) wrong)

-- a value and `;`
value_ended_keeps : {V : Type 0} (R : Rule V) → Keeps R → Keeps (R >>= λ value. sign 59 >>= λ ended. saying value)
value_ended_keeps R keeps =
    then_keeps R (λ value. sign 59 >>= λ ended. saying value) keeps
    (λ value. then_keeps (sign 59) (λ ended. saying value) (sign_keeps 59 None) (λ ended. saying_keeps value))

-- PREFIXES

pub prefix_shrinks : (hop : Option Addr) (keys : List Key) → Shrinks (prefix_more hop keys)
prefix_shrinks hop keys =
    then_shrinks (word_or IsBlockText (prefix_wrong hop keys)) (λ block. saying (keys ++ key_of block ∷ []))
    (front_shrinks (SaysWord IsBlockText) (prefix_wrong hop keys)) (λ block. saying_keeps (keys ++ key_of block ∷ []))

further_keeps : (hop : Option Addr) (first : List Key) → Keeps (prefixes_further hop first)
further_keeps hop first end tokens rest value is =
    until_keeps (is_sign 59) (prefix_more hop) (λ keys. shrinks_keeps (prefix_more hop keys) (prefix_shrinks hop keys))
    end first tokens rest value is

prefixes_keeps : (hop : Option Addr) → Keeps (prefixes_at hop)
prefixes_keeps hop =
    value_ended_keeps (prefixes_listed hop)
    (then_keeps (prefix_more hop []) (prefixes_further hop)
    (shrinks_keeps (prefix_more hop []) (prefix_shrinks hop [])) (further_keeps hop))

hop_keeps : (keys : List Key) → Keeps (hop_at keys)
hop_keeps keys = value_ended_keeps (word_or (IsHop None) (hop_wrong keys)) (word_keeps (IsHop None) (hop_wrong keys))

-- STATEMENTS

run_keeps : Keeps run_at
run_keeps =
    then_keeps any_word
    (λ run. sign_or 59 (where_so Many (nat_lt 1024 (length run))) >>= λ ended. saying (record { items = run }))
    (shrinks_keeps any_word (front_shrinks SaysBytes never))
    (λ run. then_keeps (sign_or 59 (where_so Many (nat_lt 1024 (length run))))
    (λ ended. saying (record { items = run })) (sign_keeps 59 (where_so Many (nat_lt 1024 (length run))))
    (λ ended. saying_keeps (record { items = run })))

with_keeps : (announced : Bool) → Keeps (down_with announced)
with_keeps announced =
    either_keeps announced (word IsMed >>= λ med. saying (Some med)) (saying None)
    (then_keeps (word IsMed) (λ med. saying (Some med)) (word_keeps IsMed never) (λ med. saying_keeps (Some med)))
    (saying_keeps None)

down_keeps : Keeps down_at
down_keeps =
    then_keeps (word IsDownWord) (λ announced. down_with announced >>= λ med. sign 59 >>= λ ended. saying med)
    (word_keeps IsDownWord never) (λ announced. value_ended_keeps (down_with announced) (with_keeps announced))

-- a value that is put into what is written
put_keeps : {V : Type 0} (R : Rule V) (put : V → Written) → Keeps R → Keeps (R >>= λ value. saying (put value))
put_keeps R put keeps = then_keeps R (λ value. saying (put value)) keeps (λ value. saying_keeps (put value))

operand_keeps : (written : Written) (which : Statement) → Keeps (statement_operand written which)
operand_keeps written says.Rise =
    put_keeps (word_ended IsTally) (λ n. record written { rise = Some n }) (ended_keeps IsTally)
operand_keeps written says.Fall =
    put_keeps (word_ended IsTally) (λ n. record written { fall = Some n }) (ended_keeps IsTally)
operand_keeps written says.Every =
    put_keeps (word_ended IsPause) (λ n. record written { every = Some n }) (ended_keeps IsPause)
operand_keeps written says.Turns =
    put_keeps (word_ended IsTurns) (λ n. record written { turns = Some n }) (ended_keeps IsTurns)
operand_keeps written says.Run = put_keeps run_at (λ run. record written { run = Some run }) run_keeps
operand_keeps written says.Prefix =
    put_keeps (prefixes_at (hop_before written)) (λ keys. record written { prefixes = keys })
    (prefixes_keeps (hop_before written))
operand_keeps written says.NextHop =
    put_keeps (hop_at written.prefixes) (λ hop. record written { hop = Some hop }) (hop_keeps written.prefixes)
operand_keeps written says.UpMed =
    put_keeps (word_ended IsMed) (λ n. record written { up_med = Some n }) (ended_keeps IsMed)
operand_keeps written says.Down = put_keeps down_at (λ down. record written { down = Some down }) down_keeps

pub statement_shrinks : (written : Written) → Shrinks (statement_at written)
statement_shrinks written =
    then_shrinks (word_or IsStatement (λ which. where_so Twice (states written which))) (statement_operand written)
    (front_shrinks (SaysWord IsStatement) (λ which. where_so Twice (states written which))) (operand_keeps written)

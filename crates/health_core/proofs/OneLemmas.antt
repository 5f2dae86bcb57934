-- What the file of a health check says is one thing.
use Rattle.std.proofs.Common.{ℕ, ◌≡◌, ◌<◌, ◌^◌, true, false, bytes_eq, codes, nat_lt, List, [], ◌∷◌, ◌++◌}
use Rattle.std.proofs.Common.{length, Option, Some, None, refl, sym, ◌∙◌, ap, inl, inr, arith}
use Rattle.std.specs.Prelude.{find}
use Rattle.std.proofs.lemmas.Fmt.{decimal_injective}
use Rattle.route_values.specs.declared.addr.Addr.{Addr}
use Rattle.route_values.specs.declared.key.Key.{Key}
use Rattle.text_forms.specs.Families.{IsBlockText}
use Rattle.text_forms.proofs.FamilyLemmas.{block_one}
use Rattle.token_reader.specs.FileTokens.{end_of_file, tokens_of_file}
use Rattle.config_model.specs.declared.fault.ConfigFault.{ConfigFault}
use Rattle.config_model.specs.declared.fault.ConfigKind.TheVariants.{Many, Twice}
use Rattle.config_reader.specs.Rules.{Gives, Outcome, Rule, Stops, ◌>>=◌, is_end, is_sign, never, saying, sign, sign_or}
use Rattle.config_reader.specs.Rules.{where_so}
use Rattle.config_reader.specs.Words.{any_word, word, word_ended, word_or}
use Rattle.config_reader.proofs.OneLemmas.{Decides, SpellsOne, any_word_decides, either_decides, ended_decides}
use Rattle.config_reader.proofs.OneLemmas.{saying_decides, sign_decides, then_decides, until_decides, word_decides}
use Rattle.route_grammar.specs.Numbers.{IsHop}
use Rattle.route_grammar.proofs.ValueLemmas.{hop_one}
use Rattle.health_core.specs.declared.keywords.Statement.{Statement}
use Rattle.health_core.specs.declared.keywords.Statement.TheVariants as says
use Rattle.health_core.specs.declared.written.Written.{Written}
use Rattle.health_core.specs.Files.{FilesDoOne, FilesFaultOnce, FilesSayOne, passes}
use Rattle.health_core.specs.Prefixes.{hop_at, hop_wrong, key_of, prefix_more, prefix_wrong, prefixes_at}
use Rattle.health_core.specs.Prefixes.{prefixes_further}
use Rattle.health_core.specs.Prefixes.{prefixes_listed}
use Rattle.health_core.specs.Statements.{down_at, down_with, health_of, hop_before, run_at, statement_at}
use Rattle.health_core.specs.Statements.{statement_operand, states, unwritten}
use Rattle.health_core.specs.Words.{IsBetween, IsDownWord, IsMed, IsPause, IsStatement, IsTally, IsTurns}
use Rattle.health_core.specs.Words.{statement_word}

-- WORDS

statements : List Statement
statements =
    says.Rise ∷ says.Fall ∷ says.Every ∷ says.Turns ∷ says.Run ∷ says.Prefix ∷ says.NextHop ∷ says.UpMed ∷ says.Down
    ∷ []

told : List ℕ → Option Statement
told text = find (λ one. bytes_eq text (statement_word one)) statements

statements_told : (which : Statement) → told (statement_word which) ≡ Some which
unfolding told statements
statements_told says.Rise = refl
statements_told says.Fall = refl
statements_told says.Every = refl
statements_told says.Turns = refl
statements_told says.Run = refl
statements_told says.Prefix = refl
statements_told says.NextHop = refl
statements_told says.UpMed = refl
statements_told says.Down = refl

statement_one : SpellsOne IsStatement
statement_one text one other is also =
    let same : Some one ≡ Some other = sym (statements_told one) ∙ ap told (sym is ∙ also) ∙ statements_told other in
    cc

between_one : (least most : ℕ) → most < 2 ^ 64 → SpellsOne (IsBetween least most)
between_one least most small text one other (some, few, is) (some', few', is') =
    decimal_injective one other (omega (arith, small, few)) (omega (arith, small, few')) (sym is ∙ is')

block_alone : SpellsOne IsBlockText
block_alone text one other is also = block_one text one other is also

down_one : SpellsOne IsDownWord
down_one text true true is also = refl
down_one text false false is also = refl
down_one text true false is also =
    let no : true ≡ false = ap (λ (t : List ℕ). bytes_eq t (codes "med")) (sym is ∙ also) in absurd (cc)
down_one text false true is also =
    let no : false ≡ true = ap (λ (t : List ℕ). bytes_eq t (codes "med")) (sym is ∙ also) in absurd (cc)

-- RULES

-- a value and `;`
value_ended : {V : Type 0} (R : Rule V) → Decides R → Decides (R >>= λ value. sign 59 >>= λ ended. saying value)
value_ended R decides =
    then_decides R (λ value. sign 59 >>= λ ended. saying value) decides
    (λ value. then_decides (sign 59) (λ ended. saying value) (sign_decides 59 None) (λ ended. saying_decides value))

number_decides : (least most : ℕ) → most < 2 ^ 64 → Decides (word_ended (IsBetween least most))
number_decides least most small = ended_decides (IsBetween least most) (between_one least most small)

prefix_decides : (hop : Option Addr) (keys : List Key) → Decides (prefix_more hop keys)
prefix_decides hop keys =
    then_decides (word_or IsBlockText (prefix_wrong hop keys)) (λ block. saying (keys ++ key_of block ∷ []))
    (word_decides IsBlockText (prefix_wrong hop keys) block_alone)
    (λ block. saying_decides (keys ++ key_of block ∷ []))

prefixes_decide : (hop : Option Addr) → Decides (prefixes_at hop)
prefixes_decide hop =
    value_ended (prefixes_listed hop)
    (then_decides (prefix_more hop []) (prefixes_further hop) (prefix_decides hop [])
    (λ first. until_decides (is_sign 59) (prefix_more hop) (prefix_decides hop) first))

hop_decides : (keys : List Key) → Decides (hop_at keys)
hop_decides keys = value_ended (word_or (IsHop None) (hop_wrong keys))
    (word_decides (IsHop None) (hop_wrong keys) (λ text one other is also. hop_one None text one other is also))

run_decides : Decides run_at
run_decides =
    then_decides any_word
    (λ run. sign_or 59 (where_so Many (nat_lt 1024 (length run))) >>= λ ended. saying (record { items = run }))
    any_word_decides
    (λ run. then_decides (sign_or 59 (where_so Many (nat_lt 1024 (length run))))
    (λ ended. saying (record { items = run })) (sign_decides 59 (where_so Many (nat_lt 1024 (length run))))
    (λ ended. saying_decides (record { items = run })))

med_decides : Decides (word IsMed >>= λ med. saying (Some med))
med_decides =
    then_decides (word IsMed) (λ med. saying (Some med))
    (word_decides IsMed never (between_one 0 4294967295 (omega arith))) (λ med. saying_decides (Some med))

down_decides : Decides down_at
down_decides =
    then_decides (word IsDownWord) (λ announced. down_with announced >>= λ med. sign 59 >>= λ ended. saying med)
    (word_decides IsDownWord never down_one)
    (λ announced. value_ended (down_with announced)
    (either_decides announced (word IsMed >>= λ med. saying (Some med)) (saying None) med_decides
    (saying_decides None)))

-- a value that is put into what is written
put_decides : {V : Type 0} (R : Rule V) (put : V → Written) → Decides R → Decides (R >>= λ value. saying (put value))
put_decides R put decides =
    then_decides R (λ value. saying (put value)) decides (λ value. saying_decides (put value))

operand_decides : (written : Written) (which : Statement) → Decides (statement_operand written which)
operand_decides written says.Rise =
    put_decides (word_ended IsTally) (λ n. record written { rise = Some n }) (number_decides 1 1000 (omega arith))
operand_decides written says.Fall =
    put_decides (word_ended IsTally) (λ n. record written { fall = Some n }) (number_decides 1 1000 (omega arith))
operand_decides written says.Every =
    put_decides (word_ended IsPause) (λ n. record written { every = Some n }) (number_decides 1 86400000 (omega arith))
operand_decides written says.Turns =
    put_decides (word_ended IsTurns) (λ n. record written { turns = Some n })
    (number_decides 1 1099511627776 (omega arith))
operand_decides written says.Run = put_decides run_at (λ run. record written { run = Some run }) run_decides
operand_decides written says.Prefix =
    put_decides (prefixes_at (hop_before written)) (λ keys. record written { prefixes = keys })
    (prefixes_decide (hop_before written))
operand_decides written says.NextHop =
    put_decides (hop_at written.prefixes) (λ hop. record written { hop = Some hop }) (hop_decides written.prefixes)
operand_decides written says.UpMed =
    put_decides (word_ended IsMed) (λ n. record written { up_med = Some n }) (number_decides 0 4294967295 (omega arith))
operand_decides written says.Down = put_decides down_at (λ down. record written { down = Some down }) down_decides

statement_decides : (written : Written) → Decides (statement_at written)
statement_decides written =
    then_decides (word_or IsStatement (λ which. where_so Twice (states written which))) (statement_operand written)
    (word_decides IsStatement (λ which. where_so Twice (states written which)) statement_one) (operand_decides written)

passes_one : (bytes : List ℕ) (one other : Outcome Written) → passes bytes one → passes bytes other → one ≡ other
passes_one bytes one other is also =
    until_decides is_end statement_at statement_decides unwritten (end_of_file bytes) (tokens_of_file bytes) one other
    is
    also

-- FILES

same_written : (bytes : List ℕ) (written written' : Written) → passes bytes (Gives written [])
    → passes bytes (Gives written' []) → written ≡ written'
same_written bytes written written' is also =
    let same = passes_one bytes (Gives written []) (Gives written' []) is also in cc

no_stop : (bytes : List ℕ) (written : Written) (fault : ConfigFault) → passes bytes (Gives written [])
    → passes bytes (Stops fault) → ⊥
no_stop bytes written fault is also =
    let no = passes_one bytes (Gives written []) (Stops fault) is also in cc

pub say_one : FilesSayOne
say_one bytes one other (few, written, passed, is) (few', written', passed', is') =
    let same : Some one ≡ Some other =
    sym is ∙ ap health_of (same_written bytes written written' passed passed') ∙ is' in cc

pub do_one : FilesDoOne
do_one bytes health fault (few, written, passed, is) (inl (long, fault_is)) = omega (arith, few, long)
do_one bytes health fault (few, written, passed, is) (inr (few', inl stops)) =
    no_stop bytes written fault passed stops
do_one bytes health fault (few, written, passed, is) (inr (few', inr ((written', passed', lacks), fault_is))) =
    let no : None ≡ Some health =
    sym lacks ∙ ap health_of (same_written bytes written' written passed' passed) ∙ is in cc

pub fault_once : FilesFaultOnce
fault_once bytes one other (inl (long, is)) (inl (long', is')) = is ∙ sym is'
fault_once bytes one other (inl (long, is)) (inr (few, either)) = absurd (omega (arith, long, few))
fault_once bytes one other (inr (few, either)) (inl (long, is)) = absurd (omega (arith, long, few))
fault_once bytes one other (inr (few, inl stops)) (inr (few', inl stops')) =
    let same = passes_one bytes (Stops one) (Stops other) stops stops' in cc
fault_once bytes one other (inr (few, inl stops)) (inr (few', inr ((written, passed, lacks), is))) =
    absurd (no_stop bytes written one passed stops)
fault_once bytes one other (inr (few, inr ((written, passed, lacks), is))) (inr (few', inl stops)) =
    absurd (no_stop bytes written other passed stops)
fault_once bytes one other (inr (few, inr ((written, passed, lacks), is)))
    (inr (few', inr ((written', passed', lacks'), is'))) =
    is ∙ sym is'

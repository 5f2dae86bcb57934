-- The statements of a process are at least one token each.
use Rattle.std.proofs.Common.{ℕ, ◌≡◌, ◌≤◌, true, false, codes, List, ◌∷◌, ◌++◌, nat_lt, length, Option, Some, None}
use Rattle.std.proofs.Common.{is_some, refl, sym, ap, subst, arith}
use Rattle.std.specs.Prelude.{option_map, unwrap_or}
use Rattle.arrayvec.specs.ArrayVec.{ArrayVec}
use Rattle.token_reader.specs.declared.token.Place.{Place}
use Rattle.token_reader.specs.Tokens.{Placed}
use Rattle.config_model.specs.Sections.{place_of_name}
use Rattle.config_model.specs.declared.fault.ConfigKind.TheVariants.{Many, Twice}
use Rattle.config_model.specs.declared.sections.Process.{Process}
use Rattle.config_reader.specs.declared.keywords.ProcessStatement.{ProcessStatement}
use Rattle.config_reader.specs.declared.keywords.ProcessStatement.TheVariants.{Run, Encoder, Respawn}
use Rattle.config_reader.specs.declared.written.ProcessWritten.{ProcessWritten}
use Rattle.config_reader.specs.Processes.{IsEncoder, IsProcessStatement, IsTruth, joined, process_has, process_operand}
use Rattle.config_reader.specs.Processes.{process_at, process_closed, process_of, process_statement, process_unwritten}
use Rattle.config_reader.specs.Processes.{run_words}
use Rattle.config_reader.specs.Processes.{words_joined}
use Rattle.config_reader.specs.Rules.{Gives, SaysSign, given, is_sign, never, saying, sign, sign_or, until, where_so}
use Rattle.config_reader.specs.Rules.{◌>>=◌}
use Rattle.config_reader.specs.Words.{SaysBytes, SaysWord, any_word, word, word_ended, word_or}
use Rattle.config_reader.proofs.RuleLemmas.{not_found}
use Rattle.config_reader.proofs.ShrinkLemmas.{Keeps, Shrinks, front_passed, front_shrinks, given_keeps, saying_keeps}
use Rattle.config_reader.proofs.ShrinkLemmas.{shrinks_keeps}
use Rattle.config_reader.proofs.ShrinkLemmas.{then_keeps, then_shrinks, until_keeps}

any_word_shrinks : Shrinks any_word
any_word_shrinks = front_shrinks SaysBytes never

step_keeps : (run : List ℕ) → Keeps (joined run)
step_keeps run =
    then_keeps any_word (λ next. saying (run ++ 0 ∷ next)) (shrinks_keeps any_word any_word_shrinks)
    (λ next. saying_keeps (run ++ 0 ∷ next))

joined_keeps : Keeps words_joined
joined_keeps =
    then_keeps any_word (λ first. until (is_sign 59) joined first) (shrinks_keeps any_word any_word_shrinks)
    (λ first end tokens rest value is. until_keeps (is_sign 59) joined step_keeps end first tokens rest value is)

run_keeps : Keeps run_words
run_keeps =
    then_keeps words_joined
    (λ run. sign_or 59 (where_so Many (nat_lt 1024 (length run))) >>= λ ended. saying (record { items = run }))
    joined_keeps
    (λ run. then_keeps (sign_or 59 (where_so Many (nat_lt 1024 (length run))))
    (λ ended. saying (record { items = run }))
    (shrinks_keeps (sign_or 59 (where_so Many (nat_lt 1024 (length run))))
    (front_shrinks (SaysSign 59) (λ value. where_so Many (nat_lt 1024 (length run)))))
    (λ ended. saying_keeps (record { items = run })))

-- a word and `;` give no token back
pub ended_keeps : {V : Type 0} (Spells : List ℕ → V → Type 0) → Keeps (word_ended Spells)
ended_keeps Spells =
    then_keeps (word Spells) (λ value. sign 59 >>= λ ended. saying value)
    (shrinks_keeps (word Spells) (front_shrinks (SaysWord Spells) never))
    (λ value. then_keeps (sign 59) (λ ended. saying value)
    (shrinks_keeps (sign 59) (front_shrinks (SaysSign 59) never)) (λ ended. saying_keeps value))

operand_keeps : (written : ProcessWritten) (which : ProcessStatement) → Keeps (process_operand written which)
operand_keeps written Run =
    then_keeps run_words (λ run. saying (record written { run = Some run })) run_keeps
    (λ run. saying_keeps (record written { run = Some run }))
operand_keeps written Encoder =
    then_keeps (word_ended IsEncoder) (λ json. saying (record written { json = Some json })) (ended_keeps IsEncoder)
    (λ json. saying_keeps (record written { json = Some json }))
operand_keeps written Respawn =
    then_keeps (word_ended IsTruth) (λ respawn. saying (record written { respawn = Some respawn }))
    (ended_keeps IsTruth)
    (λ respawn. saying_keeps (record written { respawn = Some respawn }))

pub statement_shrinks : (written : ProcessWritten) → Shrinks (process_statement written)
statement_shrinks written =
    then_shrinks (word_or IsProcessStatement (λ which. where_so Twice (process_has written which)))
    (process_operand written)
    (front_shrinks (SaysWord IsProcessStatement) (λ which. where_so Twice (process_has written which)))
    (operand_keeps written)

closed_keeps : (name : ArrayVec ℕ) (written : ProcessWritten) → Keeps (process_closed name written)
closed_keeps name written end tokens rest value (ended, mid, here, is) =
    omega (
      arith,
      front_passed tokens mid here.0 here.1 here.4,
      given_keeps
          (process_of name written) end mid rest value is,
    )

-- the section of a process gives no token back
pub process_keeps : (stood : List Process) → Keeps (process_at stood)
process_keeps stood end tokens rest value (name, mid, here, (opened, next, second, (written, last, third, is))) =
    omega (
      arith,
      front_passed tokens mid here.0 here.1 here.4,
      front_passed mid next second.0 second.1 second.4,
      until_keeps (is_sign 125) process_statement
          (λ known. shrinks_keeps (process_statement known)
          (statement_shrinks known)) end process_unwritten next last written
          third,
      closed_keeps name written end last rest value is,
    )

-- and its name is new
named : (name : ArrayVec ℕ) (written : ProcessWritten) (run : Option (ArrayVec ℕ)) (process : Process) (end : Place)
    (mid rest : List Placed)
    → given (option_map (λ run. record {
      name = name;
      run = run;
      json = unwrap_or written.json false;
      respawn = unwrap_or written.respawn true;
    }) run) end mid (Gives process rest) → process.name ≡ name
named name written (Some run) process end mid rest is =
    let same : process ≡ record {
      name = name;
      run = run;
      json = unwrap_or written.json false;
      respawn = unwrap_or written.respawn true;
    } = cc in
    ap (λ (one : Process). one.name) same
named name written None process end mid rest is = absurd is

pub process_new : (stood : List Process) (process : Process) (end : Place) (tokens rest : List Placed)
    → process_at stood end tokens (Gives process rest) → place_of_name stood process.name.items ≡ None
process_new stood process end tokens rest
    (name, mid, here, (opened, next, second, (written, last, third, (ended, behind, fourth, is)))) =
    subst (λ (one : ArrayVec ℕ). place_of_name stood one.items ≡ None)
    (sym (named name written written.run process end behind rest is))
    (not_found (place_of_name stood name.items) here.3)

use Rattle.std.proofs.Common.{◌≡◌, false, true, Ok, Err, sym, ◌∙◌}
use Rattle.std.proofs.lemmas.Result.{err_from_is_err_and}
use Rattle.token_reader.specs.Tokens.{front_token}
use Rattle.config_reader.specs.Families.{family_statement}
use Rattle.config_reader.specs.Rules.{is_sign}
use Rattle.config_reader.proofs.RuleLemmas.{same_end, until_done, until_more, until_stops}
use Rattle.config_reader.proofs.families.families_listed.Goals as goal

pub returns-in_err-listed-clause-read : goal.returns-in_err-listed-clause-read
returns-in_err-listed-clause-read c =
    let e = err_from_is_err_and c.from_residual.result c.from_residual.ensures.1 in
    let on : is_sign 125 (front_token c.families.words.left) ≡ false = sym c.is_mark.ensures ∙ c.families-test.true in
    rw (e.1, e.2)
    (c.families.invariant.whole c.family_statement.new.words.left (Err c.in_err-listed.field-0.0)
    (until_stops (is_sign 125) family_statement c.args.words.now.end c.families.listed c.families.words.left
    c.family_statement.new.words.left c.family_statement.new.words.left c.in_err-listed.field-0.0 on
    (same_end (family_statement c.families.listed) c.args.words.now.end c.families.words.end c.families.words.left
    c.family_statement.new.words.left (Err c.in_err-listed.field-0.0) c.families.invariant.end
    c.in_err-listed.ensures.read)))

pub families-preserved : goal.families-preserved
families-preserved c =
    let on : is_sign 125 (front_token c.families.words.left) ≡ false = sym c.is_mark.ensures ∙ c.families-test.true in
    record {
      end = c.in_ok-listed.ensures.end ∙ c.families.invariant.end;
      whole = λ left answer is.
          c.families.invariant.whole left answer
          (until_more (is_sign 125) family_statement c.args.words.now.end c.families.listed c.in_ok-listed.listed
          c.families.words.left c.family_statement.new.words.left left answer on
          (same_end (family_statement c.families.listed) c.args.words.now.end c.families.words.end c.families.words.left
          c.family_statement.new.words.left (Ok c.in_ok-listed.listed) c.families.invariant.end
          c.in_ok-listed.ensures.read)
          is);
    }

pub returns-clause-read : goal.returns-clause-read
returns-clause-read c =
    let off : is_sign 125 (front_token c.families.words.left) ≡ true = sym c.is_mark.ensures ∙ c.families-test.false in
    c.families.invariant.whole c.families.words.left (Ok c.families.listed)
    (until_done (is_sign 125) family_statement c.args.words.now.end c.families.listed c.families.words.left off)

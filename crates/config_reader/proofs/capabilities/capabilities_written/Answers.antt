use Rattle.std.proofs.Common.{◌≡◌, false, true, Ok, Err, sym, ◌∙◌}
use Rattle.std.proofs.lemmas.Result.{err_from_is_err_and}
use Rattle.token_reader.specs.Tokens.{front_token}
use Rattle.config_reader.specs.Capabilities.{capability_statement}
use Rattle.config_reader.specs.Rules.{is_sign}
use Rattle.config_reader.proofs.RuleLemmas.{same_end, until_done, until_more, until_stops}
use Rattle.config_reader.proofs.capabilities.capabilities_written.Goals as goal

pub returns-in_err-written-clause-read : goal.returns-in_err-written-clause-read
returns-in_err-written-clause-read c =
    let e = err_from_is_err_and c.from_residual.result c.from_residual.ensures.1 in
    let on : is_sign 125 (front_token c.capabilities.words.left) ≡ false = sym c.is_mark.ensures ∙
    c.capabilities-test.true in
    rw (e.1, e.2)
    (c.capabilities.invariant.whole c.capability_statement.new.words.left (Err c.in_err-written.field-0.0)
    (until_stops (is_sign 125) capability_statement c.args.words.now.end c.capabilities.written
    c.capabilities.words.left
    c.capability_statement.new.words.left c.capability_statement.new.words.left c.in_err-written.field-0.0 on
    (same_end (capability_statement c.capabilities.written) c.args.words.now.end c.capabilities.words.end
    c.capabilities.words.left
    c.capability_statement.new.words.left (Err c.in_err-written.field-0.0) c.capabilities.invariant.end
    c.in_err-written.ensures.read)))

pub capabilities-preserved : goal.capabilities-preserved
capabilities-preserved c =
    let on : is_sign 125 (front_token c.capabilities.words.left) ≡ false = sym c.is_mark.ensures ∙
    c.capabilities-test.true in
    record {
      end = c.in_ok-written.ensures.end ∙ c.capabilities.invariant.end;
      whole = λ left answer is.
          c.capabilities.invariant.whole left answer
          (until_more (is_sign 125) capability_statement c.args.words.now.end c.capabilities.written
          c.in_ok-written.written
          c.capabilities.words.left c.capability_statement.new.words.left left answer on
          (same_end (capability_statement c.capabilities.written) c.args.words.now.end c.capabilities.words.end
          c.capabilities.words.left
          c.capability_statement.new.words.left (Ok c.in_ok-written.written) c.capabilities.invariant.end
          c.in_ok-written.ensures.read)
          is);
    }

pub returns-clause-read : goal.returns-clause-read
returns-clause-read c =
    let off : is_sign 125 (front_token c.capabilities.words.left) ≡ true = sym c.is_mark.ensures ∙
    c.capabilities-test.false in
    c.capabilities.invariant.whole c.capabilities.words.left (Ok c.capabilities.written)
    (until_done (is_sign 125) capability_statement c.args.words.now.end c.capabilities.written
    c.capabilities.words.left off)

use Rattle.std.proofs.Common.{◌≡◌, false, true, Ok, Err, sym, ◌∙◌}
use Rattle.std.proofs.lemmas.Result.{err_from_is_err_and}
use Rattle.token_reader.specs.Tokens.{front_token}
use Rattle.config_reader.specs.Rules.{is_end}
use Rattle.config_reader.proofs.RuleLemmas.{same_end, until_done, until_more, until_stops}
use Rattle.health_core.specs.Statements.{statement_at}
use Rattle.health_core.proofs.ShrinkLemmas.{statement_shrinks}
use Rattle.health_core.proofs.statements.statements_read.Goals as goal

pub returns-in_err-written-clause-read : goal.returns-in_err-written-clause-read
returns-in_err-written-clause-read c =
    let e = err_from_is_err_and c.from_residual.result c.from_residual.ensures.1 in
    let on : is_end (front_token c.statements.words.left) ≡ false = sym c.is_end.ensures ∙ c.statements-test.true in
    rw (e.1, e.2)
    (c.statements.invariant.whole c.statement_at.new.words.left (Err c.in_err-written.field-0.0)
    (until_stops is_end statement_at c.args.words.now.end c.statements.written c.statements.words.left
    c.statement_at.new.words.left c.statement_at.new.words.left c.in_err-written.field-0.0 on
    (same_end (statement_at c.statements.written) c.args.words.now.end c.statements.words.end c.statements.words.left
    c.statement_at.new.words.left (Err c.in_err-written.field-0.0) c.statements.invariant.end
    c.in_err-written.ensures.read)))

pub statements-preserved : goal.statements-preserved
statements-preserved c =
    let on : is_end (front_token c.statements.words.left) ≡ false = sym c.is_end.ensures ∙ c.statements-test.true in
    record {
      end = c.in_ok-written.ensures.end ∙ c.statements.invariant.end;
      whole = λ left answer is.
          c.statements.invariant.whole left answer
          (until_more is_end statement_at c.args.words.now.end c.statements.written c.in_ok-written.written
          c.statements.words.left c.statement_at.new.words.left left answer on
          (same_end (statement_at c.statements.written) c.args.words.now.end c.statements.words.end
          c.statements.words.left c.statement_at.new.words.left (Ok c.in_ok-written.written) c.statements.invariant.end
          c.in_ok-written.ensures.read)
          is);
    }

pub returns-clause-read : goal.returns-clause-read
returns-clause-read c =
    let off : is_end (front_token c.statements.words.left) ≡ true = sym c.is_end.ensures ∙ c.statements-test.false in
    c.statements.invariant.whole c.statements.words.left (Ok c.statements.written)
    (until_done is_end statement_at c.args.words.now.end c.statements.written c.statements.words.left off)

pub statements-smaller : goal.statements-smaller
statements-smaller c =
    statement_shrinks c.statements.written c.statements.words.end c.statements.words.left
    c.statement_at.new.words.left c.in_ok-written.written c.in_ok-written.ensures.read

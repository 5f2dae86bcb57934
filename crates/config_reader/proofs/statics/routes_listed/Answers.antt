use Rattle.std.proofs.Common.{◌≡◌, false, true, Ok, Err, sym, ◌∙◌}
use Rattle.std.proofs.lemmas.Result.{err_from_is_err_and}
use Rattle.token_reader.specs.Tokens.{front_token}
use Rattle.config_reader.specs.Rules.{is_sign}
use Rattle.config_reader.specs.Statics.{route_statement}
use Rattle.config_reader.proofs.RuleLemmas.{same_end, until_done, until_more, until_stops}
use Rattle.config_reader.proofs.StaticLemmas.{route_shrinks}
use Rattle.config_reader.proofs.statics.routes_listed.Goals as goal

pub returns-in_err-all-clause-read : goal.returns-in_err-all-clause-read
returns-in_err-all-clause-read c =
    let e = err_from_is_err_and c.from_residual.result c.from_residual.ensures.1 in
    let on : is_sign 125 (front_token c.listed.words.left) ≡ false = sym c.is_mark.ensures ∙ c.listed-test.true in
    rw (e.1, e.2)
    (c.listed.invariant.whole c.route_statement.new.words.left (Err c.in_err-all.field-0.0)
    (until_stops (is_sign 125) route_statement c.args.words.now.end c.listed.all c.listed.words.left
    c.route_statement.new.words.left c.route_statement.new.words.left c.in_err-all.field-0.0 on
    (same_end (route_statement c.listed.all) c.args.words.now.end c.listed.words.end c.listed.words.left
    c.route_statement.new.words.left (Err c.in_err-all.field-0.0) c.listed.invariant.end c.in_err-all.ensures.read)))

pub listed-preserved : goal.listed-preserved
listed-preserved c =
    let on : is_sign 125 (front_token c.listed.words.left) ≡ false = sym c.is_mark.ensures ∙ c.listed-test.true in
    record {
      end = c.in_ok-all.ensures.end ∙ c.listed.invariant.end;
      whole = λ left answer is.
          c.listed.invariant.whole left answer
          (until_more (is_sign 125) route_statement c.args.words.now.end c.listed.all c.in_ok-all.all
          c.listed.words.left c.route_statement.new.words.left left answer on
          (same_end (route_statement c.listed.all) c.args.words.now.end c.listed.words.end c.listed.words.left
          c.route_statement.new.words.left (Ok c.in_ok-all.all) c.listed.invariant.end c.in_ok-all.ensures.read)
          is);
    }

pub returns-clause-read : goal.returns-clause-read
returns-clause-read c =
    let off : is_sign 125 (front_token c.listed.words.left) ≡ true = sym c.is_mark.ensures ∙ c.listed-test.false in
    c.listed.invariant.whole c.listed.words.left (Ok c.listed.all)
    (until_done (is_sign 125) route_statement c.args.words.now.end c.listed.all c.listed.words.left off)

pub listed-smaller : goal.listed-smaller
listed-smaller c =
    route_shrinks c.listed.all c.listed.words.end c.listed.words.left c.route_statement.new.words.left
    c.in_ok-all.all c.in_ok-all.ensures.read

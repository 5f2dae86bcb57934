use Rattle.std.proofs.Common.{◌≡◌, false, true, Ok, Err, sym, ◌∙◌}
use Rattle.std.proofs.lemmas.Result.{err_from_is_err_and}
use Rattle.token_reader.specs.Tokens.{front_token}
use Rattle.config_reader.specs.Heard.{further_heard}
use Rattle.config_reader.specs.Rules.{is_sign}
use Rattle.config_reader.proofs.HeardLemmas.{further_shrinks}
use Rattle.config_reader.proofs.RuleLemmas.{same_end, until_done, until_more, until_stops}
use Rattle.config_reader.proofs.heard.names_further.Goals as goal

pub returns-in_err-all-clause-read : goal.returns-in_err-all-clause-read
returns-in_err-all-clause-read c =
    let e = err_from_is_err_and c.from_residual.result c.from_residual.ensures.1 in
    let on : is_sign 93 (front_token c.names.words.left) ≡ false = sym c.is_mark.ensures ∙ c.names-test.true in
    rw (e.1, e.2)
    (c.names.invariant.whole c.further_heard.new.words.left (Err c.in_err-all.field-0.0)
    (until_stops (is_sign 93) further_heard c.args.words.now.end c.names.all c.names.words.left
    c.further_heard.new.words.left c.further_heard.new.words.left c.in_err-all.field-0.0 on
    (same_end (further_heard c.names.all) c.args.words.now.end c.names.words.end c.names.words.left
    c.further_heard.new.words.left (Err c.in_err-all.field-0.0) c.names.invariant.end c.in_err-all.ensures.read)))

pub names-preserved : goal.names-preserved
names-preserved c =
    let on : is_sign 93 (front_token c.names.words.left) ≡ false = sym c.is_mark.ensures ∙ c.names-test.true in
    record {
      end = c.in_ok-all.ensures.end ∙ c.names.invariant.end;
      whole = λ left answer is.
          c.names.invariant.whole left answer
          (until_more (is_sign 93) further_heard c.args.words.now.end c.names.all c.in_ok-all.all
          c.names.words.left c.further_heard.new.words.left left answer on
          (same_end (further_heard c.names.all) c.args.words.now.end c.names.words.end c.names.words.left
          c.further_heard.new.words.left (Ok c.in_ok-all.all) c.names.invariant.end c.in_ok-all.ensures.read)
          is);
    }

pub returns-clause-read : goal.returns-clause-read
returns-clause-read c =
    let off : is_sign 93 (front_token c.names.words.left) ≡ true = sym c.is_mark.ensures ∙ c.names-test.false in
    c.names.invariant.whole c.names.words.left (Ok c.names.all)
    (until_done (is_sign 93) further_heard c.args.words.now.end c.names.all c.names.words.left off)

pub names-smaller : goal.names-smaller
names-smaller c =
    further_shrinks c.names.all c.names.words.end c.names.words.left c.further_heard.new.words.left c.in_ok-all.all
    c.in_ok-all.ensures.read

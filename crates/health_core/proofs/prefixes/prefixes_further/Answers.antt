use Rattle.std.proofs.Common.{◌≡◌, false, true, Ok, Err, sym, ◌∙◌}
use Rattle.std.proofs.lemmas.Result.{err_from_is_err_and}
use Rattle.token_reader.specs.Tokens.{front_token}
use Rattle.config_reader.specs.Rules.{is_sign}
use Rattle.config_reader.proofs.RuleLemmas.{same_end, until_done, until_more, until_stops}
use Rattle.health_core.specs.Prefixes.{prefix_more}
use Rattle.health_core.proofs.ShrinkLemmas.{prefix_shrinks}
use Rattle.health_core.proofs.prefixes.prefixes_further.Goals as goal

pub returns-in_err-keys-clause-read : goal.returns-in_err-keys-clause-read
returns-in_err-keys-clause-read c =
    let e = err_from_is_err_and c.from_residual.result c.from_residual.ensures.1 in
    let on : is_sign 59 (front_token c.prefixes.words.left) ≡ false = sym c.is_mark.ensures ∙ c.prefixes-test.true in
    rw (e.1, e.2)
    (c.prefixes.invariant.whole c.prefix_more.new.words.left (Err c.in_err-keys.field-0.0)
    (until_stops (is_sign 59) (prefix_more c.args.hop) c.args.words.now.end c.prefixes.keys c.prefixes.words.left
    c.prefix_more.new.words.left c.prefix_more.new.words.left c.in_err-keys.field-0.0 on
    (same_end (prefix_more c.args.hop c.prefixes.keys) c.args.words.now.end c.prefixes.words.end c.prefixes.words.left
    c.prefix_more.new.words.left (Err c.in_err-keys.field-0.0) c.prefixes.invariant.end c.in_err-keys.ensures.read)))

pub prefixes-preserved : goal.prefixes-preserved
prefixes-preserved c =
    let on : is_sign 59 (front_token c.prefixes.words.left) ≡ false = sym c.is_mark.ensures ∙ c.prefixes-test.true in
    record {
      end = c.in_ok-keys.ensures.end ∙ c.prefixes.invariant.end;
      whole = λ left answer is.
          c.prefixes.invariant.whole left answer
          (until_more (is_sign 59) (prefix_more c.args.hop) c.args.words.now.end c.prefixes.keys c.in_ok-keys.keys
          c.prefixes.words.left c.prefix_more.new.words.left left answer on
          (same_end (prefix_more c.args.hop c.prefixes.keys) c.args.words.now.end c.prefixes.words.end
          c.prefixes.words.left c.prefix_more.new.words.left (Ok c.in_ok-keys.keys) c.prefixes.invariant.end
          c.in_ok-keys.ensures.read)
          is);
    }

pub returns-clause-read : goal.returns-clause-read
returns-clause-read c =
    let off : is_sign 59 (front_token c.prefixes.words.left) ≡ true = sym c.is_mark.ensures ∙ c.prefixes-test.false in
    c.prefixes.invariant.whole c.prefixes.words.left (Ok c.prefixes.keys)
    (until_done (is_sign 59) (prefix_more c.args.hop) c.args.words.now.end c.prefixes.keys c.prefixes.words.left off)

pub prefixes-smaller : goal.prefixes-smaller
prefixes-smaller c =
    prefix_shrinks c.args.hop c.prefixes.keys c.prefixes.words.end c.prefixes.words.left c.prefix_more.new.words.left
    c.in_ok-keys.keys c.in_ok-keys.ensures.read

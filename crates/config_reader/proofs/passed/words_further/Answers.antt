use Rattle.std.proofs.Common.{◌≡◌, false, true, Ok, Err, sym, ◌∙◌}
use Rattle.std.proofs.lemmas.Result.{err_from_is_err_and}
use Rattle.token_reader.specs.Tokens.{front_token}
use Rattle.config_reader.specs.Neighbors.{word_passed}
use Rattle.config_reader.specs.Rules.{is_sign}
use Rattle.config_reader.proofs.KeepLemmas.{passed_shrinks}
use Rattle.config_reader.proofs.RuleLemmas.{same_end, until_done, until_more, until_stops}
use Rattle.config_reader.proofs.passed.words_further.Goals as goal

pub returns-in_err-word_passed-clause-read : goal.returns-in_err-word_passed-clause-read
returns-in_err-word_passed-clause-read c =
    let e = err_from_is_err_and c.from_residual.result c.from_residual.ensures.1 in
    let on : is_sign 59 (front_token c.words.words.left) ≡ false = sym c.is_mark.ensures ∙ c.words-test.true in
    rw (e.1, e.2)
    (c.words.invariant.whole c.word_passed.new.words.left (Err c.in_err-word_passed.field-0.0)
    (until_stops (is_sign 59) word_passed c.args.words.now.end tt c.words.words.left
    c.word_passed.new.words.left c.word_passed.new.words.left c.in_err-word_passed.field-0.0 on
    (same_end (word_passed tt) c.args.words.now.end c.words.words.end c.words.words.left
    c.word_passed.new.words.left (Err c.in_err-word_passed.field-0.0) c.words.invariant.end
    c.in_err-word_passed.ensures.read)))

pub words-preserved : goal.words-preserved
words-preserved c =
    let on : is_sign 59 (front_token c.words.words.left) ≡ false = sym c.is_mark.ensures ∙ c.words-test.true in
    record {
      end = c.in_ok-word_passed.ensures.end ∙ c.words.invariant.end;
      whole = λ left answer is.
          c.words.invariant.whole left answer
          (until_more (is_sign 59) word_passed c.args.words.now.end tt tt
          c.words.words.left c.word_passed.new.words.left left answer on
          (same_end (word_passed tt) c.args.words.now.end c.words.words.end c.words.words.left
          c.word_passed.new.words.left (Ok tt) c.words.invariant.end c.in_ok-word_passed.ensures.read)
          is);
    }

pub returns-clause-read : goal.returns-clause-read
returns-clause-read c =
    let off : is_sign 59 (front_token c.words.words.left) ≡ true = sym c.is_mark.ensures ∙ c.words-test.false in
    c.words.invariant.whole c.words.words.left (Ok tt)
    (until_done (is_sign 59) word_passed c.args.words.now.end tt c.words.words.left off)

pub words-smaller : goal.words-smaller
words-smaller c =
    passed_shrinks tt c.words.words.end c.words.words.left c.word_passed.new.words.left tt
    c.in_ok-word_passed.ensures.read

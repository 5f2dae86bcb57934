use Rattle.std.proofs.Common.{ℕ, ◌≡◌, ◌∷◌, ◌++◌, [], false, true, List, Ok, Err, sym, ◌∙◌}
use Rattle.std.proofs.lemmas.Result.{err_from_is_err_and}
use Rattle.token_reader.specs.Tokens.{front_token}
use Rattle.config_reader.specs.Processes.{joined, words_joined}
use Rattle.config_reader.specs.Rules.{is_sign, saying, until}
use Rattle.config_reader.specs.Words.{any_word}
use Rattle.config_reader.proofs.JoinedLemmas.{held_stops, joins_holds, joins_more, joins_stops}
use Rattle.config_reader.proofs.RuleLemmas.{goes, same_end, stops, until_done, until_more, until_stops}
use Rattle.config_reader.proofs.joined.words_joined.Goals as goal

pub returns-clause-read : goal.returns-clause-read
returns-clause-read c =
    let off : is_sign 59 (front_token c.words.words.left) ≡ true = sym c.is_mark.ensures ∙ c.words-test.false in
    let held = c.words.invariant.held in (
      held.0,
      held.2 c.words.words.left (Ok held.0)
          (until_done (is_sign 59) joined c.args.words.now.end held.0 c.words.words.left off),
      held.1,
    )

pub returns-in_err-put_word-clause-read : goal.returns-in_err-put_word-clause-read
returns-in_err-put_word-clause-read c =
    let e = err_from_is_err_and c.from_residual.result c.from_residual.ensures.1 in
    rw (e.1, e.2)
    (held_stops words_joined c.args.words.now.end c.args.words.now.left c.put_word.new.words.left
    c.in_err-put_word.field-0.0
    (stops any_word (λ first. until (is_sign 59) joined first) c.args.words.now.end c.args.words.now.left
    c.put_word.new.words.left c.put_word.new.words.left c.in_err-put_word.field-0.0
    (joins_stops [] c.put_word.new.self c.args.words.now.end c.args.words.now.left c.put_word.new.words.left
    c.put_word.new.words.left c.in_err-put_word.field-0.0
    (c.in_err-put_word.ensures.read [] c.new-joined.ensures))))

pub words-init : goal.words-init
words-init c =
    let first = c.in_ok-put_word.ensures.read [] c.new-joined.ensures in
    record {
      end = c.in_ok-put_word.ensures.end;
      held = (
        first.0,
        first.2,
        λ left answer is.
            goes any_word (λ text. until (is_sign 59) joined text) c.args.words.now.end c.args.words.now.left
            c.put_word.new.words.left left first.0 answer first.1 is,
      );
    }

pub words-preserved : goal.words-preserved
words-preserved c =
    let on : is_sign 59 (front_token c.words.words.left) ≡ false = sym c.is_mark.ensures ∙ c.words-test.true in
    let held = c.words.invariant.held in
    let next = c.in_ok-put_word-2.ensures.read (held.0 ++ 0 ∷ []) (c.put.ensures held.0 held.1) in
    record {
      end = c.in_ok-put_word-2.ensures.end ∙ c.words.invariant.end;
      held = (
        held.0 ++ 0 ∷ next.0,
        joins_holds held.0 next.0 c.put_word-in-words.new.self next.2,
        λ left answer is.
            held.2 left answer
            (until_more (is_sign 59) joined c.args.words.now.end held.0 (held.0 ++ 0 ∷ next.0) c.words.words.left
            c.put_word-in-words.new.words.left left answer on
            (joins_more held.0 next.0 c.args.words.now.end c.words.words.left c.put_word-in-words.new.words.left
            (same_end any_word c.args.words.now.end c.words.words.end c.words.words.left
            c.put_word-in-words.new.words.left (Ok next.0) c.words.invariant.end next.1))
            is),
      );
    }

pub returns-in_err-put_word-2-clause-read : goal.returns-in_err-put_word-2-clause-read
returns-in_err-put_word-2-clause-read c =
    let e = err_from_is_err_and c.from_residual-in_err-put_word-2.result c.from_residual-in_err-put_word-2.ensures.1 in
    let on : is_sign 59 (front_token c.words.words.left) ≡ false = sym c.is_mark.ensures ∙ c.words-test.true in
    let held = c.words.invariant.held in
    rw (e.1, e.2)
    (held_stops words_joined c.args.words.now.end c.args.words.now.left c.put_word-in-words.new.words.left
    c.in_err-put_word-2.field-0.0
    (held.2 c.put_word-in-words.new.words.left (Err c.in_err-put_word-2.field-0.0)
    (until_stops (is_sign 59) joined c.args.words.now.end held.0 c.words.words.left c.put_word-in-words.new.words.left
    c.put_word-in-words.new.words.left c.in_err-put_word-2.field-0.0 on
    (stops any_word (λ text. saying (held.0 ++ 0 ∷ text)) c.args.words.now.end c.words.words.left
    c.put_word-in-words.new.words.left c.put_word-in-words.new.words.left c.in_err-put_word-2.field-0.0
    (same_end any_word c.args.words.now.end c.words.words.end c.words.words.left c.put_word-in-words.new.words.left
    (Err c.in_err-put_word-2.field-0.0) c.words.invariant.end
    (joins_stops (held.0 ++ 0 ∷ []) c.put_word-in-words.new.self c.words.words.end c.words.words.left
    c.put_word-in-words.new.words.left c.put_word-in-words.new.words.left c.in_err-put_word-2.field-0.0
    (c.in_err-put_word-2.ensures.read (held.0 ++ 0 ∷ []) (c.put.ensures held.0 held.1))))))))

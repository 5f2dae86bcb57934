use Rattle.std.proofs.lemmas.Result.{err_from_is_err_and}
use Rattle.config_reader.specs.Neighbors.{word_passed, words_further}
use Rattle.config_reader.specs.Rules.{sign, ◌>>=◌}
use Rattle.config_reader.proofs.RuleLemmas.{goes_on, second_stops}
use Rattle.config_reader.proofs.passed.words_passed.Goals as goal

pub returns-in_err-words_further-clause-read : goal.returns-in_err-words_further-clause-read
returns-in_err-words_further-clause-read c =
    let e = err_from_is_err_and c.from_residual-in_err-words_further.result
    c.from_residual-in_err-words_further.ensures.1 in
    rw (e.1, e.2)
    (second_stops (word_passed tt) (λ first. words_further) (λ first all. sign 59) c.args.words.now.end
    c.word_passed.new.words.end c.args.words.now.left c.word_passed.new.words.left c.words_further.new.words.left
    c.words_further.new.words.left c.in_ok-word_passed.field-0 c.in_err-words_further.field-0.0
    c.in_ok-word_passed.ensures.read c.in_ok-word_passed.ensures.end c.in_err-words_further.ensures.read)

pub returns-clause-read : goal.returns-clause-read
returns-clause-read c =
    goes_on (word_passed tt) (λ first. words_further >>= λ all. sign 59) c.args.words.now.end
    c.word_passed.new.words.end c.args.words.now.left c.word_passed.new.words.left c.sign.new.words.left
    c.in_ok-word_passed.field-0 c.sign.result c.in_ok-word_passed.ensures.read c.in_ok-word_passed.ensures.end
    (goes_on words_further (λ all. sign 59) c.word_passed.new.words.end c.words_further.new.words.end
    c.word_passed.new.words.left c.words_further.new.words.left c.sign.new.words.left c.in_ok-words_further.field-0
    c.sign.result c.in_ok-words_further.ensures.read c.in_ok-words_further.ensures.end c.sign.ensures.read)

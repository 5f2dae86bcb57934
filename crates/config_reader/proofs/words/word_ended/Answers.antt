use Rattle.std.proofs.Common.{Err}
use Rattle.std.proofs.lemmas.Result.{err_from_is_err_and}
use Rattle.config_reader.specs.Rules.{◌>>=◌, saying, sign}
use Rattle.config_reader.specs.Words.{word}
use Rattle.config_reader.proofs.RuleLemmas.{goes_on, stops}
use Rattle.config_reader.proofs.words.word_ended.Goals as goal

pub returns-in_err-sign-clause-read : goal.returns-in_err-sign-clause-read
returns-in_err-sign-clause-read g c =
    let e = err_from_is_err_and c.from_residual-in_err-sign.result c.from_residual-in_err-sign.ensures.1 in
    rw (e.1, e.2)
    (goes_on (word (g.K.Kind.spells c.args.kind.now)) (λ value. sign 59 >>= λ ended. saying value) c.args.words.now.end
    c.word.new.words.end c.args.words.now.left c.word.new.words.left c.sign.new.words.left c.in_ok-value.value
    (Err c.in_err-sign.field-0.0) c.in_ok-value.ensures.read c.in_ok-value.ensures.end
    (stops (sign 59) (λ ended. saying c.in_ok-value.value) c.word.new.words.end c.word.new.words.left
    c.sign.new.words.left c.sign.new.words.left c.in_err-sign.field-0.0 c.in_err-sign.ensures.read))

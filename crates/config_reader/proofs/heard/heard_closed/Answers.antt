use Rattle.std.proofs.lemmas.Result.{err_from_is_err_and}
use Rattle.config_reader.specs.Rules.{sign, ◌>>=◌}
use Rattle.config_reader.proofs.RuleLemmas.{goes_on, second_stops}
use Rattle.config_reader.proofs.heard.heard_closed.Goals as goal

pub returns-in_err-sign-2-clause-read : goal.returns-in_err-sign-2-clause-read
returns-in_err-sign-2-clause-read c =
    let e = err_from_is_err_and c.from_residual-in_err-sign-2.result c.from_residual-in_err-sign-2.ensures.1 in
    rw (e.1, e.2)
    (second_stops (sign 93) (λ complete. sign 59) (λ complete ended. sign 125) c.args.words.now.end
    c.sign.new.words.end c.args.words.now.left c.sign.new.words.left c.sign-2.new.words.left c.sign-2.new.words.left
    c.in_ok-sign.field-0 c.in_err-sign-2.field-0.0 c.in_ok-sign.ensures.read c.in_ok-sign.ensures.end
    c.in_err-sign-2.ensures.read)

pub returns-clause-read : goal.returns-clause-read
returns-clause-read c =
    goes_on (sign 93) (λ complete. sign 59 >>= λ ended. sign 125) c.args.words.now.end c.sign.new.words.end
    c.args.words.now.left c.sign.new.words.left c.sign-3.new.words.left c.in_ok-sign.field-0 c.sign-3.result
    c.in_ok-sign.ensures.read c.in_ok-sign.ensures.end
    (goes_on (sign 59) (λ ended. sign 125) c.sign.new.words.end c.sign-2.new.words.end c.sign.new.words.left
    c.sign-2.new.words.left c.sign-3.new.words.left c.in_ok-sign-2.field-0 c.sign-3.result c.in_ok-sign-2.ensures.read
    c.in_ok-sign-2.ensures.end c.sign-3.ensures.read)

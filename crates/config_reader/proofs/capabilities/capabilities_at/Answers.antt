use Rattle.std.proofs.lemmas.Result.{err_from_is_err_and}
use Rattle.config_reader.specs.Capabilities.{capabilities_written}
use Rattle.config_reader.specs.Rules.{saying, sign}
use Rattle.config_reader.proofs.RuleLemmas.{third_stops}
use Rattle.config_reader.proofs.capabilities.capabilities_at.Goals as goal

pub returns-in_err-sign-2-clause-read : goal.returns-in_err-sign-2-clause-read
returns-in_err-sign-2-clause-read c =
    let e = err_from_is_err_and c.from_residual-in_err-sign-2.result c.from_residual-in_err-sign-2.ensures.1 in
    rw (e.1, e.2)
    (third_stops (sign 123) (λ opened. capabilities_written) (λ opened written. sign 125) (λ opened written closed.
    saying written)
    c.args.words.now.end c.sign.new.words.end c.capabilities_written.new.words.end c.args.words.now.left
    c.sign.new.words.left
    c.capabilities_written.new.words.left c.sign-2.new.words.left c.sign-2.new.words.left c.in_ok-sign.field-0
    c.in_ok-written.written
    c.in_err-sign-2.field-0.0 c.in_ok-sign.ensures.read c.in_ok-sign.ensures.end c.in_ok-written.ensures.read
    c.in_ok-written.ensures.end c.in_err-sign-2.ensures.read)

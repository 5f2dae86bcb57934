use Rattle.std.proofs.lemmas.Result.{err_from_is_err_and}
use Rattle.config_model.specs.declared.fault.ConfigKind.TheVariants.{Twice}
use Rattle.config_reader.specs.Capabilities.{IsCapability, capability_operand, states}
use Rattle.config_reader.specs.Rules.{◌>>=◌, saying, sign, where_so}
use Rattle.config_reader.specs.Words.{word_or}
use Rattle.config_reader.proofs.RuleLemmas.{third_stops}
use Rattle.config_reader.proofs.capabilities.capability_statement.Goals as goal

pub returns-in_err-sign-clause-read : goal.returns-in_err-sign-clause-read
returns-in_err-sign-clause-read c =
    let e = err_from_is_err_and c.from_residual-in_err-sign.result c.from_residual-in_err-sign.ensures.1 in
    rw (e.1, e.2)
    (third_stops (word_or IsCapability (λ which. where_so Twice (states c.args.written which)))
    (λ which. capability_operand c.args.written which) (λ which after. sign 59) (λ which after ended. saying after)
    c.args.words.now.end c.capability_at.new.words.end c.capability_operand.new.words.end c.args.words.now.left
    c.capability_at.new.words.left c.capability_operand.new.words.left c.sign.new.words.left c.sign.new.words.left
    c.in_ok-which.which c.in_ok-after.after c.in_err-sign.field-0.0 c.in_ok-which.ensures.read
    c.in_ok-which.ensures.end c.in_ok-after.ensures.read c.in_ok-after.ensures.end c.in_err-sign.ensures.read)

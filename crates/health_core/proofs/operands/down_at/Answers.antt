use Rattle.std.proofs.lemmas.Result.{err_from_is_err_and}
use Rattle.config_reader.specs.Rules.{saying, sign}
use Rattle.config_reader.specs.Words.{word}
use Rattle.config_reader.proofs.RuleLemmas.{third_stops}
use Rattle.health_core.specs.Statements.{down_with}
use Rattle.health_core.specs.Words.{IsDownWord}
use Rattle.health_core.proofs.operands.down_at.Goals as goal

pub returns-in_err-sign-clause-read : goal.returns-in_err-sign-clause-read
returns-in_err-sign-clause-read c =
    let e = err_from_is_err_and c.from_residual-in_err-sign.result c.from_residual-in_err-sign.ensures.1 in
    rw (e.1, e.2)
    (third_stops (word IsDownWord) down_with (λ announced med. sign 59) (λ announced med ended. saying med)
    c.args.words.now.end c.word.new.words.end c.down_with.new.words.end c.args.words.now.left c.word.new.words.left
    c.down_with.new.words.left c.sign.new.words.left c.sign.new.words.left c.in_ok-announced.announced
    c.in_ok-med.med c.in_err-sign.field-0.0 c.in_ok-announced.ensures.read c.in_ok-announced.ensures.end
    c.in_ok-med.ensures.read c.in_ok-med.ensures.end c.in_err-sign.ensures.read)

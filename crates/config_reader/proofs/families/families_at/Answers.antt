use Rattle.std.proofs.lemmas.Result.{err_from_is_err_and}
use Rattle.config_reader.specs.Families.{families_listed}
use Rattle.config_reader.specs.Rules.{saying, sign}
use Rattle.config_reader.proofs.RuleLemmas.{third_stops}
use Rattle.config_reader.proofs.families.families_at.Goals as goal

pub returns-in_err-sign-2-clause-read : goal.returns-in_err-sign-2-clause-read
returns-in_err-sign-2-clause-read c =
    let e = err_from_is_err_and c.from_residual-in_err-sign-2.result c.from_residual-in_err-sign-2.ensures.1 in
    rw (e.1, e.2)
    (third_stops (sign 123) (λ opened. families_listed) (λ opened listed. sign 125) (λ opened listed closed. saying
    listed)
    c.args.words.now.end c.sign.new.words.end c.families_listed.new.words.end c.args.words.now.left
    c.sign.new.words.left
    c.families_listed.new.words.left c.sign-2.new.words.left c.sign-2.new.words.left c.in_ok-sign.field-0
    c.in_ok-listed.listed
    c.in_err-sign-2.field-0.0 c.in_ok-sign.ensures.read c.in_ok-sign.ensures.end c.in_ok-listed.ensures.read
    c.in_ok-listed.ensures.end c.in_err-sign-2.ensures.read)

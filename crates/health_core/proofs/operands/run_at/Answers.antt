use Rattle.std.proofs.Common.{nat_lt, length, Option, Err, subst}
use Rattle.std.proofs.lemmas.Result.{err_from_is_err_and}
use Rattle.config_model.specs.declared.fault.ConfigKind.{ConfigKind}
use Rattle.config_model.specs.declared.fault.ConfigKind.TheVariants.{Many}
use Rattle.config_reader.specs.Answered.{Answers}
use Rattle.config_reader.specs.Rules.{saying, sign_or, where_so}
use Rattle.config_reader.specs.Words.{any_word}
use Rattle.config_reader.proofs.RuleLemmas.{second_stops}
use Rattle.health_core.proofs.operands.run_at.Goals as goal

pub returns-in_err-sign_or-clause-read : goal.returns-in_err-sign_or-clause-read
returns-in_err-sign_or-clause-read c =
    let e = err_from_is_err_and c.from_residual-in_err-sign_or.result c.from_residual-in_err-sign_or.ensures.1 in
    let held = c.in_ok-run.ensures.read in
    rw (e.1, e.2)
    (second_stops any_word (λ run. sign_or 59 (where_so Many (nat_lt 1024 (length run))))
    (λ run ended. saying (record { items = run })) c.args.words.now.end c.program.new.words.end
    c.args.words.now.left c.program.new.words.left c.sign_or.new.words.left c.sign_or.new.words.left held.0
    c.in_err-sign_or.field-0.0 held.1 c.in_ok-run.ensures.end
    (subst (λ (kind : Option ConfigKind). Answers (sign_or 59 kind) c.program.new.words.end c.program.new.words.left
    c.sign_or.new.words.left (Err c.in_err-sign_or.field-0.0)) (c.wrong.ensures held.0 held.2)
    c.in_err-sign_or.ensures.read))

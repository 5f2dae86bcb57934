use Rattle.std.proofs.lemmas.Result.{err_from_is_err_and}
use Rattle.command_grammar.specs.Routes.{Withdrawn}
use Rattle.command_grammar.proofs.VerbLemmas.{form_err, form_ok, withdrawn_some}
use Rattle.command_grammar.proofs.verbs.withdrawing.Goals as goal

pub returns-in_err-form-clause-read : goal.returns-in_err-form-clause-read
returns-in_err-form-clause-read c =
    let e = err_from_is_err_and c.from_residual.result c.from_residual.ensures.1 in
    rw (e.1, e.2)
    (form_err (Withdrawn c.args.pick) c.args.words.now.left c.form_at.new.words.left c.form_at.new.words.end
    c.in_err-form.field-0.0 (withdrawn_some c.args.pick) c.in_err-form.ensures.read)

pub returns-clause-read : goal.returns-clause-read
returns-clause-read c =
    form_ok (Withdrawn c.args.pick) c.in_ok-form.form c.args.words.now.left c.form_at.new.words.left
    c.withdrawn.new.words.left c.withdrawn.new.words.end c.withdrawn.result c.in_ok-form.ensures.read
    c.withdrawn.ensures.read

use Rattle.std.proofs.lemmas.Result.{err_from_is_err_and}
use Rattle.command_grammar.proofs.TargetLemmas.{code_err, code_ok}
use Rattle.command_grammar.proofs.targets.torn_down.Goals as goal

pub returns-in_err-code-clause-read : goal.returns-in_err-code-clause-read
returns-in_err-code-clause-read c =
    let e = err_from_is_err_and c.from_residual.result c.from_residual.ensures.1 in
    rw (e.1, e.2)
    (code_err c.args.pick c.args.words.now.left c.code_at.new.words.left c.code_at.new.words.end
    c.in_err-code.field-0.0 c.in_err-code.ensures.read)

pub returns-clause-read : goal.returns-clause-read
returns-clause-read c =
    code_ok c.args.pick c.in_ok-code.code c.args.words.now.left c.code_at.new.words.left c.code_at.new.words.left
    c.code_at.new.words.end c.ended.result c.in_ok-code.ensures.read c.ended.ensures

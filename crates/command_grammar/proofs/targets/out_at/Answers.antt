use Rattle.std.proofs.lemmas.Result.{err_from_is_err_and}
use Rattle.command_grammar.proofs.TargetLemmas.{out_first_err, out_second}
use Rattle.command_grammar.proofs.targets.out_at.Goals as goal

pub returns-in_err-keyword-clause-read : goal.returns-in_err-keyword-clause-read
returns-in_err-keyword-clause-read c =
    let e = err_from_is_err_and c.from_residual.result c.from_residual.ensures.1 in
    rw (e.1, e.2)
    (out_first_err c.args.words.now.left c.keyword.new.words.left c.keyword.new.words.end
    c.in_err-keyword.field-0.0 c.in_err-keyword.ensures.read)

pub returns-clause-read : goal.returns-clause-read
returns-clause-read c =
    out_second c.args.words.now.left c.keyword.new.words.left c.keyword-2.new.words.left c.keyword-2.new.words.end
    c.keyword-2.result c.in_ok-keyword.ensures.read c.keyword-2.ensures.read

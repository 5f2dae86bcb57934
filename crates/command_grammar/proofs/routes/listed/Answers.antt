use Rattle.std.proofs.lemmas.Result.{err_from_is_err_and}
use Rattle.command_grammar.proofs.RouteLemmas.{listed_err, listed_ok}
use Rattle.command_grammar.proofs.routes.listed.Goals as goal

pub returns-in_err-keyword-clause-read : goal.returns-in_err-keyword-clause-read
returns-in_err-keyword-clause-read c =
    let e = err_from_is_err_and c.from_residual.result c.from_residual.ensures.1 in
    rw (e.1, e.2)
    (listed_err c.args.id c.args.hop c.args.words.now.left c.keyword.new.words.left c.keyword.new.words.end
    c.in_err-keyword.field-0.0 c.in_err-keyword.ensures.read)

pub returns-clause-read : goal.returns-clause-read
returns-clause-read c =
    listed_ok c.args.id c.args.hop c.family_for.result c.args.words.now.left c.keyword.new.words.left
    c.keys_at.new.words.left c.keys_at.new.words.end c.keys_at.result c.family_for.ensures
    c.in_ok-keyword.ensures.read c.keys_at.ensures.read

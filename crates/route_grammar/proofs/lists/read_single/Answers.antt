use Rattle.std.proofs.lemmas.Result.{err_from_is_err_and}
use Rattle.route_grammar.specs.Limits.{in_force}
use Rattle.route_grammar.specs.Productions.{OneWord, nothing_further}
use Rattle.route_grammar.specs.Lists.{single}
use Rattle.route_grammar.proofs.AnsweredLemmas.{saying_answers}
use Rattle.route_grammar.proofs.ListLemmas.{single_read}
use Rattle.route_grammar.proofs.lists.read_single.Goals as goal

pub returns-in_err-value-clause-answers : goal.returns-in_err-value-clause-answers
returns-in_err-value-clause-answers g c =
    let e = err_from_is_err_and c.from_residual.result c.from_residual.ensures.1 in
    rw (e.1, e.2) (saying_answers single (OneWord (g.S.Spelling.spells c.args.spelling.now)) nothing_further in_force
    (g.W.Words.left c.args.words.now) (g.W.Words.left c.read_word.new.words) (g.W.Words.end c.read_word.new.words) _
    c.in_err-value.ensures.answers)

pub returns-in_err-push-clause-answers : goal.returns-in_err-push-clause-answers
returns-in_err-push-clause-answers g c =
    let e = err_from_is_err_and c.from_residual-in_err-push.result c.from_residual-in_err-push.ensures.1 in
    rw (e.1, e.2) tt

pub returns-clause-answers : goal.returns-clause-answers
returns-clause-answers g c =
    single_read (g.S.Spelling.spells c.args.spelling.now) (g.W.Words.left c.args.words.now)
    (g.W.Words.left c.read_word.new.words) c.in_ok-value.value c.push.new.self c.new-values.result c.new-values.ensures
    c.in_ok-push.ensures.ok c.in_ok-value.ensures.answers

use Rattle.std.proofs.lemmas.Result.{err_from_is_err_and}
use Rattle.command_grammar.proofs.VerbLemmas.{picked_err, picked_ok}
use Rattle.command_grammar.proofs.lines.picked.Goals as goal

pub returns-in_err-pick-clause-read : goal.returns-in_err-pick-clause-read
returns-in_err-pick-clause-read c =
    let e = err_from_is_err_and c.from_residual.result c.from_residual.ensures.1 in
    rw (e.1, e.2)
    (picked_err c.args.words.now.left c.picks_at.new.words.left c.picks_at.new.words.end c.in_err-pick.field-0.0
    c.in_err-pick.ensures.read)

pub returns-clause-read : goal.returns-clause-read
returns-clause-read c =
    picked_ok c.in_ok-pick.pick c.args.words.now.left c.picks_at.new.words.left c.targeted.new.words.left
    c.targeted.new.words.end c.targeted.result c.in_ok-pick.ensures.read c.targeted.ensures.read

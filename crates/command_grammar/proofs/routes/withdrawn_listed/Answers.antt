use Rattle.std.proofs.Common.{Err, Ok}
use Rattle.std.proofs.lemmas.Result.{err_from_is_err_and}
use Rattle.command_grammar.proofs.RouteLemmas.{withdraws, says_err, says_ok, withdrawn_listed_err, withdrawn_listed_ok}
use Rattle.command_grammar.proofs.routes.withdrawn_listed.Goals as goal

pub returns-in_err-items-clause-read : goal.returns-in_err-items-clause-read
returns-in_err-items-clause-read c =
    let e = err_from_is_err_and c.from_residual.result c.from_residual.ensures.1 in
    rw (e.1, e.2)
    (withdrawn_listed_err c.args.pick c.args.words.now.left c.read_items.new.words.left c.read_items.new.words.end
    c.in_err-items.field-0.0 c.in_err-items.ensures.answers)

pub returns-in_err-keys-clause-read : goal.returns-in_err-keys-clause-read
returns-in_err-keys-clause-read c =
    let e = err_from_is_err_and c.from_residual-in_err-keys.result c.from_residual-in_err-keys.ensures.1 in
    rw (e.1, e.2)
    (withdrawn_listed_ok c.args.pick c.args.words.now.left c.read_items.new.words.left c.listed.new.words.left
    c.listed.new.words.end c.in_ok-items.items (Err c.in_err-keys.field-0.0) c.in_ok-items.ensures.answers
    (says_err (withdraws c.args.pick) c.in_ok-items.items c.read_items.new.words.left c.listed.new.words.left
    c.listed.new.words.end c.in_err-keys.field-0.0 c.in_err-keys.ensures.read))

pub returns-clause-read : goal.returns-clause-read
returns-clause-read c =
    withdrawn_listed_ok c.args.pick c.args.words.now.left c.read_items.new.words.left c.listed.new.words.left
    c.listed.new.words.end c.in_ok-items.items (Ok (withdraws c.args.pick c.in_ok-items.items c.in_ok-keys.keys))
    c.in_ok-items.ensures.answers
    (says_ok (withdraws c.args.pick) c.in_ok-items.items c.read_items.new.words.left c.listed.new.words.left
    c.in_ok-keys.keys c.in_ok-keys.ensures.read)

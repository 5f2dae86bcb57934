use Rattle.std.proofs.Common.{Err}
use Rattle.std.proofs.lemmas.Result.{err_from_is_err_and}
use Rattle.command_grammar.proofs.RouteLemmas.{WithdrawnBehind, withdrawn_behind, block_err, block_ok}
use Rattle.command_grammar.proofs.RouteLemmas.{withdrawn_items_err, withdrawn_ok, withdrawn_ended}
use Rattle.command_grammar.proofs.routes.withdrawn_route.Goals as goal

pub returns-in_err-prefix-clause-read : goal.returns-in_err-prefix-clause-read
returns-in_err-prefix-clause-read c =
    let e = err_from_is_err_and c.from_residual.result c.from_residual.ensures.1 in
    rw (e.1, e.2)
    (block_err (WithdrawnBehind c.args.pick) c.args.words.now.left c.prefix_at.new.words.left c.prefix_at.new.words.end
    c.in_err-prefix.field-0.0 (withdrawn_behind c.args.pick) c.in_err-prefix.ensures.read)

pub returns-in_err-items-clause-read : goal.returns-in_err-items-clause-read
returns-in_err-items-clause-read c =
    let e = err_from_is_err_and c.from_residual-in_err-items.result c.from_residual-in_err-items.ensures.1 in
    rw (e.1, e.2)
    (block_ok (WithdrawnBehind c.args.pick) c.args.words.now.left c.prefix_at.new.words.left
    c.read_items.new.words.left c.read_items.new.words.end c.in_ok-prefix.prefix (Err c.in_err-items.field-0.0)
    c.in_ok-prefix.ensures.read
    (withdrawn_items_err c.args.pick c.in_ok-prefix.prefix c.family.result c.prefix_at.new.words.left
    c.read_items.new.words.left c.read_items.new.words.end c.in_err-items.field-0.0 c.family.ensures
    c.in_err-items.ensures.answers))

pub returns-clause-read : goal.returns-clause-read
returns-clause-read c =
    block_ok (WithdrawnBehind c.args.pick) c.args.words.now.left c.prefix_at.new.words.left c.read_items.new.words.left
    c.read_items.new.words.end c.in_ok-prefix.prefix c.ended.result c.in_ok-prefix.ensures.read
    (withdrawn_ok c.args.pick c.in_ok-prefix.prefix c.family.result c.prefix_at.new.words.left
    c.read_items.new.words.left c.read_items.new.words.left c.read_items.new.words.end c.in_ok-items.items
    c.ended.result c.family.ensures c.in_ok-items.ensures.answers
    (withdrawn_ended c.args.pick c.in_ok-prefix.prefix c.in_ok-items.items c.in_ok-keys.keys
    c.read_items.new.words.left c.read_items.new.words.end c.ended.result c.in_ok-keys.ensures c.ended.ensures))

use Rattle.std.proofs.Common.{◌≡◌, true, false, Err, rules}
use Rattle.std.proofs.lemmas.Result.{err_from_is_err_and}
use Rattle.command_grammar.proofs.RouteLemmas.{AnnouncedBehind, announced_behind, block_err, block_ok}
use Rattle.command_grammar.proofs.RouteLemmas.{announced_items_err, announced_none, announced_ok, announced_ended}
use Rattle.command_grammar.proofs.routes.announced_route.Goals as goal

pub returns-in_err-prefix-clause-read : goal.returns-in_err-prefix-clause-read
returns-in_err-prefix-clause-read c =
    let e = err_from_is_err_and c.from_residual.result c.from_residual.ensures.1 in
    rw (e.1, e.2)
    (block_err (AnnouncedBehind c.args.pick) c.args.words.now.left c.prefix_at.new.words.left c.prefix_at.new.words.end
    c.in_err-prefix.field-0.0 (announced_behind c.args.pick) c.in_err-prefix.ensures.read)

pub returns-in_err-items-clause-read : goal.returns-in_err-items-clause-read
returns-in_err-items-clause-read c =
    let e = err_from_is_err_and c.from_residual-in_err-items.result c.from_residual-in_err-items.ensures.1 in
    rw (e.1, e.2)
    (block_ok (AnnouncedBehind c.args.pick) c.args.words.now.left c.prefix_at.new.words.left
    c.read_items.new.words.left c.read_items.new.words.end c.in_ok-prefix.prefix (Err c.in_err-items.field-0.0)
    c.in_ok-prefix.ensures.read
    (announced_items_err c.args.pick c.in_ok-prefix.prefix c.family.result c.prefix_at.new.words.left
    c.read_items.new.words.left c.read_items.new.words.end c.in_err-items.field-0.0 c.family.ensures
    c.in_err-items.ensures.answers))

pub returns-then-not-items-clause-read : goal.returns-then-not-items-clause-read
returns-then-not-items-clause-read c =
    let none : c.in_ok-items.items.has_hop ≡ false = search rules in
    block_ok (AnnouncedBehind c.args.pick) c.args.words.now.left c.prefix_at.new.words.left c.read_items.new.words.left
    c.read_items.new.words.end c.in_ok-prefix.prefix (Err c.bad_token.result) c.in_ok-prefix.ensures.read
    (announced_none c.args.pick c.in_ok-prefix.prefix c.family.result c.prefix_at.new.words.left
    c.read_items.new.words.left c.read_items.new.words.end c.in_ok-items.items c.bad_token.result c.family.ensures
    c.bad_token.ensures none c.in_ok-items.ensures.answers)

pub returns-clause-read : goal.returns-clause-read
returns-clause-read c =
    let has : c.in_ok-items.items.has_hop ≡ true = search rules in
    block_ok (AnnouncedBehind c.args.pick) c.args.words.now.left c.prefix_at.new.words.left c.read_items.new.words.left
    c.read_items.new.words.end c.in_ok-prefix.prefix c.ended.result c.in_ok-prefix.ensures.read
    (announced_ok c.args.pick c.in_ok-prefix.prefix c.family.result c.prefix_at.new.words.left
    c.read_items.new.words.left c.read_items.new.words.left c.read_items.new.words.end c.in_ok-items.items
    c.ended.result c.family.ensures has c.in_ok-items.ensures.answers
    (announced_ended c.args.pick c.in_ok-prefix.prefix c.in_ok-items.items c.in_ok-keys.keys
    c.read_items.new.words.left c.read_items.new.words.end c.ended.result c.in_ok-keys.ensures c.ended.ensures))

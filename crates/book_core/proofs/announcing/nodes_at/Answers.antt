use Rattle.book_core.proofs.AnnounceLemmas.{nodes_unchosen, sum_chosen}
use Rattle.book_core.proofs.announcing.nodes_at.Goals as goal

pub returns-then-not-so : goal.returns-then-not-so
returns-then-not-so c = λ steps written legal stands.
    nodes_unchosen c.args.so c.nodes-own.result c.args.keys.now written steps c.if-not-so.true
    (c.nodes-own.ensures.told steps legal stands)

pub returns : goal.returns
returns c =
    sum_chosen c.args.so c.sum.result c.nodes-own.result c.adds.result c.args.slot.now c.args.keys.now c.if-not-so.false
    c.sum.ensures c.nodes-own.ensures.told c.adds.ensures.told

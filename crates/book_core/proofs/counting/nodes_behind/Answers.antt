use Rattle.std.proofs.Common.{subst}
use Rattle.book_core.specs.Changing.{IsPlanned}
use Rattle.book_core.proofs.CountingLemmas.{nodes_exchanged, nodes_nothing, nodes_stay, some_then}
use Rattle.book_core.proofs.counting.nodes_behind.Goals as goal

pub returns-in-Nothing : goal.returns-in-Nothing
returns-in-Nothing c = λ after steps planned told.
    let plan = subst (IsPlanned c.args.peering.now after) c.in-Nothing.is planned in
    nodes_nothing steps after c.args.peering.now.slot c.nodes.result plan.0 plan.1 told
    (c.nodes.ensures.told steps told.legal told.stands)

pub returns-in-Keep : goal.returns-in-Keep
returns-in-Keep c =
    some_then c.nodes_kept.result (λ nodes kept after steps planned told.
    nodes_stay steps after c.args.peering.now.slot c.in-Keep.numbers c.in-Keep.names nodes
    (subst (IsPlanned c.args.peering.now after) c.in-Keep.is planned) told kept) c.nodes_kept.ensures

pub returns-in-Exchange : goal.returns-in-Exchange
returns-in-Exchange c = λ after steps planned told.
    nodes_exchanged steps after c.args.peering.now.slot c.in-Exchange.end c.in-Exchange.with c.in-Exchange.names
    c.nodes-in-Exchange.result (subst (IsPlanned c.args.peering.now after) c.in-Exchange.is planned) told
    c.nodes-in-Exchange.ensures.without

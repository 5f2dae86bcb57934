use Rattle.route_values.proofs.LimitsLemmas.{sent_within}
use Rattle.route_values.proofs.sending.wire.Goals as goal

pub returns-clause-within : goal.returns-clause-within
returns-clause-within c =
    sent_within c.args.attrs.now c.args.side.now _ _ _ _ _ _ c.in_ok-path_of.ensures c.in_ok-first_places.ensures
    c.in_ok-first_places-2.ensures c.in_ok-first_places-3.ensures c.in_ok-first_places-4.ensures

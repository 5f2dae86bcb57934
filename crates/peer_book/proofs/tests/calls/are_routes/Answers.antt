use Rattle.std.proofs.Common.{sym, subst}
use Rattle.std.proofs.lemmas.List.{take_all}
use Rattle.route_values.specs.Key.{family_of_key}
use Rattle.route_values.specs.Sent.{sent}
use Rattle.route_values.specs.Settings.{side_of}
use Rattle.batch_cutter.specs.Heads.{IsRoute}
use Rattle.config_model.specs.declared.sections.StaticRoute.{StaticRoute}
use Rattle.peer_book.specs.Statics.{AreRoutes}
use Rattle.peer_book.proofs.KnownLemmas.{all_next}
use Rattle.peer_book.proofs.tests.calls.are_routes.Goals as goal

pub routes-init : goal.routes-init
routes-init c = tt

pub routes-preserved : goal.routes-preserved
routes-preserved c =
    let side = side_of c.args.settings.now in
    all_next (λ (route : StaticRoute). IsRoute (family_of_key route.key) (sent route.attrs side)) c.args.statics.now
    c.routes.route-index c.route-item.result c.routes-test.true c.routes.invariant
    (subst (λ (route : StaticRoute). IsRoute (family_of_key route.key) (sent route.attrs side)) c.route-item.is
    (c.is_route.ensures (sym (sym c.if-not-is_route.false))))

pub returns-then-not-is_route : goal.returns-then-not-is_route
returns-then-not-is_route c = λ so. absurd cc

pub returns : goal.returns
returns c = λ so.
    subst (AreRoutes (side_of c.args.settings.now))
    (take_all c.routes.route-index c.args.statics.now c.routes-test.false) c.routes.invariant

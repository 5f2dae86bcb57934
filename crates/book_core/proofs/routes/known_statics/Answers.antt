use Rattle.std.proofs.Common.{sym, subst}
use Rattle.std.proofs.lemmas.List.{take_all}
use Rattle.route_values.specs.Key.{family_of_key}
use Rattle.route_values.specs.Sent.{sent}
use Rattle.route_values.specs.Settings.{side_of}
use Rattle.batch_cutter.specs.Heads.{IsRoute as IsSent}
use Rattle.config_model.specs.declared.sections.StaticRoute.{StaticRoute}
use Rattle.config_model.specs.Drafts.{IsRoute}
use Rattle.peer_book.specs.Statics.{AreRoutes}
use Rattle.peer_book.proofs.KnownLemmas.{all_next}
use Rattle.peer_book.proofs.StaticsLemmas.{all_get}
use Rattle.book_core.proofs.routes.known_statics.Goals as goal

pub statics-init : goal.statics-init
statics-init c = tt

pub known_static-requires : goal.known_static-requires
known_static-requires c =
    subst (IsRoute c.args.settings.now) (sym c.route-item.is)
    (all_get (IsRoute c.args.settings.now) c.args.statics.now c.statics.route-index c.route-item.result
    c.statics-test.true c.requires)

pub statics-preserved : goal.statics-preserved
statics-preserved c =
    let sends = λ (r : StaticRoute). IsSent (family_of_key r.key) (sent r.attrs (side_of c.args.settings.now)) in
    all_next sends c.args.statics.now c.statics.route-index c.route-item.result c.statics-test.true c.statics.invariant
    (subst sends c.route-item.is c.known_static.ensures)

pub returns : goal.returns
returns c =
    subst (AreRoutes (side_of c.args.settings.now))
    (take_all c.statics.route-index c.args.statics.now c.statics-test.false) c.statics.invariant

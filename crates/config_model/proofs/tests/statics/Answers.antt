use Rattle.std.proofs.Common.{refl}
use Rattle.route_values.specs.declared.key.Key.{Key}
use Rattle.config_model.specs.declared.sections.StaticRoute.{StaticRoute}
use Rattle.config_model.proofs.NumberedLemmas.{none_numbered, next_numbered, own_route}
use Rattle.config_model.proofs.tests.statics.Goals as goal

pub ids-init : goal.ids-init
ids-init c = none_numbered c.args.settings.now c.new-routes.result c.new-routes.ensures

pub ids-preserved : goal.ids-preserved
ids-preserved c =
    let key : Key = record { prefix = c.args.prefix; id = c.ids.id } in
    let route : StaticRoute = record { key = key; attrs = c.new-attrs.result } in
    let is_route = own_route c.args.settings.now key c.new-attrs.result c.new-attrs.ensures c.requires in
    next_numbered c.args.settings.now c.ids.routes c.push.new.self route c.ids.id c.ids.invariant
    c.in_ok-push.ensures.ok refl is_route

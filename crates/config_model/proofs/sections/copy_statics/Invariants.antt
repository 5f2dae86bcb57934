use Rattle.std.proofs.Common.{◌≡◌, take}
use Rattle.config_model.proofs.sections.copy_statics.Given as goal

abbrev pub invariant-routes : goal.invariant-routes
invariant-routes l = l.copied ≡ take l.route-index l.routes

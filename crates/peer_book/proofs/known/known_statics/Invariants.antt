use Rattle.std.proofs.Common.{take}
use Rattle.std.specs.List.{AllByRecursion}
use Rattle.config_model.specs.Drafts as config
use Rattle.peer_book.specs.Statics.{AreRoutes}
use Rattle.peer_book.proofs.known.known_statics.Given as goal

abbrev pub invariant-routes : goal.invariant-routes
invariant-routes l = AllByRecursion (config.IsRoute l.settings) (take l.route-index l.statics)
    → AreRoutes l.side (take l.route-index l.statics)

use Rattle.std.proofs.Common.{take}
use Rattle.route_values.specs.Settings.{side_of}
use Rattle.peer_book.specs.Statics.{AreRoutes}
use Rattle.peer_book.proofs.tests.calls.are_routes.Given as goal

abbrev pub invariant-routes : goal.invariant-routes
invariant-routes l = AreRoutes (side_of l.settings) (take l.route-index l.statics)

use Rattle.std.proofs.Common.{take}
use Rattle.route_values.specs.Settings.{side_of}
use Rattle.peer_book.specs.Statics.{AreRoutes}
use Rattle.book_core.proofs.routes.known_statics.Given as goal

abbrev pub invariant-statics : goal.invariant-statics
invariant-statics l = AreRoutes (side_of l.settings) (take l.route-index l.statics)

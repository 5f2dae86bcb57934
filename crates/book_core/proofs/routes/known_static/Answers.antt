use Rattle.std.proofs.Common.{arith}
use Rattle.route_values.specs.Key.{family_of_key}
use Rattle.route_values.specs.Settings.{side_of}
use Rattle.book_core.proofs.RouteLemmas.{route_is}
use Rattle.book_core.proofs.routes.known_static.Goals as goal

pub returns : goal.returns
returns c =
    route_is (family_of_key c.args.route.now.key) (side_of c.args.settings.now) c.args.route.now.attrs
    c.requires.family c.requires.limits c.known_attrs.ensures c.known_addr.ensures (omega arith)

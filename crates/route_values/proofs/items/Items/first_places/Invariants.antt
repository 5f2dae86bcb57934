use Rattle.std.proofs.Common.{◌≡◌, take}
use Rattle.route_values.specs.Sent.{first_places}
use Rattle.route_values.proofs.items.Items.first_places.Given as goal

abbrev pub invariant-items : goal.invariant-items
invariant-items g l = l.kept.items ≡ first_places g.T.PartialEq.eq (take l.item-index l.item-items)

use Rattle.std.proofs.Common.{◌<◌, ◌≤◌, length, arith}
use Rattle.std.proofs.lemmas.Grind.{common_steps}
use Rattle.adj_rib_out.proofs.ShownLemmas.{none_shown, next_shown, all_shown}
use Rattle.adj_rib_out.proofs.restart.show_all.Goals as goal

pub places-init : goal.places-init
places-init c = none_shown c.args.keys.now.keys c.args.routes.now c.args.values.now.seen c.args.caps c.args.slots.now
    c.requires

pub places-preserved : goal.places-preserved
places-preserved c =
    let below : c.places.place < length c.args.keys.now.keys = grind (arith, common_steps) in
    next_shown c.args.keys.now.keys c.args.routes.now c.args.values.now.seen c.args.caps c.args.slots.now c.places.slots
    c.places.place below c.places.invariant c.show_place.new.slots c.show_place.ensures

pub returns : goal.returns
returns c =
    let through : length c.args.keys.now.keys ≤ c.places.place = grind (arith, common_steps) in
    all_shown c.args.keys.now.keys c.args.routes.now c.args.values.now.seen c.args.caps c.args.slots.now c.places.slots
    c.places.place through c.places.invariant

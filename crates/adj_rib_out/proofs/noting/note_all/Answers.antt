use Rattle.std.proofs.Common.{◌≤◌, length, arith}
use Rattle.std.proofs.lemmas.Grind.{common_steps}
use Rattle.adj_rib_out.proofs.UnroutedLemmas.{none_noted, next_noted, all_noted}
use Rattle.adj_rib_out.proofs.noting.note_all.Goals as goal

pub places-init : goal.places-init
places-init c = none_noted c.args.routes.now c.args.keys.now

pub places-preserved : goal.places-preserved
places-preserved c = next_noted c.args.routes.now c.args.keys.now c.places.keys c.note_place.new.keys c.places.place
    c.places.invariant c.note_place.ensures

pub returns-clause-lone : goal.returns-clause-lone
returns-clause-lone c =
    let through : length c.args.keys.now.keys ≤ c.places.place = grind (arith, common_steps) in
    all_noted c.args.routes.now c.args.keys.now c.places.keys c.places.place through c.places.invariant

pub returns-clause-rest : goal.returns-clause-rest
returns-clause-rest c = c.places.invariant.rest

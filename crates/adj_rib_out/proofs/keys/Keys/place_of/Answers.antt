use Rattle.std.proofs.Common.{◌∙◌, ap}
use Rattle.adj_rib_out.specs.KeyPlaces.{KeyPlaces}
use Rattle.adj_rib_out.specs.Places.{place_of}
use Rattle.adj_rib_out.proofs.KeyPoolLemmas.{stand_once, place_is}
use Rattle.adj_rib_out.proofs.keys.Keys.place_of.Goals as goal

pub returns : goal.returns
returns c =
    let once = stand_once c.self.inside.pool.items c.self.inside.places c.self.invariant _ c.tests_decide.ensures.keys
    c.self.inside.pool.idle c.len.ensures.sound in
    place_is c.self.inside.pool.items c.self.inside.places c.self.invariant _ c.tests_decide.ensures.keys once
    c.args.key.now c.find.result c.find.ensures.found c.find.ensures.none
    ∙ ap (λ (k : KeyPlaces). place_of k.keys c.args.key.now) c.self.view_is

use Rattle.std.proofs.Common.{◌∙◌, ap, sym}
use Rattle.adj_rib_out.specs.KeyPlaces.{KeyPlaces}
use Rattle.adj_rib_out.specs.Places.{key_at}
use Rattle.adj_rib_out.proofs.KeyPoolLemmas.{key_in}
use Rattle.adj_rib_out.proofs.keys.Keys.at.Goals as goal

pub returns : goal.returns
returns c = c.get.ensures
    ∙ sym (key_in c.self.inside.pool.items c.self.inside.places c.self.invariant c.args.place)
    ∙ ap (λ (k : KeyPlaces). key_at k.keys c.args.place) c.self.view_is

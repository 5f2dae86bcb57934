use Rattle.std.proofs.Common.{◌∙◌, ap}
use Rattle.std.specs.Prelude.{is_some}
use Rattle.adj_rib_out.specs.KeyPlaces.{KeyPlaces}
use Rattle.adj_rib_out.specs.Places.{key_at}
use Rattle.adj_rib_out.proofs.KeyPoolLemmas.{item_there}
use Rattle.adj_rib_out.proofs.keys.Keys.note.Goals as goal

pub note-requires : goal.note-requires
note-requires c = item_there c.self.inside.pool.items c.self.inside.places c.self.invariant c.args.place
    (ap (λ (k : KeyPlaces). is_some (key_at k.keys c.args.place)) c.self.view_is ∙ c.requires)

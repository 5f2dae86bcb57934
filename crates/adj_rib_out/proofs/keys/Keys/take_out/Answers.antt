use Rattle.std.proofs.Common.{subst, length}
use Rattle.adj_rib_out.specs.KeyPlaces.{KeyPlaces, keys_in, padded, TakesKeyOut}
use Rattle.adj_rib_out.proofs.KeyPoolLemmas.{takes_key_out, small_fewer}
use Rattle.adj_rib_out.proofs.keys.Keys.take_out.Goals as goal

pub invariant_of-self : goal.invariant_of-self
invariant_of-self c = small_fewer c.self.inside.pool.items c.self.inside.places c.self.invariant c.self.inside.pool.idle
    c.take_out.new.self.idle c.take_out.new.self.items c.args.place c.take_out.ensures.left

pub returns : goal.returns
returns c = subst (λ (k : KeyPlaces). TakesKeyOut k (record {
  keys = padded (keys_in c.take_out.new.self.items) c.self.inside.places;
  idle = c.take_out.new.self.idle;
  used = length c.take_out.new.self.items;
}) c.args.place) c.self.view_is (takes_key_out c.self.inside.pool.items c.self.inside.places c.self.invariant
    c.self.inside.pool.idle c.take_out.new.self.idle c.take_out.new.self.items c.args.place c.take_out.ensures.left)

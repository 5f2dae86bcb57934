use Rattle.std.proofs.Common.{◌≡◌, ◌+◌, ◌++◌, ◌∷◌, [], List, Option, None, ap, subst, length, arith}
use Rattle.route_values.specs.declared.key.Key.{Key}
use Rattle.adj_rib_out.specs.KeyPlaces.{KeyPlaces, keys_in, padded}
use Rattle.adj_rib_out.proofs.KeyPoolLemmas.{length_padded, widened}
use Rattle.adj_rib_out.proofs.keys.Keys.widen.Goals as goal

pub overflow_add-self : goal.overflow_add-self
overflow_add-self c =
    let few = c.requires in
    let same = length_padded (keys_in c.self.inside.pool.items) c.self.inside.places in
    let view = ap (λ (k : KeyPlaces). length k.keys) c.self.view_is in
    omega arith

pub invariant_of-self : goal.invariant_of-self
invariant_of-self c = let small = c.self.invariant in omega arith

pub returns : goal.returns
returns c = subst (λ (k : KeyPlaces). record {
  keys = padded (keys_in c.self.inside.pool.items) (c.self.inside.places + 1);
  idle = c.self.inside.pool.idle;
  used = length c.self.inside.pool.items;
} ≡ record k { keys = k.keys ++ None ∷ [] }) c.self.view_is (ap (λ (keys : List (Option Key)). record {
  keys = keys;
  idle = c.self.inside.pool.idle;
  used = length c.self.inside.pool.items;
}) (widened c.self.inside.pool.items c.self.inside.places c.self.invariant))

use Rattle.std.proofs.Common.{◌≤◌, ◌==◌, ◌∙◌, ap, ap₂, sym, subst, length}
use Rattle.adj_rib_out.specs.KeyPlaces.{KeyPlaces, keys_in}
use Rattle.adj_rib_out.proofs.KeyPoolLemmas.{length_padded}
use Rattle.adj_rib_out.proofs.keys.Keys.is_full.Goals as goal

pub returns-clause-full : goal.returns-clause-full
returns-clause-full c = ap₂ (λ n m. n == m) c.len.ensures.len
    (sym (length_padded (keys_in c.self.inside.pool.items) c.self.inside.places))
    ∙ ap (λ (k : KeyPlaces). k.used == length k.keys) c.self.view_is

pub returns-clause-used : goal.returns-clause-used
returns-clause-used c = subst (λ (k : KeyPlaces). k.used ≤ length k.keys) c.self.view_is
    (subst (λ n. length c.self.inside.pool.items ≤ n)
    (sym (length_padded (keys_in c.self.inside.pool.items) c.self.inside.places)) c.self.invariant)

use Rattle.std.proofs.Common.{◌≡◌, ◌≤◌, ◌∙◌, ℕ, true, ap, sym, subst, length}
use Rattle.std.specs.Prelude.{IsSome}
use Rattle.linked_pending.specs.Listing.{has}
use Rattle.adj_rib_out.specs.KeyPlaces.{KeyPlaces, keys_in}
use Rattle.adj_rib_out.specs.Places.{key_at, StandOnce}
use Rattle.adj_rib_out.proofs.KeyPoolLemmas.{stand_once, key_there, length_padded}
use Rattle.adj_rib_out.proofs.keys.Keys.len.Goals as goal

pub returns-clause-len : goal.returns-clause-len
returns-clause-len c = sym (length_padded (keys_in c.self.inside.pool.items) c.self.inside.places)
    ∙ ap (λ (k : KeyPlaces). length k.keys) c.self.view_is

pub returns-clause-once : goal.returns-clause-once
returns-clause-once c = subst (λ (k : KeyPlaces). StandOnce k.keys) c.self.view_is
    (stand_once c.self.inside.pool.items c.self.inside.places c.self.invariant _ c.tests_decide.ensures.keys
    c.self.inside.pool.idle c.len.ensures.sound)

pub returns-clause-held : goal.returns-clause-held
returns-clause-held c = subst (λ (k : KeyPlaces). (place : ℕ) → has place k.idle ≡ true → IsSome (key_at k.keys place))
    c.self.view_is (λ place there. key_there c.self.inside.pool.items c.self.inside.places c.self.invariant place
    (c.len.ensures.sound.held place there))

pub returns-clause-used : goal.returns-clause-used
returns-clause-used c = subst (λ (k : KeyPlaces). k.used ≤ length k.keys) c.self.view_is
    (subst (λ n. length c.self.inside.pool.items ≤ n)
    (sym (length_padded (keys_in c.self.inside.pool.items) c.self.inside.places)) c.self.invariant)

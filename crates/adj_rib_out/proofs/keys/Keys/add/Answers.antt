use Rattle.std.proofs.Common.{◌<◌, ◌∙◌, ap, sym, subst, length}
use Rattle.std.specs.Prelude.{IfOk}
use Rattle.adj_rib_out.specs.KeyPlaces.{KeyPlaces, keys_in, padded, AddsKey}
use Rattle.adj_rib_out.specs.Places.{place_of}
use Rattle.adj_rib_out.proofs.KeyPoolLemmas.{stand_once, absent, small_then, adds_then, length_padded}
use Rattle.adj_rib_out.proofs.keys.Keys.add.Goals as goal

-- there is a place that no key was given
has_place : (c : goal.After-add) → length c.self.inside.pool.items < c.self.inside.places
has_place c = subst (λ n. length c.self.inside.pool.items < n)
    (length_padded (keys_in c.self.inside.pool.items) c.self.inside.places)
    (subst (λ (k : KeyPlaces). k.used < length k.keys) (sym c.self.view_is) c.requires.full)

pub add-requires : goal.add-requires
add-requires c =
    let once = stand_once c.self.inside.pool.items c.self.inside.places c.self.invariant _ c.tests_decide.ensures.keys
    c.self.inside.pool.idle c.len.ensures.sound in
    record {
      absent = absent c.self.inside.pool.items c.self.inside.places c.self.invariant _ c.tests_decide.ensures.keys once
          c.args.key (ap (λ (k : KeyPlaces). place_of k.keys c.args.key) c.self.view_is ∙ c.requires.absent);
    }

pub invariant_of-self : goal.invariant_of-self
invariant_of-self c = small_then c.self.inside.pool.items c.self.inside.places c.self.invariant c.self.inside.pool.idle
    c.add.new.self.idle c.add.new.self.items c.args.key (has_place c) c.add.result c.add.ensures.ok c.add.ensures.err

pub returns-clause-ok : goal.returns-clause-ok
returns-clause-ok c = subst (λ (k : KeyPlaces). IfOk c.add.result (λ place. AddsKey k (record {
  keys = padded (keys_in c.add.new.self.items) c.self.inside.places;
  idle = c.add.new.self.idle;
  used = length c.add.new.self.items;
}) place c.args.key)) c.self.view_is (adds_then c.self.inside.pool.items c.self.inside.places c.self.invariant
    c.self.inside.pool.idle c.add.new.self.idle c.add.new.self.items c.args.key (has_place c) c.add.result
    c.add.ensures.ok)

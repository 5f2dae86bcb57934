use Rattle.std.proofs.Common.{List, Option, refl, subst}
use Rattle.adj_rib_out.specs.declared.chosen.Chosen.{Chosen}
use Rattle.adj_rib_out.specs.Trimming.{TrimsPlaces}
use Rattle.adj_rib_out.proofs.InsideLemmas.{parts}
use Rattle.adj_rib_out.proofs.ReadyKeyLemmas as ready
use Rattle.adj_rib_out.proofs.table.Table.trim_keys.Goals as goal

pub trim_keys-requires : goal.trim_keys-requires
trim_keys-requires c = ready.noted_within (parts c.self.inside) c.self.inside.keys.idle c.self.inside.values.routes
    c.self.inside.values.uses c.self.invariant c.args.self.now c.self.view_is c.len.ensures.held

trims : (c : goal.After-trim_keys) → TrimsPlaces c.self.inside.routes.items c.self.inside.slots c.self.inside.keys
    c.trim_keys.new.keys
trims c = subst (λ (routes : List (Option Chosen)). TrimsPlaces routes c.self.inside.slots c.self.inside.keys
    c.trim_keys.new.keys) c.deref.ensures.value c.trim_keys.ensures

pub invariant_of-self : goal.invariant_of-self
invariant_of-self c = ready.trimmed_whole (parts c.self.inside) c.self.inside.keys.idle c.self.inside.values.routes
    c.self.inside.values.uses c.self.invariant c.args.self.now c.self.view_is c.self.inside.keys c.trim_keys.new.keys
    refl refl (trims c)

pub returns : goal.returns
returns c = ready.trimmed_trims (parts c.self.inside) c.self.inside.keys.idle c.self.inside.values.routes
    c.self.inside.values.uses c.self.invariant c.args.self.now c.self.view_is c.self.inside.keys c.trim_keys.new.keys
    refl refl (trims c)

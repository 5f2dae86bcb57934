use Rattle.std.proofs.Common.{◌<◌, ◌∙◌, ℕ, List, length, ap, sym, subst}
use Rattle.std.specs.Prelude.{is_some}
use Rattle.adj_rib_out.specs.Trimming.{is_kept_by}
use Rattle.adj_rib_out.proofs.TrimLemmas.{first_noted, fewer_noted, none_trimmed, next_trimmed, all_trimmed}
use Rattle.adj_rib_out.proofs.trim_keys.trim_keys.Goals as goal

pub trim_place-requires : goal.trim_place-requires
trim_place-requires c = c.requires c.in-Some.place (c.noted.invariant.noted c.in-Some.place
    (first_noted c.noted.keys.idle c.in-Some.place (sym c.first_idle.ensures.first ∙ c.in-Some.is)))

pub noted-init : goal.noted-init
noted-init c = none_trimmed (is_kept_by c.args.routes.now c.args.slots.now) c.args.keys.now

pub noted-preserved : goal.noted-preserved
noted-preserved c = next_trimmed (is_kept_by c.args.routes.now c.args.slots.now) c.args.keys.now c.noted.keys
    c.trim_place.new.keys c.noted.invariant c.in-Some.place
    (first_noted c.noted.keys.idle c.in-Some.place (sym c.first_idle.ensures.first ∙ c.in-Some.is))
    c.trim_place.ensures.keys c.trim_place.ensures.idle c.trim_place.ensures.used

pub noted-smaller : goal.noted-smaller
noted-smaller c = subst (λ (idle : List ℕ). length idle < length c.noted.keys.idle) (sym c.trim_place.ensures.idle)
    (fewer_noted c.noted.keys.idle c.in-Some.place (sym c.first_idle.ensures.first ∙ c.in-Some.is))

pub returns : goal.returns
returns c = all_trimmed c.args.routes.now c.args.slots.now c.args.keys.now c.noted.keys c.noted.invariant
    (c.first_idle.ensures.none.0 (ap is_some c.in_default.is))

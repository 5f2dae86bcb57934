use Rattle.std.proofs.Common.{◌<◌, ℕ, List, length, sym, subst}
use Rattle.adj_rib_out.proofs.TrimmedLemmas.{first_goes}
use Rattle.adj_rib_out.proofs.trim_values.trim_values.Goals as goal

pub noted-smaller : goal.noted-smaller
noted-smaller c = subst (λ (idle : List ℕ). length idle < length c.noted.values.idle_values)
    (sym c.trim_value.ensures.idle) (first_goes c.noted.values.idle_values c.in-Some.value c.in-Some.ensures.first)

use Rattle.std.proofs.Common.{◌<◌, ℕ, List, length, sym, subst}
use Rattle.adj_rib_out.proofs.TrimmedLemmas.{first_goes}
use Rattle.adj_rib_out.proofs.trim_values.trim_wires.Goals as goal

pub noted-smaller : goal.noted-smaller
noted-smaller c = subst (λ (idle : List ℕ). length idle < length c.noted.values.idle_wires)
    (sym c.trim_wire.ensures.idle) (first_goes c.noted.values.idle_wires c.in-Some.wire c.in-Some.ensures.first)

use Rattle.std.proofs.Common.{◌∙◌, Option, List, ap, ap₂, sym}
use Rattle.adj_rib_out.specs.declared.chosen.Chosen.{Chosen}
use Rattle.adj_rib_out.specs.Kept.{route_in, chosen_at}
use Rattle.adj_rib_out.specs.Told.{pair_if}
use Rattle.adj_rib_out.proofs.InsideLemmas.{parts}
use Rattle.adj_rib_out.proofs.PartLemmas.{pair_is}
use Rattle.adj_rib_out.proofs.table.Table.at.Goals as goal

pub returns : goal.returns
returns c = c.pair.ensures ∙ ap₂ pair_if
    c.at.ensures
    (c.at-2.ensures ∙ ap (λ (rs : List (Option Chosen)). route_in c.self.inside.values.seen (chosen_at rs c.args.place))
    c.deref.ensures.value)
    ∙ sym (pair_is (parts c.self.inside) c.args.self.now c.self.view_is c.args.place)

use Rattle.std.proofs.Common.{◌∙◌, Option, List, ap, sym}
use Rattle.adj_rib_out.specs.declared.chosen.Chosen.{Chosen}
use Rattle.adj_rib_out.specs.Kept.{route_in, chosen_at}
use Rattle.adj_rib_out.proofs.InsideLemmas.{parts}
use Rattle.adj_rib_out.proofs.PartLemmas.{route_is, no_route}
use Rattle.adj_rib_out.proofs.table.Table.get.Goals as goal

pub returns-in-Some : goal.returns-in-Some
returns-in-Some c = c.at.ensures
    ∙ ap (λ (rs : List (Option Chosen)). route_in c.self.inside.values.seen (chosen_at rs c.in-Some.place))
    c.deref.ensures.value
    ∙ sym (route_is (parts c.self.inside) c.args.self.now c.self.view_is c.args.key.now c.in-Some.place
    (sym c.place_of.ensures ∙ c.in-Some.is))

pub returns-in-None : goal.returns-in-None
returns-in-None c = sym (no_route (parts c.self.inside) c.args.self.now c.self.view_is c.args.key.now
    (sym c.place_of.ensures ∙ c.in-None.is))

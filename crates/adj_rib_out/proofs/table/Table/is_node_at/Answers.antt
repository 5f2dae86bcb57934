use Rattle.std.proofs.Common.{◌∙◌, ◌<◌, Option, List, length, ap, sym, subst}
use Rattle.std.specs.Prelude.{is_some, ◌||◌}
use Rattle.adj_rib_out.specs.declared.chosen.Chosen.{Chosen}
use Rattle.adj_rib_out.specs.State.{State}
use Rattle.adj_rib_out.specs.Kept.{chosen_at, keeps, route_by, told_by}
use Rattle.adj_rib_out.proofs.InsideLemmas.{parts}
use Rattle.adj_rib_out.proofs.PlaceLemmas.{stands_is}
use Rattle.adj_rib_out.proofs.RowLemmas.{length_of_rows}
use Rattle.adj_rib_out.proofs.table.Table.is_node_at.Goals as goal

pub stands-requires : goal.stands-requires
stands-requires c = subst (λ n. c.args.place < n)
    (sym (ap (λ (s : State). length s.rows) c.self.view_is)
    ∙ length_of_rows (route_by (parts c.self.inside)) (told_by (parts c.self.inside)) c.self.inside.keys.keys 0
    ∙ sym c.self.invariant.table.nows_length) c.requires

pub returns : goal.returns
returns c = c.stands.ensures ∙ ap (λ (rs : List (Option Chosen)). is_some (chosen_at rs c.args.place)
    || keeps c.self.inside.slots c.args.place) c.deref.ensures.value
    ∙ stands_is (parts c.self.inside) c.self.invariant.table c.args.self.now c.self.view_is c.args.place

use Rattle.std.proofs.Common.{Option, List, ap, sym, ◌∙◌}
use Rattle.std.specs.Prelude.{is_some}
use Rattle.adj_rib_out.specs.declared.chosen.Chosen.{Chosen}
use Rattle.adj_rib_out.specs.Kept.{chosen_at}
use Rattle.adj_rib_out.proofs.InsideLemmas.{parts}
use Rattle.adj_rib_out.proofs.AskedLemmas as asked
use Rattle.adj_rib_out.proofs.table.Table.is_node.Goals as goal

pub is_kept_at-requires : goal.is_kept_at-requires
is_kept_at-requires c = asked.below_nows (parts c.self.inside) c.self.invariant.table c.args.self.now c.self.view_is
    c.args.key.now c.in-Some.place
    (sym c.place_of.ensures ∙ c.in-Some.is)

pub returns-in-Some : goal.returns-in-Some
returns-in-Some c = c.either.ensures ∙ asked.node_is (parts c.self.inside) c.self.invariant.table c.args.self.now
    c.self.view_is c.args.key.now c.in-Some.place
    (sym c.place_of.ensures ∙ c.in-Some.is) c.is_chosen.result c.is_kept_at.result
    (c.is_chosen.ensures ∙ ap (λ (rs : List (Option Chosen)). is_some (chosen_at rs c.in-Some.place))
    c.deref.ensures.value) c.is_kept_at.ensures

pub returns-in-None : goal.returns-in-None
returns-in-None c = sym (asked.node_nowhere (parts c.self.inside) c.self.invariant.table c.args.self.now
    c.self.view_is c.args.key.now
    (sym c.place_of.ensures ∙ c.in-None.is))

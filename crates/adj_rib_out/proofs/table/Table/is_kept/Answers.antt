use Rattle.std.proofs.Common.{sym, ◌∙◌}
use Rattle.adj_rib_out.proofs.InsideLemmas.{parts}
use Rattle.adj_rib_out.proofs.AskedLemmas as asked
use Rattle.adj_rib_out.proofs.table.Table.is_kept.Goals as goal

pub is_kept_at-requires : goal.is_kept_at-requires
is_kept_at-requires c = asked.below_nows (parts c.self.inside) c.self.invariant.table c.args.self.now c.self.view_is
    c.args.key.now c.in-Some.place
    (sym c.place_of.ensures ∙ c.in-Some.is)

pub returns-in-Some : goal.returns-in-Some
returns-in-Some c = c.is_kept_at.ensures ∙ asked.kept_is (parts c.self.inside) c.self.invariant.table c.args.self.now
    c.self.view_is c.args.key.now c.in-Some.place
    (sym c.place_of.ensures ∙ c.in-Some.is)

pub returns-in-None : goal.returns-in-None
returns-in-None c = sym (asked.kept_nowhere (parts c.self.inside) c.self.invariant.table c.args.self.now
    c.self.view_is c.args.key.now
    (sym c.place_of.ensures ∙ c.in-None.is))

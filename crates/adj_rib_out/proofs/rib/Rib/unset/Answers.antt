use Rattle.std.proofs.Common.{◌≡◌, ◌+◌, Bool, None, cond, ap₂, subst, ◌∙◌}
use Rattle.std.specs.Prelude.{not, ◌&&◌}
use Rattle.adj_rib_out.specs.State.{State}
use Rattle.adj_rib_out.specs.Calls.{Sets}
use Rattle.adj_rib_out.specs.Nodes.{is_node, is_kept, nodes}
use Rattle.adj_rib_out.proofs.CountLemmas as count
use Rattle.adj_rib_out.proofs.rib.Rib.unset.Goals as goal

pub fewer-count-requires : goal.fewer-count-requires
fewer-count-requires c = count.can_shrink c.self.inside.count c.self.inside.table c.unset.new.self c.unless-lone.result
    (is_node c.self.inside.table c.args.key.now && not (is_kept c.self.inside.table c.args.key.now)) c.self.invariant
    (c.unless-lone.ensures ∙ ap₂ (λ (a b : Bool). a && not b) c.is_node.ensures c.is_kept.ensures)
    c.unset.ensures.nodes

pub invariant_of-self : goal.invariant_of-self
invariant_of-self c = count.shrunk_is c.self.inside.count c.self.inside.table c.unset.new.self c.unless-lone.result
    (is_node c.self.inside.table c.args.key.now && not (is_kept c.self.inside.table c.args.key.now)) c.self.invariant
    (c.unless-lone.ensures ∙ ap₂ (λ (a b : Bool). a && not b) c.is_node.ensures c.is_kept.ensures)
    c.unset.ensures.nodes c.fewer-count.result c.fewer-count.ensures

pub returns-clause-set : goal.returns-clause-set
returns-clause-set c = subst (λ (s : State). Sets s c.unset.new.self c.args.key.now None) c.self.view_is
    c.unset.ensures.set

pub returns-clause-nodes : goal.returns-clause-nodes
returns-clause-nodes c = subst (λ (s : State). nodes c.unset.new.self
    + cond (is_node s c.args.key.now && not (is_kept s c.args.key.now)) 1 0 ≡ nodes s) c.self.view_is
    c.unset.ensures.nodes

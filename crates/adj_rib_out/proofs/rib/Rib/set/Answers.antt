use Rattle.std.proofs.Common.{◌≡◌, ◌+◌, cond, sym, subst, ◌∙◌}
use Rattle.std.specs.Prelude.{IsTrue, IsSome}
use Rattle.std.specs.Option.{option_map}
use Rattle.adj_rib_out.specs.State.{State, is_ready, value_at, route_of}
use Rattle.adj_rib_out.specs.Calls.{Sets}
use Rattle.adj_rib_out.specs.Nodes.{is_node, nodes}
use Rattle.adj_rib_out.proofs.CountLemmas as count
use Rattle.adj_rib_out.proofs.rib.Rib.set.Goals as goal

pub set-requires-clause-key : goal.set-requires-clause-key
set-requires-clause-key c = subst (λ (s : State). IsTrue (is_ready s c.args.key.now)) (sym c.self.view_is)
    c.requires.key

pub set-requires-clause-value : goal.set-requires-clause-value
set-requires-clause-value c = subst (λ (s : State). IsSome (value_at s c.args.value)) (sym c.self.view_is)
    c.requires.value

pub more-count-requires : goal.more-count-requires
more-count-requires c = count.has_room c.self.inside.count c.self.inside.table c.set.new.self c.is_node-node.result
    (is_node c.self.inside.table c.args.key.now) c.self.invariant c.is_node-node.ensures c.set.ensures.nodes
    c.places.result c.places.ensures.places

pub invariant_of-self : goal.invariant_of-self
invariant_of-self c = c.more-count.ensures ∙ count.grown c.self.inside.count c.self.inside.table c.set.new.self
    c.is_node-node.result (is_node c.self.inside.table c.args.key.now) c.self.invariant c.is_node-node.ensures
    c.set.ensures.nodes

pub returns-clause-set : goal.returns-clause-set
returns-clause-set c = subst (λ (s : State). Sets s c.set.new.self c.args.key.now
    (option_map (λ written. route_of s.side written c.args.owner) (value_at s c.args.value))) c.self.view_is
    c.set.ensures.set

pub returns-clause-nodes : goal.returns-clause-nodes
returns-clause-nodes c = subst (λ (s : State). nodes c.set.new.self ≡ nodes s + cond (is_node s c.args.key.now) 0 1)
    c.self.view_is c.set.ensures.nodes

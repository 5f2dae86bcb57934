use Rattle.std.proofs.Common.{ℕ, sym, ap, subst, ◌∙◌}
use Rattle.std.specs.Prelude.{IfOk, OnErr}
use Rattle.adj_rib_out.specs.State.{State}
use Rattle.adj_rib_out.specs.Calls.{Readies, ReadiesSome}
use Rattle.adj_rib_out.specs.Nodes.{nodes}
use Rattle.adj_rib_out.proofs.rib.Rib.ready.Goals as goal

pub invariant_of-self : goal.invariant_of-self
invariant_of-self c = c.self.invariant ∙ sym c.ready.ensures.nodes

pub returns-clause-ok : goal.returns-clause-ok
returns-clause-ok c = subst (λ (s : State). IfOk c.ready.result (λ (number : ℕ).
    Readies s c.ready.new.self c.args.keys.now c.args.written.now number)) c.self.view_is c.ready.ensures.ok

pub returns-clause-err : goal.returns-clause-err
returns-clause-err c = subst (λ (s : State). OnErr c.ready.result (ReadiesSome s c.ready.new.self c.args.keys.now))
    c.self.view_is c.ready.ensures.err

pub returns-clause-nodes : goal.returns-clause-nodes
returns-clause-nodes c = c.ready.ensures.nodes ∙ ap nodes c.self.view_is

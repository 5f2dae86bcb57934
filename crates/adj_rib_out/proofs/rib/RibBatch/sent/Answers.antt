use Rattle.std.proofs.Common.{refl, subst, ap, ◌∙◌}
use Rattle.adj_rib_out.specs.State.{State}
use Rattle.adj_rib_out.specs.Calls.{Passes}
use Rattle.batch_cutter.specs.Items.{behind_front}
use Rattle.adj_rib_out.specs.Told.{items_left}
use Rattle.adj_rib_out.proofs.DueLemmas.{left_behind}
use Rattle.adj_rib_out.proofs.CountLemmas as count
use Rattle.adj_rib_out.proofs.rib.RibBatch.sent.Goals as goal

pub fewer-count-requires : goal.fewer-count-requires
fewer-count-requires c = count.can_shrink c.self.inside.count c.self.inside.table c.sent-gone.new.self
    c.sent-gone.result
    c.sent-gone.result c.self.invariant refl c.sent-gone.ensures.nodes

pub invariant_of-self : goal.invariant_of-self
invariant_of-self c = count.shrunk_is c.self.inside.count c.self.inside.table c.sent-gone.new.self c.sent-gone.result
    c.sent-gone.result c.self.invariant refl c.sent-gone.ensures.nodes c.fewer-count.result c.fewer-count.ensures

pub returns-clause-left : goal.returns-clause-left
returns-clause-left c = left_behind c.self.inside.table c.sent-gone.new.self c.sent-gone.ensures.passes
    ∙ ap (λ (s : State). behind_front (items_left s)) c.self.view_is

pub returns-clause-passed : goal.returns-clause-passed
returns-clause-passed c = λ item front. subst (λ (s : State). Passes s c.sent-gone.new.self) c.self.view_is
    c.sent-gone.ensures.passes

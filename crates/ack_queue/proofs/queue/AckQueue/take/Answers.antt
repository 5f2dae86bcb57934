use Rattle.std.proofs.Common.{◌≡◌, take, drop, ap, ◌∙◌}
use Rattle.ack_queue.proofs.TakenLemmas.{taken_front, taken_rest}
use Rattle.ack_queue.proofs.queue.AckQueue.take.Goals as goal

pub returns-clause-first : goal.returns-clause-first
returns-clause-first c =
    let front : take c.read_into-count.result c.read_into-count.new.dst ≡ take 64 c.self.inside.replies.items =
    taken_front 64 c.read_into-count.result c.self.inside.replies.items _ c.read_into-count.new.dst
    c.read_into-count.ensures.count c.read_into-count.ensures.read in
    cc

pub returns-clause-rest : goal.returns-clause-rest
returns-clause-rest c =
    ap (λ (b : _). b.items) c.read_into-count.ensures.items
    ∙ taken_rest 64 c.read_into-count.result c.self.inside.replies.items c.read_into-count.ensures.count
    ∙ ap (drop 64) c.self.view_is

use Rattle.std.proofs.Common.{◌∙◌, refl}
use Rattle.helper_worker.proofs.PieceLemmas.{front_all, front_late, front_more, front_none}
use Rattle.helper_worker.proofs.piece.enter_piece.Goals as goal

pub lines-init : goal.lines-init
lines-init g c = front_none _ _ _ _ _ c.requires.none

pub returns-in_default-clause-piece : goal.returns-in_default-clause-piece
returns-in_default-clause-piece g c =
    front_all _ _ _ _ _ _ _ _ _ _ c.lines.invariant c.feed-count.ensures.count c.feed-count.ensures.taken
    c.feed-count.ensures.whole (c.in_default.ensures.none.0 refl)

pub enter_line-requires-clause-gate : goal.enter_line-requires-clause-gate
enter_line-requires-clause-gate g c κs within = c.lines.invariant.gate ∙ c.requires.gate

pub returns-then-not-enter_line-clause-piece : goal.returns-then-not-enter_line-clause-piece
returns-then-not-enter_line-clause-piece g c =
    front_late _ _ _ _ _ _ _ _ _ _ _ c.lines.cutter _ c.lines.invariant c.feed-count.ensures.count
    c.feed-count.ensures.taken c.in-Some.ensures.exact c.if-not-enter_line.ensures

pub lines-preserved : goal.lines-preserved
lines-preserved g c =
    front_more _ _ _ _ _ _ _ _ _ _ _ _ _ _ c.lines.invariant c.feed-count.ensures.count c.feed-count.ensures.taken
    c.split_at.ensures.back c.in-Some.ensures.exact c.advance.ensures c.if-not-enter_line.ensures

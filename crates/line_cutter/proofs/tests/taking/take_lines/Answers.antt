use Rattle.text_forms.specs.LineTold.{line_told}
use Rattle.line_cutter.proofs.ChunkingLemmas.{taking_next, taking_end}
use Rattle.line_cutter.proofs.tests.taking.take_lines.Goals as goal

pub returns-in_default-clause-cut : goal.returns-in_default-clause-cut
returns-in_default-clause-cut g c =
    taking_end c.args.piece.now (g.T.Taker.taken c.args.taker.now) c.args.cutter.now c.lines.rest.now
    (g.T.Taker.taken c.lines.taker) c.lines.cutter c.feed-count.result c.feed-count.new.self c.lines.invariant
    c.feed-count.ensures.count c.feed-count.ensures.taken c.feed-count.ensures.whole c.in_default.ensures.exact

pub lines-preserved : goal.lines-preserved
lines-preserved g c =
    taking_next c.args.piece.now (g.T.Taker.taken c.args.taker.now) c.args.cutter.now c.lines.rest.now
    (g.T.Taker.taken c.lines.taker) c.lines.cutter (line_told c.in-Some.line) c.feed-count.result
    c.split_at.result.1.now (g.T.Taker.taken c.take.new.self) c.feed-count.new.self c.advance.new.self
    c.lines.invariant c.feed-count.ensures.count c.feed-count.ensures.taken c.split_at.ensures.back
    c.in-Some.ensures.exact c.take.ensures c.advance.ensures

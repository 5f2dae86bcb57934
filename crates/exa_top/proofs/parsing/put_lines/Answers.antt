use Rattle.exa_top.proofs.PieceLemmas.{put_all, put_more, put_none}
use Rattle.exa_top.proofs.parsing.put_lines.Goals as goal

pub lines-init : goal.lines-init
lines-init c = put_none _ _ _ c.requires.none

pub lines-preserved : goal.lines-preserved
lines-preserved c =
    put_more _ _ _ _ _ _ c.feed-count.new.self _ _ _ _ _ c.lines.invariant c.feed-count.ensures.count
    c.feed-count.ensures.taken c.split_at.ensures.back c.in-Some.ensures.exact c.advance.ensures
    c.in_ok-put_line.ensures

pub returns-in_default-clause-put : goal.returns-in_default-clause-put
returns-in_default-clause-put c =
    put_all _ _ _ _ _ _ _ _ c.lines.invariant c.feed-count.ensures.count c.feed-count.ensures.taken
    c.feed-count.ensures.whole c.in_default.ensures.exact

use Rattle.std.proofs.Common.{sym, ◌∙◌}
use Rattle.session_codec.proofs.ReadingLemmas.{entries_shorter, entries_go_on, entries_stop, entries_end}
use Rattle.session_codec.proofs.reading.ways.ways_in.Goals as goal

pub returns-in_default : goal.returns-in_default
returns-in_default c =
    entries_stop _ _ _ _ (sym c.is_empty.ensures ∙ c.entries-test.true) c.in_default.ensures c.none.ensures
    c.entries.invariant

pub entries-smaller : goal.entries-smaller
entries-smaller c = entries_shorter _ _ _ c.in-Some.ensures

pub entries-preserved : goal.entries-preserved
entries-preserved c =
    entries_go_on _ _ _ _ _ _ c.in-Some.ensures c.followed_by-ways.ensures c.entries.invariant

pub returns : goal.returns
returns c = entries_end _ _ _ (sym c.is_empty.ensures ∙ c.entries-test.false) c.entries.invariant

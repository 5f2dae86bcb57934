use Rattle.std.proofs.Common.{sym}
use Rattle.linked_pending.specs.Links.{link}
use Rattle.adj_rib_out.specs.Kept.{written_under}
use Rattle.adj_rib_out.proofs.ColumnLemmas.{none_counted}
use Rattle.adj_rib_out.proofs.NumberLemmas.{some_of}
use Rattle.adj_rib_out.proofs.TrimmedLemmas.{loses_if}
use Rattle.adj_rib_out.proofs.trim_values.trim_value.Goals as goal

pub returns-clause-loses : goal.returns-clause-loses
returns-clause-loses c =
    let held = some_of (written_under c.args.values.now.seen c.args.value) c.requires.stands in
    loses_if c.args.values.now c.requires.used c.args.value held.0 held.1 c.drop_value.new.self
    c.drop_value.ensures.dropped c.drop_value.ensures.counts
    (none_counted (link c.args.values.now.routes c.args.value) (sym c.if-has_route.ensures))

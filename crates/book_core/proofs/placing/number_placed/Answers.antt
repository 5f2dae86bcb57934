use Rattle.std.proofs.Common.{sym, ap, ◌∙◌}
use Rattle.std.specs.Prelude.{slice_get}
use Rattle.book_core.specs.Placing.{marked_from}
use Rattle.book_core.proofs.PlacingLemmas.{placed_held, placed_new}
use Rattle.book_core.proofs.placing.number_placed.Goals as goal

pub returns-then-is_some : goal.returns-then-is_some
returns-then-is_some c =
    placed_held c.args.kept.now c.args.news.now c.args.n c.requires (sym c.is_some.ensures ∙ c.if-is_some.true)

pub returns : goal.returns
returns c =
    placed_new c.args.kept.now c.args.news.now c.args.n c.nth_marked.result c.requires
    (sym c.is_some.ensures ∙ c.if-is_some.false)
    (c.nth_marked.ensures ∙ ap (slice_get (marked_from 0 c.args.news.now)) c.vacant_below.ensures.count)

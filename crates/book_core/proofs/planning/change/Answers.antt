use Rattle.std.proofs.Common.{◌∙◌}
use Rattle.book_core.proofs.PlanLemmas.{changes}
use Rattle.book_core.proofs.planning.change.Goals as goal

pub returns : goal.returns
returns c =
    changes c.args.peering.now c.args.new.now c.new.result c.in_ok-with.with c.in_ok-names.names
    c.as_slice-statics.result.now c.as_slice-statics.ensures c.requires.held c.new.ensures
    c.in_ok-with.ensures.moved c.in_ok-with.ensures.closed
    (c.in_ok-names.ensures ∙ c.as_slice.ensures)

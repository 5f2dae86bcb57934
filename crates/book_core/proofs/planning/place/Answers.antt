use Rattle.std.proofs.Common.{◌∙◌}
use Rattle.book_core.proofs.PlanLemmas.{comes}
use Rattle.book_core.proofs.planning.place.Goals as goal

pub returns : goal.returns
returns c = λ was settled vacant.
    comes was.slot c.args.new.now c.args.end c.in_ok-with.with c.in_ok-names.names c.as_slice-2.result.now
    c.as_slice-2.ensures settled vacant c.in_ok-with.ensures.placed c.in_ok-with.ensures.closed
    (c.in_ok-names.ensures ∙ c.as_slice.ensures)

use Rattle.std.proofs.Common.{ap, ◌∙◌}
use Rattle.book_gate.specs.Known.{first_known}
use Rattle.book_gate_many.proofs.CrewLemmas.{opened_crew, opened_count}
use Rattle.book_gate_many.proofs.crew.open_crew.Goals as goal

pub returns-clause-crew : goal.returns-clause-crew
returns-clause-crew c =
    opened_crew c.in-Ok.opened.gate 0 c.args.count c.in-Ok.opened.pass c.split_many.new.pass c.in_ok-others.others.items
    (c.in-Ok.ensures.opened ∙ ap (first_known c.in-Ok.opened.gate) c.of.ensures) c.in_ok-others.ensures

pub returns-clause-count : goal.returns-clause-count
returns-clause-count c =
    opened_count c.in-Ok.opened.pass c.split_many.new.pass c.args.count c.in_ok-others.others.items
    c.in_ok-others.ensures

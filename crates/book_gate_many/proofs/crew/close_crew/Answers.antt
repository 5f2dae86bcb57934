use Rattle.book_gate_many.specs.Tallies.{IsTotal}
use Rattle.book_gate_many.proofs.CrewLemmas.{back_gates, back_names, back_none}
use Rattle.book_gate_many.proofs.TotalLemmas.{total_is}
use Rattle.book_gate_many.proofs.crew.close_crew.Goals as goal

pub close_many-tally-requires-clause-passes : goal.close_many-tally-requires-clause-passes
close_many-tally-requires-clause-passes c =
    back_gates c.args.crew.gate 0 c.args.crew.pass c.args.crew.others.items c.reverse.new.self.items
    c.reverse.ensures.items c.requires

pub close_many-tally-requires-clause-names : goal.close_many-tally-requires-clause-names
close_many-tally-requires-clause-names c =
    back_names c.args.crew.gate 0 c.args.crew.pass c.args.crew.others.items c.reverse.new.self.items
    c.reverse.ensures.items c.requires

pub close_many-tally-requires-clause-leaves : goal.close_many-tally-requires-clause-leaves
close_many-tally-requires-clause-leaves c =
    back_none c.args.crew.gate 0 c.args.crew.pass c.args.crew.others.items c.reverse.new.self.items
    c.reverse.ensures.items c.requires

pub returns : goal.returns
returns c times have =
    total_is IsTotal c.args.crew.gate c.args.crew.pass c.close_many-tally.ensures.later c.args.crew.others.items
    c.reverse.new.self.items times c.close_many-tally.result.value c.reverse.ensures.items c.requires
    c.close_many-tally.ensures.joined c.close_many-tally.ensures.stands_for have

use Rattle.std.proofs.Common.{◌∙◌}
use Rattle.book_rows.proofs.tests.gate.say_both.Goals as goal

pub returns-clause-one : goal.returns-clause-one
returns-clause-one g c = c.join.ensures.first ∙ c.requires.one

pub returns-clause-two : goal.returns-clause-two
returns-clause-two g c = c.join.ensures.second ∙ c.requires.two

use Rattle.std.proofs.Common.{sym, ◌∙◌}
use Rattle.book_core.proofs.book.Book.serve.Goals as goal

pub announce-requires-clause-announces : goal.announce-requires-clause-announces
announce-requires-clause-announces c = sym c.is_announce.ensures ∙ c.if-is_announce.true

pub show-requires-clause-shows : goal.show-requires-clause-shows
show-requires-clause-shows c = sym c.is_show.ensures ∙ c.if-is_show.true

pub carry-requires-clause-plain : goal.carry-requires-clause-plain
carry-requires-clause-plain c = sym c.is_announce.ensures ∙ c.if-is_announce.false

pub carry-requires-clause-silent : goal.carry-requires-clause-silent
carry-requires-clause-silent c = sym c.is_show.ensures ∙ c.if-is_show.false

pub returns-then-is_announce : goal.returns-then-is_announce
returns-then-is_announce c = c.announce.ensures

pub returns-then-is_show : goal.returns-then-is_show
returns-then-is_show c = c.show.ensures

pub returns : goal.returns
returns c = c.carry.ensures

-- The law, clause by clause.
use Rattle.script_grammar.proofs.FoundLemmas.{events_are_spelled, events_have_slots}
use Rattle.script_grammar.proofs.OnlyLemmas.{spelled_events_are_read}
use Rattle.script_grammar.proofs.laws.script_lines_say_one.Goals as goal

pub returns-clause-found : goal.returns-clause-found
returns-clause-found c = events_are_spelled

pub returns-clause-only : goal.returns-clause-only
returns-clause-only c = spelled_events_are_read

pub returns-clause-slots : goal.returns-clause-slots
returns-clause-slots c = events_have_slots

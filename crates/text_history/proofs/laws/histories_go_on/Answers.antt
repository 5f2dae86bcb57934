use Rattle.text_history.specs.Encodes.{AddsAnswer, AddsCuts, AddsUp}
use Rattle.text_history.specs.Plays.{AddsLine}
use Rattle.text_history.proofs.AddingLemmas.{adding_more}
use Rattle.text_history.proofs.laws.histories_go_on.Goals as goal

pub returns-clause-scripts : goal.returns-clause-scripts
returns-clause-scripts c = λ content. adding_more (AddsLine content)

pub returns-clause-encodings : goal.returns-clause-encodings
returns-clause-encodings c =
    record { ups = adding_more AddsUp; answers = adding_more AddsAnswer; cuts = adding_more AddsCuts }

use Rattle.book_history.proofs.SelectingLemmas.{files_are_decided, processes_are_decided, slots_are_decided}
use Rattle.book_history.proofs.laws.tests_decide.Goals as goal

pub returns : goal.returns
returns c = record {
  selection = slots_are_decided;
  file = files_are_decided;
  processes = processes_are_decided;
}

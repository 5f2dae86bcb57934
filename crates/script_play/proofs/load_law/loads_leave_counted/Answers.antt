use Rattle.script_play.proofs.LoadLawLemmas.{leave_counted}
use Rattle.script_play.proofs.load_law.loads_leave_counted.Goals as goal

pub returns : goal.returns
returns c = leave_counted

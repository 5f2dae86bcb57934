use Rattle.daemon.proofs.LawLemmas.{runs_answer, runs_count, runs_end, runs_enter, runs_name, runs_reload}
use Rattle.daemon.proofs.LawLemmas.{runs_shut_down}
use Rattle.daemon.proofs.LawLemmas.{runs_stop}
use Rattle.daemon.proofs.laws.runs_tell.Goals as goal

pub returns : goal.returns
returns c = record {
  enter = runs_enter;
  stop = runs_stop;
  name = runs_name;
  reload = runs_reload;
  count = runs_count;
  end = runs_end;
  shut_down = runs_shut_down;
  answer = runs_answer;
}

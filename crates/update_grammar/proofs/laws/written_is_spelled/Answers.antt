-- The law, clause by clause.
use Rattle.update_grammar.proofs.HereLemmas.{here_spelled}
use Rattle.update_grammar.proofs.GoneLemmas.{gone_spelled, end_spelled}
use Rattle.update_grammar.proofs.MarkerLemmas.{markers_differ, here_is_no_marker, gone_is_no_marker}
use Rattle.update_grammar.proofs.laws.written_is_spelled.Goals as goal

pub returns : goal.returns
returns c = record {
  here = here_spelled;
  gone = gone_spelled;
  end = end_spelled;
  markers_differ = markers_differ;
  here_is_no_marker = here_is_no_marker;
  gone_is_no_marker = gone_is_no_marker;
}

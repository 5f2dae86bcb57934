use Rattle.token_reader.proofs.LineSpellingLemmas.{line_found, line_only}
use Rattle.token_reader.proofs.FileSpellingLemmas.{file_found, file_only}
use Rattle.token_reader.proofs.laws.tokens_are_spelled.Goals as goal

pub returns : goal.returns
returns c = record {
  line_found = line_found;
  line_only = line_only;
  file_found = file_found;
  file_only = file_only;
}

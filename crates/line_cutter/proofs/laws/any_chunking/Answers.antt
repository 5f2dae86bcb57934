-- The law, clause by clause.
use Rattle.line_cutter.proofs.UnfinishedLemmas.{lines_stay}
use Rattle.line_cutter.proofs.ChunkingLemmas.{cut_begins, cut_takes, cut_passes, cut_ends}
use Rattle.line_cutter.proofs.laws.any_chunking.Goals as goal

pub returns : goal.returns
returns c = record {
  begins = cut_begins;
  takes = cut_takes;
  passes = cut_passes;
  ends = cut_ends;
  lines_stay = lines_stay;
}

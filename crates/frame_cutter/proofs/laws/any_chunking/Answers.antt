-- The law, clause by clause.
use Rattle.std.proofs.Common.{refl}
use Rattle.frame_cutter.proofs.FramesLemmas.{frames_stay, faults_stay}
use Rattle.frame_cutter.proofs.ChunkingLemmas.{cut_takes, cut_passes, cut_widens, cut_all}
use Rattle.frame_cutter.proofs.laws.any_chunking.Goals as goal

pub returns : goal.returns
returns c = record {
  begins = refl;
  takes = cut_takes;
  passes = cut_passes;
  widens = cut_widens;
  cuts_all = cut_all;
  frames_stay = frames_stay;
  faults_stay = faults_stay;
}

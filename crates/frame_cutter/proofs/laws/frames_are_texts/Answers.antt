-- The law, clause by clause.
use Rattle.frame_cutter.proofs.TextLemmas.{frame_found, frame_only}
use Rattle.frame_cutter.proofs.laws.frames_are_texts.Goals as goal

pub returns : goal.returns
returns c = record { found = frame_found; only = frame_only }

use Rattle.adj_rib_out.proofs.ReleaseLemmas.{HasReleased}
use Rattle.adj_rib_out.proofs.uses.release_all.Given as goal

-- the slots below `slot` count no more
abbrev pub invariant-sents : goal.invariant-sents
invariant-sents l = HasReleased l.slots.sents l.initial.values l.values l.slot

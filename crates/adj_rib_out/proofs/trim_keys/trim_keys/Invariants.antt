use Rattle.std.proofs.Common.{length}
use Rattle.adj_rib_out.specs.Trimming.{is_kept_by}
use Rattle.adj_rib_out.proofs.TrimLemmas.{HasTrimmed}
use Rattle.adj_rib_out.proofs.trim_keys.trim_keys.Given as goal

-- the places that were taken off were looked at
abbrev pub invariant-noted : goal.invariant-noted
invariant-noted l = HasTrimmed (is_kept_by l.routes l.slots) l.initial.keys l.keys

abbrev pub decreases-noted : goal.decreases-noted
decreases-noted l = length l.keys.idle

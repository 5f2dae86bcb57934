use Rattle.std.proofs.Common.{length}
use Rattle.adj_rib_out.specs.Trimmed.{LosesValues}
use Rattle.adj_rib_out.proofs.trim_values.trim_values.Given as goal

-- what has gone so far
abbrev pub invariant-noted : goal.invariant-noted
invariant-noted l = LosesValues l.initial.values l.values

abbrev pub decreases-noted : goal.decreases-noted
decreases-noted l = length l.values.idle_values

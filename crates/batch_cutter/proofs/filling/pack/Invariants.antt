use Rattle.std.proofs.Common.{length}
use Rattle.batch_cutter.proofs.PackLemmas.{IsUnder}
use Rattle.batch_cutter.proofs.filling.pack.Given as goal

abbrev pub invariant-items : goal.invariant-items
invariant-items g l =
    IsUnder g.B.Batch.left g.B.Batch.passes l.group l.fn.batch l.batch l.fn.packer l.packer l.fn.out l.out

abbrev pub decreases-items : goal.decreases-items
decreases-items g l = length (g.B.Batch.left l.batch)

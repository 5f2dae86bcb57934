use Rattle.std.proofs.Common.{arith, ◌∙◌, ◌++◌, ap, length, List, ℕ, slice_range}
use Rattle.frame_cutter.proofs.PendingLemmas.{range_grown}
use Rattle.frame_cutter.proofs.pending.put_behind.Goals as goal

pub returns : goal.returns
returns c = λ start order.
    range_grown c.args.cells.now c.copy_from_slice.new.self _ start c.args.end (length c.args.piece.now) order
    (omega arith) (ap length c.copy_from_slice.ensures.after)
    ∙ ap (λ (bytes : List ℕ). slice_range c.args.cells.now start c.args.end ++ bytes) c.copy_from_slice.ensures.after

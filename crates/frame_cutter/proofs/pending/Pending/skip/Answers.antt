use Rattle.std.proofs.Common.{arith, ◌∙◌, ap, length, drop, List, ℕ}
use Rattle.frame_cutter.proofs.PendingLemmas.{range_len, range_later}
use Rattle.frame_cutter.proofs.pending.Pending.skip.Goals as goal

pub returns : goal.returns
returns c =
    range_later c.self.inside.cells.items c.self.inside.start c.args.count c.self.inside.end
    (omega (
      arith,
      range_len c.self.inside.cells.items c.self.inside.start c.self.inside.end (omega arith),
      ap length c.self.view_is,
    ))
    ∙ ap (λ (bytes : List ℕ). drop c.args.count bytes) c.self.view_is

use Rattle.std.proofs.Common.{◌≤◌, Bool, cond, subst, arith}
use Rattle.adj_rib_out.proofs.rib.fewer.Goals as goal

pub overflow_sub-result : goal.overflow_sub-result
overflow_sub-result c =
    let some : 1 ≤ c.args.count = subst (λ (t : Bool). cond t 1 0 ≤ c.args.count) c.if-gone.true c.requires in
    omega arith

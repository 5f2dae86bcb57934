use Rattle.std.proofs.Common.{◌+◌, ◌≤◌, Bool, cond, subst, arith}
use Rattle.adj_rib_out.proofs.rib.more.Goals as goal

pub overflow_add-result : goal.overflow_add-result
overflow_add-result c =
    let fits : c.args.count + 1 ≤ c.args.places =
    subst (λ (t : Bool). c.args.count + cond t 0 1 ≤ c.args.places) c.if-was.false c.requires in
    omega arith

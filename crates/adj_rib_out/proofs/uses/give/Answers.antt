use Rattle.std.proofs.Common.{◌<◌, ◌^◌, ℕ, length, rules}
use Rattle.adj_rib_out.specs.Counts.{of_value}
use Rattle.adj_rib_out.proofs.UsageLemmas as usage
use Rattle.adj_rib_out.proofs.uses.give.Goals as goal

pub hold-requires-clause-small : goal.hold-requires-clause-small
hold-requires-clause-small c =
    let small : length c.args.routes.now.items < 2 ^ 63 = search rules in
    usage.can_hold c.args.routes.now.items c.args.values.now.routes c.requires.counted c.release.new.values.routes
    (λ (value : ℕ). of_value value c.index.result.now) c.release.ensures.counts small

use Rattle.std.specs.Prelude.{◌≡◌, ◌≤◌}
use Rattle.book_core.specs.Placing.{vacant_below}
use Rattle.book_core.proofs.placing.vacant_below.Given as goal

abbrev pub invariant-slots : goal.invariant-slots
invariant-slots l = (l.count ≡ vacant_below l.kept l.n) × (l.count ≤ l.n)

use Rattle.std.specs.Prelude.{◌≡◌, slice_get}
use Rattle.std.proofs.Common.{drop}
use Rattle.book_core.specs.Placing.{marked_from}
use Rattle.book_core.proofs.placing.nth_marked.Given as goal

abbrev pub invariant-marks : goal.invariant-marks
invariant-marks l = slice_get (marked_from 0 l.marks) l.before
    ≡ slice_get (marked_from l.number (drop l.number l.marks)) l.left

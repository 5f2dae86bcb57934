use Rattle.std.specs.Prelude.{◌≡◌, length, slice_get}
use Rattle.helper_book.specs.Seen.{Seen as Helper}
use Rattle.book_core.specs.Opening.{OpensHelper}
use Rattle.book_core.proofs.OpeningLemmas.{EachIs}
use Rattle.book_core.proofs.opening.open_helpers.Given as goal

abbrev pub invariant-helpers : goal.invariant-helpers
invariant-helpers l =
    (length l.helpers.items ≡ l.h)
    × EachIs (λ h (helper : Helper). OpensHelper (slice_get l.processes h) helper) l.helpers.items

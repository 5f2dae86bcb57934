use Rattle.std.specs.Prelude.{◌≡◌, length, slice_get, Some}
use Rattle.config_model.specs.Limits.{max_peers}
use Rattle.book_core.specs.Settling.{is_new}
use Rattle.book_core.proofs.BelowLemmas.{AreBelow}
use Rattle.book_core.proofs.placing.new_numbers.Given as goal

abbrev pub invariant-sections : goal.invariant-sections
invariant-sections l =
    (length l.news ≡ max_peers)
    × AreBelow (λ n. Some (is_new l.peers (slice_get l.sections n))) l.n l.news

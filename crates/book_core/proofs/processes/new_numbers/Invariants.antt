use Rattle.std.specs.Prelude.{◌≡◌, length, slice_get, Some}
use Rattle.config_model.specs.Limits.{max_helpers}
use Rattle.config_model.specs.Sections.{Sections}
use Rattle.book_history.specs.Entries.{History}
use Rattle.book_core.specs.Processes.{is_new_process}
use Rattle.book_core.specs.Stands.{HelpersStand}
use Rattle.book_core.proofs.BelowLemmas.{AreBelow}
use Rattle.book_core.proofs.processes.new_numbers.Given as goal

abbrev pub invariant-sections : goal.invariant-sections
invariant-sections l =
    (length l.news ≡ max_helpers)
    × ((cfg : Sections) (H : History) → HelpersStand cfg H l.helpers
    → AreBelow (λ h. Some (is_new_process l.helpers (slice_get l.processes h))) l.h l.news)

use Rattle.std.specs.Prelude.{◌≡◌, length, slice_get}
use Rattle.std.specs.Option.{option_map}
use Rattle.config_model.specs.Limits.{max_helpers}
use Rattle.config_model.specs.Sections.{Sections}
use Rattle.helper_book.specs.Seen.{Seen as Helper}
use Rattle.book_history.specs.Entries.{History}
use Rattle.book_core.specs.Processes.{number_of_process}
use Rattle.book_core.specs.Stands.{HelpersStand}
use Rattle.book_core.proofs.BelowLemmas.{AreBelow}
use Rattle.book_core.proofs.processes.kept_numbers.Given as goal

abbrev pub invariant-helpers : goal.invariant-helpers
invariant-helpers l =
    (length l.kept ≡ max_helpers)
    × ((cfg : Sections) (H : History) → HelpersStand cfg H l.helpers
    → AreBelow (λ h. option_map (λ (is : Helper). number_of_process l.processes is.process) (slice_get l.helpers h)) l.h
    l.kept)

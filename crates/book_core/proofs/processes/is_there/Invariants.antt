use Rattle.std.specs.Prelude.{◌≡◌, false, take}
use Rattle.std.specs.List.{list_any}
use Rattle.config_model.specs.Sections.{Sections}
use Rattle.helper_book.specs.Seen.{Seen as Helper}
use Rattle.book_history.specs.Entries.{History}
use Rattle.book_core.specs.Processes.{is_process_of}
use Rattle.book_core.specs.Stands.{HelpersStand}
use Rattle.book_core.proofs.processes.is_there.Given as goal

abbrev pub invariant-helpers : goal.invariant-helpers
invariant-helpers l =
    (cfg : Sections) (H : History) → HelpersStand cfg H l.helpers
    → list_any (λ (helper : Helper). is_process_of l.new helper.process) (take l.helper-index l.helpers) ≡ false

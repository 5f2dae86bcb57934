-- What the tests of selection and of processes decide.
use Rattle.std.specs.Prelude.{ℕ, ◌≡◌, ◌↔◌, [], List, Option, Some, IsTrue}
use Rattle.route_values.specs.declared.addr.Family.{Family}
use Rattle.route_values.specs.declared.pick.Pick.{Pick}
use Rattle.config_model.specs.declared.sections.Neighbor.{Neighbor}
use Rattle.config_model.specs.declared.sections.Process.{Process}
use Rattle.config_model.specs.Sections.{Sections}
use Rattle.config_model.specs.Selected.{IsSelected, IsSelectedAt}
use Rattle.book_history.specs.Helpers.{same_process}
use Rattle.book_history.specs.Selecting.{is_selected, selects_by}
use Rattle.book_history.specs.Slots.{process_at}

-- a slot's neighbour is selected for a slot's process exactly where config_model says that it is
abbrev pub SlotsAreDecided : Type 0
SlotsAreDecided = (process : Process) (neighbor : Neighbor) (pick : List Pick) (family : Option Family)
    → IsTrue (is_selected (Some process) pick family (Some neighbor))
    ↔ IsSelected neighbor process.name.items pick family

-- before any reload the slot of a place has the file's neighbour of that place
abbrev pub FilesAreDecided : Type 0
FilesAreDecided = (cfg : Sections) (h n : ℕ) (process : Process) (pick : List Pick) (family : Option Family)
    → process_at cfg [] h ≡ Some process
    → IsTrue (selects_by cfg [] h family (Some pick) n) ↔ IsSelectedAt cfg process.name.items pick family n

-- a process is left as it was exactly where its section is the same
abbrev pub ProcessesAreDecided : Type 0
ProcessesAreDecided = (old new : Process) → IsTrue (same_process old new) ↔ (old ≡ new)

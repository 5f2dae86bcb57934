-- What a reload does to the helper slots.
use Rattle.std.specs.Prelude.{ℕ, ◌≡◌, ◌<◌, ◌≤◌, ◌∷◌, Bool, false, not, List, length, slice_get, Option, Some, None}
use Rattle.std.specs.List.{list_any}
use Rattle.config_model.specs.declared.sections.Process.{Process}
use Rattle.config_model.specs.Sections.{Sections, place_of_name, same_name}
use Rattle.helper_book.specs.Seen.{Seen as Helper}
use Rattle.helper_book.specs.Stands as of_helper
use Rattle.book_history.specs.declared.outcomes.Reload.TheVariants as reload
use Rattle.book_history.specs.Entries.{History}
use Rattle.book_history.specs.Entries.Entry.{Reloaded}
use Rattle.book_history.specs.Slots.{process_at}
use Rattle.config_model.specs.Limits.{max_helpers}
use Rattle.book_core.specs.declared.processes.ProcessPlaces.{ProcessPlaces}
use Rattle.book_core.specs.Exchanging.{section_at}
use Rattle.book_core.specs.Placing.{number_placed}

-- the number of the section of a process, where there is one
abbrev pub number_of_process : List Process → Option Process → Option ℕ
number_of_process processes None = None
number_of_process processes (Some own) = place_of_name processes own.name.items

-- whether a process is that of a section
abbrev pub is_process_of : Process → Option Process → Bool
is_process_of new None = false
is_process_of new (Some own) = same_name own.name.items new.name.items

-- whether there is a section, and its process is in no slot
abbrev pub is_new_process : List Helper → Option Process → Bool
is_new_process helpers None = false
is_new_process helpers (Some new) = not (list_any (λ (helper : Helper). is_process_of new helper.process) helpers)

-- the process that a slot has behind a reload
abbrev pub process_in : List Process → ProcessPlaces → ℕ → Option Process
process_in processes places h = section_at processes (number_placed places.kept places.news h)

-- the sections of which these slots have the processes, and those that are new
pub record AreProcessPlaces (processes : List Process) (helpers : List Helper) (places : ProcessPlaces) : Type 0 where
  pub kept : (h : ℕ) (is : Helper) → slice_get helpers h ≡ Some is
      → slice_get places.kept h ≡ Some (number_of_process processes is.process)
  pub kept_count : length places.kept ≡ max_helpers
  pub news : (h : ℕ) → h < max_helpers → slice_get places.news h ≡ Some (is_new_process helpers (slice_get processes h))
  pub news_count : length places.news ≡ max_helpers

-- a helper stands behind a reload where it has the process that the reload gives its slot
abbrev pub ReloadsHelper : Option Process → Helper → Helper → Type 0
ReloadsHelper after was is = (cfg file : Sections) (H : History) (h : ℕ) → of_helper.Stands cfg H h was
    → after ≡ process_at cfg (Reloaded file reload.Ok ∷ H) h → of_helper.Stands cfg (Reloaded file reload.Ok ∷ H) h is

-- the first slots have their processes, and the others are as they were
pub record ReloadsTo (place : ℕ) (after : ℕ → Option Process) (start helpers : List Helper) : Type 0 where
  pub count : length helpers ≡ length start
  pub below : (h : ℕ) (was is : Helper) → h < place → slice_get start h ≡ Some was → slice_get helpers h ≡ Some is
      → ReloadsHelper (after h) was is
  pub above : (h : ℕ) → place ≤ h → slice_get helpers h ≡ slice_get start h

-- each slot has its process, by places of what the slots had
pub record ReloadsHelpers (processes : List Process) (old new : List Helper) : Type 0 where
  pub places : ProcessPlaces
  pub are : AreProcessPlaces processes old places
  pub each : (h : ℕ) (was is : Helper) → slice_get old h ≡ Some was → slice_get new h ≡ Some is
      → ReloadsHelper (process_in processes places h) was is

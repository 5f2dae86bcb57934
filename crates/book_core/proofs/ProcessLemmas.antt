-- The helper slots behind a reload.
use Rattle.std.proofs.Common.{◌≡◌, ℕ, ◌<◌, ◌≤◌, ◌+◌, Bool, List, ◌∷◌, length, Some, None}
use Rattle.std.proofs.Common.{refl, sym, ap, ◌∙◌, subst, arith}
use Rattle.std.proofs.lemmas.List.{length-set}
use Rattle.std.proofs.lemmas.Option.{slice_get_read, slice_get_within}
use Rattle.std.specs.Prelude.{find, get_or, slice_get, slice_set, Option, is_some}
use Rattle.std.specs.Option.{option_and_then}
use Rattle.config_model.specs.declared.sections.Process.{Process}
use Rattle.config_model.specs.Limits.{max_helpers}
use Rattle.config_model.specs.Sections.{Sections, same_name}
use Rattle.helper_book.specs.Seen.{Seen as Helper}
use Rattle.helper_book.specs.Stands as of_helper
use Rattle.book_history.specs.declared.outcomes.Reload.TheVariants as reload
use Rattle.book_history.specs.Entries.{History}
use Rattle.book_history.specs.Entries.Entry.{Reloaded}
use Rattle.book_history.specs.Slots.{holds, helper_slots, process_at, same_process_name, section_kept}
use Rattle.book_core.specs.declared.processes.ProcessPlaces.{ProcessPlaces}
use Rattle.book_core.specs.Processes.{is_new_process, is_process_of, number_of_process, process_in}
use Rattle.book_core.specs.Processes.{AreProcessPlaces, ReloadsHelper, ReloadsHelpers, ReloadsTo}
use Rattle.book_core.specs.Stands.{HelpersStand}
use Rattle.book_core.proofs.BelowLemmas.{changed_below, not_above}
use Rattle.book_core.proofs.FoundLemmas.{position_got, position_so}
use Rattle.book_core.proofs.HelperLemmas.{get_set_other}
use Rattle.book_core.proofs.PlacedLemmas.{placed_as, same_turn, IsTelling}
use Rattle.book_core.proofs.ReloadLemmas.{helpers_reloaded, same_name_is, same_name-self}

-- ---- slots that are given their processes, one behind the other

pub none_reloaded : (after : ℕ → Option Process) (start : List Helper) → ReloadsTo 0 after start start
none_reloaded after start = record {
  count = refl;
  below = λ h was is within there here. absurd (omega (arith, within));
  above = λ h past. refl;
}

pub reloaded_next : (after : ℕ → Option Process) (start helpers : List Helper) (h : ℕ) (was new : Helper)
    → slice_get helpers h ≡ Some was → ReloadsHelper (after h) was new → ReloadsTo h after start helpers
    → ReloadsTo (h + 1) after start (slice_set helpers h new)
reloaded_next after start helpers h was new found reloads to = record {
  count = length-set helpers h new ∙ to.count;
  below = changed_below (λ k. ReloadsHelper (after k)) start helpers h was new
      (sym (to.above h (omega arith)) ∙ found) reloads to.below;
  above = λ k past. get_set_other helpers h k new (not_above k h past) ∙ to.above k (omega (arith, past));
}

pub all_reloaded : (after : ℕ → Option Process) (start helpers : List Helper) (h : ℕ) → h ≡ length start
    → ReloadsTo h after start helpers → (k : ℕ) (was is : Helper) → slice_get start k ≡ Some was
    → slice_get helpers k ≡ Some is → ReloadsHelper (after k) was is
all_reloaded after start helpers h whole to k was is there here =
    to.below k was is (subst (λ m. k < m) (sym whole) (slice_get_within start k was there)) there here

-- what a slot that stands tells of its process
pub process_read : (cfg : Sections) (H : History) (helpers : List Helper) (h : ℕ) (helper : Helper)
    (told : Option Process) → h < length helpers → helper ≡ get_or helpers h helper
    → ((cfg : Sections) (H : History) (k : ℕ) → of_helper.Stands cfg H k helper → told ≡ process_at cfg H k)
    → HelpersStand cfg H helpers → told ≡ helper.process
process_read cfg H helpers h helper told within is tells stand =
    let stands = stand h helper (slice_get_read helpers (length helpers) h helper refl within is) in
    tells cfg H h stands ∙ sym stands.process.section

-- ---- the process of a slot behind a reload

module _ (processes : List Process) where
  same_own : (own : Process) → ◌≡◌ {A = Process → Bool} (λ other. same_name other.name.items own.name.items)
      (λ other. same_name own.name.items other.name.items)
  same_own own i other = same_turn same_name same_name_is same_name-self other.name.items own.name.items i

  kept_got : (held : Option Process) → option_and_then (slice_get processes) (number_of_process processes held)
      ≡ section_kept same_process_name processes held
  kept_got None = refl
  kept_got (Some old) =
      position_got (λ (other : Process). same_name other.name.items old.name.items) processes
      ∙ ap (λ (test : Process → Bool). find test processes) (same_own old)

  kept_so : (held : Option Process) → is_some (number_of_process processes held)
      ≡ is_some (section_kept same_process_name processes held)
  kept_so None = refl
  kept_so (Some old) =
      position_so (λ (other : Process). same_name other.name.items old.name.items) processes
      ∙ ap (λ (test : Process → Bool). is_some (find test processes)) (same_own old)

  processes_tell : IsTelling same_process_name (λ held. held) is_process_of (number_of_process processes) processes
  processes_tell = record {
    vacant = refl;
    unnumbered = refl;
    no_one = λ new. refl;
    of_held = is_of_held;
    got = kept_got;
    so = kept_so;
  }
    where
      is_of_held : (new : Process) (held : Option Process) → is_process_of new held ≡ holds same_process_name new held
      is_of_held new None = refl
      is_of_held new (Some old) = refl

-- each slot's process is the history's
process_told : (cfg : Sections) (H : History) (file : Sections) (helpers : List Helper) (places : ProcessPlaces)
    → HelpersStand cfg H helpers → length (helper_slots cfg H) ≤ max_helpers → length helpers ≡ max_helpers
    → length file.processes ≤ max_helpers → AreProcessPlaces file.processes helpers places → (h : ℕ)
    → process_in file.processes places h ≡ process_at cfg (Reloaded file reload.Ok ∷ H) h
process_told cfg H file helpers places stand few whole short are =
    placed_as same_process_name (λ held. held) is_process_of (number_of_process file.processes) file.processes
    (λ (is : Helper). is.process) helpers max_helpers places.kept places.news (helper_slots cfg H)
    (processes_tell file.processes) (record {
      kept_at = are.kept;
      kept_count = are.kept_count;
      new_at = λ h new within there. are.news h within ∙ ap (λ given. Some (is_new_process helpers given)) there;
      past_at = λ h within none. are.news h within ∙ ap (λ given. Some (is_new_process helpers given)) none;
      news_count = are.news_count;
    }) (λ h is there. (stand h is there).process.section) few whole short

-- the helper slots stand behind a reload that gave each its process
pub helpers_stand : (cfg : Sections) (H : History) (file : Sections) (old new : List Helper)
    → length (helper_slots cfg H) ≤ max_helpers → length old ≡ max_helpers → length file.processes ≤ max_helpers
    → length new ≡ length old → ReloadsHelpers file.processes old new → HelpersStand cfg H old
    → HelpersStand cfg (Reloaded file reload.Ok ∷ H) new
helpers_stand cfg H file old new few whole short count reloads stand =
    helpers_reloaded cfg H file old new count
    (λ h was is there here stood.
    reloads.each h was is there here cfg file H h stood
    (process_told cfg H file old reloads.places stand few whole short reloads.are h)) stand

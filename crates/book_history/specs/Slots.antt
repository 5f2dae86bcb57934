-- Which neighbour and which process stand in a slot.
use Rattle.std.specs.Prelude.{ℕ, Bool, false, not, List, [], ◌∷◌, map, filter, find, slice_get, Option, Some, None}
use Rattle.std.specs.List.{list_any}
use Rattle.std.specs.Option.{option_and_then}
use Rattle.route_values.specs.Key.{same_addr}
use Rattle.config_model.specs.declared.sections.Neighbor.{Neighbor}
use Rattle.config_model.specs.declared.sections.Process.{Process}
use Rattle.config_model.specs.Sections.{Sections, same_name}
use Rattle.book_history.specs.declared.outcomes.Reload.TheVariants as reload
use Rattle.book_history.specs.Entries.{History}
use Rattle.book_history.specs.Entries.Entry.{Reloaded}

-- sections of the same neighbour have its address, and those of the same process its name
abbrev pub same_peer : Neighbor → Neighbor → Bool
same_peer a b = same_addr a.settings.peer b.settings.peer

abbrev pub same_process_name : Process → Process → Bool
same_process_name a b = same_name a.name.items b.name.items

-- whether a slot holds a section of the same one
abbrev pub holds : {A : Type 0} → (A → A → Bool) → A → Option A → Bool
holds same new None = false
holds same new (Some old) = same old new

-- a slot's section in the new file; the slot is vacated where there is none
abbrev pub section_kept : {A : Type 0} → (A → A → Bool) → List A → Option A → Option A
section_kept same sections None = None
section_kept same sections (Some old) = find (same old) sections

-- new sections go into the lowest vacant slots, in the file's order
abbrev pub placed : {A : Type 0} → List A → List (Option A) → List (Option A)
placed news [] = map Some news
placed news (Some one ∷ slots) = Some one ∷ placed news slots
placed [] (None ∷ slots) = None ∷ slots
placed (new ∷ news) (None ∷ slots) = Some new ∷ placed news slots

-- the slots after a reload: what the new file still has stays in its slot, with its new section
abbrev pub reloaded : {A : Type 0} → (A → A → Bool) → List A → List (Option A) → List (Option A)
reloaded same sections slots =
    placed (filter (λ new. not (list_any (holds same new) slots)) sections) (map (section_kept same sections) slots)

-- the neighbour slots: the opening's order, changed by each reload that was done
abbrev pub peer_slots : Sections → History → List (Option Neighbor)
peer_slots cfg [] = map Some cfg.neighbors
peer_slots cfg (Reloaded new reload.Ok ∷ H) = reloaded same_peer new.neighbors (peer_slots cfg H)
peer_slots cfg (_ ∷ H) = peer_slots cfg H

-- the helper slots
abbrev pub helper_slots : Sections → History → List (Option Process)
helper_slots cfg [] = map Some cfg.processes
helper_slots cfg (Reloaded new reload.Ok ∷ H) = reloaded same_process_name new.processes (helper_slots cfg H)
helper_slots cfg (_ ∷ H) = helper_slots cfg H

-- what stands in the n-th slot
abbrev pub slot : {A : Type 0} → List (Option A) → ℕ → Option A
slot slots n = option_and_then (λ held. held) (slice_get slots n)

abbrev pub neighbor_at : Sections → History → ℕ → Option Neighbor
neighbor_at cfg H n = slot (peer_slots cfg H) n

abbrev pub process_at : Sections → History → ℕ → Option Process
process_at cfg H h = slot (helper_slots cfg H) h

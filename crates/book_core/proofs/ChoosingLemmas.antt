-- The slots that the book chooses are those that the history selects.
use Rattle.std.proofs.Common.{◌≡◌, ℕ, ◌<◌, ◌≤◌, ◌+◌, Bool, true, false, List, length, Some, None, refl, sym, ap, ◌∙◌}
use Rattle.std.proofs.Common.{arith, eqb-true, subst}
use Rattle.std.proofs.lemmas.Bool.{eqb-false, ltb-false, ltb-true}
use Rattle.std.proofs.lemmas.Option.{slice_get_past, slice_get_read}
use Rattle.std.specs.Option.{option_map}
use Rattle.std.specs.Prelude.{◌↔◌, ◌==◌, nat_lt, get_or, slice_get, slice_set, Option}
use Rattle.arrayvec.specs.ArrayVec.{ArrayVec}
use Rattle.route_values.specs.declared.addr.Family.{Family}
use Rattle.route_values.specs.declared.pick.Pick.{Pick}
use Rattle.route_values.specs.declared.settings.Settings.{Settings}
use Rattle.command_grammar.specs.declared.command.Command.{Command}
use Rattle.config_model.specs.declared.sections.Neighbor.{Neighbor}
use Rattle.config_model.specs.declared.sections.Process.{Process}
use Rattle.config_model.specs.Sections.{Sections}
use Rattle.config_model.specs.Selected.{IsSelected}
use Rattle.book_history.specs.Entries.{History}
use Rattle.book_history.specs.Selecting.{is_selected, own_family, pick_of, selects, selects_by}
use Rattle.book_history.specs.Slots.{neighbor_at, process_at}
use Rattle.book_history.proofs.SelectingLemmas.{slots_are_decided}
use Rattle.book_core.specs.declared.peering.Peering.{Peering}
use Rattle.book_core.specs.Choosing.{is_chosen, is_meant, is_meant_by, section_of, AreChosen}
use Rattle.book_core.specs.Stands.{PeerStands, names_heard}
use Rattle.book_core.proofs.HelperLemmas.{get_set_other, get_set_put}
use Rattle.book_core.proofs.PeerLemmas.{settings_of, settings_told}

-- a section is meant where its settings and its names are
section_meant : (process : Option Process) (pick : List Pick) (family : Option Family) (held : Option Neighbor)
    → is_meant process pick family (settings_of held) (names_heard held) ≡ is_selected process pick family held
section_meant None pick family held = refl
section_meant (Some process) pick family None = refl
section_meant (Some process) pick family (Some neighbor) = refl

meant_by : (cfg : Sections) (H : History) (h n : ℕ) (family : Option Family) (pick : Option (List Pick))
    (peering : Peering) → PeerStands cfg H n peering
    → is_meant_by (process_at cfg H h) family pick peering ≡ selects_by cfg H h family pick n
meant_by cfg H h n family None peering stands = refl
meant_by cfg H h n family (Some pick) peering stands =
    let process = process_at cfg H h in
    let held = neighbor_at cfg H n in
    let settings : peering.slot.settings ≡ settings_of held = stands.slot.settings ∙ settings_told cfg n H in
    ap (λ (own : Option Settings). is_meant process pick family own peering.names) settings
    ∙ ap (λ (names : List (ArrayVec ℕ)). is_meant process pick family (settings_of held) names) stands.names
    ∙ section_meant process pick family held

-- a slot is chosen exactly where the command selects it
pub chosen_are_selected : (cfg : Sections) (H : History) (h n : ℕ) (given : Command) (peering : Peering)
    → PeerStands cfg H n peering → is_chosen (process_at cfg H h) given peering ≡ selects cfg H h given n
chosen_are_selected cfg H h n given peering stands =
    meant_by cfg H h n (own_family given) (pick_of given) peering stands

-- two tests that decide the same are one
same_tests : (a b : Bool) → (a ≡ true → b ≡ true) → (b ≡ true → a ≡ true) → a ≡ b
same_tests true true there back = refl
same_tests true false there back = sym (there refl)
same_tests false true there back = back refl
same_tests false false there back = refl

-- the test of a section that is selected is that of its settings and its names
pub meant_decided : (process : Process) (pick : List Pick) (family : Option Family) (own : Settings)
    (names : List (ArrayVec ℕ)) (so : Bool)
    → ((so ≡ true) ↔ IsSelected (section_of own names) process.name.items pick family)
    → so ≡ is_meant (Some process) pick family (Some own) names
meant_decided process pick family own names so decides =
    let decided = slots_are_decided process (section_of own names) pick family in
    same_tests so (is_selected (Some process) pick family (Some (section_of own names)))
    (λ yes. decided.1 (decides.0 yes)) (λ yes. decides.1 (decided.0 yes))

-- without a process, or without settings, none is meant
pub no_process : (family : Option Family) (pick : Option (List Pick)) (peering : Peering)
    → is_meant_by None family pick peering ≡ false
no_process family None peering = refl
no_process family (Some pick) peering = refl

pub no_settings : (process : Option Process) (family : Option Family) (pick : Option (List Pick)) (peering : Peering)
    → peering.slot.settings ≡ None → is_meant_by process family pick peering ≡ false
no_settings process family None peering none = refl
no_settings None family (Some pick) peering none = refl
no_settings (Some process) family (Some pick) peering none =
    ap (λ (own : Option Settings). is_meant (Some process) pick family own peering.names) none

-- the test of a slot with a neighbour is that of its settings and its names
pub meant_chosen : (process : Option Process) (given : Command) (peering : Peering) (one : Process)
    (pick : List Pick) (own : Settings) (family : Option Family) (so : Bool) → process ≡ Some one
    → pick_of given ≡ Some pick → peering.slot.settings ≡ Some own → family ≡ own_family given
    → ((so ≡ true) ↔ IsSelected (section_of own peering.names) one.name.items pick family)
    → so ≡ is_chosen process given peering
meant_chosen process given peering one pick own family so runs picks placed hop decides =
    meant_decided one pick family own peering.names so decides
    ∙ ap (λ (p : Option Process). is_meant p pick family (Some own) peering.names) (sym runs)
    ∙ ap (λ (f : Option Family). is_meant process pick f (Some own) peering.names) hop
    ∙ ap (λ (s : Option Settings). is_meant process pick (own_family given) s peering.names) (sym placed)
    ∙ ap (λ (p : Option (List Pick)). is_meant_by process (own_family given) p peering) (sym picks)

-- the slots below a place are chosen
abbrev pub ChosenBelow : ℕ → Option Process → Command → List Peering → List Bool → Type 0
ChosenBelow place process given peers chosen =
    (n : ℕ) → n < place → slice_get chosen n ≡ option_map (is_chosen process given) (slice_get peers n)

-- one more slot is
pub chosen_next : (process : Option Process) (given : Command) (peers : List Peering) (chosen : List Bool) (place : ℕ)
    (was : Peering) (so : Bool) → place < length peers → place < length chosen → was ≡ get_or peers place was
    → so ≡ is_chosen process given was → ChosenBelow place process given peers chosen
    → ChosenBelow (place + 1) process given peers (slice_set chosen place so)
chosen_next process given peers chosen place was so within inside is test below = λ n under.
    let found : slice_get peers place ≡ Some was =
    slice_get_read peers (length peers) place was refl within is in
    elim (place == n) as (λ b. (place == n) ≡ b → slice_get (slice_set chosen place so) n
    ≡ option_map (is_chosen process given) (slice_get peers n)) [
      | true ↦ λ same.
          let one : place ≡ n = eqb-true place n same in
          subst (λ (k : ℕ). slice_get (slice_set chosen place so) k
          ≡ option_map (is_chosen process given) (slice_get peers k)) one
          (get_set_put chosen place so inside ∙ ap Some test
          ∙ ap (option_map (is_chosen process given)) (sym found))
      | false ↦ λ other.
          let apart = eqb-false place n other in
          get_set_other chosen place n so other ∙ below n (omega (arith, under, apart))
    ] refl

-- all slots are
pub chosen_all : (process : Option Process) (given : Command) (peers : List Peering) (chosen : List Bool)
    → length chosen ≡ length peers → ChosenBelow (length peers) process given peers chosen
    → AreChosen process given peers chosen
chosen_all process given peers chosen same below = λ n.
    elim (nat_lt n (length peers)) as (λ b. nat_lt n (length peers) ≡ b
    → slice_get chosen n ≡ option_map (is_chosen process given) (slice_get peers n)) [
      | true ↦ λ less. below n (ltb-true n (length peers) less)
      | false ↦ λ past.
          let over : length peers ≤ n = ltb-false n (length peers) past in
          slice_get_past chosen n (subst (λ k. k ≤ n) (sym same) over)
          ∙ ap (option_map (is_chosen process given)) (sym (slice_get_past peers n over))
    ] refl

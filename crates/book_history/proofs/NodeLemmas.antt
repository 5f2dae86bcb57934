-- Sessions and their messages add no route node.
use Rattle.std.proofs.Common.{◌≡◌, ℕ, ◌≤◌, Bool, true, false, List, [], ◌∷◌, ◌++◌, length, refl, sym}
use Rattle.std.proofs.Common.{subst}
use Rattle.std.proofs.Common.{arith}
use Rattle.std.specs.Prelude.{◌==◌, if◌then◌else◌, filter}
use Rattle.std.specs.List.{sum_by}
use Rattle.std.proofs.lemmas.List.Sums.{sum_by-cons}
use Rattle.route_values.specs.declared.key.Key.{Key}
use Rattle.route_values.specs.declared.settings.Settings.{Settings}
use Rattle.route_values.specs.Caps.{Caps}
use Rattle.config_model.specs.Sections.{Sections}
use Rattle.peer_history.specs.Cuts as of_slot
use Rattle.peer_history.specs.Laws as law
use Rattle.peer_history.specs.Nodes.{is_node}
use Rattle.peer_history.specs.Ordered.{asked_for, in_order, node_keys}
use Rattle.peer_history.specs.Steps.{Step}
use Rattle.peer_history.specs.Steps as step
use Rattle.book_history.specs.declared.outcomes.Up.{Up}
use Rattle.book_history.specs.declared.outcomes.Up.TheVariants as up
use Rattle.book_history.specs.Bounds.{peer_numbers}
use Rattle.book_history.specs.Entries.{History}
use Rattle.book_history.specs.Entries.Entry.{CameUp, WentDown, RefreshAsked, MessageCut}
use Rattle.book_history.specs.Headline.{AddsNoNode, SessionsAddNoNode}
use Rattle.book_history.specs.PeerSteps.{step_if, answer_of, steps_of}
use Rattle.book_history.proofs.StepLemmas.{steps_legal}

-- a narrower test passes no more
filter_few : (narrow wide : Key → Bool) → ((key : Key) → narrow key ≡ true → wide key ≡ true) → (keys : List Key)
    → length (filter narrow keys) ≤ length (filter wide keys)
filter_few narrow wide within [] = omega arith
filter_few narrow wide within (k ∷ ks) =
    let rest = filter_few narrow wide within ks in
    elim (narrow k) as (λ n. narrow k ≡ n → length (if n then k ∷ filter narrow ks else filter narrow ks)
    ≤ length (filter wide (k ∷ ks))) [
      | true ↦ λ e. subst (λ w. length (k ∷ filter narrow ks)
          ≤ length (if w then k ∷ filter wide ks else filter wide ks))
          (sym (within k e)) (omega (arith, rest))
      | false ↦ λ e. elim (wide k) as (λ w. length (filter narrow ks)
          ≤ length (if w then k ∷ filter wide ks else filter wide ks)) [
            | true ↦ omega (arith, rest)
            | false ↦ rest
          ]
    ] refl

sums_few : (less more : ℕ → ℕ) → ((n : ℕ) → less n ≤ more n) → (ns : List ℕ) → sum_by less ns ≤ sum_by more ns
sums_few less more within [] = omega arith
sums_few less more within (n ∷ ns) =
    let one = within n in
    let rest = sums_few less more within ns in
    let left = sum_by-cons less n ns in
    let right = sum_by-cons more n ns in
    omega (arith, one, rest, left, right)

-- a step that adds no node, in its slot or in none
step_few : (so : Bool) (one : Step) (steps : List Step) → law.AddsNoNode one
    → asked_for (one ∷ steps) ≡ asked_for steps → of_slot.IsLegal (step_if so (one ∷ []) ++ steps)
    → length (node_keys (step_if so (one ∷ []) ++ steps)) ≤ length (node_keys steps)
step_few true one steps adds same legal =
    let few = filter_few (is_node (one ∷ steps)) (is_node steps) (adds steps legal) (in_order (asked_for steps)) in
    subst (λ keys. length (filter (is_node (one ∷ steps)) (in_order keys)) ≤ length (node_keys steps)) (sym same) few
step_few false one steps adds same legal = omega arith

came_up : law.SessionsAddNoNode → (cfg : Sections) (H : History) (n : ℕ) (settings : Settings) (caps : Caps)
    (given : Up) → AddsNoNode cfg (CameUp n settings caps given) H
came_up stay cfg H n settings caps up.Ok legal =
    let entry = CameUp n settings caps up.Ok in
    sums_few (λ m. length (node_keys (steps_of cfg m (entry ∷ H)))) (λ m. length (node_keys (steps_of cfg m H)))
    (λ m. step_few (n == m) (step.Up caps) (steps_of cfg m H) (stay.up caps) refl (steps_legal cfg m (entry ∷ H) legal))
    peer_numbers
came_up stay cfg H n settings caps up.Stopping legal = omega arith
came_up stay cfg H n settings caps up.Stale legal = omega arith

pub sessions_add_no_node : law.SessionsAddNoNode → SessionsAddNoNode
sessions_add_no_node stay = record {
  up = came_up stay;
  down = λ cfg H n legal.
      let entry = WentDown n in
      sums_few (λ m. length (node_keys (steps_of cfg m (entry ∷ H)))) (λ m. length (node_keys (steps_of cfg m H)))
      (λ m. step_few (n == m) step.Down (steps_of cfg m H) stay.down refl (steps_legal cfg m (entry ∷ H) legal))
      peer_numbers;
  refreshed = λ cfg H n family legal.
      let entry = RefreshAsked n family in
      sums_few (λ m. length (node_keys (steps_of cfg m (entry ∷ H)))) (λ m. length (node_keys (steps_of cfg m H)))
      (λ m. step_few (n == m) (step.Refreshed family) (steps_of cfg m H) (stay.refreshed family) refl
      (steps_legal cfg m (entry ∷ H) legal)) peer_numbers;
  cut = λ cfg H n bytes given legal.
      let entry = MessageCut n bytes given in
      sums_few (λ m. length (node_keys (steps_of cfg m (entry ∷ H)))) (λ m. length (node_keys (steps_of cfg m H)))
      (λ m. step_few (n == m) (step.Cut (answer_of bytes given)) (steps_of cfg m H) (stay.cut (answer_of bytes given))
      refl (steps_legal cfg m (entry ∷ H) legal)) peer_numbers;
}

-- Entries by which no slot gets a node.
use Rattle.std.proofs.Common.{◌≡◌, ℕ, ◌≤◌, Bool, true, false, List, [], ◌∷◌, length, refl, sym, subst, arith}
use Rattle.std.specs.Prelude.{filter, if◌then◌else◌}
use Rattle.std.specs.List.{sum_by}
use Rattle.std.proofs.lemmas.List.Sums.{sum_by-cons}
use Rattle.route_values.specs.declared.key.Key.{Key}
use Rattle.config_model.specs.Sections.{Sections}
use Rattle.peer_history.specs.Nodes.{is_node}
use Rattle.peer_history.specs.Ordered.{asked_for, in_order, node_keys}
use Rattle.peer_history.specs.Steps.{Step}
use Rattle.book_history.specs.Bounds.{peer_numbers}
use Rattle.book_history.specs.Entries.{Entry, History}
use Rattle.book_history.specs.Nodes.{nodes}
use Rattle.book_history.specs.PeerSteps.{steps_of}

-- a narrower test passes no more
filter_few : (narrow wide : Key → Bool) → ((key : Key) → narrow key ≡ true → wide key ≡ true) → (keys : List Key)
    → length (filter narrow keys) ≤ length (filter wide keys)
filter_few narrow wide within [] = omega arith
filter_few narrow wide within (k ∷ ks) =
    let rest = filter_few narrow wide within ks in
    elim (narrow k) as (λ n. narrow k ≡ n → length (if n then k ∷ filter narrow ks else filter narrow ks)
    ≤ length (filter wide (k ∷ ks))) [
      | true ↦ λ e. subst (λ w. length (k ∷ filter narrow ks)
          ≤ length (if w then k ∷ filter wide ks else filter wide ks))
          (sym (within k e)) (omega (arith, rest))
      | false ↦ λ e. elim (wide k) as (λ w. length (filter narrow ks)
          ≤ length (if w then k ∷ filter wide ks else filter wide ks)) [
            | true ↦ omega (arith, rest)
            | false ↦ rest
          ]
    ] refl

pub sums_few : (less more : ℕ → ℕ) → ((n : ℕ) → less n ≤ more n) → (ns : List ℕ) → sum_by less ns ≤ sum_by more ns
sums_few less more within [] = omega arith
sums_few less more within (n ∷ ns) =
    let one = within n in
    let rest = sums_few less more within ns in
    let left = sum_by-cons less n ns in
    let right = sum_by-cons more n ns in
    omega (arith, one, rest, left, right)

-- a slot whose nodes were nodes before, and of which no other key was asked for
pub steps_few : (new old : List Step) → asked_for new ≡ asked_for old
    → ((key : Key) → is_node new key ≡ true → is_node old key ≡ true)
    → length (node_keys new) ≤ length (node_keys old)
steps_few new old same within =
    let few = filter_few (is_node new) (is_node old) within (in_order (asked_for old)) in
    subst (λ keys. length (filter (is_node new) (in_order keys)) ≤ length (node_keys old)) (sym same) few

-- an entry by which each slot has no more nodes than it had
pub entry_few : (cfg : Sections) (H : History) (entry : Entry)
    → ((n : ℕ) → length (node_keys (steps_of cfg n (entry ∷ H))) ≤ length (node_keys (steps_of cfg n H)))
    → nodes cfg (entry ∷ H) ≤ nodes cfg H
entry_few cfg H entry each =
    sums_few (λ n. length (node_keys (steps_of cfg n (entry ∷ H)))) (λ n. length (node_keys (steps_of cfg n H))) each
    peer_numbers

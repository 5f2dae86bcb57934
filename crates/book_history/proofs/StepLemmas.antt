-- A history, and the steps of one of its neighbour slots.
use Rattle.std.proofs.Common.{◌≡◌, ℕ, Bool, true, false, not, List, [], ◌∷◌, ◌++◌, Some, None, Ok, refl, ap, ◌∙◌}
use Rattle.std.proofs.Common.{subst}
use Rattle.std.proofs.Common.{eqb-true}
use Rattle.std.specs.Prelude.{◌==◌, ⊤, if◌then◌else◌, Option, unwrap_or}
use Rattle.std.specs.Option.{option_map}
use Rattle.command_grammar.specs.declared.command.Command.{Command}
use Rattle.command_grammar.specs.declared.command.Command.TheVariants as command
use Rattle.config_model.specs.declared.sections.Neighbor.{Neighbor}
use Rattle.config_model.specs.Plan.{same_settings}
use Rattle.config_model.specs.Sections.{Sections}
use Rattle.peer_history.specs.Batches.{opened, first_cut}
use Rattle.peer_history.specs.Cuts.{MayAnswer}
use Rattle.peer_history.specs.Cuts as of_slot
use Rattle.peer_history.specs.Steps.{Step, Answer}
use Rattle.peer_history.specs.Steps.Step.{Announced, Withdrawn, Cleared, Placed, Kept, Vacated, Up, Down, Ended}
use Rattle.peer_history.specs.Steps.Step.{Refreshed, Cut}
use Rattle.peer_history.specs.Steps as step
use Rattle.book_history.specs.declared.outcomes.Cut.TheVariants as cut
use Rattle.book_history.specs.declared.outcomes.Reload.TheVariants as reload
use Rattle.book_history.specs.declared.outcomes.Up.TheVariants as up
use Rattle.book_history.specs.declared.outcomes.Verdict.TheVariants as verdict
use Rattle.book_history.specs.Entries.{History}
use Rattle.book_history.specs.Entries.Entry.{LineEntered, CameUp, WentDown, RefreshAsked, MessageCut, Reloaded, Stopped}
use Rattle.book_history.specs.Legal.{IsLegal}
use Rattle.book_history.specs.Peers.{opened_at, first_cut_at}
use Rattle.book_history.specs.PeerSteps.{step_if, commanded, resettled, exchanged, answer_of, steps_of}
use Rattle.book_history.specs.Selecting.{selects}
use Rattle.book_history.specs.Slots.{neighbor_at, same_peer}

-- steps that begin and end no session and cut nothing
abbrev pub AreQuiet : List Step → Type 0
AreQuiet [] = ⊤
AreQuiet (Up caps ∷ steps) = ⊥
AreQuiet (Down ∷ steps) = ⊥
AreQuiet (Cut answer ∷ steps) = ⊥
AreQuiet (_ ∷ steps) = AreQuiet steps

if_quiet : (so : Bool) (steps : List Step) → AreQuiet steps → AreQuiet (step_if so steps)
if_quiet true steps h = h
if_quiet false steps h = tt

pub commanded_quiet : (given : Command) (so : Bool) → AreQuiet (commanded given so)
commanded_quiet (command.Announce pick keys attrs) so = if_quiet so _ tt
commanded_quiet (command.Withdraw pick keys) so = if_quiet so _ tt
commanded_quiet (command.Clear pick) so = if_quiet so _ tt
commanded_quiet (command.Flush pick) so = if_quiet so _ tt
commanded_quiet (command.Teardown pick sub) so = if_quiet so _ tt
commanded_quiet command.Shutdown so = tt
commanded_quiet _ so = tt

chosen_quiet : (so : Bool) (these those : List Step) → AreQuiet these → AreQuiet those
    → AreQuiet (if so then these else those)
chosen_quiet true these those h k = h
chosen_quiet false these those h k = k

resettled_quiet : (old new : Neighbor) → AreQuiet (resettled old new)
resettled_quiet old new = if_quiet (not (same_settings old.settings new.settings)) _ tt

pub exchanged_quiet : (old new : Option Neighbor) → AreQuiet (exchanged old new)
exchanged_quiet None None = tt
exchanged_quiet None (Some new) = tt
exchanged_quiet (Some old) None = tt
exchanged_quiet (Some old) (Some new) = chosen_quiet (same_peer old new) _ _ (resettled_quiet old new) tt

opened_quiet : (quiet steps : List Step) → AreQuiet quiet → opened (quiet ++ steps) ≡ opened steps
opened_quiet [] steps h = refl
opened_quiet (Up caps ∷ quiet) steps h = absurd h
opened_quiet (Down ∷ quiet) steps h = absurd h
opened_quiet (Cut answer ∷ quiet) steps h = absurd h
opened_quiet (one ∷ quiet) steps h = opened_quiet quiet steps h

unopened_quiet : (quiet : List Step) → AreQuiet quiet → opened quiet ≡ None
unopened_quiet [] h = refl
unopened_quiet (Up caps ∷ quiet) h = absurd h
unopened_quiet (Down ∷ quiet) h = absurd h
unopened_quiet (Cut answer ∷ quiet) h = absurd h
unopened_quiet (one ∷ quiet) h = unopened_quiet quiet h

unlegal_quiet : (quiet : List Step) → AreQuiet quiet → of_slot.IsLegal quiet
unlegal_quiet [] h = tt
unlegal_quiet (Up caps ∷ quiet) h = absurd h
unlegal_quiet (Down ∷ quiet) h = absurd h
unlegal_quiet (Cut answer ∷ quiet) h = absurd h
unlegal_quiet (one ∷ quiet) h = unlegal_quiet quiet h

legal_quiet : (quiet steps : List Step) → AreQuiet quiet → of_slot.IsLegal steps → of_slot.IsLegal (quiet ++ steps)
legal_quiet [] steps h l = l
legal_quiet (Up caps ∷ quiet) steps h l = absurd h
legal_quiet (Down ∷ quiet) steps h l = absurd h
legal_quiet (Cut answer ∷ quiet) steps h l = absurd h
legal_quiet (one ∷ quiet) steps h l = legal_quiet quiet steps h l

module _ (cfg : Sections) (n : ℕ) where
  -- the slot's steps
  abbrev told : History → List Step
  told H = steps_of cfg n H

  -- the steps before a batch's first cut are those of the history before it
  abbrev Opens : History → Type 0
  Opens H = opened (told H) ≡ option_map told (opened_at n H)

  in_slot : (so : Bool) (H : History) (one : Step) (then_at : Option History)
      → opened (one ∷ told H) ≡ option_map told then_at → Opens H
      → opened (step_if so (one ∷ []) ++ told H) ≡ option_map told (if so then then_at else opened_at n H)
  in_slot true H one then_at here there = here
  in_slot false H one then_at here there = there

  -- a step of the slot that speaks of no batch
  in_slot_quiet : (so : Bool) (H : History) (one : Step) → opened (one ∷ told H) ≡ opened (told H) → Opens H
      → opened (step_if so (one ∷ []) ++ told H) ≡ option_map told (opened_at n H)
  in_slot_quiet true H one same o = same ∙ o
  in_slot_quiet false H one same o = o

  unwrap_told : (o : Option History) (H : History) → unwrap_or (option_map told o) (told H) ≡ told (unwrap_or o H)
  unwrap_told None H = refl
  unwrap_told (Some K) H = refl

  first_told : (H : History) → Opens H → first_cut (told H) ≡ told (first_cut_at n H)
  first_told H o = ap (λ q. unwrap_or q (told H)) o ∙ unwrap_told (opened_at n H) H

  -- the batch that a message leaves open
  still_open : (last : Bool) (H : History) → Opens H → (if last then None else Some (first_cut (told H)))
      ≡ option_map told (if last then None else Some (first_cut_at n H))
  still_open true H o = refl
  still_open false H o = ap Some (first_told H o)

  opens : (H : History) → Opens H
  opens [] = unopened_quiet (exchanged None (neighbor_at cfg [] n)) (exchanged_quiet None (neighbor_at cfg [] n))
  opens (LineEntered h inc line (Ok given) verdict.Done ∷ H) =
      opened_quiet (commanded given (selects cfg H h given n)) (told H) (commanded_quiet given _) ∙ opens H
  opens (CameUp m settings caps up.Ok ∷ H) = in_slot (m == n) H (Up caps) None refl (opens H)
  opens (WentDown m ∷ H) = in_slot (m == n) H Down None refl (opens H)
  opens (RefreshAsked m family ∷ H) = in_slot_quiet (m == n) H (Refreshed family) refl (opens H)
  opens (MessageCut m bytes (cut.Message last) ∷ H) =
      in_slot (m == n) H (Cut (step.Message bytes last)) (if last then None else Some (first_cut_at n H))
      (still_open last H (opens H)) (opens H)
  opens (MessageCut m bytes cut.Down ∷ H) = in_slot_quiet (m == n) H (Cut step.NoSession) refl (opens H)
  opens (MessageCut m bytes (cut.Reset code sub) ∷ H) =
      in_slot_quiet (m == n) H (Cut (step.Reset (record { code = code; sub = sub }))) refl (opens H)
  opens (MessageCut m bytes cut.Nothing ∷ H) = in_slot_quiet (m == n) H (Cut step.Nothing) refl (opens H)
  opens (Reloaded new reload.Ok ∷ H) =
      opened_quiet (exchanged (neighbor_at cfg H n) (neighbor_at cfg (Reloaded new reload.Ok ∷ H) n)) (told H)
      (exchanged_quiet (neighbor_at cfg H n) (neighbor_at cfg (Reloaded new reload.Ok ∷ H) n)) ∙ opens H
  opens (Stopped ∷ H) = opens H
  opens (entry ∷ H) = opens H

  pub first_steps : (H : History) → first_cut (told H) ≡ told (first_cut_at n H)
  first_steps H = first_told H (opens H)

  -- the steps of a legal history are legal
  in_slot_legal : (so : Bool) (H : History) (one : Step) → of_slot.IsLegal (one ∷ told H) → of_slot.IsLegal (told H)
      → of_slot.IsLegal (step_if so (one ∷ []) ++ told H)
  in_slot_legal true H one here there = here
  in_slot_legal false H one here there = there

  cut_legal : (so : Bool) (H : History) (answer : Answer) → (so ≡ true → MayAnswer (told H) answer)
      → of_slot.IsLegal (told H) → of_slot.IsLegal (step_if so (Cut answer ∷ []) ++ told H)
  cut_legal true H answer may l = (may refl, l)
  cut_legal false H answer may l = l

  pub steps_legal : (H : History) → IsLegal cfg H → of_slot.IsLegal (told H)
  steps_legal [] h =
      unlegal_quiet (exchanged None (neighbor_at cfg [] n)) (exchanged_quiet None (neighbor_at cfg [] n))
  steps_legal (LineEntered h inc line (Ok given) verdict.Done ∷ H) l =
      legal_quiet (commanded given (selects cfg H h given n)) (told H) (commanded_quiet given _) (steps_legal H l.1)
  steps_legal (CameUp m settings caps up.Ok ∷ H) l =
      in_slot_legal (m == n) H (Up caps) (steps_legal H l.1) (steps_legal H l.1)
  steps_legal (WentDown m ∷ H) l = in_slot_legal (m == n) H Down (steps_legal H l.1) (steps_legal H l.1)
  steps_legal (RefreshAsked m family ∷ H) l =
      in_slot_legal (m == n) H (Refreshed family) (steps_legal H l.1) (steps_legal H l.1)
  steps_legal (MessageCut m bytes given ∷ H) l =
      cut_legal (m == n) H (answer_of bytes given)
      (λ e. subst (λ j. MayAnswer (steps_of cfg j H) (answer_of bytes given))
      (eqb-true m n e) l.0) (steps_legal H l.1)
  steps_legal (Reloaded new reload.Ok ∷ H) l =
      legal_quiet (exchanged (neighbor_at cfg H n) (neighbor_at cfg (Reloaded new reload.Ok ∷ H) n)) (told H)
      (exchanged_quiet (neighbor_at cfg H n) (neighbor_at cfg (Reloaded new reload.Ok ∷ H) n)) (steps_legal H l.1)
  steps_legal (Stopped ∷ H) l = steps_legal H l.1
  steps_legal (entry ∷ H) l = steps_legal H l.1

pub legal_before : (cfg : Sections) (later H : History) → IsLegal cfg (later ++ H) → IsLegal cfg H
legal_before cfg [] H l = l
legal_before cfg (entry ∷ later) H l = legal_before cfg later H l.1

-- The law of whole batches, slot by slot.
use Rattle.std.proofs.Common.{◌≡◌, ℕ, true, List, [], ◌∷◌, ◌++◌, refl, ap, ◌∙◌, subst}
use Rattle.std.proofs.Common.{eq-eqb}
use Rattle.std.specs.Prelude.{if◌then◌else◌}
use Rattle.config_model.specs.Sections.{Sections}
use Rattle.peer_history.specs.Batches.{first_cut, is_owed, is_marker_owed}
use Rattle.peer_history.specs.Cuts as of_slot
use Rattle.peer_history.specs.Laws as law
use Rattle.peer_history.specs.Sessions.{peer}
use Rattle.peer_history.specs.Steps.{Step, Answer}
use Rattle.peer_history.specs.Steps.Step.{Cut}
use Rattle.peer_history.specs.Steps as step
use Rattle.peer_history.specs.Table.{view}
use Rattle.book_history.specs.declared.outcomes.Cut.{Cut as Cutting}
use Rattle.book_history.specs.declared.outcomes.Cut.TheVariants as cut
use Rattle.book_history.specs.Entries.{History}
use Rattle.book_history.specs.Entries.Entry.{MessageCut}
use Rattle.book_history.specs.Headline.{WholeBatches, NothingPending}
use Rattle.book_history.specs.Peers.{first_cut_at}
use Rattle.book_history.specs.PeerSteps.{step_if, answer_of, steps_of}
use Rattle.book_history.proofs.StepLemmas.{first_steps, steps_legal, legal_before}

-- a cut of a slot is a step of its own
own_cut : (cfg : Sections) (n : ℕ) (H : History) (bytes : List ℕ) (given : Cutting)
    → steps_of cfg n (MessageCut n bytes given ∷ H) ≡ Cut (answer_of bytes given) ∷ steps_of cfg n H
own_cut cfg n H bytes given =
    ap (λ so. step_if so (Cut (answer_of bytes given) ∷ []) ++ steps_of cfg n H) (eq-eqb n n refl)

pub whole_batches : law.WholeBatches → law.BatchesArePacked → WholeBatches
whole_batches whole packed cfg later H n caps bytes legal at =
    let entry = MessageCut n bytes (cut.Message true) in
    let steps = steps_of cfg n H in
    let same = own_cut cfg n H bytes (cut.Message true) in
    let now : of_slot.IsLegal (Cut (step.Message bytes true) ∷ steps) =
    subst of_slot.IsLegal same (steps_legal cfg n (entry ∷ H) (legal_before cfg later (entry ∷ H) legal)) in
    let leaves = whole [] steps caps bytes now at in
    let begins : first_cut steps ≡ steps_of cfg n (first_cut_at n H) = first_steps cfg n H in
    record {
      table = λ key. ap (λ s. peer caps s key) same ∙ leaves.table key ∙ ap (λ s. view caps s key) begins;
      named = λ key. leaves.named key ∙ ap (λ s. if is_owed caps s key then 1 else 0) begins;
      marked = λ family. leaves.marked family ∙ ap (λ s. if is_marker_owed caps s family then 1 else 0) begins;
      packed = packed steps caps bytes true now at;
      few = leaves.few;
    }

pub nothing_pending : law.NothingPending → NothingPending
nothing_pending pending cfg later H n caps bytes legal at key =
    let entry = MessageCut n bytes cut.Nothing in
    let steps = steps_of cfg n H in
    let now : of_slot.IsLegal (Cut step.Nothing ∷ steps) = subst of_slot.IsLegal (own_cut cfg n H bytes cut.Nothing)
    (steps_legal cfg n (entry ∷ H) (legal_before cfg later (entry ∷ H) legal)) in
    pending [] steps caps now at key

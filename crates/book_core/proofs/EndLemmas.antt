-- The daemon is to end.
use Rattle.std.proofs.Common.{◌≡◌, ℕ, ◌<◌, ◌≤◌, ◌+◌, Bool, true, false, List, [], ◌∷◌, ◌++◌, length}
use Rattle.std.proofs.Common.{Some, refl, sym, ap, ◌∙◌, subst, arith}
use Rattle.std.proofs.Common.{ne_eqb}
use Rattle.std.proofs.Common.{inl, inr, eqb-true}
use Rattle.std.proofs.lemmas.Bool.{eqb-false}
use Rattle.std.proofs.lemmas.List.{length-set}
use Rattle.std.proofs.lemmas.Option.{same_Some, slice_get_read, slice_get_within}
use Rattle.std.specs.Prelude.{◌⊎◌, ◌==◌, Option, None, get_or, slice_get, slice_set}
use Rattle.config_model.specs.Sections.{Sections}
use Rattle.peer_history.specs.Cuts as of_slot
use Rattle.peer_history.specs.Laws as law
use Rattle.peer_history.specs.Steps.{Step}
use Rattle.peer_history.specs.Steps.Step.{Ended}
use Rattle.book_history.specs.Entries.{History}
use Rattle.book_history.specs.declared.outcomes.Control.{Control}
use Rattle.book_history.specs.declared.outcomes.NotRead.{NotRead}
use Rattle.book_history.specs.Entries.Entry.{ControlAsked, ReloadRefused, Stopped}
use Rattle.book_history.specs.Legal.{Allows, IsLegal, directed}
use Rattle.book_history.specs.Nodes.{nodes}
use Rattle.book_history.specs.PeerSteps.{cease, shut_down, steps_of}
use Rattle.book_history.specs.Verdicts.{is_stopping}
use Rattle.book_history.proofs.StepLemmas.{steps_legal}
use Rattle.book_core.specs.declared.peering.Peering.{Peering}
use Rattle.book_core.specs.Ending.{ended_by, directed_by}
use Rattle.book_core.specs.Moves.{Moves, MovesAll, MovesBelow}
use Rattle.book_core.specs.Seen.{Seen}
use Rattle.book_core.specs.Stands.{HelpersStand, Stands}
use Rattle.book_core.proofs.HeldLemmas.{held_on, held_quiet}
use Rattle.book_core.proofs.HelperLemmas.{get_set_other, get_set_same, helpers_apart, quiet_did}
use Rattle.book_core.proofs.NodeLemmas.{entry_few, steps_few}
use Rattle.book_core.proofs.PeerLemmas.{peers_moved}
use Rattle.book_core.proofs.QuietLemmas.{quiet_peers}

-- sessions that end add no node
pub stopped_few : law.SessionsAddNoNode → (cfg : Sections) (H : History) → IsLegal cfg H
    → nodes cfg (Stopped ∷ H) ≤ nodes cfg H
stopped_few stay cfg H legal =
    entry_few cfg H Stopped (λ n. steps_few (Ended (cease shut_down) ∷ steps_of cfg n H) (steps_of cfg n H) refl
    (stay.ended (cease shut_down) (steps_of cfg n H) (steps_legal cfg n H legal)))

-- the sessions of all slots ended, and it is known that the daemon does
pub stopped : law.SessionsAddNoNode → (cfg : Sections) (H : History) (old new : Seen) → new.helpers ≡ old.helpers
    → new.stopping ≡ true → new.reload_due ≡ old.reload_due → MovesAll (ended_by (cease shut_down)) old.peers new.peers
    → Stands cfg H old → Stands cfg (Stopped ∷ H) new
stopped stay cfg H old new same on due moved stands = record {
  helpers = subst (λ helpers. HelpersStand cfg (Stopped ∷ H) helpers) (sym same)
      (helpers_apart cfg H Stopped old.helpers (λ h. refl) stands.helpers);
  peers = peers_moved cfg H Stopped (ended_by (cease shut_down)) old.peers new.peers (λ n. refl) refl moved
      stands.peers;
  daemon = record { stopping = on; reload_due = due ∙ stands.daemon.reload_due };
  held = held_on cfg H Stopped refl tt (stopped_few stay cfg H stands.held.legal) stands.held;
}

-- no slot is done yet
pub none_moved : (steps : ℕ → List Step) (old : List Peering) → MovesBelow 0 steps old old
none_moved steps old = record {
  count = refl;
  below = λ n was is within there here. absurd (omega (arith, within));
  above = λ n past. refl;
}

at_or_below : (m n : ℕ) → m < n + 1 → (m ≡ n) ⊎ (m < n)
at_or_below m n less = at_place (m == n) refl
  where
    at_place : (so : Bool) → (m == n) ≡ so → (m ≡ n) ⊎ (m < n)
    at_place true same = inl (eqb-true m n same)
    at_place false other = let apart = eqb-false m n other in inr (omega (arith, apart))

-- one slot more is done
pub moved_next : (steps : ℕ → List Step) (start old : List Peering) (n : ℕ) (was new : Peering) → n < length old
    → was ≡ get_or old n was → Moves (steps n) was new → MovesBelow n steps start old
    → MovesBelow (n + 1) steps start (slice_set old n new)
moved_next steps start old n was new within is move moved =
    let at_n : slice_get old n ≡ Some was = slice_get_read old (length old) n was refl within is in
    let from_start : slice_get start n ≡ Some was = sym (moved.above n (omega arith)) ∙ at_n in
    record {
      count = length-set old n new ∙ moved.count;
      below = λ m before after less there here.
          elim (at_or_below m n less) [
            | inl same ↦
                let one : n ≡ m = sym same in
                let is_was : was ≡ before = same_Some _ _ (sym from_start ∙ ap (slice_get start) one ∙ there) in
                let is_new : new ≡ after =
                get_set_same old n new after (ap (slice_get (slice_set old n new)) one ∙ here) in
                subst (λ k. Moves (steps k) before after) one
                (subst (λ p. Moves (steps n) p after) is_was (subst (λ p. Moves (steps n) was p) is_new move))
            | inr under ↦
                let other : (n == m) ≡ false = ne_eqb n m (λ same. absurd (omega (arith, same, under))) in
                moved.below m before after under there (sym (get_set_other old n m new other) ∙ here)
          ];
      above = λ m past.
          let other : (n == m) ≡ false = ne_eqb n m (λ same. absurd (omega (arith, same, past))) in
          get_set_other old n m new other ∙ moved.above m (omega (arith, past));
    }

-- all slots are done
pub all_moved : (steps : ℕ → List Step) (old new : List Peering) (n : ℕ) → n ≡ length old
    → MovesBelow n steps old new → MovesAll steps old new
all_moved steps old new n whole moved = subst (λ k. MovesBelow k steps old new) whole moved

-- what the daemon is to do
pub is_directed : (cfg : Sections) (H : History) (book : Seen) (given : Control)
    → given ≡ directed_by book.stopping book.reload_due → Stands cfg H book
    → Allows cfg H (ControlAsked given) × Stands cfg (ControlAsked given ∷ H) book
is_directed cfg H book given is stands =
    let allowed : given ≡ directed H =
    is ∙ ap (λ b. directed_by b book.reload_due) stands.daemon.stopping
    ∙ ap (directed_by (is_stopping H)) stands.daemon.reload_due in
    (allowed, quiet_did cfg H (ControlAsked given) book refl (λ h. refl) refl refl allowed stands)

-- no reload is due any longer
pub is_refused : (cfg : Sections) (H : History) (why : NotRead) (book : Seen) → Stands cfg H book
    → Stands cfg (ReloadRefused why ∷ H) (record book { reload_due = false })
is_refused cfg H why book stands = record {
  helpers = helpers_apart cfg H (ReloadRefused why) book.helpers (λ h. refl) stands.helpers;
  peers = quiet_peers cfg H (ReloadRefused why) book.peers refl stands.peers;
  daemon = record { stopping = stands.daemon.stopping; reload_due = refl };
  held = held_quiet cfg H (ReloadRefused why) refl tt stands.held;
}

-- A slot's session that is sent all that is to be sent, in the history of the daemon.
use Rattle.std.proofs.Common.{◌≡◌, ℕ, ◌+◌, ◌≤◌, Bool, true, false, List, [], ◌∷◌, ◌++◌, length, map, Some, None, refl}
use Rattle.std.proofs.Common.{sym, ap, ◌∙◌, subst, eq-eqb}
use Rattle.std.proofs.lemmas.List.{length-map, length-reverse}
use Rattle.std.proofs.lemmas.Option.{same_Some}
use Rattle.std.specs.Prelude.{if◌then◌else◌, is_some, Option, Result, Ok, Err}
use Rattle.route_values.specs.Caps.{Caps}
use Rattle.config_model.specs.Sections.{Sections}
use Rattle.peer_history.specs.Batches.{batch, opened, NothingLeft}
use Rattle.peer_history.specs.Cuts as of_slot
use Rattle.peer_history.specs.Cuts.{MayAnswer}
use Rattle.peer_history.specs.Laws as law
use Rattle.peer_history.specs.Messages.{mentions}
use Rattle.peer_history.specs.Sessions.{live, peer, reset, session}
use Rattle.peer_history.specs.Steps.{Step, Answer}
use Rattle.peer_history.specs.Steps.Step.{Up, Down, Cut}
use Rattle.peer_history.specs.Steps as step
use Rattle.peer_history.specs.Table.{view}
use Rattle.peer_history.proofs.SessionLemmas.{live_stands}
use Rattle.book_history.specs.declared.outcomes.Cut.{Cut as Given}
use Rattle.book_history.specs.declared.outcomes.Cut.TheVariants as cut
use Rattle.book_history.specs.Entries.{History}
use Rattle.book_history.specs.Entries.Entry.{MessageCut}
use Rattle.book_history.specs.Headline.{NothingPending, WholeBatches, batch_at}
use Rattle.book_history.specs.Legal.{IsLegal}
use Rattle.book_history.specs.Peers.{session_at}
use Rattle.book_history.specs.PeerSteps.{answer_of, step_if, steps_of}
use Rattle.book_history.proofs.StepLemmas.{steps_legal}
use Rattle.book_core.specs.declared.draining.Sent.{Sent}
use Rattle.book_core.specs.Draining.{AreOneBatch, Drains, DrainsOne, IsDrained, IsDrainedBy, IsNoMessage, LeaveTables}
use Rattle.book_core.specs.Draining.{cut_each, newest_first}
use Rattle.book_core.specs.Seen.{Seen}
use Rattle.book_core.specs.Stands.{Stands}
use Rattle.book_core.proofs.DrainStepLemmas.{cuts, left_behind, live_stays, one_batch, session_stays, view_stays}

same_Ok : {A E : Type 0} (x y : A) → ◌≡◌ {A = Result A E} (Ok x) (Ok y) → x ≡ y
same_Ok x y is = cc

pub each_last : (n : ℕ) (sent : List Sent) (message : Sent) (H : History)
    → cut_each n (sent ++ message ∷ []) H ≡ MessageCut n message.bytes (cut.Message message.last) ∷ cut_each n sent H
each_last n [] message H = refl
each_last n (first ∷ sent) message H =
    each_last n sent message (MessageCut n first.bytes (cut.Message first.last) ∷ H)

each_behind : (n : ℕ) (before after : List Sent) (H : History)
    → cut_each n (before ++ after) H ≡ cut_each n after (cut_each n before H)
each_behind n [] after H = refl
each_behind n (first ∷ before) after H =
    each_behind n before after (MessageCut n first.bytes (cut.Message first.last) ∷ H)

module _ (cfg : Sections) (n : ℕ) where
  own_cut : (H : History) (bytes : List ℕ) (given : Given)
      → steps_of cfg n (MessageCut n bytes given ∷ H) ≡ Cut (answer_of bytes given) ∷ steps_of cfg n H
  own_cut H bytes given =
      ap (λ so. step_if so (Cut (answer_of bytes given) ∷ []) ++ steps_of cfg n H) (eq-eqb n n refl)

  steps_are : (sent : List Sent) (H : History) → steps_of cfg n (cut_each n sent H) ≡ cuts sent (steps_of cfg n H)
  steps_are [] H = refl
  steps_are (message ∷ later) H =
      steps_are later (MessageCut n message.bytes (cut.Message message.last) ∷ H)
      ∙ ap (cuts later) (own_cut H message.bytes (cut.Message message.last))

  session_kept : (sent : List Sent) (H : History) → session_at cfg (cut_each n sent H) n ≡ session_at cfg H n
  session_kept sent H = ap session (steps_are sent H) ∙ session_stays sent (steps_of cfg n H)

  legal_each : (sent : List Sent) (H : History) → IsLegal cfg (cut_each n sent H) → IsLegal cfg H
  legal_each [] H legal = legal
  legal_each (message ∷ later) H legal =
      (legal_each later (MessageCut n message.bytes (cut.Message message.last) ∷ H) legal).1

  -- each whole batch leaves its table
  pub leave_tables : WholeBatches → (H : History) (caps : Caps) (sent : List Sent) → IsLegal cfg (cut_each n sent H)
      → session_at cfg H n ≡ Some caps → LeaveTables cfg H n caps sent
  leave_tables whole H caps sent legal at before after bytes is =
      let message : Sent = record { bytes = bytes; last = true } in
      let all : IsLegal cfg (cut_each n after (MessageCut n bytes (cut.Message true) ∷ cut_each n before H)) =
      subst (IsLegal cfg) (ap (λ ms. cut_each n ms H) is ∙ each_behind n before (message ∷ after) H) legal in
      whole cfg [] (cut_each n before H) n caps bytes
      (legal_each after (MessageCut n bytes (cut.Message true) ∷ cut_each n before H) all) (session_kept before H ∙ at)

  -- a live session has no other answer than that nothing is to be sent
  ends_by : (steps : List Step) (caps : Caps) (bytes : List ℕ) (given : Given) → live steps ≡ Some caps
      → IsNoMessage given → MayAnswer steps (answer_of bytes given) → given ≡ cut.Nothing
  ends_by steps caps bytes cut.Down at none may = absurd (let stands = live_stands steps caps at in cc)
  ends_by steps caps bytes (cut.Reset code sub) at none may =
      absurd (reset_dead (reset steps) (record { code = code; sub = sub }) may.1 at)
    where
      reset_dead : (was : Option step.Code) (code : step.Code) → was ≡ Some code
          → (if is_some was then None else session steps) ≡ Some caps → ⊥
      reset_dead None code e at = cc
      reset_dead (Some other) code e at = cc
  ends_by steps caps bytes cut.Nothing at none may = refl
  ends_by steps caps bytes (cut.Message last) at none may = absurd none

  -- where no message is open, no batch is
  no_batch : (steps : List Step) → batch steps ≡ [] → opened steps ≡ None
  no_batch [] none = refl
  no_batch (Up caps ∷ steps) none = refl
  no_batch (Down ∷ steps) none = refl
  no_batch (Cut (step.Message bytes true) ∷ steps) none = refl
  no_batch (Cut (step.Message bytes false) ∷ steps) none = cc
  no_batch (one ∷ steps) none = no_batch steps none

  module _ (whole : law.WholeBatches) (packed : law.BatchesArePacked) (pending : NothingPending) where
    one_of : (H : History) (caps : Caps) (sent : List Sent) → of_slot.IsLegal (cuts sent (steps_of cfg n H))
        → session (steps_of cfg n H) ≡ Some caps → MayAnswer (cuts sent (steps_of cfg n H)) step.Nothing
        → batch_at cfg H n ≡ [] → AreOneBatch cfg H n caps sent
    one_of H caps sent legal at may none =
        let start = steps_of cfg n H in
        let same : may.0 ≡ caps =
        same_Some _ _ (sym (live_stands (cuts sent start) may.0 may.1) ∙ session_stays sent start ∙ at) in
        let once = one_batch caps whole packed start sent (no_batch start none) at legal may.2
        (subst (λ k. NothingLeft k (cuts sent start)) same may.3) in
        record {
          named = once.named;
          marked = once.marked;
          packed = once.packed;
          few = subst (λ k. k ≤ length (mentions caps (newest_first sent)) + 2)
              (length-reverse (map (λ (m : Sent). m.bytes) sent) ∙ length-map sent _) once.few;
        }

    pub drained : (H : History) (caps : Caps) (sent : List Sent) (bytes : List ℕ) (given : Given) → IsNoMessage given
        → IsLegal cfg (MessageCut n bytes given ∷ cut_each n sent H) → live (steps_of cfg n H) ≡ Some caps
        → IsDrained cfg H n caps sent given
    drained H caps sent bytes given none legal at =
        let start = steps_of cfg n H in
        let now = cuts sent start in
        let same = steps_are sent H in
        let may : MayAnswer now (answer_of bytes given) =
        subst (λ steps. MayAnswer steps (answer_of bytes given)) same legal.0 in
        let nothing = ends_by now caps bytes given (live_stays sent start ∙ at) none may in
        let stands = live_stands start caps at in
        record {
          answer = nothing;
          table = λ key.
              left_behind caps sent start key ∙ ap (λ steps. peer caps steps key) (sym same)
              ∙ pending cfg [] (cut_each n sent H) n caps bytes
              (subst (λ g. IsLegal cfg (MessageCut n bytes g ∷ cut_each n sent H)) nothing legal)
              (session_kept sent H ∙ stands) key
              ∙ ap (λ steps. view caps steps key) same ∙ view_stays caps sent start key;
          once = one_of H caps sent (subst of_slot.IsLegal same (steps_legal cfg n (cut_each n sent H) legal.1)) stands
              (subst (λ g. MayAnswer now (answer_of bytes g)) nothing may);
        }

    -- ---- from one cut to all

    pub ended_by : {E : Type 0} (H : History) (caps : Caps) (sent : List Sent) (out : List ℕ)
        (result : Result (Option Given) E) (book : Seen) → Drains cfg H n sent out result book
        → live (steps_of cfg n H) ≡ Some caps → IsDrainedBy cfg H n caps sent result
    ended_by H caps sent out (Ok (Some given)) book drains at =
        drained H caps sent out given drains.0 drains.1.held.legal at
    ended_by H caps sent out (Ok None) book drains at = tt
    ended_by H caps sent out (Err fault) book drains at = tt

  pub tables_left : {E : Type 0} → WholeBatches → (H : History) (caps : Caps) (sent : List Sent) (out : List ℕ)
      (result : Result (Option Given) E) (book : Seen) → Drains cfg H n sent out result book
      → session_at cfg H n ≡ Some caps → LeaveTables cfg H n caps sent
  tables_left whole H caps sent out (Ok (Some given)) book drains at =
      leave_tables whole H caps sent drains.1.held.legal.1 at
  tables_left whole H caps sent out (Ok None) book drains at = leave_tables whole H caps sent drains.held.legal at
  tables_left whole H caps sent out (Err fault) book drains at =
      leave_tables whole H caps sent drains.1.held.legal.1 at

  -- one message more joined those before
  pub drains_on : {E : Type 0} (H : History) (old new : List Sent) (out : List ℕ) (result : Result (Option Given) E)
      (given : Option Given) (book : Seen) → result ≡ Ok given → is_some given ≡ false
      → DrainsOne cfg (cut_each n old H) n old new out result book → Stands cfg (cut_each n new H) book
  drains_on H old new out (Ok None) given book is none one =
      subst (λ K. Stands cfg K book) (sym (ap (λ ms. cut_each n ms H) one.1 ∙ each_last n old one.0 H)) one.2
  drains_on H old new out (Ok (Some other)) given book is none one =
      absurd (let some : is_some given ≡ true = ap is_some (sym (same_Ok _ _ is)) in cc)
  drains_on H old new out (Err fault) given book is none one = cc

  -- something came in place of one
  pub drains_ended : {E : Type 0} (H : History) (old new : List Sent) (out : List ℕ) (result : Result (Option Given) E)
      (given : Option Given) (book : Seen) → result ≡ Ok given → is_some given ≡ true
      → DrainsOne cfg (cut_each n old H) n old new out result book → Drains {E = E} cfg H n new out (Ok given) book
  drains_ended {E = E} H old new out (Ok (Some other)) given book is some one =
      subst (λ (g : Option Given). Drains {E = E} cfg H n new out (Ok g) book) (same_Ok _ _ is)
      (subst (λ ms. IsNoMessage other × Stands cfg (MessageCut n out other ∷ cut_each n ms H) book) (sym one.0) one.1)
  drains_ended H old new out (Ok None) given book is some one =
      absurd (let none : is_some given ≡ false = ap is_some (sym (same_Ok _ _ is)) in cc)
  drains_ended H old new out (Err fault) given book is some one = cc

  -- memory was wanting
  pub drains_failed : {E : Type 0} (H : History) (old new : List Sent) (out : List ℕ) (result : Result (Option Given) E)
      (fault : E) (book : Seen) → result ≡ Err fault
      → DrainsOne cfg (cut_each n old H) n old new out result book
      → (last : Bool) × Stands cfg (MessageCut n out (cut.Message last) ∷ cut_each n new H) book
  drains_failed H old new out (Err fault) other book is one =
      subst (λ ms. (last : Bool) × Stands cfg (MessageCut n out (cut.Message last) ∷ cut_each n ms H) book) (sym one.0)
      one.1
  drains_failed H old new out (Ok given) other book is one = cc

  pub err_drains : {E : Type 0} (H : History) (sent : List Sent) (out : List ℕ) (result : Result (Option Given) E)
      (fault : E) (book : Seen) → result ≡ Err fault
      → (last : Bool) × Stands cfg (MessageCut n out (cut.Message last) ∷ cut_each n sent H) book
      → Drains cfg H n sent out result book
  err_drains H sent out result fault book is failed =
      subst (λ r. Drains cfg H n sent out r book) (sym is) failed

  pub one_failed : {E : Type 0} (H : History) (old new : List Sent) (out : List ℕ) (result : Result (Option Given) E)
      (fault : E) (book : Seen) → result ≡ Err fault → new ≡ old → (last : Bool)
      → Stands cfg (MessageCut n out (cut.Message last) ∷ H) book → DrainsOne cfg H n old new out result book
  one_failed H old new out result fault book is same last stands =
      subst (λ r. DrainsOne cfg H n old new out r book) (sym is) (same, (last, stands))

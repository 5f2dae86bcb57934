-- The history of an encoding, as the steps of one neighbour slot.
use Rattle.std.proofs.Common.{ℕ, ◌≡◌, ◌≢◌, Bool, false, List, [], ◌∷◌, ◌++◌, Some, Ok, Err, refl, sym, ap, ◌∙◌, subst}
use Rattle.std.proofs.Common.{append_assoc, append-nil, eq-eqb, ne_eqb, inl, inr}
use Rattle.std.specs.Prelude.{Result, if◌then◌else◌}
use Rattle.std.specs.List.{AllByRecursion}
use Rattle.route_values.specs.declared.settings.Settings.{Settings}
use Rattle.route_values.specs.Caps.{Caps}
use Rattle.route_grammar.specs.declared.fault.ReadFault.{ReadFault}
use Rattle.text_forms.specs.Lines.{Line}
use Rattle.command_grammar.specs.declared.command.Command.{Command}
use Rattle.config_model.specs.declared.sections.Neighbor.{Neighbor}
use Rattle.config_model.specs.Sections.{Sections}
use Rattle.peer_history.specs.Steps.{Answer}
use Rattle.peer_history.specs.Steps.Step.{Up, Cut}
use Rattle.peer_history.specs.Steps.Answer.{Message}
use Rattle.book_history.specs.declared.outcomes.Cut.{Cut as Given}
use Rattle.book_history.specs.declared.outcomes.Cut.TheVariants as cut
use Rattle.book_history.specs.declared.outcomes.Up.{Up as Raised}
use Rattle.book_history.specs.declared.outcomes.Up.TheVariants as up
use Rattle.book_history.specs.declared.outcomes.Verdict.{Verdict}
use Rattle.book_history.specs.declared.outcomes.Verdict.TheVariants as verdict
use Rattle.book_history.specs.Entries.{History}
use Rattle.book_history.specs.Entries.Entry.{CameUp, LineEntered, MessageCut, RepliesTaken}
use Rattle.book_history.specs.Legal.{IsLegal, has_settings, raised_up}
use Rattle.book_history.specs.PeerSteps.{answer_of, commanded, step_if, steps_of}
use Rattle.book_history.specs.Selecting.{selects}
use Rattle.book_history.specs.Slots.{neighbor_at, peer_slots, slot}
use Rattle.book_history.specs.Verdicts.{is_stopping}
use Rattle.book_history.proofs.StepLemmas.{commanded_quiet}
use Rattle.text_history.specs.Encodes.{AddsAnswer, AddsUp, AreTaken, IsFullTake, caps_sent}
use Rattle.text_history.specs.Leaving.{cuts_of}
use Rattle.text_history.specs.Plays.{IsDrain, IsMessageOf}
use Rattle.text_history.proofs.LeavingSameLemmas.{settings_self}
use Rattle.text_history.proofs.LeavingSlotLemmas.{IsFresh, cut_each, fresh_quiet, fresh_up}

-- the answers of messages, the oldest first
abbrev pub in_turn : List (List ℕ × Bool) → List Answer
in_turn [] = []
in_turn (message ∷ older) = in_turn older ++ Message message.0 message.1 ∷ []

-- the entries of messages that were cut for a slot, the newest first
abbrev pub as_entries : ℕ → List (List ℕ × Bool) → History
as_entries n [] = []
as_entries n (message ∷ older) = MessageCut n message.0 (cut.Message message.1) ∷ as_entries n older

-- messages that were cut for a slot
pub record AreEntries (n : ℕ) (messages : History) : Type 0 where
  pub sent : List (List ℕ × Bool)
  pub are : messages ≡ as_entries n sent

pub are_entries : (n : ℕ) (messages : History) → AllByRecursion (IsMessageOf n) messages → AreEntries n messages
are_entries n [] all = record { sent = []; are = refl }
are_entries n (entry ∷ older) all =
    let rest = are_entries n older all.1 in record {
      sent = (all.0.bytes, all.0.last) ∷ rest.sent;
      are = ap (λ one. one ∷ older) all.0.entry_is
          ∙ ap (λ those. MessageCut n all.0.bytes (cut.Message all.0.last) ∷ those) rest.are;
    }

module _ (cfg : Sections) (n : ℕ) where
  -- ---- one cut

  pub own_step : (H : History) (bytes : List ℕ) (given : Given)
      → steps_of cfg n (MessageCut n bytes given ∷ H) ≡ Cut (answer_of bytes given) ∷ steps_of cfg n H
  own_step H bytes given =
      ap (λ so. step_if so (Cut (answer_of bytes given) ∷ []) ++ steps_of cfg n H) (eq-eqb n n refl)

  other_step : (m : ℕ) (H : History) (bytes : List ℕ) (given : Given) → m ≢ n
      → steps_of cfg n (MessageCut m bytes given ∷ H) ≡ steps_of cfg n H
  other_step m H bytes given other =
      ap (λ so. step_if so (Cut (answer_of bytes given) ∷ []) ++ steps_of cfg n H) (ne_eqb m n other)

  pub own_cut : (H : History) (bytes : List ℕ) (given : Given)
      → cuts_of n (MessageCut n bytes given ∷ H) ≡ cuts_of n H ++ answer_of bytes given ∷ []
  own_cut H bytes given =
      ap (λ so. if so then cuts_of n H ++ answer_of bytes given ∷ [] else cuts_of n H) (eq-eqb n n refl)

  other_cut : (m : ℕ) (H : History) (bytes : List ℕ) (given : Given) → m ≢ n
      → cuts_of n (MessageCut m bytes given ∷ H) ≡ cuts_of n H
  other_cut m H bytes given other =
      ap (λ so. if so then cuts_of n H ++ answer_of bytes given ∷ [] else cuts_of n H) (ne_eqb m n other)

  -- ---- messages

  pub own_steps : (sent : List (List ℕ × Bool)) (H : History)
      → steps_of cfg n (as_entries n sent ++ H) ≡ cut_each sent (steps_of cfg n H)
  own_steps [] H = refl
  own_steps (message ∷ older) H =
      own_step (as_entries n older ++ H) message.0 (cut.Message message.1)
      ∙ ap (λ steps. Cut (Message message.0 message.1) ∷ steps) (own_steps older H)

  other_steps : (m : ℕ) (sent : List (List ℕ × Bool)) (H : History) → m ≢ n
      → steps_of cfg n (as_entries m sent ++ H) ≡ steps_of cfg n H
  other_steps m [] H other = refl
  other_steps m (message ∷ older) H other =
      other_step m (as_entries m older ++ H) message.0 (cut.Message message.1) other ∙ other_steps m older H other

  pub own_cuts : (sent : List (List ℕ × Bool)) (H : History)
      → cuts_of n (as_entries n sent ++ H) ≡ cuts_of n H ++ in_turn sent
  own_cuts [] H = sym (append-nil (cuts_of n H))
  own_cuts (message ∷ older) H =
      own_cut (as_entries n older ++ H) message.0 (cut.Message message.1)
      ∙ ap (λ those. those ++ Message message.0 message.1 ∷ []) (own_cuts older H)
      ∙ append_assoc (cuts_of n H) (in_turn older) (Message message.0 message.1 ∷ [])

  other_cuts : (m : ℕ) (sent : List (List ℕ × Bool)) (H : History) → m ≢ n
      → cuts_of n (as_entries m sent ++ H) ≡ cuts_of n H
  other_cuts m [] H other = refl
  other_cuts m (message ∷ older) H other =
      other_cut m (as_entries m older ++ H) message.0 (cut.Message message.1) other ∙ other_cuts m older H other

  -- the cuts of another slot change nothing of this one
  pub other_drain : (m : ℕ) (H added : History) → m ≢ n → IsDrain m added
      → (steps_of cfg n (added ++ H) ≡ steps_of cfg n H) × (cuts_of n (added ++ H) ≡ cuts_of n H)
  other_drain m H added other drain =
      let entries = are_entries m drain.messages drain.are in
      let is : added ≡ MessageCut m drain.bytes drain.given ∷ as_entries m entries.sent =
      drain.added_are ∙ ap (λ those. MessageCut m drain.bytes drain.given ∷ those) entries.are in
      let before = as_entries m entries.sent ++ H in (
        ap (λ those. steps_of cfg n (those ++ H)) is ∙ other_step m before drain.bytes drain.given other
            ∙ other_steps m entries.sent H other,
        ap (λ those. cuts_of n (those ++ H)) is ∙ other_cut m before drain.bytes drain.given other
            ∙ other_cuts m entries.sent H other,
      )

  -- ---- sessions that come up

  -- nothing was cut for the slot, and the daemon has what it was opened with
  pub record IsOpening (H : History) : Type 0 where
    pub goes_on : is_stopping H ≡ false
    pub slots : peer_slots cfg H ≡ peer_slots cfg []
    pub uncut : cuts_of n H ≡ []

  pub opening_kept : (H : History) (m : ℕ) (neighbor : Neighbor) (added : History) → AddsUp H (m, neighbor) added
      → IsOpening H → IsOpening (added ++ H)
  opening_kept H m neighbor added adds opening =
      let entry = CameUp m neighbor.settings (caps_sent neighbor.settings) adds.0 in
      let same : IsOpening (entry ∷ H) =
      record { goes_on = opening.goes_on; slots = opening.slots; uncut = opening.uncut } in
      subst (λ those. IsOpening (those ++ H)) (sym adds.1) same

  -- nothing was cut for the slot, whose session stands
  pub record IsUp (caps : Caps) (H : History) : Type 0 where
    pub fresh : IsFresh caps (steps_of cfg n H)
    pub uncut : cuts_of n H ≡ []

  -- a session of another slot
  other_up : (m : ℕ) (settings : Settings) (caps : Caps) (given : Raised) (H : History) → m ≢ n
      → steps_of cfg n (CameUp m settings caps given ∷ H) ≡ steps_of cfg n H
  other_up m settings caps up.Ok H other =
      ap (λ so. step_if so (Up caps ∷ []) ++ steps_of cfg n H) (ne_eqb m n other)
  other_up m settings caps up.Stopping H other = refl
  other_up m settings caps up.Stale H other = refl

  pub up_kept : (caps : Caps) (H : History) (m : ℕ) (neighbor : Neighbor) (added : History) → m ≢ n
      → AddsUp H (m, neighbor) added → IsUp caps H → IsUp caps (added ++ H)
  up_kept caps H m neighbor added other adds is =
      let own = caps_sent neighbor.settings in
      let entry = CameUp m neighbor.settings own adds.0 in
      let same : IsUp caps (entry ∷ H) = record {
        fresh = subst (IsFresh caps) (sym (other_up m neighbor.settings own adds.0 H other)) is.fresh;
        uncut = is.uncut;
      } in
      subst (λ those. IsUp caps (those ++ H)) (sym adds.1) same

  -- the slot's own session
  comes_up : (H : History) (neighbor : Neighbor) → IsOpening H → neighbor_at cfg [] n ≡ Some neighbor
      → raised_up cfg H n neighbor.settings ≡ up.Ok
  comes_up H neighbor opening at =
      ap (λ so. if so then up.Stopping
      else (if has_settings (neighbor_at cfg H n) neighbor.settings then up.Ok else up.Stale))
      opening.goes_on
      ∙ ap (λ slots. if has_settings (slot slots n) neighbor.settings then up.Ok else up.Stale) opening.slots
      ∙ ap (λ own. if has_settings own neighbor.settings then up.Ok else up.Stale) at
      ∙ ap (λ so. if so then up.Ok else up.Stale) (settings_self neighbor.settings)

  pub own_up : (H : History) (neighbor : Neighbor) (added : History) → IsOpening H
      → neighbor_at cfg [] n ≡ Some neighbor → AddsUp H (n, neighbor) added → IsLegal cfg (added ++ H)
      → IsUp (caps_sent neighbor.settings) (added ++ H)
  own_up H neighbor added opening at adds legal =
      let own = caps_sent neighbor.settings in
      let allowed : IsLegal cfg (CameUp n neighbor.settings own adds.0 ∷ H) =
      subst (λ those. IsLegal cfg (those ++ H)) adds.1 legal in
      let is : added ≡ CameUp n neighbor.settings own up.Ok ∷ [] =
      adds.1 ∙ ap (λ given. CameUp n neighbor.settings own given ∷ []) (allowed.0 ∙ comes_up H neighbor opening at) in
      let step : steps_of cfg n (CameUp n neighbor.settings own up.Ok ∷ H) ≡ Up own ∷ steps_of cfg n H =
      ap (λ so. step_if so (Up own ∷ []) ++ steps_of cfg n H) (eq-eqb n n refl) in
      let now : IsUp own (CameUp n neighbor.settings own up.Ok ∷ H) = record {
        fresh = subst (IsFresh own) (sym step) (fresh_up own (steps_of cfg n H));
        uncut = opening.uncut;
      } in
      subst (λ those. IsUp own (those ++ H)) (sym is) now

  -- ---- lines

  fresh_line : (caps : Caps) (H : History) (line : Line) (reading : Result Command ReadFault) (given : Verdict)
      → IsFresh caps (steps_of cfg n H) → IsFresh caps (steps_of cfg n (LineEntered 0 1 line reading given ∷ H))
  fresh_line caps H line (Ok said) verdict.Done fresh =
      fresh_quiet caps (commanded said (selects cfg H 0 said n)) (steps_of cfg n H) (commanded_quiet said _) fresh
  fresh_line caps H line (Ok said) verdict.Ended fresh = fresh
  fresh_line caps H line (Ok said) verdict.Busy fresh = fresh
  fresh_line caps H line (Ok said) (verdict.Error because) fresh = fresh
  fresh_line caps H line (Err fault) given fresh = fresh

  take_kept : (caps : Caps) (H : History) (full : History) → AllByRecursion IsFullTake full → IsUp caps H
      → IsUp caps (full ++ H)
  take_kept caps H [] all is = is
  take_kept caps H (entry ∷ older) all is =
      let rest = take_kept caps H older all.1 is in
      let now : IsUp caps (RepliesTaken 0 1 all.0.given ∷ (older ++ H)) =
      record { fresh = rest.fresh; uncut = rest.uncut } in
      subst (λ one. IsUp caps (one ∷ (older ++ H))) (sym all.0.entry_is) now

  taken_kept : (caps : Caps) (H taken : History) → AreTaken taken → IsUp caps H → IsUp caps (taken ++ H)
  taken_kept caps H taken are is =
      let rest = take_kept caps H are.full are.are is in
      let now : IsUp caps (RepliesTaken 0 1 are.given ∷ (are.full ++ H)) =
      record { fresh = rest.fresh; uncut = rest.uncut } in
      subst (λ those. IsUp caps (those ++ H)) (sym are.taken_are) now

  pub answer_kept : (caps : Caps) (H : History) (line : Line) (added : History) → AddsAnswer H line added
      → IsUp caps H → IsUp caps (added ++ H)
  answer_kept caps H line added adds is =
      let entered = LineEntered 0 1 line adds.reading adds.given in
      let now : IsUp caps (entered ∷ H) =
      record { fresh = fresh_line caps H line adds.reading adds.given is.fresh; uncut = is.uncut } in
      let behind : IsUp caps (adds.taken ++ (entered ∷ H)) = elim adds.replies [
        | inl none ↦ subst (λ those. IsUp caps (those ++ (entered ∷ H))) (sym none.1) now
        | inr some ↦ taken_kept caps (entered ∷ H) adds.taken some.1 now
      ] in
      subst (IsUp caps)
      (sym (ap (λ those. those ++ H) adds.added_are ∙ append_assoc adds.taken (entered ∷ []) H)) behind

-- What an encoding leaves at each neighbour.
use Rattle.std.proofs.Common.{ℕ, zero, suc, ◌≡◌, ◌≢◌, List, [], ◌∷◌, ◌++◌, map, Some, refl, sym, ap, ◌∙◌}
use Rattle.std.proofs.Common.{subst, arith}
use Rattle.std.specs.Prelude.{slice_get}
use Rattle.std.specs.List.{AllByRecursion}
use Rattle.std.specs.Option.{option_and_then}
use Rattle.route_values.specs.declared.addr.Family.{Family}
use Rattle.route_values.specs.Caps.{Caps}
use Rattle.text_forms.specs.Lines.{Line, lines}
use Rattle.update_grammar.specs.Laws.{EndIsSpelled}
use Rattle.config_model.specs.declared.sections.Neighbor.{Neighbor}
use Rattle.config_model.specs.Sections.{Sections}
use Rattle.peer_history.specs.Cuts as of_slot
use Rattle.peer_history.specs.Cuts.{MayAnswer}
use Rattle.peer_history.specs.Laws.{BatchesArePacked, NothingPending, WholeBatches}
use Rattle.peer_history.specs.Sessions.{reset}
use Rattle.peer_history.specs.Steps.{Answer}
use Rattle.peer_history.specs.Table.{view}
use Rattle.peer_history.proofs.MessageLemmas.{Grammar}
use Rattle.book_history.specs.Entries.{History}
use Rattle.book_history.specs.Entries.Entry.{MessageCut, SpawnAsked}
use Rattle.book_history.specs.Legal.{IsLegal}
use Rattle.book_history.specs.PeerSteps.{answer_of, steps_of}
use Rattle.book_history.proofs.StepLemmas.{legal_before, steps_legal}
use Rattle.text_history.specs.Adding.{Adding}
use Rattle.text_history.specs.Encodes.{AddsAnswer, AddsCuts, AddsUp, caps_sent, numbered}
use Rattle.text_history.specs.Leaving.{CutsAre, EncodingsLeaveTables, IsServed, cuts_of}
use Rattle.text_history.specs.Plays.{IsDrain}
use Rattle.text_history.proofs.LeavingHistoryLemmas.{IsOpening, IsUp, answer_kept, are_entries, as_entries, in_turn}
use Rattle.text_history.proofs.LeavingHistoryLemmas.{opening_kept, other_drain, own_cut, own_cuts, own_steps, own_up}
use Rattle.text_history.proofs.LeavingHistoryLemmas.{up_kept}
use Rattle.text_history.proofs.LeavingPartLemmas.{GrewFrom, IsOther, around, grown, kept}
use Rattle.text_history.proofs.LeavingPartLemmas.{numbered_at}
use Rattle.text_history.proofs.LeavingSlotLemmas.{cut_each}
use Rattle.text_history.proofs.LeavingTableLemmas.{cuts_are}

slot_found : (neighbors : List Neighbor) (n : ℕ) (neighbor : Neighbor) → slice_get neighbors n ≡ Some neighbor
    → option_and_then (λ held. held) (slice_get (map Some neighbors) n) ≡ Some neighbor
slot_found [] n neighbor at = cc
slot_found (first ∷ neighbors) zero neighbor at = at
slot_found (first ∷ neighbors) (suc n) neighbor at = slot_found neighbors n neighbor at

all_lines : (items : List Line) → AllByRecursion (λ item. Unit {0}) items
all_lines [] = tt
all_lines (item ∷ items) = (tt, all_lines items)

grown_legal : (cfg : Sections) (start H : History) → GrewFrom start H → IsLegal cfg H → IsLegal cfg start
grown_legal cfg start H grew legal = legal_before cfg grew.more start (subst (IsLegal cfg) grew.is legal)

module _ (cfg : Sections) (n : ℕ) (neighbor : Neighbor) (at : slice_get cfg.neighbors n ≡ Some neighbor) where
  abbrev caps : Caps
  caps = caps_sent neighbor.settings

  -- the slot's session stands behind the sessions that come up
  raised_up : (start raised : History) → IsOpening cfg n start → Adding AddsUp start (numbered 0 cfg.neighbors) raised
      → IsLegal cfg raised → IsUp cfg n caps raised
  raised_up start raised opening ups legal =
      let are = numbered_at 0 cfg.neighbors n n neighbor at (omega arith) in
      let by = around AddsUp start are.before (n, neighbor) are.after raised
      (subst (λ items. Adding AddsUp start items raised) are.items_are ups) in
      let before : IsOpening cfg n by.mid = kept AddsUp (IsOther n) (IsOpening cfg n)
      (λ K item added other adds is. opening_kept cfg n K item.0 item.1 added adds is)
      start are.before by.mid are.others_before by.front opening in
      let here : IsLegal cfg (by.added ++ by.mid) =
      grown_legal cfg (by.added ++ by.mid) raised (grown AddsUp (by.added ++ by.mid) are.after raised by.rest) legal in
      let own : IsUp cfg n caps (by.added ++ by.mid) =
      own_up cfg n by.mid neighbor by.added before (slot_found cfg.neighbors n neighbor at) by.adds here in
      kept AddsUp (IsOther n) (IsUp cfg n caps)
      (λ K item added other adds is. up_kept cfg n caps K item.0 item.1 added other adds is)
      (by.added ++ by.mid) are.after raised are.others_after by.rest own

  -- and behind the lines
  answered_up : (raised answered : History) (items : List Line) → IsUp cfg n caps raised
      → Adding AddsAnswer raised items answered → IsUp cfg n caps answered
  answered_up raised answered items is answers =
      kept AddsAnswer (λ item. Unit {0}) (IsUp cfg n caps)
      (λ K item added any adds was. answer_kept cfg n caps K item added adds was)
      raised items answered (all_lines items) answers is

  -- the slot is as it was behind the lines, and nothing was cut for it
  record IsUncut (answered H : History) : Type 0 where
    steps : steps_of cfg n H ≡ steps_of cfg n answered
    uncut : cuts_of n H ≡ []

  uncut_kept : (answered K : History) (m : ℕ) (other : Neighbor) (added : History) → m ≢ n
      → AddsCuts K (m, other) added → IsUncut answered K → IsUncut answered (added ++ K)
  uncut_kept answered K m other added apart adds is =
      let same = other_drain cfg n m K added apart adds in
      record { steps = same.0 ∙ is.steps; uncut = same.1 ∙ is.uncut }

  -- the cuts of the slot, behind which others are cut for
  record HasCuts (cuts : List Answer) (H : History) : Type 0 where
    are : cuts_of n H ≡ cuts

  cuts_kept : (cuts : List Answer) (K : History) (m : ℕ) (other : Neighbor) (added : History) → m ≢ n
      → AddsCuts K (m, other) added → HasCuts cuts K → HasCuts cuts (added ++ K)
  cuts_kept cuts K m other added apart adds is =
      record { are = (other_drain cfg n m K added apart adds).1 ∙ is.are }

  module _ (grammar : Grammar) (ends : (family : Family) → EndIsSpelled family) (whole : WholeBatches)
      (packing : BatchesArePacked) (pending : NothingPending) where
    -- the slot's own cuts
    own_drain : (answered mid added : History) → IsUp cfg n caps answered → IsUncut answered mid → IsDrain n added
        → IsLegal cfg (added ++ mid)
        → CutsAre caps (view caps (steps_of cfg n answered)) (reset (steps_of cfg n answered))
        (cuts_of n (added ++ mid))
    own_drain answered mid added is uncut drain legal =
        let start = steps_of cfg n answered in
        let entries = are_entries n drain.messages drain.are in
        let added_is : added ≡ MessageCut n drain.bytes drain.given ∷ as_entries n entries.sent =
        drain.added_are ∙ ap (λ those. MessageCut n drain.bytes drain.given ∷ those) entries.are in
        let before = as_entries n entries.sent ++ mid in
        let now : IsLegal cfg (MessageCut n drain.bytes drain.given ∷ before) =
        subst (λ those. IsLegal cfg (those ++ mid)) added_is legal in
        let steps : steps_of cfg n before ≡ cut_each entries.sent start =
        own_steps cfg n entries.sent mid ∙ ap (cut_each entries.sent) uncut.steps in
        let cuts : cuts_of n (added ++ mid) ≡ in_turn entries.sent ++ answer_of drain.bytes drain.given ∷ [] =
        ap (λ those. cuts_of n (those ++ mid)) added_is ∙ own_cut cfg n before drain.bytes drain.given
        ∙ ap (λ those. those ++ answer_of drain.bytes drain.given ∷ [])
        (own_cuts cfg n entries.sent mid ∙ ap (λ those. those ++ in_turn entries.sent) uncut.uncut) in
        subst (CutsAre caps (view caps start) (reset start)) (sym cuts)
        (cuts_are grammar ends caps start is.fresh whole packing pending entries.sent drain.bytes drain.given drain.none
        (subst of_slot.IsLegal steps (steps_legal cfg n before now.1))
        (subst (λ those. MayAnswer those (answer_of drain.bytes drain.given)) steps now.0))

    served : (answered H : History) → IsUp cfg n caps answered
        → Adding AddsCuts answered (numbered 0 cfg.neighbors) H → IsLegal cfg H → IsServed cfg answered H n caps
    served answered H is cuts legal =
        let start = steps_of cfg n answered in
        let are = numbered_at 0 cfg.neighbors n n neighbor at (omega arith) in
        let by = around AddsCuts answered are.before (n, neighbor) are.after H
        (subst (λ items. Adding AddsCuts answered items H) are.items_are cuts) in
        let first : IsUncut answered answered = record { steps = refl; uncut = is.uncut } in
        let before : IsUncut answered by.mid = kept AddsCuts (IsOther n) (IsUncut answered)
        (λ K item added apart adds was. uncut_kept answered K item.0 item.1 added apart adds was)
        answered are.before by.mid are.others_before by.front first in
        let here : IsLegal cfg (by.added ++ by.mid) =
        grown_legal cfg (by.added ++ by.mid) H (grown AddsCuts (by.added ++ by.mid) are.after H by.rest) legal in
        let own = own_drain answered by.mid by.added is before by.adds here in
        let behind : HasCuts (cuts_of n (by.added ++ by.mid)) H =
        kept AddsCuts (IsOther n) (HasCuts (cuts_of n (by.added ++ by.mid)))
        (λ K item added apart adds was. cuts_kept (cuts_of n (by.added ++ by.mid)) K item.0 item.1 added apart adds was)
        (by.added ++ by.mid) are.after H are.others_after by.rest (record { are = refl }) in
        record {
          stands = is.fresh.at;
          cuts = subst (CutsAre caps (view caps start) (reset start)) (sym behind.are) own;
        }

pub leave_tables : Grammar → ((family : Family) → EndIsSpelled family) → WholeBatches → BatchesArePacked
    → NothingPending → EncodingsLeaveTables
leave_tables grammar ends whole packing pending cfg bytes H encode legal n neighbor at =
    let start = SpawnAsked 0 0 encode.started ∷ [] in
    let opening : IsOpening cfg n start = record { goes_on = refl; slots = refl; uncut = refl } in
    let lines_legal : IsLegal cfg encode.answered = grown_legal cfg encode.answered H
    (grown AddsCuts encode.answered (numbered 0 cfg.neighbors) H encode.cuts) legal in
    let ups_legal : IsLegal cfg encode.raised = grown_legal cfg encode.raised encode.answered
    (grown AddsAnswer encode.raised (lines bytes) encode.answered encode.answers) lines_legal in
    let raised = raised_up cfg n neighbor at start encode.raised opening encode.ups ups_legal in
    let answered = answered_up cfg n neighbor at encode.raised encode.answered (lines bytes) raised encode.answers in
    served cfg n neighbor at grammar ends whole packing pending encode.answered H answered encode.cuts legal

-- A fresh session that is sent all that is to be sent gets one whole batch.
use Rattle.std.proofs.Common.{ℕ, ◌≡◌, Bool, true, false, not, List, [], ◌∷◌, Some, None, refl, sym, ap, ◌∙◌, subst}
use Rattle.std.proofs.Common.{arith}
use Rattle.std.proofs.lemmas.Option.{same_Some}
use Rattle.std.specs.Prelude.{◌&&◌, ◌||◌, is_some, if◌then◌else◌, Option, unwrap_or}
use Rattle.route_values.specs.declared.addr.Family.{Family}
use Rattle.route_values.specs.declared.attrs.WireAttrs.{WireAttrs}
use Rattle.route_values.specs.declared.key.Key.{Key}
use Rattle.route_values.specs.Caps.{Caps}
use Rattle.route_values.specs.Key.{family_of_key}
use Rattle.route_values.specs.Visible.{has_family}
use Rattle.update_grammar.specs.Head.{Head}
use Rattle.update_grammar.specs.Head as head
use Rattle.update_grammar.specs.Net.{net}
use Rattle.update_grammar.specs.Packed.{ArePacked}
use Rattle.peer_history.specs.Batches.{opened, first_cut, batch, has_batch, is_refreshed, is_owed, is_marker_owed}
use Rattle.peer_history.specs.Batches.{is_left, is_marker_left, NothingLeft}
use Rattle.peer_history.specs.Cuts.{AreLeft, IsDue, IsLegal}
use Rattle.peer_history.specs.Keys.{is_named, times_named}
use Rattle.peer_history.specs.Laws.{BatchesArePacked, LeavesTheTable, NothingPending, WholeBatches}
use Rattle.peer_history.specs.Messages.{said_each, is_marked, mentions}
use Rattle.peer_history.specs.Same.{differ}
use Rattle.peer_history.specs.Sessions.{peer, session}
use Rattle.peer_history.specs.Steps.{Step}
use Rattle.peer_history.specs.Steps.Step.{Cut}
use Rattle.peer_history.specs.Steps.Answer.{Message, Nothing}
use Rattle.peer_history.specs.Table.{view}
use Rattle.peer_history.proofs.SessionLemmas.{at_session, live_stands}
use Rattle.text_history.proofs.LeavingSameLemmas.{never_differs}
use Rattle.text_history.proofs.LeavingSlotLemmas.{IsFresh, cut_each, more_each, finished, behind, told}
use Rattle.text_history.proofs.LeavingSlotLemmas.{texts_finished, session_stays, view_stays, told_is}
use Rattle.text_history.proofs.LeavingSlotLemmas.{owed_is, first_is, open_is, batch_is, none_refreshed}

and_false : (a : Bool) → (a && false) ≡ false
and_false true = refl
and_false false = refl

unnamed : (owed : Bool) → (owed && true) ≡ false → owed ≡ false
unnamed true none = none
unnamed false none = refl

module _ (caps : Caps) where
  -- ---- behind a whole batch

  -- no batch is open, and the peer has the table
  record IsOver (now : List Step) : Type 0 where
    closed : opened now ≡ None
    begun : has_batch now ≡ true
    quiet : (family : Family) → is_refreshed now family ≡ false
    same : (key : Key) → peer caps now key ≡ view caps now key

  no_key : (now : List Step) → IsOver now → (key : Key) → is_left caps now key ≡ false
  no_key now over key =
      let first : first_cut now ≡ now = ap (λ at. unwrap_or at now) over.closed in
      let owed : is_owed caps now key ≡ false =
      ap (λ had. differ had (view caps now key)
      || (is_some (view caps now key) && is_refreshed now (family_of_key key))) (over.same key)
      ∙ ap (λ so. so || (is_some (view caps now key) && is_refreshed now (family_of_key key)))
      (never_differs (view caps now key))
      ∙ ap (λ so. is_some (view caps now key) && so) (over.quiet (family_of_key key))
      ∙ and_false (is_some (view caps now key)) in
      ap (λ at. is_owed caps at key && not (is_named (mentions caps (batch now)) key)) first
      ∙ ap (λ so. so && not (is_named (mentions caps (batch now)) key)) owed

  no_marker : (now : List Step) → IsOver now → (family : Family) → is_marker_left caps now family ≡ false
  no_marker now over family =
      let first : first_cut now ≡ now = ap (λ at. unwrap_or at now) over.closed in
      let owed : is_marker_owed caps now family ≡ false =
      ap (λ so. has_family caps family && not so) over.begun ∙ and_false (has_family caps family) in
      ap (λ at. is_marker_owed caps at family && not (is_marked family (batch now))) first
      ∙ ap (λ so. so && not (is_marked family (batch now))) owed

  no_keys : (now : List Step) (family : Family) (value : Option WireAttrs) (keys : List Key) → IsOver now
      → AreLeft caps now family value keys → ⊥
  no_keys now family value [] over are = absurd (let some = are.some in omega (arith, some))
  no_keys now family value (key ∷ keys) over are =
      let none = no_key now over key in let left : is_left caps now key ≡ true = are.left.0 in cc

  none_due : (now : List Step) (h : Head) (keys : List Key) → IsOver now → IsDue caps now h keys → ⊥
  none_due now (head.Gone family) keys over due = no_keys now family None keys over due
  none_due now (head.Here family attrs) keys over due = no_keys now family (Some attrs) keys over due
  none_due now (head.End family) keys over due =
      let none = no_marker now over family in let left : is_marker_left caps now family ≡ true = due.left in cc

  -- no message comes behind it
  none_behind : (now : List Step) (bytes : List ℕ) (last : Bool) → IsOver now → session now ≡ Some caps
      → IsLegal (Cut (Message bytes last) ∷ now) → ⊥
  none_behind now bytes last over at legal =
      let may = at_session caps now bytes last at legal in none_due now may.head may.keys over may.due

-- messages of one batch, which isn't whole or is whole
pub data AreOne (sent : List (List ℕ × Bool)) : Type 0 where
  Going : (older : List (List ℕ)) → sent ≡ more_each older → AreOne sent
  Whole : (bytes : List ℕ) (older : List (List ℕ)) → sent ≡ finished (bytes ∷ older) → AreOne sent

module _ (caps : Caps) (start : List Step) (fresh : IsFresh caps start) (whole : WholeBatches) where
  at_behind : (older : List (List ℕ)) → session (behind older start) ≡ Some caps
  at_behind older = session_stays (more_each older) start ∙ fresh.at

  pub leaves : (bytes : List ℕ) (older : List (List ℕ)) → IsLegal (cut_each (finished (bytes ∷ older)) start)
      → LeavesTheTable caps (behind older start) bytes
  leaves bytes older legal = whole [] (behind older start) caps bytes legal (at_behind older)

  is_over : (bytes : List ℕ) (older : List (List ℕ)) → IsLegal (cut_each (finished (bytes ∷ older)) start)
      → IsOver caps (cut_each (finished (bytes ∷ older)) start)
  is_over bytes older legal = record {
    closed = refl;
    begun = refl;
    quiet = none_refreshed caps start fresh older;
    same = λ key.
        (leaves bytes older legal).table key ∙ ap (λ at. view caps at key) (first_is caps start fresh older)
        ∙ sym (view_stays caps (more_each older) start key);
  }

  none_later : (older : List (List ℕ × Bool)) (bytes other : List ℕ) (last : Bool) (before : List (List ℕ))
      → older ≡ finished (other ∷ before) → IsLegal (Cut (Message bytes last) ∷ cut_each older start) → ⊥
  none_later older bytes other last before is legal =
      let now : IsLegal (Cut (Message bytes last) ∷ cut_each (finished (other ∷ before)) start) =
      subst (λ those. IsLegal (Cut (Message bytes last) ∷ cut_each those start)) is legal in
      none_behind caps (cut_each (finished (other ∷ before)) start) bytes last (is_over other before now.1)
      (at_behind before) now

  -- all messages are one batch
  pub are_one : (sent : List (List ℕ × Bool)) → IsLegal (cut_each sent start) → AreOne sent
  are_one [] legal = Going [] refl
  are_one ((bytes, true) ∷ older) legal = elim (are_one older legal.1) [
    | Going before is ↦ Whole bytes before (ap (λ those. (bytes, true) ∷ those) is)
    | Whole other before is ↦ absurd (none_later older bytes other true before is legal)
  ]
  are_one ((bytes, false) ∷ older) legal = elim (are_one older legal.1) [
    | Going before is ↦ Going (bytes ∷ before) (ap (λ those. (bytes, false) ∷ those) is)
    | Whole other before is ↦ absurd (none_later older bytes other false before is legal)
  ]

  -- ---- where nothing more is to be sent

  -- no message came, or messages of one whole batch, behind which nothing is left
  pub record AllCame (sent : List (List ℕ × Bool)) : Type 0 where
    pub messages : List (List ℕ)
    pub sent_are : sent ≡ finished messages
    pub nothing : NothingLeft caps (behind messages start)

  none_going : (older : List (List ℕ)) → opened (behind older start) ≡ None → older ≡ []
  none_going [] closed = refl
  none_going (bytes ∷ older) closed = absurd (let going = open_is caps start fresh bytes older in cc)

  all_going : (sent : List (List ℕ × Bool)) (older : List (List ℕ)) → sent ≡ more_each older
      → opened (cut_each sent start) ≡ None → NothingLeft caps (cut_each sent start) → AllCame sent
  all_going sent older is closed nothing =
      let none = none_going older (ap (λ those. opened (cut_each those start)) (sym is) ∙ closed) in
      let empty : sent ≡ [] = is ∙ ap more_each none in
      record {
        messages = [];
        sent_are = empty;
        nothing = subst (λ those. NothingLeft caps (cut_each those start)) empty nothing;
      }

  all_whole : (sent : List (List ℕ × Bool)) (bytes : List ℕ) (older : List (List ℕ)) → sent ≡ finished (bytes ∷ older)
      → IsLegal (cut_each sent start) → AllCame sent
  all_whole sent bytes older is legal =
      let now : IsLegal (cut_each (finished (bytes ∷ older)) start) =
      subst (λ those. IsLegal (cut_each those start)) is legal in
      let may = at_session caps (behind older start) bytes true (at_behind older) now in
      record { messages = bytes ∷ older; sent_are = is; nothing = may.ends.0 refl }

  pub all_came : (sent : List (List ℕ × Bool)) → IsLegal (Cut Nothing ∷ cut_each sent start) → AllCame sent
  all_came sent legal =
      let same : legal.0.0 ≡ caps = same_Some _ _
      (sym (live_stands (cut_each sent start) legal.0.0 legal.0.1) ∙ session_stays sent start ∙ fresh.at) in
      let nothing : NothingLeft caps (cut_each sent start) =
      subst (λ those. NothingLeft those (cut_each sent start)) same legal.0.3 in
      elim (are_one sent legal.1) [
        | Going older is ↦ all_going sent older is legal.0.2 nothing
        | Whole bytes older is ↦ all_whole sent bytes older is legal.1
      ]

  -- ---- what the messages did

  pub table_is : NothingPending → (messages : List (List ℕ))
      → IsLegal (Cut Nothing ∷ cut_each (finished messages) start) → (key : Key)
      → net (told caps messages) key ≡ view caps start key
  table_is pending messages legal key =
      let sent = finished messages in
      ap (λ effects. net effects key)
      (ap (told caps) (sym (texts_finished messages)) ∙ sym (told_is caps start fresh sent))
      ∙ pending [] (cut_each sent start) caps legal (session_stays sent start ∙ fresh.at) key
      ∙ view_stays caps sent start key

  -- each key of the table was named once, and no other
  pub named_is : (messages : List (List ℕ)) → IsLegal (cut_each (finished messages) start)
      → NothingLeft caps (behind messages start) → (key : Key)
      → times_named (mentions caps messages) key ≡ (if is_some (view caps start key) then 1 else 0)
  named_is [] legal nothing key =
      ap (λ so. if so then 1 else 0) (sym (unnamed (is_owed caps start key)
      (sym (ap (λ at. is_owed caps at key && not (is_named (mentions caps (batch start)) key))
      (first_is caps start fresh [])
      ∙ ap (λ those. is_owed caps start key && not (is_named (mentions caps those) key))
      (batch_is caps start fresh []))
      ∙ nothing.keys key)) ∙ owed_is caps start fresh key)
  named_is (bytes ∷ older) legal nothing key =
      ap (λ those. times_named (mentions caps (bytes ∷ those)) key) (sym (batch_is caps start fresh older))
      ∙ (leaves bytes older legal).named key
      ∙ ap (λ at. if is_owed caps at key then 1 else 0) (first_is caps start fresh older)
      ∙ ap (λ so. if so then 1 else 0) (owed_is caps start fresh key)

  pub packed_is : BatchesArePacked → (messages : List (List ℕ)) → IsLegal (cut_each (finished messages) start)
      → ArePacked caps (said_each caps messages)
  packed_is packing [] legal = tt
  packed_is packing (bytes ∷ older) legal =
      subst (λ those. ArePacked caps (said_each caps (bytes ∷ those))) (batch_is caps start fresh older)
      (packing (behind older start) caps bytes true legal (at_behind older))

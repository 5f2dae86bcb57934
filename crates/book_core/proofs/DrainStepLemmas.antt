-- A neighbour slot that is sent all that is to be sent: what its steps tell.
use Rattle.std.proofs.Common.{◌≡◌, ℕ, ◌+◌, ◌≤◌, Bool, true, false, not, List, [], ◌∷◌, ◌++◌, length, map, Some, None}
use Rattle.std.proofs.Common.{refl, sym, ap, ◌∙◌, subst, arith}
use Rattle.std.proofs.lemmas.List.{append-nil, append_assoc, reverse-append}
use Rattle.std.specs.Prelude.{◌&&◌, ◌||◌, if◌then◌else◌, Option, is_some, unwrap_or}
use Rattle.route_values.specs.declared.addr.Family.{Family}
use Rattle.route_values.specs.declared.attrs.WireAttrs.{WireAttrs}
use Rattle.route_values.specs.declared.key.Key.{Key}
use Rattle.route_values.specs.Caps.{Caps}
use Rattle.route_values.specs.Key.{family_of_key}
use Rattle.route_values.specs.Visible.{has_family}
use Rattle.update_grammar.specs.Head as head
use Rattle.update_grammar.specs.Head.{Head}
use Rattle.update_grammar.specs.Net.{effect_says, last_word, later_of, net}
use Rattle.update_grammar.specs.Packed.{ArePacked}
use Rattle.update_grammar.proofs.NetLemmas.{last_word-append}
use Rattle.peer_book.proofs.DifferLemmas.{differ_so}
use Rattle.peer_history.specs.Batches.{opened, first_cut, batch, has_batch, is_refreshed, is_owed, is_marker_owed}
use Rattle.peer_history.specs.Batches.{is_left, is_marker_left, NothingLeft}
use Rattle.peer_history.specs.Cuts.{AreLeft, IsDue, IsLegal}
use Rattle.peer_history.specs.Keys.{is_named, times_named}
use Rattle.peer_history.specs.Laws.{BatchesArePacked, LeavesTheTable, WholeBatches}
use Rattle.peer_history.specs.Messages.{said, said_each, is_marked, mentions, times_marked}
use Rattle.peer_history.specs.Same.{differ}
use Rattle.peer_history.specs.Sessions.{live, peer, session, session_effects}
use Rattle.peer_history.specs.Steps.{Step}
use Rattle.peer_history.specs.Steps.Step.{Cut}
use Rattle.peer_history.specs.Steps.Answer.{Message}
use Rattle.peer_history.specs.Table.{view}
use Rattle.peer_history.proofs.SessionLemmas.{at_session, no_message}
use Rattle.book_core.specs.declared.draining.Sent.{Sent}
use Rattle.book_core.specs.Draining.{left_by, newest_first, said_in_turn}

-- the steps behind messages that were cut, the oldest first
abbrev pub cuts : List Sent → List Step → List Step
cuts [] steps = steps
cuts (message ∷ later) steps = cuts later (Cut (Message message.bytes message.last) ∷ steps)

pub cuts_last : (sent : List Sent) (message : Sent) (steps : List Step)
    → cuts (sent ++ message ∷ []) steps ≡ Cut (Message message.bytes message.last) ∷ cuts sent steps
cuts_last [] message steps = refl
cuts_last (first ∷ sent) message steps = cuts_last sent message (Cut (Message first.bytes first.last) ∷ steps)

-- ---- what messages leave as it is

pub legal_before : (sent : List Sent) (steps : List Step) → IsLegal (cuts sent steps) → IsLegal steps
legal_before [] steps legal = legal
legal_before (message ∷ later) steps legal =
    (legal_before later (Cut (Message message.bytes message.last) ∷ steps) legal).1

pub session_stays : (sent : List Sent) (steps : List Step) → session (cuts sent steps) ≡ session steps
session_stays [] steps = refl
session_stays (message ∷ later) steps = session_stays later (Cut (Message message.bytes message.last) ∷ steps)

pub live_stays : (sent : List Sent) (steps : List Step) → live (cuts sent steps) ≡ live steps
live_stays [] steps = refl
live_stays (message ∷ later) steps = live_stays later (Cut (Message message.bytes message.last) ∷ steps)

module _ (caps : Caps) where
  pub view_stays : (sent : List Sent) (steps : List Step) (key : Key)
      → view caps (cuts sent steps) key ≡ view caps steps key
  view_stays [] steps key = refl
  view_stays (message ∷ later) steps key =
      view_stays later (Cut (Message message.bytes message.last) ∷ steps) key

  -- ---- what they say, one behind the other

  effects_grow : (sent : List Sent) (steps : List Step)
      → session_effects caps (cuts sent steps) ≡ session_effects caps steps ++ said_in_turn caps sent
  effects_grow [] steps = sym (append-nil (session_effects caps steps))
  effects_grow (message ∷ later) steps =
      effects_grow later (Cut (Message message.bytes message.last) ∷ steps)
      ∙ append_assoc (session_effects caps steps) (said caps message.bytes) (said_in_turn caps later)

  unwrap_later : (word before : Option (Option WireAttrs))
      → unwrap_or (later_of word before) None ≡ unwrap_or word (unwrap_or before None)
  unwrap_later (Some word) before = refl
  unwrap_later None before = refl

  pub left_behind : (sent : List Sent) (steps : List Step) (key : Key)
      → left_by (peer caps steps) (said_in_turn caps sent) key ≡ peer caps (cuts sent steps) key
  left_behind sent steps key =
      sym (ap (λ effects. net effects key) (effects_grow sent steps)
      ∙ ap (λ word. unwrap_or word None)
      (last_word-append effect_says (session_effects caps steps) (said_in_turn caps sent) key)
      ∙ unwrap_later (last_word effect_says (said_in_turn caps sent) key)
      (last_word effect_says (session_effects caps steps) key))

  -- ---- a batch that goes on

  -- since these steps nothing but messages came, which are one batch that isn't whole yet
  record Going (start now : List Step) (messages : List (List ℕ)) : Type 0 where
    opens : opened now ≡ Some start
    has : batch now ≡ messages
    quiet : (family : Family) → is_refreshed now family ≡ false
    shown : (key : Key) → view caps now key ≡ view caps start key

  begins : (start : List Step) (bytes : List ℕ) → opened start ≡ None
      → Going start (Cut (Message bytes false) ∷ start) (bytes ∷ [])
  begins start bytes none = record {
    opens = ap (λ o. Some (unwrap_or o start)) none;
    has = ap (λ messages. bytes ∷ messages) (no_message start none);
    quiet = λ family. ap (λ o. is_some o && is_refreshed start family) none;
    shown = λ key. refl;
  }

  goes_on : (start now : List Step) (messages : List (List ℕ)) (bytes : List ℕ) → Going start now messages
      → Going start (Cut (Message bytes false) ∷ now) (bytes ∷ messages)
  goes_on start now messages bytes going = record {
    opens = ap (λ o. Some (unwrap_or o now)) going.opens;
    has = ap (λ ms. bytes ∷ ms) going.has;
    quiet = λ family. ap (λ o. is_some o && is_refreshed now family) going.opens ∙ going.quiet family;
    shown = going.shown;
  }

  -- ---- a batch that is whole

  -- no batch is open, and the peer has the table
  record IsOver (now : List Step) : Type 0 where
    closed : opened now ≡ None
    begun : has_batch now ≡ true
    quiet : (family : Family) → is_refreshed now family ≡ false
    same : (key : Key) → peer caps now key ≡ view caps now key

  agree : (a b : Option WireAttrs) → a ≡ b → differ a b ≡ false
  agree a b same = elim (differ a b) as (λ so. differ a b ≡ so → so ≡ false) [
    | true ↦ λ apart. absurd (differ_so a b apart same)
    | false ↦ λ e. refl
  ] refl

  no_flag : (a : Bool) → (a && false) ≡ false
  no_flag true = refl
  no_flag false = refl

  over_owes : (now : List Step) → IsOver now → (key : Key) → is_owed caps now key ≡ false
  over_owes now over key =
      ap (λ so. so || (is_some (view caps now key) && is_refreshed now (family_of_key key)))
      (agree (peer caps now key) (view caps now key) (over.same key))
      ∙ ap (λ so. is_some (view caps now key) && so) (over.quiet (family_of_key key))
      ∙ no_flag (is_some (view caps now key))

  over_marks : (now : List Step) → IsOver now → (family : Family) → is_marker_owed caps now family ≡ false
  over_marks now over family =
      ap (λ so. has_family caps family && not so) over.begun ∙ no_flag (has_family caps family)

  nothing_left : (now : List Step) → IsOver now → NothingLeft caps now
  nothing_left now over =
      let first : first_cut now ≡ now = ap (λ o. unwrap_or o now) over.closed in
      record {
        keys = λ key.
            ap (λ so. so && not (is_named (mentions caps (batch now)) key))
            (ap (λ s. is_owed caps s key) first ∙ over_owes now over key);
        markers = λ family.
            ap (λ so. so && not (is_marked family (batch now)))
            (ap (λ s. is_marker_owed caps s family) first ∙ over_marks now over family);
      }

  some_left : (now : List Step) (family : Family) (value : Option WireAttrs) (keys : List Key) → NothingLeft caps now
      → AreLeft caps now family value keys → ⊥
  some_left now family value [] nothing are = absurd (let some = are.some in omega (arith, some))
  some_left now family value (key ∷ keys) nothing are =
      let none = nothing.keys key in let left : is_left caps now key ≡ true = are.left.0 in cc

  due_none : (now : List Step) (h : Head) (keys : List Key) → NothingLeft caps now → IsDue caps now h keys → ⊥
  due_none now (head.Gone family) keys nothing due = some_left now family None keys nothing due
  due_none now (head.Here family attrs) keys nothing due = some_left now family (Some attrs) keys nothing due
  due_none now (head.End family) keys nothing due =
      let none = nothing.markers family in let left : is_marker_left caps now family ≡ true = due.left in cc

  -- nothing comes behind it
  none_behind : (now : List Step) (bytes : List ℕ) (last : Bool) → IsOver now → session now ≡ Some caps
      → IsLegal (Cut (Message bytes last) ∷ now) → ⊥
  none_behind now bytes last over at legal =
      let may = at_session caps now bytes last at legal in
      due_none now may.head may.keys (nothing_left now over) may.due

  stops : (now : List Step) → IsOver now → session now ≡ Some caps → (sent : List Sent) → IsLegal (cuts sent now)
      → sent ≡ []
  stops now over at [] legal = refl
  stops now over at (message ∷ later) legal =
      absurd (none_behind now message.bytes message.last over at
      (legal_before later (Cut (Message message.bytes message.last) ∷ now) legal))

  -- ---- one batch

  -- these messages, the newest first, name once each key and marker that was owed at the start, and no other
  pub record NamesOnce (start : List Step) (messages : List (List ℕ)) : Type 0 where
    pub named : (key : Key) → times_named (mentions caps messages) key ≡ (if is_owed caps start key then 1 else 0)
    pub marked : (family : Family) → times_marked family messages
        ≡ (if is_marker_owed caps start family then 1 else 0)
    pub packed : ArePacked caps (said_each caps messages)
    pub few : length messages ≤ length (mentions caps messages) + 2

  -- the first of some messages stands behind those that came before
  first_behind : (message : Sent) (later : List Sent) (before : List (List ℕ))
      → newest_first later ++ (message.bytes ∷ before) ≡ newest_first (message ∷ later) ++ before
  first_behind message later before =
      sym (ap (λ ms. ms ++ before) (reverse-append (message.bytes ∷ []) (map (λ m. m.bytes) later))
      ∙ append_assoc (newest_first later) (message.bytes ∷ []) before)

  module _ (whole : WholeBatches) (packing : BatchesArePacked) where
    -- a batch that ends with this message
    ends : (start now : List Step) (messages : List (List ℕ)) (message : Sent) (later : List Sent)
        → first_cut now ≡ start → batch now ≡ messages
        → ((family : Family) → (is_some (opened now) && is_refreshed now family) ≡ false)
        → ((key : Key) → view caps now key ≡ view caps start key) → session now ≡ Some caps
        → IsLegal (cuts later (Cut (Message message.bytes true) ∷ now))
        → NamesOnce start (newest_first (message ∷ later) ++ messages)
    ends start now messages message later first has quiet shown at legal =
        let one = legal_before later (Cut (Message message.bytes true) ∷ now) legal in
        let leaves : LeavesTheTable caps now message.bytes = whole [] now caps message.bytes one at in
        let over : IsOver (Cut (Message message.bytes true) ∷ now) = record {
          closed = refl;
          begun = refl;
          quiet = quiet;
          same = λ key. leaves.table key ∙ ap (λ s. view caps s key) first ∙ sym (shown key);
        } in
        let none = stops (Cut (Message message.bytes true) ∷ now) over at later legal in
        let are : NamesOnce start (message.bytes ∷ messages) = record {
          named = λ key.
              ap (λ ms. times_named (mentions caps (message.bytes ∷ ms)) key) (sym has) ∙ leaves.named key
              ∙ ap (λ s. if is_owed caps s key then 1 else 0) first;
          marked = λ family.
              ap (λ ms. times_marked family (message.bytes ∷ ms)) (sym has) ∙ leaves.marked family
              ∙ ap (λ s. if is_marker_owed caps s family then 1 else 0) first;
          packed = subst (λ ms. ArePacked caps (said_each caps (message.bytes ∷ ms))) has
              (packing now caps message.bytes true one at);
          few = subst (λ ms. length (message.bytes ∷ ms) ≤ length (mentions caps (message.bytes ∷ ms)) + 2) has
              leaves.few;
        } in
        subst (λ sent. NamesOnce start (newest_first (message ∷ sent) ++ messages)) (sym none) are

    going : (start now : List Step) (messages : List (List ℕ)) → Going start now messages → (sent : List Sent)
        → session now ≡ Some caps → IsLegal (cuts sent now) → opened (cuts sent now) ≡ None
        → NamesOnce start (newest_first sent ++ messages)
    going start now messages goes [] at legal closed = absurd (let open_yet = goes.opens in cc)
    going start now messages goes (message ∷ later) at legal closed =
        elim message.last as (λ last. IsLegal (cuts later (Cut (Message message.bytes last) ∷ now))
        → opened (cuts later (Cut (Message message.bytes last) ∷ now)) ≡ None
        → NamesOnce start (newest_first (message ∷ later) ++ messages)) [
          | true ↦ λ l o.
              ends start now messages message later (ap (λ s. unwrap_or s now) goes.opens) goes.has
              (λ family. ap (λ s. is_some s && is_refreshed now family) goes.opens ∙ goes.quiet family) goes.shown at l
          | false ↦ λ l o.
              subst (NamesOnce start) (first_behind message later messages)
              (going start (Cut (Message message.bytes false) ∷ now) (message.bytes ∷ messages)
              (goes_on start now messages message.bytes goes) later at l o)
        ] legal closed

    -- no message was to be sent
    empty : (start : List Step) → opened start ≡ None → NothingLeft caps start → NamesOnce start []
    empty start none nothing =
        let first : first_cut start ≡ start = ap (λ o. unwrap_or o start) none in
        let no_batch = no_message start none in record {
          named = λ key. sym (ap (λ so. if so then 1 else 0) (unnamed (is_owed caps start key)
              (sym (ap (λ s. is_owed caps s key && not (is_named (mentions caps (batch start)) key)) first
              ∙ ap (λ ms. is_owed caps start key && not (is_named (mentions caps ms) key)) no_batch)
              ∙ nothing.keys key)));
          marked = λ family. sym (ap (λ so. if so then 1 else 0) (unnamed (is_marker_owed caps start family)
              (sym (ap (λ s. is_marker_owed caps s family && not (is_marked family (batch start))) first
              ∙ ap (λ ms. is_marker_owed caps start family && not (is_marked family ms)) no_batch)
              ∙ nothing.markers family)));
          packed = tt;
          few = omega arith;
        }
      where
        unnamed : (owed : Bool) → (owed && true) ≡ false → owed ≡ false
        unnamed true h = h
        unnamed false h = refl

    -- where no batch was open at the start, the messages are one
    pub one_batch : (start : List Step) (sent : List Sent) → opened start ≡ None → session start ≡ Some caps
        → IsLegal (cuts sent start) → opened (cuts sent start) ≡ None → NothingLeft caps (cuts sent start)
        → NamesOnce start (newest_first sent)
    one_batch start [] none at legal closed nothing = empty start none nothing
    one_batch start (message ∷ later) none at legal closed nothing =
        subst (NamesOnce start) (append-nil (newest_first (message ∷ later)))
        (elim message.last as (λ last. IsLegal (cuts later (Cut (Message message.bytes last) ∷ start))
        → opened (cuts later (Cut (Message message.bytes last) ∷ start)) ≡ None
        → NamesOnce start (newest_first (message ∷ later) ++ [])) [
          | true ↦ λ l o.
              ends start start [] message later (ap (λ s. unwrap_or s start) none) (no_message start none)
              (λ family. ap (λ s. is_some s && is_refreshed start family) none) (λ key. refl) at l
          | false ↦ λ l o.
              subst (NamesOnce start) (first_behind message later [])
              (going start (Cut (Message message.bytes false) ∷ start) (message.bytes ∷ [])
              (begins start message.bytes none) later at l o)
        ] legal closed)

-- What a fresh session's cuts are: messages that leave the table, or the code that the session ends with.
use Rattle.std.proofs.Common.{ℕ, ◌≡◌, ◌+◌, Bool, true, false, List, [], ◌∷◌, ◌++◌, map, reverse, Some, None, refl, sym}
use Rattle.std.proofs.Common.{ap, ◌∙◌, subst, arith, append_assoc, append-nil}
use Rattle.std.proofs.lemmas.List.{reverse-append, reverse-reverse}
use Rattle.std.proofs.lemmas.List.Concat.{flat_map-append}
use Rattle.std.specs.Prelude.{is_some, if◌then◌else◌, Option}
use Rattle.std.specs.List.{AllByRecursion, flat_map}
use Rattle.route_values.specs.declared.addr.Family.{Family}
use Rattle.route_values.specs.declared.addr.Family.TheVariants.{Ipv4, Ipv6}
use Rattle.route_values.specs.declared.key.Key.{Key}
use Rattle.route_values.specs.Caps.{Caps, no_caps}
use Rattle.update_grammar.specs.Head as head
use Rattle.update_grammar.specs.Laws.{EndIsSpelled}
use Rattle.update_grammar.specs.Net.{net}
use Rattle.update_grammar.specs.Packed.{ArePacked, named_by}
use Rattle.update_grammar.specs.Written.{written}
use Rattle.peer_history.specs.Cuts.{IsLegal, MayAnswer}
use Rattle.peer_history.specs.Keys.{times_named}
use Rattle.peer_history.specs.Laws.{BatchesArePacked, NothingPending, WholeBatches}
use Rattle.peer_history.specs.Messages.{mentions, said, said_each}
use Rattle.peer_history.specs.Sessions.{live, reset, session}
use Rattle.peer_history.specs.Steps.{Code, Step}
use Rattle.peer_history.specs.Steps.Answer.{Message, Nothing, Reset}
use Rattle.peer_history.specs.Steps.Step.{Cut}
use Rattle.peer_history.specs.Table.{view}
use Rattle.peer_history.proofs.KeyLemmas.{times_named-append}
use Rattle.peer_history.proofs.MessageLemmas.{Grammar, said_is}
use Rattle.book_history.specs.declared.outcomes.Cut.{Cut as Given}
use Rattle.book_history.specs.declared.outcomes.Cut.TheVariants as cut
use Rattle.book_history.specs.PeerSteps.{answer_of}
use Rattle.text_history.specs.Leaving.{CutsAre, CutsLeave, LeaveTable, TellsRoutes, as_answers, marker_if, markers_of}
use Rattle.text_history.specs.Plays.{is_message}
use Rattle.text_history.proofs.LeavingBatchLemmas.{all_came, named_is, packed_is, table_is}
use Rattle.text_history.proofs.LeavingHistoryLemmas.{in_turn}
use Rattle.text_history.proofs.LeavingMarkerLemmas.{came, end_with_markers}
use Rattle.text_history.proofs.LeavingSlotLemmas.{IsFresh, cut_each, finished, live_stays, more_each, session_stays}
use Rattle.text_history.proofs.LeavingSlotLemmas.{told}

-- ---- the other way round

reversed : {A : Type 0} (item : A) (items : List A) → reverse (item ∷ items) ≡ reverse items ++ item ∷ []
reversed item items = reverse-append (item ∷ []) items

all_append : {A : Type 0} (P : A → Type 0) (items : List A) (item : A) → AllByRecursion P items → P item
    → AllByRecursion P (items ++ item ∷ [])
all_append P [] item all one = (one, tt)
all_append P (first ∷ items) item all one = (all.0, all_append P items item all.1 one)

all_reversed : {A : Type 0} (P : A → Type 0) (items : List A) → AllByRecursion P items
    → AllByRecursion P (reverse items)
all_reversed P [] all = tt
all_reversed P (item ∷ items) all =
    subst (AllByRecursion P) (sym (reversed item items))
    (all_append P (reverse items) item (all_reversed P items all.1) all.0)

told_turned : (caps : Caps) (messages : List (List ℕ)) → told caps messages ≡ flat_map (said caps) (reverse messages)
told_turned caps [] = refl
told_turned caps (bytes ∷ older) =
    ap (λ effects. effects ++ said caps bytes) (told_turned caps older)
    ∙ ap (λ more. flat_map (said caps) (reverse older) ++ more) (sym (append-nil (said caps bytes)))
    ∙ sym (flat_map-append (said caps) (reverse older) (bytes ∷ []))
    ∙ ap (flat_map (said caps)) (sym (reversed bytes older))

mentions_append : (caps : Caps) (messages : List (List ℕ)) (bytes : List ℕ) (key : Key)
    → times_named (mentions caps (messages ++ bytes ∷ [])) key
    ≡ times_named (map named_by (said caps bytes)) key + times_named (mentions caps messages) key
mentions_append caps [] bytes key =
    times_named-append (map named_by (said caps bytes)) [] key
mentions_append caps (first ∷ messages) bytes key =
    let rest = mentions_append caps messages bytes key in
    let whole = times_named-append (map named_by (said caps first)) (mentions caps (messages ++ bytes ∷ [])) key in
    let part = times_named-append (map named_by (said caps first)) (mentions caps messages) key in
    omega (arith, rest, whole, part)

-- a key is named as often the other way round
named_turned : (caps : Caps) (messages : List (List ℕ)) (key : Key)
    → times_named (mentions caps (reverse messages)) key ≡ times_named (mentions caps messages) key
named_turned caps [] key = refl
named_turned caps (bytes ∷ older) key =
    ap (λ those. times_named (mentions caps those) key) (reversed bytes older)
    ∙ mentions_append caps (reverse older) bytes key
    ∙ ap (λ n. times_named (map named_by (said caps bytes)) key + n) (named_turned caps older key)
    ∙ sym (times_named-append (map named_by (said caps bytes)) (mentions caps older) key)

-- ---- the answers

answers_end : (messages : List (List ℕ)) (bytes : List ℕ)
    → as_answers (messages ++ bytes ∷ []) ≡ map (λ text. Message text false) messages ++ Message bytes true ∷ []
answers_end [] bytes = refl
answers_end (first ∷ []) bytes = refl
answers_end (first ∷ next ∷ messages) bytes =
    ap (λ those. Message first false ∷ those) (answers_end (next ∷ messages) bytes)

map_append : (messages : List (List ℕ)) (bytes : List ℕ)
    → map (λ text. Message text false) (messages ++ bytes ∷ [])
    ≡ map (λ text. Message text false) messages ++ Message bytes false ∷ []
map_append [] bytes = refl
map_append (first ∷ messages) bytes = ap (λ those. Message first false ∷ those) (map_append messages bytes)

turn_more : (older : List (List ℕ)) → in_turn (more_each older) ≡ map (λ text. Message text false) (reverse older)
turn_more [] = refl
turn_more (bytes ∷ older) =
    ap (λ those. those ++ Message bytes false ∷ []) (turn_more older) ∙ sym (map_append (reverse older) bytes)
    ∙ ap (map (λ text. Message text false)) (sym (reversed bytes older))

turn_finished : (messages : List (List ℕ)) → in_turn (finished messages) ≡ as_answers (reverse messages)
turn_finished [] = refl
turn_finished (bytes ∷ older) =
    ap (λ those. those ++ Message bytes true ∷ []) (turn_more older) ∙ sym (answers_end (reverse older) bytes)
    ∙ ap as_answers (sym (reversed bytes older))

markers_turned : (six four : Bool) → reverse (came six four) ≡ marker_if four Ipv4 ++ marker_if six Ipv6
markers_turned true true = refl
markers_turned true false = refl
markers_turned false true = refl
markers_turned false false = refl

-- ---- markers say nothing

module _ (grammar : Grammar) (ends : (family : Family) → EndIsSpelled family) (caps : Caps) where
  silent : (family : Family) → said caps (written no_caps (head.End family) []) ≡ []
  silent Ipv4 = said_is grammar caps (written no_caps (head.End Ipv4) []) [] (ends Ipv4 caps)
  silent Ipv6 = said_is grammar caps (written no_caps (head.End Ipv6) []) [] (ends Ipv6 caps)

  told_if : (so : Bool) (family : Family) (messages : List (List ℕ))
      → told caps (marker_if so family ++ messages) ≡ told caps messages
  told_if true family messages =
      ap (λ effects. told caps messages ++ effects) (silent family) ∙ append-nil (told caps messages)
  told_if false family messages = refl

  mentions_if : (so : Bool) (family : Family) (messages : List (List ℕ))
      → mentions caps (marker_if so family ++ messages) ≡ mentions caps messages
  mentions_if true family messages = ap (λ effects. map named_by effects ++ mentions caps messages) (silent family)
  mentions_if false family messages = refl

  packed_if : (so : Bool) (family : Family) (messages : List (List ℕ))
      → ArePacked caps (said_each caps (marker_if so family ++ messages)) → ArePacked caps (said_each caps messages)
  packed_if true family messages packed = packed.1
  packed_if false family messages packed = packed

  came_behind : (six four : Bool) (routes : List (List ℕ))
      → came six four ++ routes ≡ marker_if six Ipv6 ++ (marker_if four Ipv4 ++ routes)
  came_behind six four routes = append_assoc (marker_if six Ipv6) (marker_if four Ipv4) routes

  told_routes : (six four : Bool) (routes : List (List ℕ)) → told caps (came six four ++ routes) ≡ told caps routes
  told_routes six four routes =
      ap (told caps) (came_behind six four routes) ∙ told_if six Ipv6 (marker_if four Ipv4 ++ routes)
      ∙ told_if four Ipv4 routes

  mentions_routes : (six four : Bool) (routes : List (List ℕ))
      → mentions caps (came six four ++ routes) ≡ mentions caps routes
  mentions_routes six four routes =
      ap (mentions caps) (came_behind six four routes) ∙ mentions_if six Ipv6 (marker_if four Ipv4 ++ routes)
      ∙ mentions_if four Ipv4 routes

  packed_routes : (six four : Bool) (routes : List (List ℕ)) → ArePacked caps (said_each caps (came six four ++ routes))
      → ArePacked caps (said_each caps routes)
  packed_routes six four routes packed =
      packed_if four Ipv4 routes (packed_if six Ipv6 (marker_if four Ipv4 ++ routes)
      (subst (λ those. ArePacked caps (said_each caps those)) (came_behind six four routes) packed))

  -- ---- a session that nothing ended

  module _ (start : List Step) (fresh : IsFresh caps start) (whole : WholeBatches) (packing : BatchesArePacked)
      (pending : NothingPending) where
    leave_table : (messages routes : List (List ℕ)) → IsLegal (Cut Nothing ∷ cut_each (finished messages) start)
        → ((key : Key) → times_named (mentions caps messages) key ≡ (if is_some (view caps start key) then 1 else 0))
        → messages ≡ came caps.ipv6 caps.ipv4 ++ routes → AllByRecursion (TellsRoutes caps) routes
        → LeaveTable caps (view caps start) (reverse routes)
    leave_table messages routes legal named are tell = record {
      tell = all_reversed (TellsRoutes caps) routes tell;
      leave = λ key.
          ap (λ effects. net effects key) (sym (told_turned caps routes)
          ∙ sym (ap (told caps) are ∙ told_routes caps.ipv6 caps.ipv4 routes))
          ∙ table_is caps start fresh whole pending messages legal key;
      named = λ key.
          named_turned caps routes key
          ∙ ap (λ keys. times_named keys key)
          (sym (ap (mentions caps) are ∙ mentions_routes caps.ipv6 caps.ipv4 routes)) ∙ named key;
      packed = subst (λ those. ArePacked caps (said_each caps those)) (sym (reverse-reverse routes))
          (packed_routes caps.ipv6 caps.ipv4 routes (subst (λ those. ArePacked caps (said_each caps those)) are
          (packed_is caps start fresh whole packing messages legal.1)));
    }

    answers_are : (messages routes : List (List ℕ)) → messages ≡ came caps.ipv6 caps.ipv4 ++ routes
        → in_turn (finished messages) ≡ as_answers (reverse routes ++ markers_of caps)
    answers_are messages routes are =
        turn_finished messages
        ∙ ap as_answers (ap reverse are ∙ reverse-append (came caps.ipv6 caps.ipv4) routes
        ∙ ap (λ markers. reverse routes ++ markers) (markers_turned caps.ipv6 caps.ipv4))

    cuts_leave : (sent : List (List ℕ × Bool)) → IsLegal (Cut Nothing ∷ cut_each sent start)
        → CutsLeave caps (view caps start) (in_turn sent ++ Nothing ∷ [])
    cuts_leave sent legal =
        let all = all_came caps start fresh whole sent legal in
        let now : IsLegal (Cut Nothing ∷ cut_each (finished all.messages) start) =
        subst (λ those. IsLegal (Cut Nothing ∷ cut_each those start)) all.sent_are legal in
        let end = end_with_markers grammar caps start fresh all.messages now.1 all.nothing in
        record {
          routes = reverse end.routes;
          cuts_are =
              ap (λ those. in_turn those ++ Nothing ∷ []) all.sent_are
              ∙ ap (λ those. those ++ Nothing ∷ []) (answers_are all.messages end.routes end.are);
          table_left = leave_table all.messages end.routes now
              (named_is caps start fresh whole all.messages now.1 all.nothing) end.are end.tell;
        }

    -- ---- a session that is to end, or not

    live_is : (code : Option Code) → reset start ≡ code
        → live start ≡ (if is_some code then None else Some caps)
    live_is code is =
        ap (λ ended. if is_some ended then None else session start) is
        ∙ ap (λ at. if is_some code then None else at) fresh.at

    nothing_more : (bytes : List ℕ) (given : Given) (sent : List (List ℕ × Bool)) → is_message given ≡ false
        → live start ≡ Some caps → reset start ≡ None → MayAnswer (cut_each sent start) (answer_of bytes given)
        → given ≡ cut.Nothing
    nothing_more bytes cut.Down sent none at whole_yet may =
        absurd (let stands = session_stays sent start ∙ fresh.at in cc)
    nothing_more bytes (cut.Reset code sub) sent none at whole_yet may =
        absurd (let ended = sym (reset_stays sent) ∙ may.1 in cc)
      where
        reset_stays : (those : List (List ℕ × Bool)) → reset (cut_each those start) ≡ reset start
        reset_stays [] = refl
        reset_stays (message ∷ older) = reset_stays older
    nothing_more bytes cut.Nothing sent none at whole_yet may = refl
    nothing_more bytes (cut.Message last) sent none at whole_yet may = cc

    no_message : (sent : List (List ℕ × Bool)) → live start ≡ None → IsLegal (cut_each sent start) → sent ≡ []
    no_message [] dead legal = refl
    no_message (message ∷ older) dead legal =
        absurd (let gone = sym (live_stays older start) ∙ legal.0.1 in
        let one : None ≡ Some legal.0.0 = sym dead ∙ gone in cc)

    only_reset : (code : Code) (bytes : List ℕ) (given : Given) → is_message given ≡ false → live start ≡ None
        → reset start ≡ Some code → MayAnswer start (answer_of bytes given) → answer_of bytes given ≡ Reset code
    only_reset code bytes cut.Down none dead is may = absurd (let stands = fresh.at in cc)
    only_reset code bytes (cut.Reset number sub) none dead is may = ap Reset (same_code _ _ (sym may.1 ∙ is))
      where
        same_code : (a b : Code) → ◌≡◌ {A = Option Code} (Some a) (Some b) → a ≡ b
        same_code a b e = cc
    only_reset code bytes cut.Nothing none dead is may = absurd (let at = may.1 in cc)
    only_reset code bytes (cut.Message last) none dead is may = cc

    cuts_end : (sent : List (List ℕ × Bool)) (bytes : List ℕ) (given : Given) → is_message given ≡ false
        → IsLegal (cut_each sent start) → MayAnswer (cut_each sent start) (answer_of bytes given) → (code : Code)
        → reset start ≡ Some code → in_turn sent ++ answer_of bytes given ∷ [] ≡ Reset code ∷ []
    cuts_end sent bytes given none legal may code is =
        let dead = live_is (Some code) is in
        let empty = no_message sent dead legal in
        let now : MayAnswer start (answer_of bytes given) =
        subst (λ those. MayAnswer (cut_each those start) (answer_of bytes given)) empty may in
        ap (λ those. in_turn those ++ answer_of bytes given ∷ []) empty
        ∙ ap (λ answer. answer ∷ []) (only_reset code bytes given none dead is now)

    pub cuts_are : (sent : List (List ℕ × Bool)) (bytes : List ℕ) (given : Given) → is_message given ≡ false
        → IsLegal (cut_each sent start) → MayAnswer (cut_each sent start) (answer_of bytes given)
        → CutsAre caps (view caps start) (reset start) (in_turn sent ++ answer_of bytes given ∷ [])
    cuts_are sent bytes given none legal may =
        elim (reset start) as (λ code. reset start ≡ code
        → CutsAre caps (view caps start) code (in_turn sent ++ answer_of bytes given ∷ [])) [
          | None ↦ λ is.
              let over = nothing_more bytes given sent none (live_is None is) is may in
              let last : MayAnswer (cut_each sent start) Nothing =
              subst (λ those. MayAnswer (cut_each sent start) (answer_of bytes those)) over may in
              subst (λ those. CutsLeave caps (view caps start) (in_turn sent ++ answer_of bytes those ∷ [])) (sym over)
              (cuts_leave sent (last, legal))
          | Some code ↦ λ is. cuts_end sent bytes given none legal may code is
        ] refl

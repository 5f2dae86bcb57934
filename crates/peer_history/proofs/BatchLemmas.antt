-- What a batch has done so far, and what it has done when it is whole.
use Rattle.std.proofs.Common.{◌≡◌, ℕ, ◌+◌, ◌≤◌, Bool, true, false, not, List, [], ◌∷◌, ◌++◌, length, Some, None}
use Rattle.std.proofs.Common.{refl, sym, ap, ◌∙◌, subst, arith, length-append}
use Rattle.std.specs.Prelude.{◌&&◌, ◌||◌, if◌then◌else◌, map}
use Rattle.std.specs.List.{AllByRecursion}
use Rattle.std.proofs.lemmas.Bool.{and_parts, not-true}
use Rattle.std.proofs.lemmas.Option.{same_Some}
use Rattle.route_values.specs.declared.addr.Family.{Family}
use Rattle.route_values.specs.declared.addr.Family.TheVariants.{Ipv4, Ipv6}
use Rattle.route_values.specs.declared.key.Key.{Key}
use Rattle.route_values.specs.Caps.{Caps}
use Rattle.update_grammar.specs.declared.effect.Effect.{Effect}
use Rattle.update_grammar.specs.Head.{Head}
use Rattle.update_grammar.specs.Head as head
use Rattle.update_grammar.specs.Net.{net}
use Rattle.update_grammar.specs.Packed.{named_by}
use Rattle.peer_history.specs.Batches.{opened, first_cut, batch, is_owed, is_marker_owed, is_left, is_marker_left}
use Rattle.peer_history.specs.Batches.{NothingLeft}
use Rattle.peer_history.specs.Cuts.{IsDue, MayCut, IsLegal}
use Rattle.peer_history.specs.Keys.{is_named, times_named, AreSomeOf}
use Rattle.peer_history.specs.Laws.{WholeBatches, NothingPending, Settled}
use Rattle.peer_history.specs.Messages.{said, mentions, marks, is_marked, times_marked, meant, value_given}
use Rattle.peer_history.specs.Same.{same_family}
use Rattle.peer_history.specs.Sessions.{session, session_effects, peer}
use Rattle.peer_history.specs.Steps.{Step}
use Rattle.peer_history.specs.Steps.Step.{Up, Down, Cut}
use Rattle.peer_history.specs.Steps.Answer.{Message, Nothing}
use Rattle.peer_history.specs.Table.{view}
use Rattle.peer_history.proofs.KeyLemmas.{is_named-append, times_named-append, some_named, some_once, each_named}
use Rattle.peer_history.proofs.MessageLemmas.{Grammar, AreFor, head_marks, net_meant, names_keys, said_is}
use Rattle.peer_history.proofs.MessageLemmas.{written_marks}
use Rattle.peer_history.proofs.SameLemmas.{same_family_is, differ_not}
use Rattle.peer_history.proofs.SessionLemmas.{live_stands, legal_tail, legal_front, at_session, no_message}

-- With these messages so far the peer has the target's value at each key that they name, and at each other what it had
-- when the batch began. What they name was owed then, and is named once.
pub record SoFar (caps : Caps) (start : List Step) (messages : List (List ℕ)) (now : List Effect) : Type 0 where
  pub table : (key : Key) → net now key
      ≡ (if is_named (mentions caps messages) key then view caps start key else peer caps start key)
  pub owed : (key : Key) → is_named (mentions caps messages) key ≡ true → is_owed caps start key ≡ true
  pub once : (key : Key) → times_named (mentions caps messages) key
      ≡ (if is_named (mentions caps messages) key then 1 else 0)
  pub marker_owed : (family : Family) → is_marked family messages ≡ true → is_marker_owed caps start family ≡ true
  pub marked_once : (family : Family) → times_marked family messages ≡ (if is_marked family messages then 1 else 0)
  pub few : length messages
      ≤ length (mentions caps messages) + (times_marked Ipv4 messages + times_marked Ipv6 messages)

-- how often a message marks a family
abbrev mark : Family → List ℕ → ℕ
mark family bytes = if marks family bytes then 1 else 0

-- what the message of a head meets
pub record AreSaid (caps : Caps) (start : List Step) (messages : List (List ℕ)) (bytes : List ℕ) (h : Head)
    (keys : List Key) : Type 0 where
  pub left : AreSomeOf (λ key. is_owed caps start key && not (is_named (mentions caps messages) key)) keys
  pub each : AllByRecursion (λ key. view caps start key ≡ value_given h) keys
  pub marker : (family : Family) → marks family bytes ≡ true
      → (is_marker_owed caps start family && not (is_marked family messages)) ≡ true
  pub some : 1 ≤ length keys + (mark Ipv4 bytes + mark Ipv6 bytes)

-- what is due is what its head is for
pub due_for : (caps : Caps) (steps : List Step) (h : Head) (keys : List Key) → IsDue caps steps h keys → AreFor h keys
due_for caps steps (head.Gone family) keys due = due.some
due_for caps steps (head.Here family w) keys due = due.some
due_for caps steps (head.End family) keys due = due.none

-- a marker is one of the two
one_mark : (family : Family) (bytes : List ℕ) → ((f : Family) → marks f bytes ≡ same_family family f)
    → 1 ≤ mark Ipv4 bytes + mark Ipv6 bytes
one_mark Ipv4 bytes marked = rw (marked Ipv4, marked Ipv6) (omega arith)
one_mark Ipv6 bytes marked = rw (marked Ipv4, marked Ipv6) (omega arith)

pub are_said : (caps : Caps) (steps : List Step) (bytes : List ℕ) (h : Head) (keys : List Key)
    → ((f : Family) → marks f bytes ≡ head_marks h f) → IsDue caps steps h keys
    → AreSaid caps (first_cut steps) (batch steps) bytes h keys
are_said caps steps bytes (head.Gone family) keys marked due = record {
  left = due.left;
  each = due.of_value;
  marker = λ f e. absurd (let no = marked f in cc);
  some = let some = due.some in omega arith;
}
are_said caps steps bytes (head.Here family w) keys marked due = record {
  left = due.left;
  each = due.of_value;
  marker = λ f e. absurd (let no = marked f in cc);
  some = let some = due.some in omega arith;
}
are_said caps steps bytes (head.End family) keys marked due = record {
  left = rw due.none tt;
  each = rw due.none tt;
  marker = λ f e. subst (λ g. is_marker_left caps steps g ≡ true) (same_family_is family f (sym (marked f) ∙ e))
      due.left;
  some = let one = one_mark family bytes marked in omega arith;
}

-- one more message
module _ (caps : Caps) (start : List Step) (messages : List (List ℕ)) (now : List Effect) (bytes : List ℕ) (h : Head)
    (keys : List Key) (sofar : SoFar caps start messages now) (are : AreSaid caps start messages bytes h keys)
    (same : map named_by (meant h keys) ≡ keys) where
  left_at : (key : Key) → is_named keys key ≡ true
      → (is_owed caps start key && not (is_named (mentions caps messages) key)) ≡ true
  left_at key n = some_named keys _ are.left key n

  table_at : (key : Key) → net (now ++ meant h keys) key
      ≡ (if is_named (keys ++ mentions caps messages) key then view caps start key else peer caps start key)
  table_at key =
      let goal_at : Bool → Type 0 = λ b. (if b then value_given h else net now key)
      ≡ (if b || is_named (mentions caps messages) key then view caps start key else peer caps start key) in
      let cases : goal_at (is_named keys key) = elim (is_named keys key) as (λ b. is_named keys key ≡ b → goal_at b) [
        | true ↦ λ e. sym (each_named (λ k. view caps start k ≡ value_given h) keys are.each key e)
        | false ↦ λ e. sofar.table key
      ] refl in
      net_meant now h keys key same ∙ rw is_named-append cases

  owed_at : (key : Key) → is_named (keys ++ mentions caps messages) key ≡ true → is_owed caps start key ≡ true
  owed_at key n =
      elim (is_named keys key) as (λ b. is_named keys key ≡ b → (b || is_named (mentions caps messages) key) ≡ true
      → is_owed caps start key ≡ true) [
        | true ↦ λ e _. (and_parts _ _ (left_at key e)).0
        | false ↦ λ e m. sofar.owed key m
      ] refl (sym (is_named-append keys (mentions caps messages) key) ∙ n)

  once_at : (key : Key) → times_named (keys ++ mentions caps messages) key
      ≡ (if is_named (keys ++ mentions caps messages) key then 1 else 0)
  once_at key =
      let new = some_once keys _ are.left key in
      let old = sofar.once key in
      let goal_at : Bool → Type 0 = λ b. (if b then 1 else 0) + times_named (mentions caps messages) key
      ≡ (if b || is_named (mentions caps messages) key then 1 else 0) in
      let cases : goal_at (is_named keys key) = elim (is_named keys key) as (λ b. is_named keys key ≡ b → goal_at b) [
        | true ↦ λ e.
            let fresh : is_named (mentions caps messages) key ≡ false =
            not-true _ (and_parts _ _ (left_at key e)).1 in
            let none : times_named (mentions caps messages) key ≡ 0 =
            subst (λ b. times_named (mentions caps messages) key ≡ (if b then 1 else 0)) fresh old in
            omega arith
        | false ↦ λ e.
            let zero_first : 0 + times_named (mentions caps messages) key ≡ times_named (mentions caps messages) key =
            omega arith in
            zero_first ∙ old
      ] refl in
      times_named-append keys (mentions caps messages) key
      ∙ ap (λ n. n + times_named (mentions caps messages) key) new ∙ rw is_named-append cases

  marker_owed_at : (family : Family) → (marks family bytes || is_marked family messages) ≡ true
      → is_marker_owed caps start family ≡ true
  marker_owed_at family n =
      elim (marks family bytes) as (λ b. marks family bytes ≡ b → (b || is_marked family messages) ≡ true
      → is_marker_owed caps start family ≡ true) [
        | true ↦ λ e _. (and_parts _ _ (are.marker family e)).0
        | false ↦ λ e m. sofar.marker_owed family m
      ] refl n

  marked_once_at : (family : Family) → times_marked family (bytes ∷ messages)
      ≡ (if is_marked family (bytes ∷ messages) then 1 else 0)
  marked_once_at family =
      elim (marks family bytes) as (λ b. marks family bytes ≡ b
      → (if b then 1 else 0) + times_marked family messages
      ≡ (if b || is_marked family messages then 1 else 0)) [
        | true ↦ λ e.
            let fresh : is_marked family messages ≡ false = not-true _ (and_parts _ _ (are.marker family e)).1 in
            let none : times_marked family messages ≡ 0 =
            subst (λ b. times_marked family messages ≡ (if b then 1 else 0)) fresh (sofar.marked_once family) in
            omega arith
        | false ↦ λ e.
            let zero_first : 0 + times_marked family messages ≡ times_marked family messages = omega arith in
            zero_first ∙ sofar.marked_once family
      ] refl

  few_at : length (bytes ∷ messages) ≤ length (keys ++ mentions caps messages)
      + (times_marked Ipv4 (bytes ∷ messages) + times_marked Ipv6 (bytes ∷ messages))
  few_at =
      let some = are.some in let few = sofar.few in
      let both = length-append keys (mentions caps messages) in omega arith

  one_more : said caps bytes ≡ meant h keys → SoFar caps start (bytes ∷ messages) (now ++ said caps bytes)
  one_more says =
      let named : mentions caps (bytes ∷ messages) ≡ keys ++ mentions caps messages =
      ap (λ effects. map named_by effects ++ mentions caps messages) says
      ∙ ap (λ ks. ks ++ mentions caps messages) same in
      record {
        table = λ key. ap (λ effects. net (now ++ effects) key) says ∙ rw named (table_at key);
        owed = λ key. rw named (owed_at key);
        once = λ key. rw named (once_at key);
        marker_owed = marker_owed_at;
        marked_once = marked_once_at;
        few = rw named few_at;
      }

-- the batch of a history
abbrev pub OfHistory : Caps → List Step → Type 0
OfHistory caps steps = SoFar caps (first_cut steps) (batch steps) (session_effects caps steps)

-- no message was cut
closed : (caps : Caps) (steps : List Step) → SoFar caps steps [] (session_effects caps steps)
closed caps steps = record {
  table = λ key. refl;
  owed = λ key h. cc;
  once = λ key. refl;
  marker_owed = λ family h. cc;
  marked_once = λ family. refl;
  few = omega arith;
}

-- a step that speaks of no batch
still : (caps : Caps) (steps after : List Step) → opened after ≡ opened steps → batch after ≡ batch steps
    → session_effects caps after ≡ session_effects caps steps → OfHistory caps steps → OfHistory caps after
still caps steps after o b now sofar = elim (opened steps) as (λ q. opened steps ≡ q → OfHistory caps after) [
  | None ↦ λ e.
      let none : opened after ≡ None = o ∙ e in
      let empty : batch after ≡ [] = no_message after none in
      rw (empty, none) (closed caps after)
  | Some start ↦ λ e.
      let old : first_cut steps ≡ start = rw e refl in
      let new : first_cut after ≡ start = rw (o ∙ e) refl in
      let same : first_cut after ≡ first_cut steps = new ∙ sym old in
      rw (b, now, same) sofar
] refl

pub after_message : Grammar → (caps : Caps) (steps : List Step) (bytes : List ℕ) (last : Bool)
    → MayCut caps steps bytes last → OfHistory caps steps
    → SoFar caps (first_cut steps) (bytes ∷ batch steps) (session_effects caps steps ++ said caps bytes)
after_message grammar caps steps bytes last may sofar =
    let for_head = due_for caps steps may.head may.keys may.due in
    let marked : (f : Family) → marks f bytes ≡ head_marks may.head f =
    λ f. ap (marks f) may.text ∙ written_marks grammar caps may.head may.keys for_head f in
    one_more caps (first_cut steps) (batch steps) (session_effects caps steps) bytes may.head may.keys sofar
    (are_said caps steps bytes may.head may.keys marked may.due) (names_keys may.head may.keys for_head)
    (said_is grammar caps bytes (meant may.head may.keys) may.spelled)

pub so_far : Grammar → (steps : List Step) → IsLegal steps → (caps : Caps) → session steps ≡ Some caps
    → OfHistory caps steps
so_far grammar [] h caps at = closed caps []
so_far grammar (Up c ∷ steps) h caps at = closed caps (Up c ∷ steps)
so_far grammar (Down ∷ steps) h caps at = closed caps (Down ∷ steps)
so_far grammar (Cut (Message bytes true) ∷ steps) h caps at = closed caps (Cut (Message bytes true) ∷ steps)
so_far grammar (Cut (Message bytes false) ∷ steps) h caps at =
    after_message grammar caps steps bytes false (at_session caps steps bytes false at h)
    (so_far grammar steps h.1 caps at)
so_far grammar (step ∷ steps) h caps at =
    still caps steps (step ∷ steps) refl refl refl (so_far grammar steps (legal_tail step steps h) caps at)

-- owed exactly where it was named
owed_is_named : (owed was : Bool) → (was ≡ true → owed ≡ true) → (owed && not was) ≡ false → was ≡ owed
owed_is_named true true h e = refl
owed_is_named true false h e = sym e
owed_is_named false true h e = sym (h refl)
owed_is_named false false h e = refl

not_owed : (differs refreshed : Bool) → (differs || refreshed) ≡ false → differs ≡ false
not_owed true r h = h
not_owed false r h = refl

at_most_one : (b : Bool) → (if b then 1 else 0) ≤ 1
at_most_one true = omega arith
at_most_one false = omega arith

pub whole_batches : Grammar → WholeBatches
whole_batches grammar later steps caps bytes h at =
    let legal = legal_front later (Cut (Message bytes true) ∷ steps) h in
    let may = at_session caps steps bytes true at legal in
    let more = after_message grammar caps steps bytes true may (so_far grammar steps legal.1 caps at) in
    let start = first_cut steps in
    let messages = bytes ∷ batch steps in
    let whole : NothingLeft caps (Cut (Message bytes false) ∷ steps) = may.ends.0 refl in
    let same : (key : Key) → is_named (mentions caps messages) key ≡ is_owed caps start key =
    λ key. owed_is_named (is_owed caps start key) (is_named (mentions caps messages) key) (more.owed key)
    (whole.keys key) in
    let same_marks : (f : Family) → is_marked f messages ≡ is_marker_owed caps start f =
    λ f. owed_is_named (is_marker_owed caps start f) (is_marked f messages) (more.marker_owed f)
    (whole.markers f) in
    record {
      table = λ key. more.table key ∙ elim (is_named (mentions caps messages) key) as (λ b.
          is_named (mentions caps messages) key ≡ b
          → (if b then view caps start key else peer caps start key) ≡ view caps start key) [
            | true ↦ λ e. refl
            | false ↦ λ e. differ_not _ _ (not_owed _ _ (sym (same key) ∙ e))
          ] refl;
      named = λ key. more.once key ∙ ap (λ b. if b then 1 else 0) (same key);
      marked = λ f. more.marked_once f ∙ ap (λ b. if b then 1 else 0) (same_marks f);
      few =
          let four = at_most_one (is_marked Ipv4 messages) in
          let six = at_most_one (is_marked Ipv6 messages) in
          let a = more.marked_once Ipv4 in
          let b = more.marked_once Ipv6 in
          let c = more.few in omega arith;
    }

pub settled : Grammar → Settled
settled grammar steps caps legal at key free =
    let sofar = so_far grammar steps legal caps at in
    let start = first_cut steps in
    sofar.table key ∙ elim (is_named (mentions caps (batch steps)) key) as (λ b.
    is_named (mentions caps (batch steps)) key ≡ b
    → (if b then view caps start key else peer caps start key) ≡ view caps start key) [
      | true ↦ λ e. refl
      | false ↦ λ e. differ_not _ _
          (not_owed _ _ (sym (owed_is_named (is_owed caps start key) (is_named (mentions caps (batch steps)) key)
          (sofar.owed key) free) ∙ e))
    ] refl

pub nothing_pending : Grammar → NothingPending
nothing_pending grammar later steps caps h at key =
    let legal = legal_front later (Cut Nothing ∷ steps) h in
    let one : legal.0.0 ≡ caps = same_Some _ _ (sym (live_stands steps _ legal.0.1) ∙ at) in
    let none : is_left caps steps key ≡ false = subst (λ c. is_left c steps key ≡ false) one (legal.0.3.keys key) in
    settled grammar steps caps legal.1 at key none ∙ rw legal.0.2 refl

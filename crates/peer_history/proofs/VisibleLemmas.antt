-- A session carries visible keys alone.
use Rattle.std.proofs.Common.{◌≡◌, Bool, true, false, List, [], ◌∷◌, ◌++◌, Some, None, refl, sym, ap, ◌∙◌, subst, inl}
use Rattle.std.proofs.Common.{inr}
use Rattle.std.specs.Prelude.{◌&&◌, ◌||◌, ◌==◌, ◌⊎◌, if◌then◌else◌, unwrap_or, IsSome, is_some}
use Rattle.std.proofs.Common.{eqb-true}
use Rattle.std.proofs.lemmas.Bool.{and_parts, or_cases}
use Rattle.std.proofs.lemmas.Option.{same_Some}
use Rattle.route_values.specs.declared.key.Key.{Key}
use Rattle.route_values.specs.Caps.{Caps}
use Rattle.route_values.specs.Key.{family_of_key}
use Rattle.route_values.specs.Visible.{IsVisible, has_path}
use Rattle.update_grammar.specs.Net.{net}
use Rattle.peer_history.specs.Batches.{opened, first_cut, is_owed, is_refreshed}
use Rattle.peer_history.specs.Cuts.{IsLegal}
use Rattle.peer_history.specs.Keys.{is_named}
use Rattle.peer_history.specs.Laws.{HeldAreVisible, LeftAreVisible}
use Rattle.peer_history.specs.Messages.{marks, value_given}
use Rattle.peer_history.specs.Same.{differ}
use Rattle.peer_history.specs.Sessions.{session, session_effects, peer}
use Rattle.peer_history.specs.Steps.{Step}
use Rattle.peer_history.specs.Steps.Step.{Up, Down, Cut}
use Rattle.peer_history.specs.Steps.Answer.{Message}
use Rattle.peer_history.specs.Table.{want, settings_in, is_visible, route_sent, view}
use Rattle.peer_history.proofs.BatchLemmas.{due_for, are_said}
use Rattle.peer_history.proofs.KeyLemmas.{each_named}
use Rattle.peer_history.proofs.MessageLemmas.{Grammar, names_keys, net_meant, said_is, written_marks}
use Rattle.peer_history.proofs.SessionLemmas.{legal_tail, at_session}

-- what the test passes is visible
is_visible_so : (caps : Caps) (key : Key) → is_visible caps key ≡ true → IsVisible key caps
is_visible_so caps key h =
    let both = and_parts _ _ h in
    let plain : (key.id == 0) ≡ true → IsVisible key caps = λ e. (both.0, inl (eqb-true key.id 0 e)) in
    let by_path : has_path caps (family_of_key key) ≡ true → IsVisible key caps = λ e. (both.0, inr e) in
    elim (or_cases (key.id == 0) (has_path caps (family_of_key key)) both.1) [
      | inl e ↦ plain e
      | inr e ↦ by_path e
    ]

-- the value at a key after a message more
pub peer_after : Grammar → (caps : Caps) (steps : List Step) (bytes : List _) (last : Bool)
    → IsLegal (Cut (Message bytes last) ∷ steps) → session steps ≡ Some caps → (key : Key)
    → IsSome (peer caps (Cut (Message bytes last) ∷ steps) key)
    → IsSome (view caps (first_cut steps) key) ⊎ IsSome (peer caps steps key)
peer_after grammar caps steps bytes last legal at key h =
    let may = at_session caps steps bytes last at legal in
    let for_head = due_for caps steps may.head may.keys may.due in
    let are = are_said caps steps bytes may.head may.keys
    (λ f. ap (marks f) may.text ∙ written_marks grammar caps may.head may.keys for_head f) may.due in
    let now : peer caps (Cut (Message bytes last) ∷ steps) key
    ≡ (if is_named may.keys key then value_given may.head else peer caps steps key) =
    ap (λ effects. net (session_effects caps steps ++ effects) key) (said_is grammar caps bytes _ may.spelled)
    ∙ net_meant (session_effects caps steps) may.head may.keys key (names_keys may.head may.keys for_head) in
    elim (is_named may.keys key) as (λ b. is_named may.keys key ≡ b
    → is_some (if b then value_given may.head else peer caps steps key) ≡ true
    → IsSome (view caps (first_cut steps) key) ⊎ IsSome (peer caps steps key)) [
      | true ↦ λ e q. inl (ap is_some (each_named (λ k. view caps (first_cut steps) k ≡ value_given may.head) may.keys
          are.each key e) ∙ q)
      | false ↦ λ e q. inr q
    ] refl (sym (ap is_some now) ∙ h)

view_visible : (caps : Caps) (steps : List Step) (key : Key) → IsSome (view caps steps key)
    → is_visible caps key ≡ true
view_visible caps steps key h =
    elim (is_visible caps key) as (λ b. is_some (if b then route_sent (settings_in steps) (want steps key) else None)
    ≡ true → b ≡ true) [
      | true ↦ λ e. refl
      | false ↦ λ e. e
    ] h

held_visible : Grammar → (steps : List Step) → IsLegal steps → (caps : Caps) → session steps ≡ Some caps → (key : Key)
    → IsSome (peer caps steps key) → is_visible caps key ≡ true
held_visible grammar [] legal caps at key h = cc
held_visible grammar (Up c ∷ steps) legal caps at key h = cc
held_visible grammar (Down ∷ steps) legal caps at key h = cc
held_visible grammar (Cut (Message bytes last) ∷ steps) legal caps at key h =
    elim (peer_after grammar caps steps bytes last legal at key h) [
      | inl shown ↦ view_visible caps (first_cut steps) key shown
      | inr had ↦ held_visible grammar steps legal.1 caps at key had
    ]
held_visible grammar (step ∷ steps) legal caps at key h =
    held_visible grammar steps (legal_tail step steps legal) caps at key h

-- what is owed is visible, where only visible keys are held
owed_visible : (caps : Caps) (steps : List Step) (key : Key)
    → (IsSome (peer caps steps key) → is_visible caps key ≡ true) → is_owed caps steps key ≡ true
    → is_visible caps key ≡ true
owed_visible caps steps key held h =
    let route = route_sent (settings_in steps) (want steps key) in
    elim (is_visible caps key) as (λ v. is_visible caps key ≡ v
    → (differ (peer caps steps key) (if v then route else None)
    || (is_some (if v then route else None) && is_refreshed steps (family_of_key key))) ≡ true → v ≡ true) [
      | true ↦ λ e q. refl
      | false ↦ λ e q. elim (peer caps steps key) as (λ o. peer caps steps key ≡ o
          → (differ o None || false) ≡ true → false ≡ true) [
            | None ↦ λ p r. r
            | Some w ↦ λ p r. sym e ∙ held (ap is_some p)
          ] refl q
    ] refl h

at_opened : (steps start : List Step) (caps : Caps) → IsLegal steps → session steps ≡ Some caps
    → opened steps ≡ Some start → IsLegal start × (session start ≡ Some caps)
at_opened [] start caps legal at o = cc
at_opened (Up c ∷ steps) start caps legal at o = cc
at_opened (Down ∷ steps) start caps legal at o = cc
at_opened (Cut (Message bytes true) ∷ steps) start caps legal at o = cc
at_opened (Cut (Message bytes false) ∷ steps) start caps legal at o =
    elim (opened steps) as (λ q. opened steps ≡ q → unwrap_or q steps ≡ start
    → IsLegal start × (session start ≡ Some caps)) [
      | None ↦ λ e f. subst (λ t. IsLegal t × (session t ≡ Some caps)) f (legal.1, at)
      | Some earlier ↦ λ e f. at_opened steps start caps legal.1 at (e ∙ ap Some f)
    ] refl (same_Some _ _ o)
at_opened (step ∷ steps) start caps legal at o = at_opened steps start caps (legal_tail step steps legal) at o

at_first : (steps : List Step) (caps : Caps) → IsLegal steps → session steps ≡ Some caps
    → IsLegal (first_cut steps) × (session (first_cut steps) ≡ Some caps)
at_first steps caps legal at =
    elim (opened steps) as (λ q. opened steps ≡ q
    → IsLegal (unwrap_or q steps) × (session (unwrap_or q steps) ≡ Some caps)) [
      | None ↦ λ e. (legal, at)
      | Some start ↦ λ e. at_opened steps start caps legal at e
    ] refl

pub held_are_visible : Grammar → HeldAreVisible
held_are_visible grammar steps caps legal at key h =
    is_visible_so caps key (held_visible grammar steps legal caps at key h)

pub left_are_visible : Grammar → LeftAreVisible
left_are_visible grammar steps caps legal at key h =
    let first = at_first steps caps legal at in
    is_visible_so caps key (owed_visible caps (first_cut steps) key
    (held_visible grammar (first_cut steps) first.0 caps first.1 key) (and_parts _ _ h).0)

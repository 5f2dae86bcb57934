-- Sessions and their messages add no node.
use Rattle.std.proofs.Common.{◌≡◌, Bool, true, false, List, ◌∷◌, Some, None, refl, sym, ap, ◌∙◌, subst, inl, inr}
use Rattle.std.specs.Prelude.{◌||◌, ◌⊎◌, if◌then◌else◌, Option, unwrap_or, IsSome, is_some}
use Rattle.std.specs.Option.{option_or}
use Rattle.std.proofs.lemmas.Bool.{or_cases}
use Rattle.route_values.specs.declared.addr.Family.{Family}
use Rattle.route_values.specs.declared.key.Key.{Key}
use Rattle.route_values.specs.declared.settings.Settings.{Settings}
use Rattle.route_values.specs.Caps.{Caps}
use Rattle.peer_history.specs.Batches.{opened, first_cut}
use Rattle.peer_history.specs.Laws.{AddsNoNode, SessionsAddNoNode}
use Rattle.peer_history.specs.Nodes.{is_targeted, is_held, is_node}
use Rattle.peer_history.specs.Sessions.{session, reset, live, peer}
use Rattle.peer_history.specs.Steps.{Step, Answer, Code}
use Rattle.peer_history.specs.Steps.Step.{Ended, Refreshed, Cut}
use Rattle.peer_history.specs.Steps.Answer.{NoSession, Reset, Nothing, Message}
use Rattle.peer_history.specs.Table.{Route, want, settings_in, is_visible, route_sent, view}
use Rattle.peer_history.proofs.MessageLemmas.{Grammar}
use Rattle.peer_history.proofs.SessionLemmas.{live_stands}
use Rattle.peer_history.proofs.VisibleLemmas.{peer_after}

pub either : (a b : Bool) → (a ≡ true) ⊎ (b ≡ true) → (a || b) ≡ true
either true b h = refl
either false b (inl e) = cc
either false b (inr e) = e

alone : (a : Bool) → (a || false) ≡ true → a ≡ true
alone true h = refl
alone false h = h

-- a view shows wanted keys alone
sent_wanted : (settings : Option Settings) (route : Option Route) → IsSome (route_sent settings route) → IsSome route
sent_wanted settings (Some route) h = refl
sent_wanted None None h = h
sent_wanted (Some own) None h = h

pub shown_wanted : (caps : Caps) (steps : List Step) (key : Key) → IsSome (view caps steps key)
    → IsSome (want steps key)
shown_wanted caps steps key h =
    elim (is_visible caps key) as (λ b. is_some (if b then route_sent (settings_in steps) (want steps key) else None)
    ≡ true → IsSome (want steps key)) [
      | true ↦ λ e. sent_wanted (settings_in steps) (want steps key) e
      | false ↦ λ e. cc
    ] h

-- what a live session needs is a node
held_node : (caps : Caps) (steps : List Step) (key : Key) → live steps ≡ Some caps
    → (IsSome (peer caps steps key) ⊎ (is_targeted caps (opened steps) key ≡ true)) → is_node steps key ≡ true
held_node caps steps key at h =
    either _ _ (inr (subst (λ l. is_held l steps key ≡ true) (sym at) (either _ _ h)))

-- what the open batch, or one that begins now, is to bring about is a node
target_node : (caps : Caps) (steps : List Step) (key : Key) → live steps ≡ Some caps
    → IsSome (view caps (first_cut steps) key) → is_node steps key ≡ true
target_node caps steps key at h =
    elim (opened steps) as (λ q. opened steps ≡ q → IsSome (view caps (unwrap_or q steps) key)
    → is_node steps key ≡ true) [
      | None ↦ λ e shown. either _ _ (inl (shown_wanted caps steps key shown))
      | Some start ↦ λ e shown. held_node caps steps key at
          (inr (subst (λ q. is_targeted caps q key ≡ true) (sym e) shown))
    ] refl h

targeted : (caps : Caps) (steps : List Step) (last : Bool) (key : Key)
    → is_targeted caps (if last then None else Some (first_cut steps)) key ≡ true
    → IsSome (view caps (first_cut steps) key)
targeted caps steps true key h = cc
targeted caps steps false key h = h

message_adds : Grammar → (bytes : List _) (last : Bool) → AddsNoNode (Cut (Message bytes last))
message_adds grammar bytes last steps legal key h =
    let caps = legal.0.0 in
    let at = legal.0.1 in
    let held : is_held (live steps) (Cut (Message bytes last) ∷ steps) key ≡ true → is_node steps key ≡ true =
    λ e. elim (or_cases _ _ (subst (λ l. is_held l (Cut (Message bytes last) ∷ steps) key ≡ true) at e)) [
      | inl had ↦ elim (peer_after grammar caps steps bytes last legal (live_stands steps caps at) key had) [
        | inl shown ↦ target_node caps steps key at shown
        | inr has ↦ held_node caps steps key at (inl has)
      ]
      | inr shown ↦ target_node caps steps key at (targeted caps steps last key shown)
    ] in
    elim (or_cases _ _ h) [
      | inl wanted ↦ either _ _ (inl wanted)
      | inr e ↦ held e
    ]

-- a step that leaves what a session needs as it was
same_nodes : (steps : List Step) (key : Key) (held : Option Caps → Bool)
    → ((l : Option Caps) → held l ≡ is_held l steps key)
    → (is_some (want steps key) || held (live steps)) ≡ true → is_node steps key ≡ true
same_nodes steps key held same h = sym (ap (λ b. is_some (want steps key) || b) (same (live steps))) ∙ h

by_session : (P : Option Caps → Type 0) → P None → ((caps : Caps) → P (Some caps)) → (l : Option Caps) → P l
by_session P none some None = none
by_session P none some (Some caps) = some caps

cut_adds : Grammar → (answer : Answer) → AddsNoNode (Cut answer)
cut_adds grammar NoSession steps legal key h =
    same_nodes steps key (λ l. is_held l (Cut NoSession ∷ steps) key)
    (by_session (λ l. is_held l (Cut NoSession ∷ steps) key ≡ is_held l steps key) refl (λ caps. refl)) h
cut_adds grammar (Reset code) steps legal key h =
    same_nodes steps key (λ l. is_held l (Cut (Reset code) ∷ steps) key)
    (by_session (λ l. is_held l (Cut (Reset code) ∷ steps) key ≡ is_held l steps key) refl (λ caps. refl)) h
cut_adds grammar Nothing steps legal key h =
    same_nodes steps key (λ l. is_held l (Cut Nothing ∷ steps) key)
    (by_session (λ l. is_held l (Cut Nothing ∷ steps) key ≡ is_held l steps key) refl (λ caps. refl)) h
cut_adds grammar (Message bytes last) steps legal key h = message_adds grammar bytes last steps legal key h

-- a session that was ended is not live
ended_live : (steps : List Step) (code : Code) (was : Option Code)
    → (if is_some (option_or was (Some code)) then None else session steps) ≡ None
ended_live steps code None = refl
ended_live steps code (Some first) = refl

ended_adds : (code : Code) → AddsNoNode (Ended code)
ended_adds code steps legal key h =
    let gone = ended_live steps code (reset steps) in
    let wanted : (is_some (want steps key) || false) ≡ true =
    subst (λ l. (is_some (want steps key) || is_held l (Ended code ∷ steps) key) ≡ true) gone h in
    either _ _ (inl (alone _ wanted))

refreshed_adds : (family : Family) → AddsNoNode (Refreshed family)
refreshed_adds family steps legal key h =
    same_nodes steps key (λ l. is_held l (Refreshed family ∷ steps) key)
    (by_session (λ l. is_held l (Refreshed family ∷ steps) key ≡ is_held l steps key) refl (λ caps. refl)) h

pub sessions_add_no_node : Grammar → SessionsAddNoNode
sessions_add_no_node grammar = record {
  up = λ caps steps legal key h. either _ _ (inl (alone _ h));
  down = λ steps legal key h. either _ _ (inl (alone _ h));
  ended = ended_adds;
  refreshed = refreshed_adds;
  cut = cut_adds grammar;
}

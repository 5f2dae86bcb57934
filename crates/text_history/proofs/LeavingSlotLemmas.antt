-- The steps of a slot whose session came up and had no message yet, and messages that are cut behind them.
use Rattle.std.proofs.Common.{ℕ, ◌≡◌, Bool, true, false, not, List, [], ◌∷◌, ◌++◌, Some, None, refl, ap, ◌∙◌}
use Rattle.std.specs.Prelude.{◌&&◌, ◌||◌, is_some, Option, unwrap_or}
use Rattle.route_values.specs.declared.addr.Family.{Family}
use Rattle.route_values.specs.declared.attrs.WireAttrs.{WireAttrs}
use Rattle.route_values.specs.declared.key.Key.{Key}
use Rattle.route_values.specs.Caps.{Caps}
use Rattle.route_values.specs.Key.{family_of_key}
use Rattle.route_values.specs.Visible.{has_family}
use Rattle.update_grammar.specs.declared.effect.Effect.{Effect}
use Rattle.update_grammar.specs.Net.{net}
use Rattle.peer_history.specs.Batches.{opened, first_cut, batch, has_batch, is_refreshed, is_owed, is_marker_owed}
use Rattle.peer_history.specs.Messages.{said}
use Rattle.peer_history.specs.Same.{differ}
use Rattle.peer_history.specs.Sessions.{live, session, session_effects}
use Rattle.peer_history.specs.Steps.{Step}
use Rattle.peer_history.specs.Steps.Step.{Up, Down, Cut}
use Rattle.peer_history.specs.Steps.Answer.{Message}
use Rattle.peer_history.specs.Table.{view}
use Rattle.peer_history.proofs.SessionLemmas.{no_message}
use Rattle.book_history.proofs.StepLemmas.{AreQuiet}

-- a session came up, and no message was cut in it
pub record IsFresh (caps : Caps) (steps : List Step) : Type 0 where
  pub at : session steps ≡ Some caps
  pub closed : opened steps ≡ None
  pub unsent : has_batch steps ≡ false
  pub silent : session_effects caps steps ≡ []

pub fresh_up : (caps : Caps) (steps : List Step) → IsFresh caps (Up caps ∷ steps)
fresh_up caps steps = record { at = refl; closed = refl; unsent = refl; silent = refl }

pub fresh_quiet : (caps : Caps) (quiet steps : List Step) → AreQuiet quiet → IsFresh caps steps
    → IsFresh caps (quiet ++ steps)
fresh_quiet caps [] steps still fresh = fresh
fresh_quiet caps (Up other ∷ quiet) steps still fresh = absurd still
fresh_quiet caps (Down ∷ quiet) steps still fresh = absurd still
fresh_quiet caps (Cut answer ∷ quiet) steps still fresh = absurd still
fresh_quiet caps (one ∷ quiet) steps still fresh =
    let rest = fresh_quiet caps quiet steps still fresh in
    record { at = rest.at; closed = rest.closed; unsent = rest.unsent; silent = rest.silent }

-- ---- messages, the newest first, each with whether it is the last of its batch

-- the steps behind them
abbrev pub cut_each : List (List ℕ × Bool) → List Step → List Step
cut_each [] steps = steps
cut_each (message ∷ older) steps = Cut (Message message.0 message.1) ∷ cut_each older steps

-- messages of which none is the last
abbrev pub more_each : List (List ℕ) → List (List ℕ × Bool)
more_each [] = []
more_each (bytes ∷ older) = (bytes, false) ∷ more_each older

-- messages of which the newest is the last
abbrev pub finished : List (List ℕ) → List (List ℕ × Bool)
finished [] = []
finished (bytes ∷ older) = (bytes, true) ∷ more_each older

-- the steps behind messages of which none is the last
abbrev pub behind : List (List ℕ) → List Step → List Step
behind older steps = cut_each (more_each older) steps

-- what messages say, the oldest first
abbrev pub told : Caps → List (List ℕ) → List Effect
told caps [] = []
told caps (bytes ∷ older) = told caps older ++ said caps bytes

-- the texts of messages
abbrev pub texts : List (List ℕ × Bool) → List (List ℕ)
texts [] = []
texts (message ∷ older) = message.0 ∷ texts older

texts_more : (older : List (List ℕ)) → texts (more_each older) ≡ older
texts_more [] = refl
texts_more (bytes ∷ older) = ap (λ those. bytes ∷ those) (texts_more older)

pub texts_finished : (messages : List (List ℕ)) → texts (finished messages) ≡ messages
texts_finished [] = refl
texts_finished (bytes ∷ older) = ap (λ those. bytes ∷ those) (texts_more older)

pub live_stays : (sent : List (List ℕ × Bool)) (steps : List Step) → live (cut_each sent steps) ≡ live steps
live_stays [] steps = refl
live_stays (message ∷ older) steps = live_stays older steps

pub session_stays : (sent : List (List ℕ × Bool)) (steps : List Step)
    → session (cut_each sent steps) ≡ session steps
session_stays [] steps = refl
session_stays (message ∷ older) steps = session_stays older steps

pub view_stays : (caps : Caps) (sent : List (List ℕ × Bool)) (steps : List Step) (key : Key)
    → view caps (cut_each sent steps) key ≡ view caps steps key
view_stays caps [] steps key = refl
view_stays caps (message ∷ older) steps key = view_stays caps older steps key

-- ---- behind a fresh session

none_owed : (table : Option WireAttrs) (again : Bool)
    → (differ None table || (is_some table && again)) ≡ is_some table
none_owed None again = refl
none_owed (Some attrs) again = refl

and_true : (a : Bool) → (a && true) ≡ a
and_true true = refl
and_true false = refl

module _ (caps : Caps) (start : List Step) (fresh : IsFresh caps start) where
  -- the session owes each key of the table, and each marker
  pub owed_is : (key : Key) → is_owed caps start key ≡ is_some (view caps start key)
  owed_is key =
      ap (λ effects. differ (net effects key) (view caps start key)
      || (is_some (view caps start key) && is_refreshed start (family_of_key key))) fresh.silent
      ∙ none_owed (view caps start key) (is_refreshed start (family_of_key key))

  pub marker_is : (family : Family) → is_marker_owed caps start family ≡ has_family caps family
  marker_is family =
      ap (λ so. has_family caps family && not so) fresh.unsent ∙ and_true (has_family caps family)

  pub told_is : (sent : List (List ℕ × Bool)) → session_effects caps (cut_each sent start) ≡ told caps (texts sent)
  told_is [] = fresh.silent
  told_is (message ∷ older) = ap (λ effects. effects ++ said caps message.0) (told_is older)

  -- messages of which none is the last are an open batch that began there
  pub first_is : (older : List (List ℕ)) → first_cut (behind older start) ≡ start
  first_is [] = ap (λ at. unwrap_or at start) fresh.closed
  first_is (bytes ∷ older) = first_is older

  pub open_is : (bytes : List ℕ) (older : List (List ℕ)) → opened (behind (bytes ∷ older) start) ≡ Some start
  open_is bytes older = ap Some (first_is older)

  pub batch_is : (older : List (List ℕ)) → batch (behind older start) ≡ older
  batch_is [] = no_message start fresh.closed
  batch_is (bytes ∷ older) = ap (λ those. bytes ∷ those) (batch_is older)

  pub none_refreshed : (older : List (List ℕ)) (family : Family)
      → (is_some (opened (behind older start)) && is_refreshed (behind older start) family) ≡ false
  none_refreshed [] family = ap (λ at. is_some at && is_refreshed start family) fresh.closed
  none_refreshed (bytes ∷ older) family = none_refreshed older family

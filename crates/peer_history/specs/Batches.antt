-- Batches: the messages that lead a peer from what it has to one state of the table. A batch begins with a message
-- where none is open, and is whole with its last message.
use Rattle.std.specs.Prelude.{ℕ, ◌≡◌, ◌&&◌, ◌||◌, Bool, true, false, not, List, [], ◌∷◌, if◌then◌else◌}
use Rattle.std.specs.Prelude.{Option, Some, None, unwrap_or, is_some}
use Rattle.route_values.specs.declared.addr.Family.{Family}
use Rattle.route_values.specs.declared.key.Key.{Key}
use Rattle.route_values.specs.Caps.{Caps}
use Rattle.route_values.specs.Key.{family_of_key}
use Rattle.route_values.specs.Visible.{has_family}
use Rattle.peer_history.specs.Keys.{is_named}
use Rattle.peer_history.specs.Messages.{mentions, is_marked}
use Rattle.peer_history.specs.Same.{differ, same_family}
use Rattle.peer_history.specs.Sessions.{live, peer}
use Rattle.peer_history.specs.Steps.{Step}
use Rattle.peer_history.specs.Steps.Step.{Up, Down, Refreshed, Cut}
use Rattle.peer_history.specs.Steps.Answer.{Message}
use Rattle.peer_history.specs.Table.{view}

-- the history before the first cut of the batch that is open
abbrev pub opened : List Step → Option (List Step)
opened [] = None
opened (Up caps ∷ steps) = None
opened (Down ∷ steps) = None
opened (Cut (Message bytes last) ∷ steps) = if last then None else Some (unwrap_or (opened steps) steps)
opened (_ ∷ steps) = opened steps

-- the history before the first cut of the batch that a message would belong to: its target is the view there
abbrev pub first_cut : List Step → List Step
first_cut steps = unwrap_or (opened steps) steps

-- the messages of the batch that is open, the newest first
abbrev pub batch : List Step → List (List ℕ)
batch [] = []
batch (Up caps ∷ steps) = []
batch (Down ∷ steps) = []
batch (Cut (Message bytes last) ∷ steps) = if last then [] else bytes ∷ batch steps
batch (_ ∷ steps) = batch steps

-- whether the session has had a message
abbrev pub has_batch : List Step → Bool
has_batch [] = false
has_batch (Up caps ∷ steps) = false
has_batch (Down ∷ steps) = false
has_batch (Cut (Message bytes last) ∷ steps) = true
has_batch (_ ∷ steps) = has_batch steps

-- whether the family was refreshed in the live session since the first cut of its last batch, or since it came up
abbrev pub is_refreshed : List Step → Family → Bool
is_refreshed [] family = false
is_refreshed (Up caps ∷ steps) family = false
is_refreshed (Down ∷ steps) family = false
is_refreshed (Refreshed named ∷ steps) family =
    (is_some (live steps) && same_family named family) || is_refreshed steps family
is_refreshed (Cut (Message bytes last) ∷ steps) family = is_some (opened steps) && is_refreshed steps family
is_refreshed (_ ∷ steps) family = is_refreshed steps family

-- whether a batch that begins now owes the key: the peer lacks its value, or it has one and is to be sent again
abbrev pub is_owed : Caps → List Step → Key → Bool
is_owed caps steps key =
    differ (peer caps steps key) (view caps steps key)
    || (is_some (view caps steps key) && is_refreshed steps (family_of_key key))

-- whether it owes the family's marker: the first batch of a session does
abbrev pub is_marker_owed : Caps → List Step → Family → Bool
is_marker_owed caps steps family = has_family caps family && not (has_batch steps)

-- whether the batch that is open, or one that begins now, owes the key still
abbrev pub is_left : Caps → List Step → Key → Bool
is_left caps steps key = is_owed caps (first_cut steps) key && not (is_named (mentions caps (batch steps)) key)

-- whether it owes the family's marker still
abbrev pub is_marker_left : Caps → List Step → Family → Bool
is_marker_left caps steps family = is_marker_owed caps (first_cut steps) family && not (is_marked family (batch steps))

-- no key is left
abbrev pub NoKeyLeft : Caps → List Step → Type 0
NoKeyLeft caps steps = (key : Key) → is_left caps steps key ≡ false

-- no key and no marker is left
pub record NothingLeft (caps : Caps) (steps : List Step) : Type 0 where
  pub keys : NoKeyLeft caps steps
  pub markers : (family : Family) → is_marker_left caps steps family ≡ false

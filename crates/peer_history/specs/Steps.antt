-- What may happen to one neighbour slot. Its history is a list of steps, the newest first.
use Rattle.std.specs.Prelude.{ℕ, Bool, List}
use Rattle.route_values.specs.declared.addr.Family.{Family}
use Rattle.route_values.specs.declared.attrs.Attrs.{Attrs}
use Rattle.route_values.specs.declared.key.Key.{Key}
use Rattle.route_values.specs.declared.settings.Settings.{Settings}
use Rattle.route_values.specs.Caps.{Caps}

-- a static route of a configuration: its key, and its attributes as they are written
pub record Static : Type 0 where
  pub key : Key
  pub attrs : Attrs

-- the code and the subcode of a NOTIFICATION (RFC 4271, section 4.5)
pub record Code : Type 0 where
  pub code : ℕ
  pub sub : ℕ

-- what a cut answers: no session stands; the code that ended it; nothing is to be sent; or one message, and whether it
-- is the last of its batch
pub data Answer : Type 0 where
  NoSession : Answer
  Reset : Code → Answer
  Nothing : Answer
  Message : List ℕ → Bool → Answer

pub data Step : Type 0 where
  -- a helper's routes are announced, are withdrawn, or all routes are taken out
  Announced : List Key → Attrs → Step
  Withdrawn : List Key → Step
  Cleared : Step
  -- another neighbour takes the slot, the one that is in it has a new section, or none is in it any longer
  Placed : Settings → List Static → Step
  Kept : Settings → List Static → Step
  Vacated : Step
  -- a session comes up, goes down, is to end with a code, or has a family refreshed
  Up : Caps → Step
  Down : Step
  Ended : Code → Step
  Refreshed : Family → Step
  -- the next message is asked for
  Cut : Answer → Step

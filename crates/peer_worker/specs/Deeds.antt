-- What a worker does on a link, deed by deed. What it says and what it enters are functions of the deeds.
use Rattle.std.specs.Prelude.{ℕ, List, [], ◌∷◌}
use Rattle.std.specs.List.{flat_map}
use Rattle.route_values.specs.Caps.{Caps}
use Rattle.route_values.specs.declared.addr.Family.{Family}
use Rattle.route_values.specs.declared.settings.Settings.{Settings}
use Rattle.update_grammar.specs.Written.{message}
use Rattle.frame_cutter.specs.declared.refusal.Refusal.{Refusal}
use Rattle.session_codec.specs.Numbers.{open_type, notification_type, keepalive_type}
use Rattle.session_codec.specs.Written.{open_body, notification_body}
use Rattle.book_history.specs.Entries.{Entry}
use Rattle.book_history.specs.Entries.Entry.{CameUp, WentDown, RefreshAsked, MessageCut}
use Rattle.book_history.specs.declared.outcomes.Cut.{Cut}
use Rattle.book_history.specs.declared.outcomes.Cut.TheVariants as cut
use Rattle.book_history.specs.declared.outcomes.Up.{Up}

-- a message of the worker's own
pub data Note : Type 0 where
  OpenSaid : Note
  KeepaliveSaid : Note
  RefusalSaid : Refusal → Note

-- A message is said; it is entered that the session came up, that it is no more, or that a family is asked for again;
-- or a message is cut, and said where there is one
pub data Deed : Type 0 where
  Say : Note → Deed
  Rise : Caps → Up → Deed
  Fall : Deed
  Renew : Family → Deed
  Carve : List ℕ → Cut → Deed

abbrev pub open_said : Deed
open_said = Say OpenSaid

abbrev pub keepalive_said : Deed
keepalive_said = Say KeepaliveSaid

abbrev pub refusal_said : Refusal → Deed
refusal_said refusal = Say (RefusalSaid refusal)

abbrev pub fallen : Deed
fallen = Fall

-- a message of the worker's own, by its settings
abbrev pub note_bytes : Settings → Note → List ℕ
note_bytes own OpenSaid = message open_type (open_body own)
note_bytes own KeepaliveSaid = message keepalive_type []
note_bytes own (RefusalSaid refusal) = message notification_type (notification_body refusal)

-- the message that was cut, where there is one
abbrev pub cut_bytes : List ℕ → Cut → List ℕ
cut_bytes bytes cut.Down = []
cut_bytes bytes (cut.Reset code sub) = []
cut_bytes bytes cut.Nothing = []
cut_bytes bytes (cut.Message last) = bytes

-- what a deed says
abbrev pub said_by : Settings → Deed → List ℕ
said_by own (Say note) = note_bytes own note
said_by own (Rise caps given) = []
said_by own Fall = []
said_by own (Renew family) = []
said_by own (Carve bytes given) = cut_bytes bytes given

-- what a deed enters, of a slot with these settings
abbrev pub entered_by : ℕ → Settings → Deed → List Entry
entered_by n own (Say note) = []
entered_by n own (Rise caps given) = CameUp n own caps given ∷ []
entered_by n own Fall = WentDown n ∷ []
entered_by n own (Renew family) = RefreshAsked n family ∷ []
entered_by n own (Carve bytes given) = MessageCut n bytes given ∷ []

abbrev pub all_said : Settings → List Deed → List ℕ
all_said own deeds = flat_map (said_by own) deeds

abbrev pub all_entered : ℕ → Settings → List Deed → List Entry
all_entered n own deeds = flat_map (entered_by n own) deeds

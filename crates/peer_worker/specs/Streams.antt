-- What is said on a link, as one stream of messages.
use Rattle.std.specs.Prelude.{ℕ, ◌≡◌, List, [], ◌∷◌, ◌++◌, Option, Some, None}
use Rattle.std.specs.List.{flat_map}
use Rattle.route_values.specs.declared.settings.Settings.{Settings}
use Rattle.frame_cutter.specs.declared.refusal.Refusal.{Refusal}
use Rattle.book_history.specs.Entries.{Entry}
use Rattle.book_history.specs.Entries.Entry.{MessageCut}
use Rattle.book_history.specs.declared.outcomes.Cut.{Cut}
use Rattle.book_history.specs.declared.outcomes.Cut.TheVariants as cut
use Rattle.peer_worker.specs.Deeds.{OpenSaid, KeepaliveSaid, RefusalSaid, note_bytes}

-- the message of a cut, where it gave one
abbrev pub message_of : List ℕ → Cut → List (List ℕ)
message_of bytes cut.Down = []
message_of bytes (cut.Reset code sub) = []
message_of bytes cut.Nothing = []
message_of bytes (cut.Message last) = bytes ∷ []

-- the same of an entry
abbrev pub cut_by : Entry → List (List ℕ)
cut_by (MessageCut n bytes given) = message_of bytes given
cut_by entry = []

-- the messages that were cut
abbrev pub all_cut : List Entry → List (List ℕ)
all_cut entries = flat_map cut_by entries

-- a KEEPALIVE, or a message that was cut
abbrev pub piece_bytes : Settings → Option (List ℕ) → List ℕ
piece_bytes own None = note_bytes own KeepaliveSaid
piece_bytes own (Some bytes) = bytes

-- the message that was cut
abbrev pub piece_cut : Option (List ℕ) → List (List ℕ)
piece_cut None = []
piece_cut (Some bytes) = bytes ∷ []

-- at most one NOTIFICATION
abbrev pub last_bytes : Settings → Option Refusal → List ℕ
last_bytes own None = []
last_bytes own (Some refusal) = note_bytes own (RefusalSaid refusal)

-- KEEPALIVEs and the messages that were cut, in order, and then at most one NOTIFICATION
pub record IsTail (own : Settings) (bytes : List ℕ) (cuts : List (List ℕ)) : Type 0 where
  pub pieces : List (Option (List ℕ))
  pub last : Option Refusal
  pub bytes_are : bytes ≡ flat_map (piece_bytes own) pieces ++ last_bytes own last
  pub cuts_are : cuts ≡ flat_map piece_cut pieces

-- one OPEN, and then those
pub record IsStream (own : Settings) (bytes : List ℕ) (cuts : List (List ℕ)) : Type 0 where
  pub rest : List ℕ
  pub opens : bytes ≡ note_bytes own OpenSaid ++ rest
  pub tail : IsTail own rest cuts

-- What a whole batch leaves, over every legal history.
use Rattle.std.specs.Prelude.{ℕ, ◌≡◌, ◌+◌, ◌≤◌, true, List, ◌∷◌, ◌++◌, length, if◌then◌else◌, Some}
use Rattle.route_values.specs.declared.addr.Family.{Family}
use Rattle.route_values.specs.declared.key.Key.{Key}
use Rattle.route_values.specs.declared.settings.Settings.{Settings}
use Rattle.route_values.specs.Caps.{Caps}
use Rattle.update_grammar.specs.Packed.{ArePacked}
use Rattle.config_model.specs.Sections.{Sections}
use Rattle.peer_history.specs.Batches.{batch, is_owed, is_marker_owed}
use Rattle.peer_history.specs.Keys.{times_named}
use Rattle.peer_history.specs.Messages.{said_each, mentions, times_marked}
use Rattle.book_history.specs.declared.outcomes.Cut.{Cut}
use Rattle.book_history.specs.declared.outcomes.Cut.TheVariants as cut
use Rattle.book_history.specs.declared.outcomes.Up.{Up}
use Rattle.book_history.specs.Entries.{Entry, History}
use Rattle.book_history.specs.Entries.Entry.{CameUp, WentDown, RefreshAsked, MessageCut}
use Rattle.book_history.specs.Legal.{IsLegal}
use Rattle.book_history.specs.Nodes.{nodes}
use Rattle.book_history.specs.Peers.{first_cut_at, peer_at, session_at, view_at}
use Rattle.book_history.specs.PeerSteps.{steps_of}

-- the messages of the batch that is open in a slot, the newest first
abbrev pub batch_at : Sections → History → ℕ → List (List ℕ)
batch_at cfg H n = batch (steps_of cfg n H)

-- A batch of a slot became whole with this message, which was cut after this history. The peer has the table of the
-- history up to the batch's first cut. Each key and marker owed there was named once, and no other. The messages are
-- packed, and there are no more of them than keys and families.
pub record LeavesTheTable (cfg : Sections) (H : History) (n : ℕ) (caps : Caps) (bytes : List ℕ) : Type 0 where
  pub table : (key : Key) → peer_at cfg (MessageCut n bytes (cut.Message true) ∷ H) n caps key
      ≡ view_at cfg (first_cut_at n H) n caps key
  pub named : (key : Key) → times_named (mentions caps (bytes ∷ batch_at cfg H n)) key
      ≡ (if is_owed caps (steps_of cfg n (first_cut_at n H)) key then 1 else 0)
  pub marked : (family : Family) → times_marked family (bytes ∷ batch_at cfg H n)
      ≡ (if is_marker_owed caps (steps_of cfg n (first_cut_at n H)) family then 1 else 0)
  pub packed : ArePacked caps (said_each caps (bytes ∷ batch_at cfg H n))
  pub few : length (bytes ∷ batch_at cfg H n) ≤ length (mentions caps (bytes ∷ batch_at cfg H n)) + 2

-- over every legal history each whole batch leaves exactly the peer's table
abbrev pub WholeBatches : Type 0
WholeBatches = (cfg : Sections) (later H : History) (n : ℕ) (caps : Caps) (bytes : List ℕ)
    → IsLegal cfg (later ++ (MessageCut n bytes (cut.Message true) ∷ H)) → session_at cfg H n ≡ Some caps
    → LeavesTheTable cfg H n caps bytes

-- where a cut answers that nothing is to be sent, the peer has the table of the whole history
abbrev pub NothingPending : Type 0
NothingPending = (cfg : Sections) (later H : History) (n : ℕ) (caps : Caps) (bytes : List ℕ)
    → IsLegal cfg (later ++ (MessageCut n bytes cut.Nothing ∷ H)) → session_at cfg H n ≡ Some caps → (key : Key)
    → peer_at cfg H n caps key ≡ view_at cfg H n caps key

-- sessions and their messages add no route node, so what a line or a reload was allowed lasts
abbrev pub AddsNoNode : Sections → Entry → History → Type 0
AddsNoNode cfg entry H = IsLegal cfg (entry ∷ H) → nodes cfg (entry ∷ H) ≤ nodes cfg H

pub record SessionsAddNoNode : Type 0 where
  pub up : (cfg : Sections) (H : History) (n : ℕ) (settings : Settings) (caps : Caps) (given : Up)
      → AddsNoNode cfg (CameUp n settings caps given) H
  pub down : (cfg : Sections) (H : History) (n : ℕ) → AddsNoNode cfg (WentDown n) H
  pub refreshed : (cfg : Sections) (H : History) (n : ℕ) (family : Family) → AddsNoNode cfg (RefreshAsked n family) H
  pub cut : (cfg : Sections) (H : History) (n : ℕ) (bytes : List ℕ) (given : Cut)
      → AddsNoNode cfg (MessageCut n bytes given) H

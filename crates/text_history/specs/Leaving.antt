-- What the messages of `encode` leave at a neighbour that reads them by the grammar of UPDATE messages (RFC 4271,
-- section 4.3; RFC 4760; RFC 7911). The End-of-RIB marker is that of RFC 4724, section 2.
use Rattle.std.specs.Prelude.{ℕ, ◌≡◌, ◌<◌, ◌≤◌, ◌==◌, Bool, true, false, List, [], ◌∷◌, ◌++◌, length, reverse}
use Rattle.std.specs.Prelude.{if◌then◌else◌, is_some, slice_get, Option, Some, None}
use Rattle.std.specs.List.{flat_map, AllByRecursion}
use Rattle.route_values.specs.declared.addr.Family.{Family}
use Rattle.route_values.specs.declared.addr.Family.TheVariants.{Ipv4, Ipv6}
use Rattle.route_values.specs.declared.attrs.WireAttrs.{WireAttrs}
use Rattle.route_values.specs.declared.key.Key.{Key}
use Rattle.route_values.specs.Caps.{Caps, no_caps}
use Rattle.update_grammar.specs.Head as head
use Rattle.update_grammar.specs.Net.{net}
use Rattle.update_grammar.specs.Packed.{room, ArePacked}
use Rattle.update_grammar.specs.Update.{Spells}
use Rattle.update_grammar.specs.Written.{written, body_of}
use Rattle.config_model.specs.declared.sections.Neighbor.{Neighbor}
use Rattle.config_model.specs.Sections.{Sections}
use Rattle.peer_history.specs.Keys.{times_named}
use Rattle.peer_history.specs.Messages.{said, said_each, mentions}
use Rattle.peer_history.specs.Sessions.{reset}
use Rattle.peer_history.specs.Steps.{Answer, Code}
use Rattle.peer_history.specs.Steps.Answer.{Reset, Nothing, Message}
use Rattle.book_history.specs.Entries.{History}
use Rattle.book_history.specs.Entries.Entry.{MessageCut}
use Rattle.book_history.specs.Legal.{IsLegal}
use Rattle.book_history.specs.Peers.{session_at, view_at}
use Rattle.book_history.specs.PeerSteps.{answer_of, steps_of}
use Rattle.text_history.specs.Encodes.{IsEncode, caps_sent}

-- what the cuts for a slot were answered, the first cut first
abbrev pub cuts_of : ℕ → History → List Answer
cuts_of n [] = []
cuts_of n (MessageCut m bytes given ∷ H) =
    if m == n then cuts_of n H ++ answer_of bytes given ∷ [] else cuts_of n H
cuts_of n (_ ∷ H) = cuts_of n H

-- the answers by which messages come, of which the final one is said to be the last
abbrev pub as_answers : List (List ℕ) → List Answer
as_answers [] = []
as_answers (bytes ∷ []) = Message bytes true ∷ []
as_answers (bytes ∷ next ∷ others) = Message bytes false ∷ as_answers (next ∷ others)

-- a family's End-of-RIB marker, where the session carries the family
abbrev pub marker_if : Bool → Family → List (List ℕ)
marker_if so family = if so then written no_caps (head.End family) [] ∷ [] else []

-- the markers of a session's families
abbrev pub markers_of : Caps → List (List ℕ)
markers_of caps = marker_if caps.ipv4 Ipv4 ++ marker_if caps.ipv6 Ipv6

-- a message of routes: by the grammar it spells what it is said to say, which is something, and it fits the session
pub record TellsRoutes (caps : Caps) (bytes : List ℕ) : Type 0 where
  pub spelled : Spells caps (body_of bytes) (said caps bytes)
  pub some : 0 < length (said caps bytes)
  pub fits : length bytes ≤ room caps

-- Messages, the first one first, leave exactly this table at a peer that had none. They name each key of the table
-- once, and no other. Those of one kind stand together, and each of them but the last is full.
pub record LeaveTable (caps : Caps) (table : Key → Option WireAttrs) (messages : List (List ℕ)) : Type 0 where
  pub tell : AllByRecursion (TellsRoutes caps) messages
  pub leave : (key : Key) → net (flat_map (said caps) messages) key ≡ table key
  pub named : (key : Key) → times_named (mentions caps messages) key ≡ (if is_some (table key) then 1 else 0)
  pub packed : ArePacked caps (said_each caps (reverse messages))

-- The cuts for a slot: messages of routes that leave the table, then the markers of the session's families, and then
-- nothing more. Of all these messages the final one alone is said to be the last.
pub record CutsLeave (caps : Caps) (table : Key → Option WireAttrs) (cuts : List Answer) : Type 0 where
  pub routes : List (List ℕ)
  pub cuts_are : cuts ≡ as_answers (routes ++ markers_of caps) ++ Nothing ∷ []
  pub table_left : LeaveTable caps table routes

-- the same of a session that nothing ended; the only cut for one that is to end with a code has that code
abbrev pub CutsAre : Caps → (Key → Option WireAttrs) → Option Code → List Answer → Type 0
CutsAre caps table None cuts = CutsLeave caps table cuts
CutsAre caps table (Some code) cuts = cuts ≡ Reset code ∷ []

-- Behind the lines a slot's session stands, with what its settings send. Its cuts leave the table that these lines
-- leave, unless one of them ended the session.
pub record IsServed (cfg : Sections) (answered H : History) (n : ℕ) (caps : Caps) : Type 0 where
  pub stands : session_at cfg answered n ≡ Some caps
  pub cuts : CutsAre caps (view_at cfg answered n caps) (reset (steps_of cfg n answered)) (cuts_of n H)

-- each neighbour of the configuration is served
abbrev pub EncodingsLeaveTables : Type 0
EncodingsLeaveTables = (cfg : Sections) (bytes : List ℕ) (H : History) (encode : IsEncode cfg bytes H) → IsLegal cfg H
    → (n : ℕ) (neighbor : Neighbor) → slice_get cfg.neighbors n ≡ Some neighbor
    → IsServed cfg encode.answered H n (caps_sent neighbor.settings)

-- What a slot's session is sent until nothing more is to be sent. The peer reads it by the grammar of UPDATE messages
-- (RFC 4271, section 4.3).
use Rattle.std.specs.Prelude.{ℕ, ◌≡◌, ◌+◌, ◌≤◌, ⊤, Bool, true, List, [], ◌∷◌, ◌++◌, length, map, reverse, if◌then◌else◌}
use Rattle.std.specs.Prelude.{Option, Some, None, Result, Ok, Err, unwrap_or}
use Rattle.std.specs.List.{flat_map}
use Rattle.route_values.specs.declared.addr.Family.{Family}
use Rattle.route_values.specs.declared.attrs.WireAttrs.{WireAttrs}
use Rattle.route_values.specs.declared.key.Key.{Key}
use Rattle.route_values.specs.Caps.{Caps}
use Rattle.update_grammar.specs.declared.effect.Effect.{Effect}
use Rattle.update_grammar.specs.Net.{effect_says, last_word}
use Rattle.update_grammar.specs.Packed.{ArePacked}
use Rattle.config_model.specs.Sections.{Sections}
use Rattle.peer_history.specs.Batches.{is_owed, is_marker_owed}
use Rattle.peer_history.specs.Keys.{times_named}
use Rattle.peer_history.specs.Messages.{said, said_each, mentions, times_marked}
use Rattle.book_history.specs.declared.outcomes.Cut.{Cut}
use Rattle.book_history.specs.declared.outcomes.Cut.TheVariants as cut
use Rattle.book_history.specs.Entries.{History}
use Rattle.book_history.specs.Entries.Entry.{MessageCut}
use Rattle.book_history.specs.Headline.{LeavesTheTable, batch_at}
use Rattle.book_history.specs.Peers.{peer_at, view_at}
use Rattle.book_history.specs.PeerSteps.{steps_of}
use Rattle.book_core.specs.declared.draining.Sent.{Sent}
use Rattle.book_core.specs.Seen.{Seen}
use Rattle.book_core.specs.Stands.{Stands}

-- the history behind messages that were cut for a slot, the oldest first
abbrev pub cut_each : ℕ → List Sent → History → History
cut_each n [] H = H
cut_each n (message ∷ later) H = cut_each n later (MessageCut n message.bytes (cut.Message message.last) ∷ H)

-- their bytes, the newest first
abbrev pub newest_first : List Sent → List (List ℕ)
newest_first messages = reverse (map (λ message. message.bytes) messages)

-- what they say, one behind the other
abbrev pub said_in_turn : Caps → List Sent → List Effect
said_in_turn caps messages = flat_map (λ message. said caps message.bytes) messages

-- what a peer that had a table has behind these effects: the last that names a key counts
abbrev pub left_by : (Key → Option WireAttrs) → List Effect → Key → Option WireAttrs
left_by had effects key = unwrap_or (last_word effect_says effects key) (had key)

-- the messages are one batch: each key and marker that was owed is named once, and no other; those of one kind stand
-- together, each of them but the last is full, and there are no more messages than keys and families
pub record AreOneBatch (cfg : Sections) (H : History) (n : ℕ) (caps : Caps) (sent : List Sent) : Type 0 where
  pub named : (key : Key) → times_named (mentions caps (newest_first sent)) key
      ≡ (if is_owed caps (steps_of cfg n H) key then 1 else 0)
  pub marked : (family : Family) → times_marked family (newest_first sent)
      ≡ (if is_marker_owed caps (steps_of cfg n H) family then 1 else 0)
  pub packed : ArePacked caps (said_each caps (newest_first sent))
  pub few : length sent ≤ length (mentions caps (newest_first sent)) + 2

-- Nothing more is to be sent. Behind what the peer had before, the messages leave exactly the table that the history
-- asks for. Where no batch was open they are one batch.
pub record IsDrained (cfg : Sections) (H : History) (n : ℕ) (caps : Caps) (sent : List Sent) (given : Cut)
    : Type 0 where
  pub answer : given ≡ cut.Nothing
  pub table : (key : Key) → left_by (peer_at cfg H n caps) (said_in_turn caps sent) key ≡ view_at cfg H n caps key
  pub once : batch_at cfg H n ≡ [] → AreOneBatch cfg H n caps sent

-- each message that makes a batch whole leaves the table of that batch's first cut
abbrev pub LeaveTables : Sections → History → ℕ → Caps → List Sent → Type 0
LeaveTables cfg H n caps sent = (before after : List Sent) (bytes : List ℕ)
    → sent ≡ before ++ (record { bytes = bytes; last = true } ∷ after)
    → LeavesTheTable cfg (cut_each n before H) n caps bytes

-- an answer that is no message
abbrev pub IsNoMessage : Cut → Type 0
IsNoMessage (cut.Message last) = ⊥
IsNoMessage _ = ⊤

-- Where the book stands behind messages that were cut: something came in place of one; so many came as were asked for;
-- or memory was wanting, and one more was cut that isn't among them.
abbrev pub Drains : {E : Type 0} → Sections → History → ℕ → List Sent → List ℕ → Result (Option Cut) E → Seen → Type 0
Drains cfg H n sent out (Ok (Some given)) book =
    IsNoMessage given × Stands cfg (MessageCut n out given ∷ cut_each n sent H) book
Drains cfg H n sent out (Ok None) book = Stands cfg (cut_each n sent H) book
Drains cfg H n sent out (Err fault) book =
    (last : Bool) × Stands cfg (MessageCut n out (cut.Message last) ∷ cut_each n sent H) book

-- the same of one cut: a message that came joined those that were sent before
abbrev pub DrainsOne : {E : Type 0} → Sections → History → ℕ → List Sent → List Sent → List ℕ → Result (Option Cut) E
    → Seen → Type 0
DrainsOne cfg H n old new out (Ok None) book =
    (message : Sent) × (new ≡ old ++ message ∷ [])
    × Stands cfg (MessageCut n message.bytes (cut.Message message.last) ∷ H) book
DrainsOne cfg H n old new out given book = (new ≡ old) × Drains cfg H n [] out given book

-- where something came in place of a message, that is all that is to be sent
abbrev pub IsDrainedBy : {E : Type 0} → Sections → History → ℕ → Caps → List Sent → Result (Option Cut) E → Type 0
IsDrainedBy cfg H n caps sent (Ok (Some given)) = IsDrained cfg H n caps sent given
IsDrainedBy cfg H n caps sent _ = ⊤

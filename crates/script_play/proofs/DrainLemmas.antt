-- Messages of a slot, made and written until none comes.
use Rattle.std.proofs.Common.{ℕ, ◌≡◌, true, false, List, [], ◌∷◌, ◌++◌, ◌∙◌, sym, ap, refl, subst, append_assoc}
use Rattle.std.proofs.Common.{append-nil, Option, Result, Ok, Err}
use Rattle.std.specs.Prelude.{IsErrAnd}
use Rattle.std.specs.List.{AllByRecursion}
use Rattle.outside.specs.Seen.{SinkSeen}
use Rattle.outside.specs.Told.{Grows}
use Rattle.outside.proofs.ToldLemmas.{grows_more}
use Rattle.config_model.specs.Sections.{Sections}
use Rattle.book_history.specs.declared.outcomes.Cut.{Cut as Cutting}
use Rattle.book_history.specs.declared.outcomes.Cut.TheVariants as cut
use Rattle.book_history.specs.Entries.{History}
use Rattle.book_history.specs.Entries.Entry.{MessageCut}
use Rattle.answer_texts.specs.Shown.{all_of, shown}
use Rattle.script_grammar.specs.Events.{Drain}
use Rattle.text_history.specs.Plays.{IsDrain, IsMessageOf, is_message}
use Rattle.script_play.specs.declared.halt.Halt.{Halt}
use Rattle.script_play.specs.declared.halt.Halt.TheVariants as halt
use Rattle.script_play.specs.declared.player.Player.{Player}
use Rattle.script_play.specs.Draining.{CutBroken, CutWritten, WritesCut}
use Rattle.script_play.specs.Entering.{Enters}
use Rattle.script_play.specs.Player.{PlayerStands}
use Rattle.script_play.specs.Writing.{Broke, Stops, Wrote}
use Rattle.script_play.proofs.PlayedLemmas.{grows_none, stops_later}

-- ---- one cut

module _ (was mid now : Player) (n : ℕ) (bytes : List ℕ) (given : Cutting)
    (cuts : (cfg : Sections) (H : History) → PlayerStands cfg H was
    → PlayerStands cfg (MessageCut n bytes given ∷ H) mid)
    (keeps : (cfg : Sections) (H : History) → PlayerStands cfg H mid → PlayerStands cfg H now) where
  -- it was written whole
  pub cut_written : (text : List ℕ) (sink sink' : SinkSeen) → text ≡ shown (MessageCut n bytes given)
      → Wrote text sink sink' → (files : ℕ) (cfg : Sections) (H : History) → PlayerStands cfg H was
      → WritesCut cfg H n now files sink sink' (Ok given)
  cut_written text sink sink' is wrote files cfg H stands = record {
    bytes = bytes;
    stands = keeps cfg (MessageCut n bytes given ∷ H) (cuts cfg H stands);
    taken = subst (λ (some : List ℕ). Grows sink.taken sink'.taken some) is wrote.taken;
    same = wrote.same;
  }

  -- a write failed
  pub cut_broken : (text : List ℕ) (sink sink' : SinkSeen) (halted : Halt) → text ≡ shown (MessageCut n bytes given)
      → Broke text sink sink' halted → (files : ℕ) (cfg : Sections) (H : History) → PlayerStands cfg H was
      → WritesCut cfg H n now files sink sink' (Err halted)
  cut_broken text sink sink' halted is broke files cfg H stands = (
    record {
      bytes = bytes;
      given = given;
      legal = (cuts cfg H stands).book.held.legal;
      part = broke.part;
      rest = broke.rest;
      text_is = sym is ∙ broke.text_is;
      taken = broke.taken;
    },
    subst (λ (some : Halt). Stops files files sink sink' some) (sym broke.write) (refl, broke.counts),
  )

  -- memory was wanting for what is printed
  pub cut_unput : (sink : SinkSeen) (result : Result Cutting Halt) → IsErrAnd result (λ halted. halted ≡ halt.Memory)
      → (files : ℕ) (cfg : Sections) (H : History) → PlayerStands cfg H was
      → WritesCut cfg H n now files sink sink result
  cut_unput sink (Ok other) made files cfg H stands = absurd made
  cut_unput sink (Err halted) made files cfg H stands = (
    record {
      bytes = bytes;
      given = given;
      legal = (cuts cfg H stands).book.held.legal;
      part = [];
      rest = shown (MessageCut n bytes given);
      text_is = refl;
      taken = grows_none sink.taken;
    },
    subst (λ (some : Halt). Stops files files sink sink some) (sym made) (refl, refl),
  )

-- ---- the cuts so far

-- messages of a slot were cut, and what is printed of them was written
pub record Drained (cfg : Sections) (H : History) (n : ℕ) (player : Player) (start sink : SinkSeen) : Type 0 where
  pub messages : History
  pub are : AllByRecursion (IsMessageOf n) messages
  pub stands : PlayerStands cfg (messages ++ H) player
  pub taken : Grows start.taken sink.taken (all_of shown messages)
  pub same : sink.faults ≡ start.faults

pub drained_none : (cfg : Sections) (H : History) (n : ℕ) (player : Player) (sink : SinkSeen)
    → PlayerStands cfg H player → Drained cfg H n player sink sink
drained_none cfg H n player sink stands = record {
  messages = [];
  are = tt;
  stands = stands;
  taken = grows_none sink.taken;
  same = refl;
}

-- a cut that made a message is one
message_of : (n : ℕ) (bytes : List ℕ) (given : Cutting) → is_message given ≡ true
    → IsMessageOf n (MessageCut n bytes given)
message_of n bytes cut.Down is = cc
message_of n bytes (cut.Reset code sub) is = cc
message_of n bytes cut.Nothing is = cc
message_of n bytes (cut.Message last) is = record { bytes = bytes; last = last; entry_is = refl }

-- cuts of which only the last may have made no message begin a drain
begins_drain : (n : ℕ) (bytes : List ℕ) (given : Cutting) (messages : History)
    → AllByRecursion (IsMessageOf n) messages
    → (more : History) × IsDrain n (more ++ MessageCut n bytes given ∷ messages)
begins_drain n bytes (cut.Message last) messages are = (
  MessageCut n [] cut.Down ∷ [],
  record {
    bytes = [];
    given = cut.Down;
    messages = MessageCut n bytes (cut.Message last) ∷ messages;
    none = refl;
    are = (message_of n bytes (cut.Message last) refl, are);
    added_are = refl;
  },
)
begins_drain n bytes cut.Down messages are =
    ([], record { bytes = bytes; given = cut.Down; messages = messages; none = refl; are = are; added_are = refl })
begins_drain n bytes (cut.Reset code sub) messages are = (
  [],
  record {
    bytes = bytes;
    given = cut.Reset code sub;
    messages = messages;
    none = refl;
    are = are;
    added_are = refl;
  },
)
begins_drain n bytes cut.Nothing messages are =
    ([], record { bytes = bytes; given = cut.Nothing; messages = messages; none = refl; are = are; added_are = refl })

module _ (content : Option (List ℕ → List ℕ)) (cfg : Sections) (H : History) (n : ℕ) (player : Player)
    (start sink : SinkSeen) (was : Drained cfg H n player start sink) where
  -- one more message
  pub drained_more : (next : Player) (sink' : SinkSeen) (given : Cutting) → is_message given ≡ true
      → CutWritten cfg (was.messages ++ H) n given next sink sink' → Drained cfg H n next start sink'
  drained_more next sink' given is cut = record {
    messages = MessageCut n cut.bytes given ∷ was.messages;
    are = (message_of n cut.bytes given is, was.are);
    stands = cut.stands;
    taken = grows_more start.taken sink.taken sink'.taken (all_of shown was.messages)
        (shown (MessageCut n cut.bytes given)) was.taken cut.taken;
    same = cut.same ∙ was.same;
  }

  -- the first cut that made none
  pub drained_all : (next : Player) (sink' : SinkSeen) (files : ℕ) (given : Cutting) → is_message given ≡ false
      → CutWritten cfg (was.messages ++ H) n given next sink sink'
      → Enters content cfg H (Drain n) next files files start sink' (Ok tt)
  drained_all next sink' files given is cut = (
    record {
      added = MessageCut n cut.bytes given ∷ was.messages;
      adds = record {
        bytes = cut.bytes;
        given = given;
        messages = was.messages;
        none = is;
        are = was.are;
        added_are = refl;
      };
      stands = cut.stands;
      taken = grows_more start.taken sink.taken sink'.taken (all_of shown was.messages)
          (shown (MessageCut n cut.bytes given)) was.taken cut.taken;
      same = cut.same ∙ was.same;
    },
    refl,
  )

  -- a cut that wasn't written whole
  pub drained_part : (next : Player) (sink' : SinkSeen) (files : ℕ) (halted : Halt)
      → CutBroken cfg (was.messages ++ H) n sink sink' → Stops files files sink sink' halted
      → Enters content cfg H (Drain n) next files files start sink' (Err halted)
  drained_part next sink' files halted broken stops =
      let on = begins_drain n broken.bytes broken.given was.messages was.are in (
        record {
          added = MessageCut n broken.bytes broken.given ∷ was.messages;
          more = on.0;
          adds = on.1;
          legal = broken.legal;
          part = all_of shown was.messages ++ broken.part;
          rest = broken.rest;
          text_is = ap (λ (text : List ℕ). all_of shown was.messages ++ text) broken.text_is
              ∙ sym (append_assoc (all_of shown was.messages) broken.part broken.rest);
          taken = grows_more start.taken sink.taken sink'.taken (all_of shown was.messages) broken.part was.taken
              broken.taken;
        },
        stops_later files files files start sink sink' halted refl was.same stops,
      )

  -- messages without an end
  pub drained_long : (files : ℕ) → Enters content cfg H (Drain n) player files files start sink (Err halt.Memory)
  drained_long files = (
    record {
      added = was.messages;
      more = MessageCut n [] cut.Down ∷ [];
      adds = record {
        bytes = [];
        given = cut.Down;
        messages = was.messages;
        none = refl;
        are = was.are;
        added_are = refl;
      };
      legal = was.stands.book.held.legal;
      part = all_of shown was.messages;
      rest = [];
      text_is = sym (append-nil (all_of shown was.messages));
      taken = was.taken;
    },
    (refl, was.same),
  )

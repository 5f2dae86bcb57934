-- What entering an event leaves that is one call of the book.
use Rattle.std.proofs.Common.{ℕ, ◌≡◌, ◌<◌, IsTrue, List, [], ◌∷◌, ◌++◌, sym, subst, ap, ◌∙◌, Option, Result, Ok, Err}
use Rattle.std.specs.Prelude.{OnOk}
use Rattle.config_model.specs.Limits.{max_peers}
use Rattle.config_model.specs.Sections.{Sections}
use Rattle.book_history.specs.declared.outcomes.Peer.{Peer as Told}
use Rattle.book_history.specs.Entries.{Entry, History}
use Rattle.book_history.specs.Entries.Entry.{PeerAsked}
use Rattle.book_core.specs.Stands.{Stands}
use Rattle.answer_texts.specs.Shown.{shown}
use Rattle.script_grammar.specs.Events.{Event}
use Rattle.text_history.specs.Plays.{Asks, is_known}
use Rattle.script_play.specs.declared.player.Player.{Player}
use Rattle.script_play.specs.Entering.{PutsAsked, entered}
use Rattle.script_play.specs.Player.{AreKnown, PlayerStands, known_by}
use Rattle.script_play.proofs.KnownLemmas.{TellsNone, known_on, known_told}

module _ (was now : Player) (event : Event) (entry : Entry) where
  -- the entry is one that the event asks for, wherever the player stands
  abbrev pub IsAsked : Type 0
  IsAsked = (content : Option (List ℕ → List ℕ)) (cfg : Sections) (H : History) → PlayerStands cfg H was
      → IsTrue (is_known H event) → Asks content H event entry

  -- the player stands behind it
  abbrev pub StandsBehind : Type 0
  StandsBehind = (cfg : Sections) (H : History) → PlayerStands cfg H was → PlayerStands cfg (entry ∷ H) now

  pub puts_asked : {E : Type 0} (result : Result (Unit {0}) E) (cleared : List ℕ) → cleared ≡ [] → IsAsked
      → StandsBehind → OnOk result (now.text.items ≡ cleared ++ shown entry) → PutsAsked was now event result
  puts_asked (Ok _) cleared none asks stands text = λ content cfg H is known. record {
    entry = entry;
    asks = asks content cfg H is known;
    stands = stands cfg H is;
    text = text ∙ ap (λ before. before ++ shown entry) none;
  }
  puts_asked (Err _) cleared none asks stands text =
      λ content cfg H is known. entered entry (asks content cfg H is known) (stands cfg H is)

-- The book has the entry, which tells no settings; what is known, and the buffer's room, are as they were.
pub stands_behind : (was now : Player) (entry : Entry) → TellsNone entry
    → ((cfg : Sections) (H : History) → Stands cfg H was.book → Stands cfg (entry ∷ H) now.book)
    → now.known ≡ was.known → now.message.room ≡ was.message.room
    → (cfg : Sections) (H : History) → PlayerStands cfg H was → PlayerStands cfg (entry ∷ H) now
stands_behind was now entry none book known room cfg H is = record {
  book = book cfg H is.book;
  known = subst (AreKnown (entry ∷ H)) (sym known) (known_on H was.known entry none is.known);
  room = room ∙ is.room;
}

-- the same of an entry by which a slot tells its neighbour
pub stands_told : (was now : Player) (n : ℕ) (given : Told) → n < max_peers
    → ((cfg : Sections) (H : History) → Stands cfg H was.book → Stands cfg (PeerAsked n given ∷ H) now.book)
    → now.known ≡ known_by n given was.known → now.message.room ≡ was.message.room
    → (cfg : Sections) (H : History) → PlayerStands cfg H was → PlayerStands cfg (PeerAsked n given ∷ H) now
stands_told was now n given within book known room cfg H is = record {
  book = book cfg H is.book;
  known = subst (AreKnown (PeerAsked n given ∷ H)) (sym known) (known_told H was.known n given within is.known);
  room = room ∙ is.room;
}

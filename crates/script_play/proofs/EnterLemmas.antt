-- What entering an event leaves, and writing what is printed of it.
use Rattle.std.proofs.Common.{ℕ, ◌≡◌, IsTrue, List, [], ◌∷◌}
use Rattle.std.proofs.Common.{◌∙◌, refl, sym, subst, append-nil, Option, Some, None}
use Rattle.std.proofs.Common.{Result, Ok, Err}
use Rattle.std.proofs.lemmas.Bool.{false≢true}
use Rattle.std.specs.Prelude.{IsErrAnd, is_some}
use Rattle.outside.specs.Seen.{SinkSeen}
use Rattle.outside.specs.Told.{Grows}
use Rattle.route_values.specs.declared.settings.Settings.{Settings}
use Rattle.route_grammar.specs.declared.fault.ReadFault.TheVariants as read_fault
use Rattle.config_model.specs.Sections.{Sections}
use Rattle.book_history.specs.declared.outcomes.Control.TheVariants as control
use Rattle.book_history.specs.declared.outcomes.Cut.TheVariants as cut
use Rattle.book_history.specs.declared.outcomes.NotRead.TheVariants as not_read
use Rattle.book_history.specs.declared.outcomes.Peer.TheVariants as peer
use Rattle.book_history.specs.declared.outcomes.Spawn.TheVariants as spawn
use Rattle.book_history.specs.declared.outcomes.Take.TheVariants as take
use Rattle.book_history.specs.declared.outcomes.Up.TheVariants as up
use Rattle.book_history.specs.declared.outcomes.Verdict.TheVariants as verdict
use Rattle.book_history.specs.Entries.{Entry, History}
use Rattle.book_history.specs.Entries.Entry.{LineEntered, RepliesTaken, HelperDeaf, HelperGone, SpawnAsked, PeerAsked}
use Rattle.book_history.specs.Entries.Entry.{CameUp, WentDown, RefreshAsked, MessageCut, ControlAsked, ReloadRefused}
use Rattle.answer_texts.specs.Shown.{shown}
use Rattle.script_grammar.specs.Events.{Event, Spawn, Line, Take, Deaf, Gone, Peer, Up, Down, Refresh, Cut, Drain}
use Rattle.script_grammar.specs.Events.{Control, Reload}
use Rattle.text_history.specs.Plays.{AddsEvent, Asks, is_known, no_memory, settings_told}
use Rattle.script_play.specs.declared.halt.Halt.{Halt}
use Rattle.script_play.specs.declared.halt.Halt.TheVariants as halt
use Rattle.script_play.specs.declared.player.Player.{Player}
use Rattle.script_play.specs.Entering.{Asked, AskedAtMost, Enters, PutsReload, entered, nothing}
use Rattle.script_play.specs.Player.{PlayerStands}
use Rattle.script_play.specs.Writing.{Stops, Writes}
use Rattle.script_play.proofs.PlayedLemmas.{grows_none}

module _ (content : Option (List ℕ → List ℕ)) (H : History) where
  -- what an event asks for is all that it adds
  pub asks_adds : (event : Event) (entry : Entry) → Asks content H event entry → AddsEvent content H event (entry ∷ [])
  asks_adds (Spawn h now) entry asks = (entry, asks, refl)
  asks_adds (Line h inc line) entry asks = (entry, asks, refl)
  asks_adds (Take h inc) entry asks = (entry, asks, refl)
  asks_adds (Deaf h inc) entry asks = (entry, asks, refl)
  asks_adds (Gone h inc) entry asks = (entry, asks, refl)
  asks_adds (Peer n) entry asks = (entry, asks, refl)
  asks_adds (Up n caps) entry asks = (entry, asks, refl)
  asks_adds (Down n) entry asks = (entry, asks, refl)
  asks_adds (Refresh n family) entry asks = (entry, asks, refl)
  asks_adds (Cut n) entry asks = (entry, asks, refl)
  asks_adds (Drain n) entry asks = absurd asks
  asks_adds Control entry asks = (entry, asks, refl)
  asks_adds (Reload path) entry asks = (entry, asks, refl)

  some_settings : (told : Option Settings) → IsTrue (is_some told) → (settings : Settings) × (told ≡ Some settings)
  some_settings (Some settings) known = (settings, refl)
  some_settings None known = absurd (false≢true known)

  -- some entries are those of an event that can be entered
  some_adds : (event : Event) → IsTrue (is_known H event) → (more : History) × AddsEvent content H event more
  some_adds (Spawn h now) known =
      let entry = SpawnAsked h now spawn.Absent in
      (entry ∷ [], asks_adds (Spawn h now) entry (spawn.Absent, refl))
  some_adds (Line h inc line) known =
      let entry = LineEntered h inc line (Err read_fault.NoMemory) verdict.Ended in
      (entry ∷ [], asks_adds (Line h inc line) entry (Err read_fault.NoMemory, verdict.Ended, refl))
  some_adds (Take h inc) known =
      let entry = RepliesTaken h inc take.Ended in
      (entry ∷ [], asks_adds (Take h inc) entry (take.Ended, refl))
  some_adds (Deaf h inc) known = (HelperDeaf h inc ∷ [], asks_adds (Deaf h inc) (HelperDeaf h inc) refl)
  some_adds (Gone h inc) known = (HelperGone h inc ∷ [], asks_adds (Gone h inc) (HelperGone h inc) refl)
  some_adds (Peer n) known =
      let entry = PeerAsked n peer.Absent in (entry ∷ [], asks_adds (Peer n) entry (peer.Absent, refl))
  some_adds (Up n caps) known =
      let told = some_settings (settings_told n H) known in
      let entry = CameUp n told.0 caps up.Stale in
      (entry ∷ [], asks_adds (Up n caps) entry (told.0, told.1, up.Stale, refl))
  some_adds (Down n) known = (WentDown n ∷ [], asks_adds (Down n) (WentDown n) refl)
  some_adds (Refresh n family) known =
      (RefreshAsked n family ∷ [], asks_adds (Refresh n family) (RefreshAsked n family) refl)
  some_adds (Cut n) known =
      let entry = MessageCut n [] cut.Down in (entry ∷ [], asks_adds (Cut n) entry ([], cut.Down, refl))
  some_adds (Drain n) known = (
    MessageCut n [] cut.Down ∷ [],
    record { bytes = []; given = cut.Down; messages = []; none = refl; are = tt; added_are = refl },
  )
  some_adds Control known =
      let entry = ControlAsked control.Nothing in (entry ∷ [], asks_adds Control entry (control.Nothing, refl))
  some_adds (Reload path) known =
      let entry = ReloadRefused not_read.NoMemory in (entry ∷ [], asks_adds (Reload path) entry no_memory)

module _ (content : Option (List ℕ → List ℕ)) (cfg : Sections) (H : History) (event : Event) (player : Player)
    (files files' : ℕ) (same : files' ≡ files) (sink : SinkSeen) where
  -- the entry was made, and what is printed of it was written as far as writing went
  pub enters_written : (sink' : SinkSeen) (text : List ℕ) (result : Result (Unit {0}) Halt)
      → Asked content cfg H event player → text ≡ player.text.items → Writes text sink sink' result
      → Enters content cfg H event player files files' sink sink' result
  enters_written sink' text (Ok _) asked is wrote = (
    record {
      added = asked.entry ∷ [];
      adds = asks_adds content H event asked.entry asked.asks;
      stands = asked.stands;
      taken = subst (λ (some : List ℕ). Grows sink.taken sink'.taken some) (is ∙ asked.text) wrote.taken;
      same = wrote.same;
    },
    same,
  )
  enters_written sink' text (Err halted) asked is broke = (
    record {
      added = asked.entry ∷ [];
      more = [];
      adds = asks_adds content H event asked.entry asked.asks;
      legal = asked.stands.book.held.legal;
      part = broke.part;
      rest = broke.rest;
      text_is = sym (is ∙ asked.text) ∙ broke.text_is;
      taken = broke.taken;
    },
    subst (λ (some : Halt). Stops files files' sink sink' some) (sym broke.write) (same, broke.counts),
  )

  -- memory was wanting for the entry, or for what is printed of it
  pub enters_unput : IsTrue (is_known H event) → AskedAtMost content cfg H event player
      → Enters content cfg H event player files files' sink sink (Err halt.Memory)
  enters_unput known (entered entry asks stands) = (
    record {
      added = entry ∷ [];
      more = [];
      adds = asks_adds content H event entry asks;
      legal = stands.book.held.legal;
      part = [];
      rest = shown entry;
      text_is = refl;
      taken = grows_none sink.taken;
    },
    (same, refl),
  )
  enters_unput known (nothing stands) =
      let some = some_adds content H event known in (
        record {
          added = [];
          more = some.0;
          adds = subst (AddsEvent content H event) (sym (append-nil some.0)) some.1;
          legal = stands.book.held.legal;
          part = [];
          rest = [];
          text_is = refl;
          taken = grows_none sink.taken;
        },
        (same, refl),
      )

  pub enters_failed : (result : Result (Unit {0}) Halt) → IsErrAnd result (λ halted. halted ≡ halt.Memory)
      → IsTrue (is_known H event) → AskedAtMost content cfg H event player
      → Enters content cfg H event player files files' sink sink result
  enters_failed (Ok _) made known asked = absurd made
  enters_failed (Err halted) made known asked =
      subst (λ (some : Halt). Enters content cfg H event player files files' sink sink (Err some)) (sym made)
      (enters_unput known asked)

-- a reload that wasn't entered, or of which nothing could be put into the buffer
pub reload_stops : (content : Option (List ℕ → List ℕ)) (path : List ℕ) (was now : Player) (files files' : ℕ)
    (sink : SinkSeen) (halted : Halt) → PutsReload content path was now files files' (Err halted)
    → (cfg : Sections) (H : History) → PlayerStands cfg H was
    → Enters content cfg H (Reload path) now files files' sink sink (Err halted)
reload_stops content path was now files files' sink halt.Memory puts cfg H stands =
    enters_unput content cfg H (Reload path) now files files' puts.1 sink refl (puts.0 cfg H stands)
reload_stops content path was now files files' sink halt.File puts cfg H stands = (
  record {
    added = [];
    more = ReloadRefused not_read.NoMemory ∷ [];
    adds = asks_adds content H (Reload path) (ReloadRefused not_read.NoMemory) no_memory;
    legal = stands.book.held.legal;
    part = [];
    rest = [];
    text_is = refl;
    taken = grows_none sink.taken;
  },
  (puts.1, refl),
)
reload_stops content path was now files files' sink halt.Read puts cfg H stands = absurd puts
reload_stops content path was now files files' sink halt.Write puts cfg H stands = absurd puts
reload_stops content path was now files files' sink halt.Long puts cfg H stands = absurd puts
reload_stops content path was now files files' sink (halt.Script line) puts cfg H stands = absurd puts

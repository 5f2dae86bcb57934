-- What happened: events, each with its answer. A history is a list of entries, the newest first.
use Rattle.std.specs.Prelude.{ℕ, List, Result}
use Rattle.route_values.specs.declared.addr.Family.{Family}
use Rattle.route_values.specs.declared.settings.Settings.{Settings}
use Rattle.route_values.specs.Caps.{Caps}
use Rattle.text_forms.specs.Lines.{Line}
use Rattle.route_grammar.specs.declared.fault.ReadFault.{ReadFault}
use Rattle.command_grammar.specs.declared.command.Command.{Command}
use Rattle.config_model.specs.Sections.{Sections}
use Rattle.book_history.specs.declared.outcomes.Control.{Control}
use Rattle.book_history.specs.declared.outcomes.Cut.{Cut}
use Rattle.book_history.specs.declared.outcomes.NotRead.{NotRead}
use Rattle.book_history.specs.declared.outcomes.Peer.{Peer}
use Rattle.book_history.specs.declared.outcomes.Reload.{Reload}
use Rattle.book_history.specs.declared.outcomes.Spawn.{Spawn}
use Rattle.book_history.specs.declared.outcomes.Take.{Take}
use Rattle.book_history.specs.declared.outcomes.Up.{Up}
use Rattle.book_history.specs.declared.outcomes.Verdict.{Verdict}

pub data Entry : Type 0 where
  -- slot and incarnation of a helper, its line, and what the line was read as
  LineEntered : ℕ → ℕ → Line → Result Command ReadFault → Verdict → Entry
  -- the same of a helper whose replies are taken, that no longer reads them, and that is gone
  RepliesTaken : ℕ → ℕ → Take → Entry
  HelperDeaf : ℕ → ℕ → Entry
  HelperGone : ℕ → ℕ → Entry
  -- a helper slot and the moment, in milliseconds
  SpawnAsked : ℕ → ℕ → Spawn → Entry
  -- a neighbour slot; with the settings that were dialled and the capabilities that were agreed; and a family
  PeerAsked : ℕ → Peer → Entry
  CameUp : ℕ → Settings → Caps → Up → Entry
  WentDown : ℕ → Entry
  RefreshAsked : ℕ → Family → Entry
  -- a neighbour slot, and the bytes of the message, if there is one
  MessageCut : ℕ → List ℕ → Cut → Entry
  -- the whole daemon
  ControlAsked : Control → Entry
  Reloaded : Sections → Reload → Entry
  ReloadRefused : NotRead → Entry
  Stopped : Entry

-- the newest first
abbrev pub History : Type 0
History = List Entry

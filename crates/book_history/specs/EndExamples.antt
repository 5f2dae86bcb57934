-- Worked examples of ends: of a session, and of the daemon.
use Rattle.std.specs.Prelude.{◌≡◌, [], ◌∷◌, Ok}
use Rattle.text_forms.specs.Lines.{Line}
use Rattle.command_grammar.specs.declared.command.Command.{Command}
use Rattle.command_grammar.specs.declared.command.Command.TheVariants as command
use Rattle.config_model.specs.Sections.{Sections, sections}
use Rattle.book_history.specs.declared.outcomes.Control.TheVariants as control
use Rattle.book_history.specs.declared.outcomes.Cut.TheVariants as cut
use Rattle.book_history.specs.declared.outcomes.Peer.TheVariants as peer
use Rattle.book_history.specs.declared.outcomes.Reload.TheVariants as reload
use Rattle.book_history.specs.declared.outcomes.Spawn.TheVariants as spawn
use Rattle.book_history.specs.declared.outcomes.Up.TheVariants as up
use Rattle.book_history.specs.declared.outcomes.Verdict.TheVariants as verdict
use Rattle.book_history.specs.Entries.{History}
use Rattle.book_history.specs.Entries.Entry.{CameUp, ControlAsked, MessageCut, PeerAsked, Reloaded, SpawnAsked}
use Rattle.book_history.specs.Entries.Entry.{WentDown}
use Rattle.book_history.specs.Legal.{Allows}
use Rattle.book_history.specs.Samples.{one, helper, neighbor, settings, only_ipv4, done, running, begun}
use Rattle.book_history.specs.Verdicts.{line_verdict}

-- the same configuration with another hold time
abbrev pub other_hold : Sections
other_hold = sections (helper ∷ [])
    (record (neighbor 2 []) { settings = record (settings 2) { hold = 90 } } ∷ [])

-- a reload changes the settings before the session comes up
abbrev pub resettled : History
resettled = Reloaded other_hold reload.Ok ∷ running

module _ (line : Command → Line) where
  -- a helper ends the sessions with subcode 4
  abbrev pub torn_down : History
  torn_down = done line (command.Teardown [] 4) ∷ begun

  -- the session went down, and a helper ends the daemon
  abbrev pub shut : History
  shut = done line command.Shutdown ∷ WentDown 0 ∷ torn_down

  -- what is answered from then on
  pub record Ends : Type 0 where
    pub reset : Allows one torn_down (MessageCut 0 [] (cut.Reset 6 4))
    pub down : Allows one (WentDown 0 ∷ torn_down) (MessageCut 0 [] cut.Down)
    pub late : line_verdict one shut 0 1 (line command.Comment) (Ok command.Comment) ≡ verdict.Ended
    pub no_start : Allows one shut (SpawnAsked 0 9 spawn.Stopping)
    pub stop : Allows one shut (ControlAsked control.Stop)
    pub no_peer : Allows one shut (PeerAsked 0 peer.Stopping)
    pub stale : Allows one resettled (CameUp 0 (settings 2) only_ipv4 up.Stale)

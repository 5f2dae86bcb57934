-- No session is live in a slot without a neighbour.
use Rattle.std.proofs.Common.{◌≡◌, ℕ, Bool, true, false, List, [], ◌∷◌, ◌++◌, Some, None, Ok, refl, sym, ap, ◌∙◌}
use Rattle.std.proofs.Common.{eqb-true}
use Rattle.std.specs.Prelude.{◌==◌, Option, is_some, if◌then◌else◌}
use Rattle.std.specs.Option.{option_or}
use Rattle.route_values.specs.declared.settings.Settings.{Settings}
use Rattle.route_values.specs.Caps.{Caps}
use Rattle.command_grammar.specs.declared.command.Command.{Command}
use Rattle.command_grammar.specs.declared.command.Command.TheVariants as command
use Rattle.config_model.specs.declared.sections.Neighbor.{Neighbor}
use Rattle.config_model.specs.Sections.{Sections}
use Rattle.peer_history.specs.Sessions.{reset, session}
use Rattle.peer_history.specs.Steps.{Step, Code}
use Rattle.peer_history.specs.Steps.Step.{Announced, Withdrawn, Cleared, Placed, Up, Down, Ended}
use Rattle.peer_history.specs.Steps.Step.{Refreshed, Cut}
use Rattle.peer_history.specs.Table.{settings_in}
use Rattle.book_history.specs.declared.outcomes.Reload.TheVariants as reload
use Rattle.book_history.specs.declared.outcomes.Up.TheVariants as up
use Rattle.book_history.specs.declared.outcomes.Up.{Up as Raised}
use Rattle.book_history.specs.declared.outcomes.Verdict.TheVariants as verdict
use Rattle.book_history.specs.Entries.{History}
use Rattle.book_history.specs.Entries.Entry.{LineEntered, CameUp, WentDown, RefreshAsked, MessageCut, Reloaded, Stopped}
use Rattle.book_history.specs.Legal.{IsLegal, has_settings}
use Rattle.book_history.specs.PeerSteps.{answer_of, cease, commanded, deconfigured, exchanged, resettled, statics_of}
use Rattle.book_history.specs.PeerSteps.{step_if, steps_of}
use Rattle.book_history.specs.Selecting.{selects}
use Rattle.book_history.specs.Slots.{neighbor_at, same_peer}
use Rattle.book_history.specs.Verdicts.{is_stopping}
use Rattle.book_core.specs.Changing.{IsClosed}
use Rattle.book_core.proofs.PeerLemmas.{settings_of, settings_told}

ended_live : (code : Code) (was : Option Code) (up : Option Caps)
    → (if is_some (option_or was (Some code)) then None else up) ≡ None
ended_live code None up = refl
ended_live code (Some first) up = refl

closed_ended : (code : Code) (steps : List Step) → IsClosed (Ended code ∷ steps)
closed_ended code steps none = ended_live code (reset steps) (session steps)

closed_if : (so : Bool) (one : Step) (steps : List Step) → (IsClosed steps → IsClosed (one ∷ steps)) → IsClosed steps
    → IsClosed (step_if so (one ∷ []) ++ steps)
closed_if true one steps more closed = more closed
closed_if false one steps more closed = closed

closed_command : (given : Command) (so : Bool) (steps : List Step) → IsClosed steps
    → IsClosed (commanded given so ++ steps)
closed_command (command.Announce pick keys attrs) so steps closed =
    closed_if so (Announced keys attrs) steps (λ before. before) closed
closed_command (command.Withdraw pick keys) so steps closed =
    closed_if so (Withdrawn keys) steps (λ before. before) closed
closed_command (command.Clear pick) so steps closed = closed_if so Cleared steps (λ before. before) closed
closed_command (command.Flush pick) true steps closed = closed
closed_command (command.Flush pick) false steps closed = closed
closed_command (command.Teardown pick sub) so steps closed =
    closed_if so (Ended (cease sub)) steps (λ before. closed_ended (cease sub) steps) closed
closed_command command.Shutdown so steps closed = closed_ended _ steps
closed_command _ so steps closed = closed

closed_some : (settings : Settings) (steps : List Step) → settings_in steps ≡ Some settings → IsClosed steps
closed_some settings steps some none =
    absurd (let no_way : ◌≡◌ {A = Option Settings} (Some settings) None = sym some ∙ none in cc)

closed_both : (so : Bool) (old new : Neighbor) (steps : List Step)
    → IsClosed ((if so then resettled old new
    else Placed new.settings (statics_of new) ∷ Ended (cease deconfigured) ∷ []) ++ steps)
closed_both true old new steps = closed_some new.settings (resettled old new ++ steps) refl
closed_both false old new steps =
    closed_some new.settings (Placed new.settings (statics_of new) ∷ Ended (cease deconfigured) ∷ steps) refl

closed_exchanged : (old new : Option Neighbor) (steps : List Step) → IsClosed steps
    → IsClosed (exchanged old new ++ steps)
closed_exchanged None None steps closed = closed
closed_exchanged None (Some new) steps closed =
    closed_some new.settings (Placed new.settings (statics_of new) ∷ steps) refl
closed_exchanged (Some old) None steps closed = λ none. ended_live (cease deconfigured) (reset steps) (session steps)
closed_exchanged (Some old) (Some new) steps closed = closed_both (same_peer old new) old new steps

-- a session came up with a neighbour that is there
up_there : (held : Option Neighbor) (settings : Settings) (stops : Bool)
    → ◌≡◌ {A = Raised} up.Ok (if stops then up.Stopping else (if has_settings held settings then up.Ok else up.Stale))
    → settings_of held ≡ None → ⊥
up_there held settings true is none = let no_way : ◌≡◌ {A = Raised} up.Ok up.Stopping = is in cc
up_there None settings false is none = let no_way : ◌≡◌ {A = Raised} up.Ok up.Stale = is in cc
up_there (Some neighbor) settings false is none =
    let no_way : ◌≡◌ {A = Option Settings} (Some neighbor.settings) None = none in cc

module _ (cfg : Sections) (n : ℕ) where
  pub closed_told : (H : History) → IsLegal cfg H → IsClosed (steps_of cfg n H)
  closed_told [] legal = by_section (neighbor_at cfg [] n)
    where
      by_section : (held : Option Neighbor) → IsClosed (exchanged None held)
      by_section None = λ none. refl
      by_section (Some neighbor) =
          closed_some neighbor.settings (Placed neighbor.settings (statics_of neighbor) ∷ []) refl
  closed_told (LineEntered h inc line (Ok given) verdict.Done ∷ H) legal =
      closed_command given (selects cfg H h given n) (steps_of cfg n H) (closed_told H legal.1)
  closed_told (CameUp m settings caps up.Ok ∷ H) legal = by_slot (closed_told H legal.1) (m == n) refl
    where
      by_slot : IsClosed (steps_of cfg n H) → (so : Bool) → (m == n) ≡ so
          → IsClosed (step_if so (Up caps ∷ []) ++ steps_of cfg n H)
      by_slot before false other = before
      by_slot before true same = λ none.
          absurd (up_there (neighbor_at cfg H m) settings (is_stopping H) legal.0
          (ap (λ k. settings_of (neighbor_at cfg H k)) (eqb-true m n same) ∙ sym (settings_told cfg n H) ∙ none))
  closed_told (WentDown m ∷ H) legal =
      closed_if (m == n) Down (steps_of cfg n H) (λ before none. refl) (closed_told H legal.1)
  closed_told (RefreshAsked m family ∷ H) legal =
      closed_if (m == n) (Refreshed family) (steps_of cfg n H) (λ before. before) (closed_told H legal.1)
  closed_told (MessageCut m bytes given ∷ H) legal =
      closed_if (m == n) (Cut (answer_of bytes given)) (steps_of cfg n H) (λ before. before) (closed_told H legal.1)
  closed_told (Reloaded new reload.Ok ∷ H) legal =
      closed_exchanged (neighbor_at cfg H n) (neighbor_at cfg (Reloaded new reload.Ok ∷ H) n) (steps_of cfg n H)
      (closed_told H legal.1)
  closed_told (Stopped ∷ H) legal = closed_ended _ (steps_of cfg n H)
  closed_told (entry ∷ H) legal = closed_told H legal.1

-- A load as the steps of the neighbour's slot.
use Rattle.std.proofs.Common.{◌≡◌, ℕ, ◌*◌, List, [], ◌∷◌, ◌++◌, Some, Ok, Err, refl, sym, ap, ◌∙◌, subst}
use Rattle.std.specs.Prelude.{Result, map, if◌then◌else◌}
use Rattle.std.specs.List.{AllByRecursion}
use Rattle.text_forms.specs.Lines.{Line, Text}
use Rattle.route_grammar.specs.declared.fault.ReadFault.{ReadFault}
use Rattle.update_grammar.specs.Net.{net}
use Rattle.command_grammar.specs.declared.command.Command.{Command}
use Rattle.config_model.specs.declared.sections.Neighbor.{Neighbor}
use Rattle.config_model.specs.Plan.{same_settings}
use Rattle.config_model.specs.Sections.{Sections}
use Rattle.peer_history.specs.Messages.{said}
use Rattle.peer_history.specs.Sessions.{session, session_effects}
use Rattle.peer_history.specs.Steps.{Step}
use Rattle.peer_history.specs.Steps.Step.{Up, Down, Cut}
use Rattle.book_history.specs.declared.outcomes.Cut.{Cut as Given}
use Rattle.book_history.specs.declared.outcomes.Cut.TheVariants as cut
use Rattle.book_history.specs.declared.outcomes.Spawn.{Spawn}
use Rattle.book_history.specs.declared.outcomes.Take.{Take}
use Rattle.book_history.specs.declared.outcomes.Up.{Up as Raised}
use Rattle.book_history.specs.declared.outcomes.Up.TheVariants as up
use Rattle.book_history.specs.declared.outcomes.Verdict.{Verdict}
use Rattle.book_history.specs.declared.outcomes.Verdict.TheVariants as verdict
use Rattle.book_history.specs.Bounds.{numbers_from}
use Rattle.book_history.specs.Entries.{History}
use Rattle.book_history.specs.Entries.Entry.{LineEntered, MessageCut, RepliesTaken}
use Rattle.book_history.specs.Legal.{IsLegal, has_settings}
use Rattle.book_history.specs.PeerSteps.{commanded, steps_of}
use Rattle.book_history.specs.Selecting.{selects}
use Rattle.book_history.specs.Slots.{slot}
use Rattle.book_history.proofs.StepLemmas.{AreQuiet, commanded_quiet, legal_before}
use Rattle.text_history.specs.Plays.{IsMessageOf}
use Rattle.script_play.specs.LoadLaws.{IsLoadConfig, LoadsLeaveCounted}
use Rattle.script_play.specs.Loads.{AddsReplied, AreCut, IsEntered, announce_line, begun, effects_in}
use Rattle.script_play.specs.Loads.{evens_below}
use Rattle.script_play.specs.Loads.{load_caps, load_settings, withdraw_line}
use Rattle.script_play.proofs.CountingLemmas.{said_more}
use Rattle.script_play.proofs.LoadingLemmas.{Says}

-- steps that begin and end no session and cut nothing change neither the session nor what was sent on it
pub record AreStill (quiet steps : List Step) : Type 0 where
  pub at : session (quiet ++ steps) ≡ session steps
  pub told : session_effects load_caps (quiet ++ steps) ≡ session_effects load_caps steps

are_still : (quiet steps : List Step) → AreQuiet quiet → AreStill quiet steps
are_still [] steps still = record { at = refl; told = refl }
are_still (Up other ∷ quiet) steps still = absurd still
are_still (Down ∷ quiet) steps still = absurd still
are_still (Cut answer ∷ quiet) steps still = absurd still
are_still (one ∷ quiet) steps still =
    let rest = are_still quiet steps still in record { at = rest.at; told = rest.told }

module _ (cfg : Sections) where
  -- the session stands, and what was sent on it is what is counted
  pub record Follows (H : History) : Type 0 where
    pub at : session (steps_of cfg 0 H) ≡ Some load_caps
    pub told : session_effects load_caps (steps_of cfg 0 H) ≡ effects_in H

  same_follows : (H : History) (taken : Take) → Follows H → Follows (RepliesTaken 0 1 taken ∷ H)
  same_follows H taken f = record { at = f.at; told = f.told }

  done_follows : (H : History) (line : Line) (given : Command) → Follows H
      → Follows (LineEntered 0 1 line (Ok given) verdict.Done ∷ H)
  done_follows H line given f =
      let still = are_still (commanded given (selects cfg H 0 given 0)) (steps_of cfg 0 H) (commanded_quiet given _) in
      record { at = still.at ∙ f.at; told = still.told ∙ f.told }

  line_follows : (H : History) (line : Line) (reading : Result Command ReadFault) (given : Verdict) → Follows H
      → Follows (LineEntered 0 1 line reading given ∷ H)
  line_follows H line (Ok command) verdict.Done f = done_follows H line command f
  line_follows H line (Ok command) verdict.Ended f = record { at = f.at; told = f.told }
  line_follows H line (Ok command) verdict.Busy f = record { at = f.at; told = f.told }
  line_follows H line (Ok command) (verdict.Error because) f = record { at = f.at; told = f.told }
  line_follows H line (Err fault) given f = record { at = f.at; told = f.told }

  cut_follows : (H : History) (bytes : List ℕ) (given : Given) → Follows H → Follows (MessageCut 0 bytes given ∷ H)
  cut_follows H bytes (cut.Message last) f = record {
    at = f.at;
    told = ap (λ effects. effects ++ said load_caps bytes) f.told ∙ sym (said_more H bytes);
  }
  cut_follows H bytes cut.Down f = record { at = f.at; told = f.told }
  cut_follows H bytes (cut.Reset code sub) f = record { at = f.at; told = f.told }
  cut_follows H bytes cut.Nothing f = record { at = f.at; told = f.told }

  replied_follows : (text : List ℕ) (H added : History) → AddsReplied text added → Follows H → Follows (added ++ H)
  replied_follows text H added (reading, given, taken, is) f =
      subst (λ (those : History). Follows (those ++ H)) (sym is)
      (same_follows (LineEntered 0 1 (Text text) reading given ∷ H) taken (line_follows H (Text text) reading given f))

  says_follows : (make : ℕ → List ℕ) (numbers : List ℕ) (H H' : History) → Says make numbers H H' → Follows H
      → Follows H'
  says_follows make [] H H' is f = subst Follows (sym is) f
  says_follows make (i ∷ numbers) H H' (added, adds, says) f =
      says_follows make numbers (added ++ H) H' says (replied_follows (make i) H added adds f)

  messages_follow : (messages H : History) → AllByRecursion (IsMessageOf 0) messages → Follows H
      → Follows (messages ++ H)
  messages_follow [] H are f = f
  messages_follow (entry ∷ messages) H are f =
      subst (λ one. Follows (one ∷ (messages ++ H))) (sym are.0.entry_is)
      (cut_follows (messages ++ H) are.0.bytes (cut.Message are.0.last) (messages_follow messages H are.1 f))

  cuts_follow : (H H' : History) → AreCut H H' → Follows H → Follows H'
  cuts_follow H H' (added, drain, is) f =
      subst Follows (sym (is ∙ ap (λ (those : History). those ++ H) drain.added_are))
      (cut_follows (drain.messages ++ H) drain.bytes drain.given (messages_follow drain.messages H drain.are f))

  load_follows : (count : ℕ) (H H' : History) → IsEntered count H H' → Follows H → Follows H'
  load_follows count H H' entered f =
      cuts_follow entered.withdrawn H' entered.cuts_again
      (says_follows (λ i. withdraw_line (2 * i)) (numbers_from 0 (evens_below count)) entered.sent entered.withdrawn
      entered.withdraws
      (cuts_follow entered.announced entered.sent entered.cuts
      (says_follows announce_line (numbers_from 0 count) H entered.announced entered.announces f)))

  start_follows : (started : Spawn) (raised : Raised) → raised ≡ up.Ok → Follows (begun started raised)
  start_follows started raised is =
      subst (λ given. Follows (begun started given)) (sym is) (record { at = refl; told = refl })

  -- ---- what was before a legal history was legal

  says_legal : (make : ℕ → List ℕ) (numbers : List ℕ) (H H' : History) → Says make numbers H H' → IsLegal cfg H'
      → IsLegal cfg H
  says_legal make [] H H' is legal = subst (IsLegal cfg) is legal
  says_legal make (i ∷ numbers) H H' (added, adds, says) legal =
      legal_before cfg added H (says_legal make numbers (added ++ H) H' says legal)

  cuts_legal : (H H' : History) → AreCut H H' → IsLegal cfg H' → IsLegal cfg H
  cuts_legal H H' (added, drain, is) legal = legal_before cfg added H (subst (IsLegal cfg) is legal)

  load_legal : (count : ℕ) (H H' : History) → IsEntered count H H' → IsLegal cfg H' → IsLegal cfg H
  load_legal count H H' entered legal =
      says_legal announce_line (numbers_from 0 count) H entered.announced entered.announces
      (cuts_legal entered.announced entered.sent entered.cuts
      (says_legal (λ i. withdraw_line (2 * i)) (numbers_from 0 (evens_below count)) entered.sent entered.withdrawn
      entered.withdraws (cuts_legal entered.withdrawn H' entered.cuts_again legal)))

  -- the session comes up
  comes_up : (started : Spawn) (raised : Raised) → IsLoadConfig cfg → IsLegal cfg (begun started raised)
      → raised ≡ up.Ok
  comes_up started raised is legal =
      legal.0
      ∙ ap (λ (those : List Neighbor). if has_settings (slot (map Some those) 0) load_settings then up.Ok
      else up.Stale) is.neighbors
      ∙ ap (λ own. if same_settings own load_settings then up.Ok else up.Stale) is.settings

pub leave_counted : LoadsLeaveCounted
leave_counted cfg count H config load legal =
    let start = load_legal cfg count (begun load.started load.raised) H load.entered legal in
    let f = load_follows cfg count (begun load.started load.raised) H load.entered
    (start_follows cfg load.started load.raised (comes_up cfg load.started load.raised config start)) in
    record { stands = f.at; left = λ key. ap (λ effects. net effects key) f.told }

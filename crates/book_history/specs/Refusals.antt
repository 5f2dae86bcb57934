-- Answers that are wrong: each behind a short history, which with it isn't legal.
use Rattle.std.specs.Prelude.{ℕ, ◌≡◌, ◌≢◌, [], ◌∷◌, length, Result}
use Rattle.text_forms.specs.Lines.{Line}
use Rattle.route_grammar.specs.declared.fault.ReadFault.{ReadFault}
use Rattle.command_grammar.specs.declared.command.Command.{Command}
use Rattle.config_model.specs.Sections.{Sections, sections}
use Rattle.book_history.specs.declared.outcomes.Reload.TheVariants as reload
use Rattle.book_history.specs.declared.outcomes.Spawn.TheVariants as spawn
use Rattle.book_history.specs.declared.outcomes.Verdict.{Verdict}
use Rattle.book_history.specs.declared.outcomes.Verdict.TheVariants as verdict
use Rattle.book_history.specs.Bounds.{max_queued}
use Rattle.book_history.specs.Entries.{Entry, History}
use Rattle.book_history.specs.Entries.Entry.{LineEntered, Reloaded, SpawnAsked, WentDown}
use Rattle.book_history.specs.HelperExamples.{five_starts}
use Rattle.book_history.specs.Legal.{Allows, IsLegal}
use Rattle.book_history.specs.ReloadExamples.{own}
use Rattle.book_history.specs.Replies.{queued}
use Rattle.book_history.specs.Samples.{one, helper, neighbor, first, second, bare, with_med, only_ipv4, here, gone}
use Rattle.book_history.specs.Samples.{marker, last, more, nothing, announce, withdraw, done, comes_up, begun}
use Rattle.book_history.specs.Samples.{sent_one}

-- where the history is legal, this answer behind it isn't
abbrev pub IsRefused : Sections → History → Entry → Type 0
IsRefused cfg H wrong = IsLegal cfg H → ¬ (Allows cfg H wrong)

-- a full queue: a line that is taken would take the place of a reply
abbrev pub FullQueueWaits : Type 0
FullQueueWaits = (cfg : Sections) (H : History) (h inc : ℕ) (line : Line) (reading : Result Command ReadFault)
    (given : Verdict) → length (queued cfg h inc H) ≡ max_queued → given ≢ verdict.Ended → given ≢ verdict.Busy
    → IsRefused cfg H (LineEntered h inc line reading given)

-- the configuration whose neighbour has a static route
abbrev pub with_static : Sections
with_static = sections (helper ∷ []) (neighbor 2 (record { key = second; attrs = own } ∷ []) ∷ [])

module _ (line : Command → Line) where
  -- a second route follows the first batch, and is announced anew when its batch is open
  abbrev pub later : History
  later = done line (announce second (with_med 3)) ∷ more (here (with_med 1) (first ∷ []))
      ∷ done line (announce second (with_med 2)) ∷ done line (announce first (with_med 1))
      ∷ last marker ∷ begun

  -- a route that was sent is withdrawn, announced and withdrawn again
  abbrev pub on_and_off : History
  on_and_off = done line (withdraw first) ∷ done line (announce first bare) ∷ done line (withdraw first)
      ∷ sent_one line

  -- the static route of a neighbour is sent, and then a file is read that lacks it
  abbrev pub static_lost : History
  static_lost = Reloaded one reload.Ok ∷ last marker ∷ more (here own (second ∷ [])) ∷ begun

  -- routes with the same attributes, of which the first was sent alone
  abbrev pub one_sent : History
  one_sent = more (here bare (first ∷ [])) ∷ done line (announce second bare) ∷ done line (announce first bare)
      ∷ last marker ∷ begun

  pub record Refusals : Type 0 where
    -- a line that is done without effect
    pub without_effect : IsRefused one (done line (announce first bare) ∷ begun) (last marker)
    -- a value that came later than the open batch
    pub later_value : IsRefused one later (last (here (with_med 3) (second ∷ [])))
    -- nothing to be sent, where a withdrawal is
    pub forgotten : IsRefused one on_and_off nothing
    -- nothing but the marker in a new session, as if the old session's routes were there
    pub kept_at_up : IsRefused one (comes_up only_ipv4 ∷ WentDown 0 ∷ sent_one line) (last marker)
    -- all that is wanted, where one key is owed
    pub whole_view : IsRefused one (done line (announce second bare) ∷ sent_one line)
        (last (here bare (first ∷ second ∷ [])))
    -- a withdrawal of a helper's route behind a reload
    pub helper_dropped : IsRefused one (Reloaded one reload.Ok ∷ sent_one line) (last (gone (first ∷ [])))
    -- nothing to be sent, where the new file lacks a route
    pub static_kept : IsRefused with_static static_lost nothing
    -- one prefix in each message
    pub one_prefix : IsRefused one one_sent (last (here bare (second ∷ [])))
    -- a sixth start within a minute
    pub sixth_start : IsRefused one five_starts (SpawnAsked 0 59999 (spawn.Go 6 helper.run))

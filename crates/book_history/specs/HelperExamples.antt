-- Worked examples of a helper slot: its end, its starts, and its replies.
use Rattle.std.specs.Prelude.{◌≡◌, false, codes, [], ◌∷◌, Result, Ok, Err}
use Rattle.text_forms.specs.Lines.{Line, Text}
use Rattle.route_grammar.specs.declared.fault.LineFault.TheVariants as fault
use Rattle.route_grammar.specs.declared.fault.ReadFault.{ReadFault}
use Rattle.route_grammar.specs.declared.fault.ReadFault.TheVariants as read
use Rattle.ack_queue.specs.declared.reply.Reply.TheVariants as reply
use Rattle.command_grammar.specs.declared.command.Command.{Command}
use Rattle.command_grammar.specs.declared.command.Command.TheVariants as command
use Rattle.config_model.specs.Sections.{Sections, sections}
use Rattle.book_history.specs.declared.outcomes.Spawn.TheVariants as spawn
use Rattle.book_history.specs.declared.outcomes.Take.{Take}
use Rattle.book_history.specs.declared.outcomes.Take.TheVariants as take
use Rattle.book_history.specs.declared.outcomes.Verdict.TheVariants as verdict
use Rattle.book_history.specs.declared.outcomes.Why.TheVariants as why
use Rattle.book_history.specs.Entries.{History}
use Rattle.book_history.specs.Entries.Entry.{LineEntered, RepliesTaken, HelperDeaf, HelperGone}
use Rattle.book_history.specs.Legal.{AllowsTake, IsLegal, started as answer_to_start}
use Rattle.book_history.specs.Replies.{queued}
use Rattle.book_history.specs.Samples.{one, helper, neighbor, first, bare, announce, done, started, begun}
use Rattle.book_history.specs.Verdicts.{line_verdict}

-- a helper that was started five times within five milliseconds, and was gone after each
abbrev pub five_starts : History
five_starts = HelperGone 0 5 ∷ started 4 5 ∷ HelperGone 0 4 ∷ started 3 4 ∷ HelperGone 0 3 ∷ started 2 3
    ∷ HelperGone 0 2 ∷ started 1 2 ∷ HelperGone 0 1 ∷ started 0 1 ∷ []

-- the same configuration, whose process isn't started again
abbrev pub once : Sections
once = sections (record helper { respawn = false } ∷ []) (neighbor 2 [] ∷ [])

-- a sixth start is for a minute after the first one
pub record FewStarts : Type 0 where
  pub legal : IsLegal one five_starts
  pub too_soon : answer_to_start one five_starts 0 59999 ≡ spawn.GiveUp
  pub in_time : answer_to_start one five_starts 0 60000 ≡ spawn.Go 6 helper.run
  pub not_again : answer_to_start once (HelperGone 0 1 ∷ started 0 1 ∷ []) 0 100000 ≡ spawn.GiveUp

-- a word that is no command is refused where it stands
abbrev pub unknown : Result Command ReadFault
unknown = Err (read.Line (fault.BadToken 1))

module _ (line : Command → Line) where
  -- a helper is gone after its line, and started again
  abbrev pub left : History
  left = HelperGone 0 1 ∷ done line (announce first bare) ∷ begun

  abbrev pub started_again : History
  started_again = started 5 2 ∷ left

  -- of a helper that is gone no line is taken, and its replies are lost at the next start
  pub record HelpersGone : Type 0 where
    pub late : line_verdict one left 0 1 (line (announce first bare)) (Ok (announce first bare)) ≡ verdict.Ended
    pub waiting : queued one 0 1 left ≡ reply.Done ∷ []
    pub next : answer_to_start one left 0 5 ≡ spawn.Go 2 helper.run
    pub taken : line_verdict one started_again 0 2 (line command.Comment) (Ok command.Comment) ≡ verdict.Done
    pub ended : AllowsTake one started_again 0 1 take.Ended
    pub deaf : queued one 0 1 (HelperDeaf 0 1 ∷ done line (announce first bare) ∷ begun) ≡ []

  -- lines before, between and behind those that switch replies off and on, and one that is no command
  abbrev pub switched : History
  switched = done line command.EnableAck ∷ LineEntered 0 1 (Text (codes "frob")) unknown
      (verdict.Error (why.Line (fault.BadToken 1))) ∷ done line (announce first bare)
      ∷ done line command.DisableAck ∷ done line command.Comment ∷ begun

  -- the replies that then wait
  abbrev pub three_replies : Take
  three_replies = take.Replies (record { items = reply.Done ∷ reply.Done ∷ reply.Done ∷ [] })

  -- where replies are off neither a line that is done nor one that is refused has one
  pub record SwitchedReplies : Type 0 where
    pub waiting : queued one 0 1 switched ≡ reply.Done ∷ reply.Done ∷ reply.Done ∷ []
    pub handed_out : AllowsTake one switched 0 1 three_replies
    pub none_left : queued one 0 1 (RepliesTaken 0 1 three_replies ∷ switched) ≡ []
    pub nothing_more : AllowsTake one (RepliesTaken 0 1 three_replies ∷ switched) 0 1 take.Nothing

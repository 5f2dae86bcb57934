-- What becomes of a line: the first of these that holds.
use Rattle.std.specs.Prelude.{ℕ, ◌==◌, ◌+◌, ◌&&◌, ◌||◌, Bool, true, false, not, nat_lt, [], ◌∷◌, length, Result}
use Rattle.std.specs.Prelude.{Ok, Err}
use Rattle.std.specs.Prelude.{if◌then◌else◌, is_some}
use Rattle.std.specs.List.{list_any}
use Rattle.text_forms.specs.Lines.{Line}
use Rattle.route_grammar.specs.declared.fault.ReadFault.{ReadFault}
use Rattle.route_grammar.specs.declared.fault.ReadFault.TheVariants as read
use Rattle.command_grammar.specs.declared.command.Command.{Command}
use Rattle.command_grammar.specs.declared.command.Command.TheVariants as command
use Rattle.config_model.specs.Sections.{Sections}
use Rattle.book_history.specs.declared.outcomes.Verdict.{Verdict}
use Rattle.book_history.specs.declared.outcomes.Verdict.TheVariants.{Ended, Busy, Error, Done}
use Rattle.book_history.specs.declared.outcomes.Why.TheVariants as why
use Rattle.book_history.specs.Bounds.{max_nodes, max_queued, max_shown, peer_numbers}
use Rattle.book_history.specs.Entries.{History}
use Rattle.book_history.specs.Entries.Entry.{LineEntered, Stopped}
use Rattle.book_history.specs.Helpers.{child, is_running}
use Rattle.book_history.specs.Nodes.{nodes}
use Rattle.book_history.specs.Replies.{done_replies, queued}
use Rattle.book_history.specs.Selecting.{pick_of, selects}
use Rattle.book_history.specs.Shows.{shown}

-- whether a shutdown was accepted or a stop came
abbrev pub is_stopping : History → Bool
is_stopping [] = false
is_stopping (LineEntered h inc line (Ok command.Shutdown) Done ∷ H) = true
is_stopping (Stopped ∷ H) = true
is_stopping (_ ∷ H) = is_stopping H

-- whether a command is for neighbours, and none is selected
abbrev pub matches_none : Sections → History → ℕ → Command → Bool
matches_none cfg H h given = is_some (pick_of given) && not (list_any (selects cfg H h given) peer_numbers)

-- whether a command asks for routes, whose replies with those that wait don't fit the queue
abbrev pub overflows : Sections → History → ℕ → ℕ → Command → Bool
overflows cfg H h inc (command.Show pick within) = nat_lt max_queued
    (length (queued cfg h inc H) + length (done_replies cfg H h inc (command.Show pick within)))
overflows cfg H h inc _ = false

-- the verdict on a command, of which so many nodes would come, and so many routes are asked for
abbrev pub command_verdict : Sections → History → ℕ → ℕ → Command → (with_it : ℕ) → (asked : ℕ) → Verdict
command_verdict cfg H h inc given with_it asked =
    if matches_none cfg H h given then Error why.NoMatch
    else (if nat_lt max_nodes with_it then Error (why.Full with_it)
    else (if nat_lt max_shown asked then Error (why.Show asked)
    else (if overflows cfg H h inc given then Busy else Done)))

-- the verdict on what a line was read as
abbrev pub reading_verdict : Sections → History → ℕ → ℕ → Line → Result Command ReadFault → Verdict
reading_verdict cfg H h inc line (Err (read.Line fault)) = Error (why.Line fault)
reading_verdict cfg H h inc line (Err read.NoMemory) = Error why.NoMemory
reading_verdict cfg H h inc line (Ok given) = command_verdict cfg H h inc given
    (nodes cfg (LineEntered h inc line (Ok given) Done ∷ H)) (length (shown cfg H h given))

-- whether it is too late for an incarnation: it doesn't run, or the daemon ends
abbrev pub is_late : Sections → History → ℕ → ℕ → Bool
is_late cfg H h inc = not (is_running (child cfg h H) inc) || is_stopping H

-- the verdict on a line
abbrev pub line_verdict : Sections → History → ℕ → ℕ → Line → Result Command ReadFault → Verdict
line_verdict cfg H h inc line reading =
    if is_late cfg H h inc then Ended
    else (if length (queued cfg h inc H) == max_queued then Busy
    else reading_verdict cfg H h inc line reading)

-- want of memory may come in place of all but an end and a full queue
abbrev pub may_lack_memory : Sections → History → ℕ → ℕ → Bool
may_lack_memory cfg H h inc = not (is_late cfg H h inc) && not (length (queued cfg h inc H) == max_queued)

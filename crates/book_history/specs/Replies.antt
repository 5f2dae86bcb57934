-- What a helper is told, and what of it waits.
use Rattle.std.specs.Prelude.{ℕ, ◌==◌, ◌&&◌, Bool, true, false, List, [], ◌∷◌, ◌++◌, map, length, drop, Result, Ok, Err}
use Rattle.std.specs.Prelude.{if◌then◌else◌}
use Rattle.route_grammar.specs.declared.fault.ReadFault.{ReadFault}
use Rattle.ack_queue.specs.declared.reply.Reply.{Reply}
use Rattle.ack_queue.specs.declared.reply.Reply.TheVariants as reply
use Rattle.command_grammar.specs.declared.command.Command.{Command}
use Rattle.command_grammar.specs.declared.command.Command.TheVariants as command
use Rattle.config_model.specs.Sections.{Sections}
use Rattle.book_history.specs.declared.outcomes.Reload.TheVariants as reload
use Rattle.book_history.specs.declared.outcomes.Spawn.TheVariants as spawn
use Rattle.book_history.specs.declared.outcomes.Take.{Take}
use Rattle.book_history.specs.declared.outcomes.Take.TheVariants as take
use Rattle.book_history.specs.declared.outcomes.Verdict.{Verdict}
use Rattle.book_history.specs.declared.outcomes.Verdict.TheVariants as verdict
use Rattle.book_history.specs.declared.outcomes.Why.{Why}
use Rattle.book_history.specs.declared.outcomes.Why.TheVariants as why
use Rattle.book_history.specs.Entries.{History}
use Rattle.book_history.specs.Entries.Entry.{LineEntered, RepliesTaken, HelperDeaf, SpawnAsked, Reloaded}
use Rattle.book_history.specs.Helpers.{leaves}
use Rattle.book_history.specs.Shows.{shown}

-- whether an entry of helper k and incarnation i is of this one
abbrev pub is_of : ℕ → ℕ → ℕ → ℕ → Bool
is_of k i h inc = k == h && i == inc

-- whether replies are on after an accepted command, by whether they were
abbrev pub acks_after : Command → Bool → Bool
acks_after command.DisableAck was = false
acks_after command.EnableAck was = true
acks_after _ was = was

-- whether an incarnation's lines are replied to
abbrev pub acks : ℕ → ℕ → History → Bool
acks h inc [] = true
acks h inc (LineEntered k i line (Ok given) verdict.Done ∷ H) =
    if is_of k i h inc then acks_after given (acks h inc H) else acks h inc H
acks h inc (_ ∷ H) = acks h inc H

-- the reply to a refused line
abbrev pub refusal : Why → Reply
refusal why.NoMemory = reply.NoMemory
refusal _ = reply.Error

-- a reply where replies are on
abbrev pub reply_if : Bool → Reply → List Reply
reply_if on given = if on then given ∷ [] else []

-- the replies to a line that is done: the routes that it asks for, and then one where replies are on, or where it turns
-- them on
abbrev pub done_replies : Sections → History → ℕ → ℕ → Command → List Reply
done_replies cfg H h inc command.EnableAck = reply.Done ∷ []
done_replies cfg H h inc given = map (λ s. reply.Route s) (shown cfg H h given) ++ reply_if (acks h inc H) reply.Done

-- the replies that a line adds
abbrev pub line_replies : Sections → History → ℕ → ℕ → Result Command ReadFault → Verdict → List Reply
line_replies cfg H h inc (Ok given) verdict.Done = done_replies cfg H h inc given
line_replies cfg H h inc (Err fault) verdict.Done = []
line_replies cfg H h inc reading (verdict.Error because) = reply_if (acks h inc H) (refusal because)
line_replies cfg H h inc reading verdict.Ended = []
line_replies cfg H h inc reading verdict.Busy = []

-- the replies to all taken lines of an incarnation, in the order of the lines
abbrev pub replies : Sections → ℕ → ℕ → History → List Reply
replies cfg h inc [] = []
replies cfg h inc (LineEntered k i line reading given ∷ H) =
    if is_of k i h inc then replies cfg h inc H ++ line_replies cfg H h inc reading given else replies cfg h inc H
replies cfg h inc (_ ∷ H) = replies cfg h inc H

-- the replies that an answer hands out
abbrev pub handed_out : Take → List Reply
handed_out take.Ended = []
handed_out take.Nothing = []
handed_out (take.Replies given) = given.items

-- the replies that were taken
abbrev pub taken : ℕ → ℕ → History → List Reply
taken h inc [] = []
taken h inc (RepliesTaken k i given ∷ H) =
    if is_of k i h inc then taken h inc H ++ handed_out given else taken h inc H
taken h inc (_ ∷ H) = taken h inc H

-- whether the queue is this incarnation's: it was the last to start, and neither it turned deaf nor its process changed
abbrev pub has_queue : Sections → ℕ → ℕ → History → Bool
has_queue cfg h inc [] = false
has_queue cfg h inc (SpawnAsked k now (spawn.Go i run) ∷ H) = if k == h then i == inc else has_queue cfg h inc H
has_queue cfg h inc (HelperDeaf k i ∷ H) = if is_of k i h inc then false else has_queue cfg h inc H
has_queue cfg h inc (Reloaded new reload.Ok ∷ H) = leaves cfg H new h && has_queue cfg h inc H
has_queue cfg h inc (_ ∷ H) = has_queue cfg h inc H

-- the replies that wait
abbrev pub queued : Sections → ℕ → ℕ → History → List Reply
queued cfg h inc H =
    if has_queue cfg h inc H then drop (length (taken h inc H)) (replies cfg h inc H) else []

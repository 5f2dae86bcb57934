-- What an entry concerns: which helper slot, which neighbour slots, the slots themselves, and the daemon.
use Rattle.std.specs.Prelude.{ℕ, ◌==◌, Bool, true, false, Ok, Option, Some, None}
use Rattle.command_grammar.specs.declared.command.Command.TheVariants as command
use Rattle.book_history.specs.declared.outcomes.Reload.TheVariants as reload
use Rattle.book_history.specs.declared.outcomes.Up.TheVariants as up
use Rattle.book_history.specs.declared.outcomes.Verdict.TheVariants as verdict
use Rattle.book_history.specs.Entries.{Entry}
use Rattle.book_history.specs.Entries.Entry.{LineEntered, RepliesTaken, HelperDeaf, HelperGone, SpawnAsked, CameUp}
use Rattle.book_history.specs.Entries.Entry.{WentDown, RefreshAsked, MessageCut, Reloaded, ReloadRefused, Stopped}

-- whether an entry is a step of no neighbour slot
abbrev pub is_quiet : Entry → Bool
is_quiet (LineEntered h inc line (Ok given) verdict.Done) = false
is_quiet (CameUp n settings caps up.Ok) = false
is_quiet (WentDown n) = false
is_quiet (RefreshAsked n family) = false
is_quiet (MessageCut n bytes given) = false
is_quiet (Reloaded new reload.Ok) = false
is_quiet Stopped = false
is_quiet _ = true

-- whether an entry is of one neighbour slot: a step of it alone
abbrev pub is_of_peer : ℕ → Entry → Bool
is_of_peer n (CameUp m settings caps given) = m == n
is_of_peer n (WentDown m) = m == n
is_of_peer n (RefreshAsked m family) = m == n
is_of_peer n (MessageCut m bytes given) = m == n
is_of_peer n _ = false

-- whether an entry is of one helper slot
abbrev pub is_of_helper : ℕ → Entry → Bool
is_of_helper h (LineEntered k inc line reading given) = k == h
is_of_helper h (RepliesTaken k inc given) = k == h
is_of_helper h (HelperDeaf k inc) = k == h
is_of_helper h (HelperGone k inc) = k == h
is_of_helper h (SpawnAsked k now given) = k == h
is_of_helper h _ = false

-- whether an entry changes what stands in the slots
abbrev pub moves_slots : Entry → Bool
moves_slots (Reloaded new reload.Ok) = true
moves_slots _ = false

-- whether an entry ends the daemon
abbrev pub ends_daemon : Entry → Bool
ends_daemon (LineEntered h inc line (Ok command.Shutdown) verdict.Done) = true
ends_daemon Stopped = true
ends_daemon _ = false

-- whether a reload is due behind an entry, where the entry says so
abbrev pub due_behind : Entry → Option Bool
due_behind (LineEntered h inc line (Ok command.Reload) verdict.Done) = Some true
due_behind (Reloaded new given) = Some false
due_behind (ReloadRefused because) = Some false
due_behind _ = None

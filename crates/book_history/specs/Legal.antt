-- Which answer each event may have.
use Rattle.std.specs.Prelude.{ℕ, ◌≡◌, ◌⊎◌, ◌==◌, ◌+◌, ◌&&◌, ◌||◌, ⊤, Bool, true, false, not, nat_lt, List, [], ◌∷◌}
use Rattle.std.specs.Prelude.{length, take, Result, Ok, Err, if◌then◌else◌, Option, Some, None, IsTrue}
use Rattle.route_values.specs.declared.settings.Settings.{Settings}
use Rattle.text_forms.specs.Lines.{Line}
use Rattle.route_grammar.specs.declared.fault.ReadFault.{ReadFault}
use Rattle.command_grammar.specs.declared.command.Command.{Command}
use Rattle.command_grammar.specs.declared.command.Command.TheVariants as command
use Rattle.command_grammar.specs.Readings.{Says}
use Rattle.config_model.specs.declared.sections.Neighbor.{Neighbor}
use Rattle.config_model.specs.declared.sections.Process.{Process}
use Rattle.config_model.specs.Plan.{same_settings}
use Rattle.config_model.specs.Sections.{Sections}
use Rattle.peer_history.specs.Cuts.{MayAnswer}
use Rattle.respawn_window.specs.Starts.{window}
use Rattle.book_history.specs.declared.outcomes.Control.{Control}
use Rattle.book_history.specs.declared.outcomes.Control.TheVariants as control
use Rattle.book_history.specs.declared.outcomes.Peer.{Peer}
use Rattle.book_history.specs.declared.outcomes.Peer.TheVariants as peer
use Rattle.book_history.specs.declared.outcomes.Reload.{Reload}
use Rattle.book_history.specs.declared.outcomes.Reload.TheVariants as reload
use Rattle.book_history.specs.declared.outcomes.Spawn.{Spawn}
use Rattle.book_history.specs.declared.outcomes.Spawn.TheVariants as spawn
use Rattle.book_history.specs.declared.outcomes.Take.{Take}
use Rattle.book_history.specs.declared.outcomes.Take.TheVariants as take
use Rattle.book_history.specs.declared.outcomes.Up.{Up}
use Rattle.book_history.specs.declared.outcomes.Up.TheVariants as up
use Rattle.book_history.specs.declared.outcomes.Verdict.{Verdict}
use Rattle.book_history.specs.declared.outcomes.Verdict.TheVariants as verdict
use Rattle.book_history.specs.declared.outcomes.Why.TheVariants as why
use Rattle.book_history.specs.Bounds.{max_incarnations, max_nodes, max_starts, max_taken}
use Rattle.book_history.specs.Entries.{Entry, History}
use Rattle.book_history.specs.Entries.Entry.{LineEntered, RepliesTaken, HelperDeaf, HelperGone, SpawnAsked, PeerAsked}
use Rattle.book_history.specs.Entries.Entry.{CameUp, WentDown, RefreshAsked, MessageCut, ControlAsked, Reloaded}
use Rattle.book_history.specs.Entries.Entry.{ReloadRefused, Stopped}
use Rattle.book_history.specs.Helpers.{child, is_given_up, is_present, last_inc, starts}
use Rattle.book_history.specs.Helpers.{starts_counted}
use Rattle.book_history.specs.Nodes.{nodes}
use Rattle.book_history.specs.PeerSteps.{answer_of, steps_of}
use Rattle.book_history.specs.Replies.{queued}
use Rattle.book_history.specs.Slots.{neighbor_at, process_at}
use Rattle.book_history.specs.Verdicts.{is_late, is_stopping, line_verdict, may_lack_memory}

-- a line has the verdict that is defined, or want of memory where that may stand in its place
abbrev pub IsVerdict : Sections → History → ℕ → ℕ → Line → Result Command ReadFault → Verdict → Type 0
IsVerdict cfg H h inc line reading given =
    (given ≡ line_verdict cfg H h inc line reading)
    ⊎ ((given ≡ verdict.Error why.NoMemory) × IsTrue (may_lack_memory cfg H h inc))

-- a line was read as what it says, and has its verdict
abbrev pub AllowsLine : Sections → History → ℕ → ℕ → Line → Result Command ReadFault → Verdict → Type 0
AllowsLine cfg H h inc line reading given = Says line reading × IsVerdict cfg H h inc line reading given

-- replies are taken off the front, 64 or all
abbrev pub AllowsTake : Sections → History → ℕ → ℕ → Take → Type 0
AllowsTake cfg H h inc take.Ended =
    IsTrue (not (inc == last_inc h H) || (length (queued cfg h inc H) == 0 && is_late cfg H h inc))
AllowsTake cfg H h inc take.Nothing =
    IsTrue (inc == last_inc h H && length (queued cfg h inc H) == 0 && not (is_late cfg H h inc))
AllowsTake cfg H h inc (take.Replies given) =
    IsTrue (inc == last_inc h H && not (length (queued cfg h inc H) == 0))
    × (given.items ≡ Rattle.std.specs.Prelude.take max_taken (queued cfg h inc H))

-- whether a process that may not be started again was
abbrev pub is_spent : Process → List ℕ → Bool
is_spent process moments = not process.respawn && not (length moments == 0)

-- whether a slot's process is given up, or is by now
abbrev pub gives_up : Sections → History → ℕ → ℕ → Process → Bool
gives_up cfg H h now process =
    is_given_up cfg h H || not (nat_lt (window (starts cfg h H) now) max_starts)
    || is_spent process (starts cfg h H) || starts_counted h H == max_incarnations

-- the answer for a slot with this process
abbrev pub process_started : Sections → History → ℕ → ℕ → Option Process → Spawn
process_started cfg H h now None = spawn.Absent
process_started cfg H h now (Some process) =
    if is_present (child cfg h H) then spawn.Running
    else (if gives_up cfg H h now process then spawn.GiveUp else spawn.Go (starts_counted h H + 1) process.run)

-- the answer to whether a helper may be started
abbrev pub started : Sections → History → ℕ → ℕ → Spawn
started cfg H h now = if is_stopping H then spawn.Stopping else process_started cfg H h now (process_at cfg H h)

-- the neighbour that is told
abbrev pub neighbor_told : Option Neighbor → Peer
neighbor_told None = peer.Absent
neighbor_told (Some neighbor) = peer.Is neighbor.settings

-- the answer to which neighbour is in a slot
abbrev pub told : Sections → History → ℕ → Peer
told cfg H n = if is_stopping H then peer.Stopping else neighbor_told (neighbor_at cfg H n)

-- whether a neighbour has these settings
abbrev pub has_settings : Option Neighbor → Settings → Bool
has_settings None settings = false
has_settings (Some neighbor) settings = same_settings neighbor.settings settings

-- the answer to whether a session may come up
abbrev pub raised_up : Sections → History → ℕ → Settings → Up
raised_up cfg H n settings =
    if is_stopping H then up.Stopping
    else (if has_settings (neighbor_at cfg H n) settings then up.Ok else up.Stale)

-- whether a reload was asked for and none was done or refused since
abbrev pub is_reload_due : History → Bool
is_reload_due [] = false
is_reload_due (LineEntered h inc line (Ok command.Reload) verdict.Done ∷ H) = true
is_reload_due (Reloaded new given ∷ H) = false
is_reload_due (ReloadRefused because ∷ H) = false
is_reload_due (_ ∷ H) = is_reload_due H

-- the answer to what the daemon is to do
abbrev pub directed : History → Control
directed H =
    if is_stopping H then control.Stop else (if is_reload_due H then control.ReloadDue else control.Nothing)

-- the answer to a new configuration
abbrev pub loaded : ℕ → Reload
loaded with_it = if nat_lt max_nodes with_it then reload.Full with_it else reload.Ok

abbrev pub AllowsReload : Sections → History → Sections → Reload → Type 0
AllowsReload cfg H new given =
    (given ≡ loaded (nodes cfg (Reloaded new reload.Ok ∷ H))) ⊎ (given ≡ reload.NoMemory)

-- an entry's answer is allowed by the history before it
abbrev pub Allows : Sections → History → Entry → Type 0
Allows cfg H (LineEntered h inc line reading given) = AllowsLine cfg H h inc line reading given
Allows cfg H (RepliesTaken h inc given) = AllowsTake cfg H h inc given
Allows cfg H (HelperDeaf h inc) = ⊤
Allows cfg H (HelperGone h inc) = ⊤
Allows cfg H (SpawnAsked h now given) = given ≡ started cfg H h now
Allows cfg H (PeerAsked n given) = given ≡ told cfg H n
Allows cfg H (CameUp n settings caps given) = given ≡ raised_up cfg H n settings
Allows cfg H (WentDown n) = ⊤
Allows cfg H (RefreshAsked n family) = ⊤
Allows cfg H (MessageCut n bytes given) = MayAnswer (steps_of cfg n H) (answer_of bytes given)
Allows cfg H (ControlAsked given) = given ≡ directed H
Allows cfg H (Reloaded new given) = AllowsReload cfg H new given
Allows cfg H (ReloadRefused because) = ⊤
Allows cfg H Stopped = ⊤

-- each entry's answer is allowed by the history before it
abbrev pub IsLegal : Sections → History → Type 0
IsLegal cfg [] = ⊤
IsLegal cfg (entry ∷ H) = Allows cfg H entry × IsLegal cfg H

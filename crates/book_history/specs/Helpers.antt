-- One helper slot: its incarnations and its starts.
use Rattle.std.specs.Prelude.{ℕ, ◌==◌, ◌+◌, ◌&&◌, Bool, true, false, List, [], ◌∷◌, if◌then◌else◌, Option, Some, None}
use Rattle.std.specs.Bool.{beq}
use Rattle.config_model.specs.declared.sections.Process.{Process}
use Rattle.config_model.specs.Sections.{Sections, same_name}
use Rattle.respawn_window.specs.Starts.{with_start}
use Rattle.book_history.specs.declared.outcomes.Reload.TheVariants as reload
use Rattle.book_history.specs.declared.outcomes.Spawn.TheVariants as spawn
use Rattle.book_history.specs.Entries.{History}
use Rattle.book_history.specs.Entries.Entry.{HelperDeaf, HelperGone, SpawnAsked, Reloaded}
use Rattle.book_history.specs.Slots.{process_at, same_process_name}

-- two sections of a process say the same
abbrev pub same_process : Process → Process → Bool
same_process a b =
    same_process_name a b && same_name a.run.items b.run.items && beq a.json b.json && beq a.respawn b.respawn

-- a reload leaves a slot's process as it was
abbrev pub stays : Option Process → Option Process → Bool
stays None None = true
stays None (Some new) = false
stays (Some old) None = false
stays (Some old) (Some new) = same_process old new

-- whether a reload to these sections leaves the process of slot h as it was
abbrev pub leaves : Sections → History → Sections → ℕ → Bool
leaves cfg H new h = stays (process_at cfg H h) (process_at cfg (Reloaded new reload.Ok ∷ H) h)

-- how often the slot's helpers were started
abbrev pub starts_counted : ℕ → History → ℕ
starts_counted h [] = 0
starts_counted h (SpawnAsked k now (spawn.Go inc run) ∷ H) =
    if k == h then starts_counted h H + 1 else starts_counted h H
starts_counted h (_ ∷ H) = starts_counted h H

-- the incarnation of the last start; 0, which names none, before the first
abbrev pub last_inc : ℕ → History → ℕ
last_inc h [] = 0
last_inc h (SpawnAsked k now (spawn.Go inc run) ∷ H) = if k == h then inc else last_inc h H
last_inc h (_ ∷ H) = last_inc h H

-- the child of a slot: there is none, it runs, or it no longer reads its replies
pub data Child : Type 0 where
  NoChild : Child
  Running : ℕ → Child
  Deaf : ℕ → Child

-- an incarnation is gone
abbrev pub without : ℕ → Child → Child
without inc NoChild = NoChild
without inc (Running own) = if own == inc then NoChild else Running own
without inc (Deaf own) = if own == inc then NoChild else Deaf own

-- a running incarnation no longer reads
abbrev pub deafened : ℕ → Child → Child
deafened inc NoChild = NoChild
deafened inc (Running own) = if own == inc then Deaf own else Running own
deafened inc (Deaf own) = Deaf own

-- the child that is there: that of the last start, until it is gone or a reload changes the slot's process
abbrev pub child : Sections → ℕ → History → Child
child cfg h [] = NoChild
child cfg h (SpawnAsked k now (spawn.Go inc run) ∷ H) = if k == h then Running inc else child cfg h H
child cfg h (HelperGone k inc ∷ H) = if k == h then without inc (child cfg h H) else child cfg h H
child cfg h (HelperDeaf k inc ∷ H) = if k == h then deafened inc (child cfg h H) else child cfg h H
child cfg h (Reloaded new reload.Ok ∷ H) = if leaves cfg H new h then child cfg h H else NoChild
child cfg h (_ ∷ H) = child cfg h H

-- whether an incarnation runs
abbrev pub is_running : Child → ℕ → Bool
is_running NoChild inc = false
is_running (Running own) inc = own == inc
is_running (Deaf own) inc = false

-- whether a child is there
abbrev pub is_present : Child → Bool
is_present NoChild = false
is_present (Running own) = true
is_present (Deaf own) = true

-- the moments of the starts since the slot's process was placed or changed, the first one first; a moment below the
-- greatest of those before it counts as that
abbrev pub starts : Sections → ℕ → History → List ℕ
starts cfg h [] = []
starts cfg h (SpawnAsked k now (spawn.Go inc run) ∷ H) = with_start (k == h) (starts cfg h H) now
starts cfg h (Reloaded new reload.Ok ∷ H) = if leaves cfg H new h then starts cfg h H else []
starts cfg h (_ ∷ H) = starts cfg h H

-- whether the slot was given up since its process was placed or changed
abbrev pub is_given_up : Sections → ℕ → History → Bool
is_given_up cfg h [] = false
is_given_up cfg h (SpawnAsked k now spawn.GiveUp ∷ H) = if k == h then true else is_given_up cfg h H
is_given_up cfg h (Reloaded new reload.Ok ∷ H) = leaves cfg H new h && is_given_up cfg h H
is_given_up cfg h (_ ∷ H) = is_given_up cfg h H

-- What a legal history tells of a helper slot.
use Rattle.std.specs.Prelude.{ℕ, ◌≡◌, ◌+◌, ◌≤◌, ◌∷◌, length}
use Rattle.arrayvec.specs.ArrayVec.{ArrayVec}
use Rattle.config_model.specs.Sections.{Sections}
use Rattle.respawn_window.specs.Starts.{window}
use Rattle.book_history.specs.declared.outcomes.Spawn.TheVariants as spawn
use Rattle.book_history.specs.Bounds.{max_queued, max_starts}
use Rattle.book_history.specs.Entries.{History}
use Rattle.book_history.specs.Entries.Entry.{SpawnAsked}
use Rattle.book_history.specs.Helpers.{starts, starts_counted}
use Rattle.book_history.specs.Legal.{IsLegal}
use Rattle.book_history.specs.Replies.{queued}

-- no more replies wait than the queue holds
abbrev pub QueuesAreBounded : Type 0
QueuesAreBounded = (cfg : Sections) (H : History) (h inc : ℕ) → IsLegal cfg H
    → length (queued cfg h inc H) ≤ max_queued

-- the incarnations of a slot count 1, 2, 3, and so on
abbrev pub IncarnationsCount : Type 0
IncarnationsCount = (cfg : Sections) (H : History) (h now inc : ℕ) (run : ArrayVec ℕ)
    → IsLegal cfg (SpawnAsked h now (spawn.Go inc run) ∷ H) → inc ≡ starts_counted h H + 1

-- of the starts since a slot's process was placed or changed no more than five lie within a minute
abbrev pub StartsAreFew : Type 0
StartsAreFew = (cfg : Sections) (H : History) (h now inc : ℕ) (run : ArrayVec ℕ)
    → IsLegal cfg (SpawnAsked h now (spawn.Go inc run) ∷ H)
    → window (starts cfg h (SpawnAsked h now (spawn.Go inc run) ∷ H)) now ≤ max_starts

-- Entries that leave a helper slot as it is.
use Rattle.std.specs.Prelude.{ℕ, ◌==◌, ◌∷◌, Bool, true, false, not, IsTrue}
use Rattle.config_model.specs.Sections.{Sections}
use Rattle.book_history.specs.declared.outcomes.Reload.TheVariants as reload
use Rattle.book_history.specs.declared.outcomes.Verdict.TheVariants as verdict
use Rattle.book_history.specs.Entries.{Entry, History}
use Rattle.book_history.specs.Entries.Entry.{LineEntered, RepliesTaken, HelperDeaf, HelperGone, SpawnAsked, Reloaded}
use Rattle.book_history.specs.Helpers.{leaves}
use Rattle.helper_book.specs.Seen.{Seen}
use Rattle.helper_book.specs.Stands.{Stands}

-- Whether an entry is no concern of slot h: it is of another slot or of a neighbour, or of the daemon; a line that
-- wasn't taken; or a reload that wasn't done.
abbrev pub is_apart : ℕ → Entry → Bool
is_apart h (LineEntered k inc line reading verdict.Ended) = true
is_apart h (LineEntered k inc line reading verdict.Busy) = true
is_apart h (LineEntered k inc line reading given) = not (k == h)
is_apart h (RepliesTaken k inc given) = not (k == h)
is_apart h (HelperDeaf k inc) = not (k == h)
is_apart h (HelperGone k inc) = not (k == h)
is_apart h (SpawnAsked k now given) = not (k == h)
is_apart h (Reloaded new reload.Ok) = false
is_apart h _ = true

-- such an entry leaves what the helper stands for
abbrev pub OthersLeave : Type 0
OthersLeave = (cfg : Sections) (H : History) (h : ℕ) (helper : Seen) (entry : Entry) → IsTrue (is_apart h entry)
    → Stands cfg H h helper → Stands cfg (entry ∷ H) h helper

-- and so does a reload that leaves the slot's process as it was
abbrev pub ReloadsLeave : Type 0
ReloadsLeave = (cfg new : Sections) (H : History) (h : ℕ) (helper : Seen) → IsTrue (leaves cfg H new h)
    → Stands cfg H h helper → Stands cfg (Reloaded new reload.Ok ∷ H) h helper

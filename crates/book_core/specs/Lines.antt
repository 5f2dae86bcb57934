-- What becomes of a line in time that finds room.
use Rattle.std.specs.Prelude.{ℕ, ◌≡◌, ◌<◌, ◌==◌, Bool, false, List, ◌∷◌, length, slice_get, Some, Result, Ok}
use Rattle.text_forms.specs.Lines.{Line}
use Rattle.route_grammar.specs.declared.fault.ReadFault.{ReadFault}
use Rattle.route_grammar.specs.declared.fault.ReadFault.TheVariants as read
use Rattle.command_grammar.specs.declared.command.Command.{Command}
use Rattle.command_grammar.specs.Readings.{Says}
use Rattle.config_model.specs.Limits.{max_peers}
use Rattle.config_model.specs.Sections.{Sections}
use Rattle.helper_book.specs.Seen.{Seen as Helper}
use Rattle.book_history.specs.declared.outcomes.Verdict.{Verdict}
use Rattle.book_history.specs.declared.outcomes.Verdict.TheVariants as verdict
use Rattle.book_history.specs.declared.outcomes.Why.{Why}
use Rattle.book_history.specs.declared.outcomes.Why.TheVariants as why
use Rattle.book_history.specs.Bounds.{max_queued}
use Rattle.book_history.specs.Entries.{History}
use Rattle.book_history.specs.Entries.Entry.{LineEntered}
use Rattle.book_history.specs.Legal.{Allows, IsVerdict}
use Rattle.book_history.specs.Replies.{queued}
use Rattle.book_history.specs.Verdicts.{is_late, matches_none}
use Rattle.book_history.specs.Selecting.{selects}
use Rattle.book_core.specs.Carrying.{is_among}
use Rattle.book_core.specs.Seen.{Seen}
use Rattle.book_core.specs.Stands.{Stands}

-- a line says this
abbrev pub IsReadSo : Result Command ReadFault → Type 0
IsReadSo reading = (line : Line) × Says line reading

abbrev pub IsSaid : Command → Type 0
IsSaid given = IsReadSo (Ok given)

-- one more reply to a helper finds room
abbrev pub HasRoom : ℕ → Seen → Type 0
HasRoom h book = (helper : Helper) → slice_get book.helpers h ≡ Some helper → length helper.slot.replies < max_queued

-- an incarnation runs while the daemon goes on, and its replies don't fill their queue
pub record IsInTime (cfg : Sections) (H : History) (h inc : ℕ) : Type 0 where
  pub in_time : is_late cfg H h inc ≡ false
  pub room : (length (queued cfg h inc H) == max_queued) ≡ false

-- a line in time of which nothing more is known than its reading has this verdict, and the book then stands
abbrev pub Answers : ℕ → Result Command ReadFault → Verdict → Seen → Seen → Type 0
Answers h reading given old new =
    (cfg : Sections) (H : History) (inc : ℕ) (line : Line) → Says line reading → IsInTime cfg H h inc
    → Stands cfg H old → Allows cfg H (LineEntered h inc line reading given)
    × Stands cfg (LineEntered h inc line reading given ∷ H) new

-- a line in time that is refused for this, where that is its verdict
abbrev pub Refuses : ℕ → Why → Seen → Seen → Type 0
Refuses h because old new =
    (cfg : Sections) (H : History) (inc : ℕ) (line : Line) (reading : Result Command ReadFault) → Says line reading
    → IsInTime cfg H h inc → IsVerdict cfg H h inc line reading (verdict.Error because) → Stands cfg H old
    → Allows cfg H (LineEntered h inc line reading (verdict.Error because))
    × Stands cfg (LineEntered h inc line reading (verdict.Error because) ∷ H) new

-- why a line without a command is refused
abbrev pub why_of : ReadFault → Why
why_of (read.Line fault) = why.Line fault
why_of read.NoMemory = why.NoMemory

-- the chosen slots are those that a command of a helper slot selects
abbrev pub Selects : Sections → History → ℕ → Command → List Bool → Type 0
Selects cfg H h given chosen = (n : ℕ) → n < max_peers → is_among chosen n ≡ selects cfg H h given n

-- the verdict on a line in time that selects the chosen slots, or needs none, and the book then stands
abbrev pub Does : ℕ → Command → List Bool → Verdict → Seen → Seen → Type 0
Does h given chosen answer old new =
    (cfg : Sections) (H : History) (inc : ℕ) (line : Line) → Says line (Ok given) → IsInTime cfg H h inc
    → Selects cfg H h given chosen → matches_none cfg H h given ≡ false → Stands cfg H old
    → Allows cfg H (LineEntered h inc line (Ok given) answer)
    × Stands cfg (LineEntered h inc line (Ok given) answer ∷ H) new

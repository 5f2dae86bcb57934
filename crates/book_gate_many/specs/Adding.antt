-- Passes that add 1 to a tally, call by call.
use Rattle.std.specs.Prelude.{◌≡◌, ℕ, ◌<◌, Bool, List, [], ◌∷◌, ◌++◌, length, slice_index_or, Contains}
use Rattle.std.specs.List.{list_any}
use mathlib.Core.List.{IsPrefix}
use Rattle.book_gate.specs.declared.view.Signed.{Signed}
use Rattle.book_gate.specs.Histories.{is_name, entries_by, signed}
use Rattle.book_gate.specs.Known.{Known}
use Rattle.book_gate.specs.Calls.{IsLater}
use Rattle.book_gate_many.specs.declared.tally.Added.{Added}
use Rattle.book_gate_many.specs.Tallies.{added}

-- Entries under a name, each of which added 1 and was told one of the totals
abbrev pub ones_by : List ℕ → List ℕ → List (Signed Added)
ones_by name [] = []
ones_by name (total ∷ totals) = signed name (added 1 total) ∷ ones_by name totals

-- All entries that the pass made added 1, and there are this many
pub record HasAdded (times : ℕ) (pass : Known ℕ Added) : Type 0 where
  pub totals : List ℕ
  pub count : length totals ≡ times
  pub mine : entries_by pass.name pass.seen ≡ ones_by pass.name totals

-- The same pass, which went on from what it had seen. It made this many entries more, each of which added 1, and those
-- of joined names stay
pub record Adds (times : ℕ) (pass later : Known ℕ Added) : Type 0 where
  pub rest : IsLater pass later
  pub front : IsPrefix pass.seen later.seen
  pub totals : List ℕ
  pub count : length totals ≡ times
  pub mine : entries_by pass.name later.seen ≡ entries_by pass.name pass.seen ++ ones_by pass.name totals
  pub joined : (name : List ℕ) → Contains pass.joined name → entries_by name later.seen ≡ entries_by name pass.seen

-- Each pass did so
abbrev pub EachAdds : ℕ → List (Known ℕ Added) → List (Known ℕ Added) → Type 0
EachAdds times passes later =
    (i : ℕ) (fallback : Known ℕ Added) → i < length passes
    → Adds times (slice_index_or passes i fallback) (slice_index_or later i fallback)

-- Whether the pass of this name made one of the entries
abbrev pub has_made : List ℕ → List (Signed Added) → Bool
has_made name seen = list_any (λ entry. is_name name entry.name) seen

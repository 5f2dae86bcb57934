-- Entries that items add to a history, one item behind the other.
use Rattle.std.specs.Prelude.{◌≡◌, List, [], ◌∷◌, ◌++◌}
use Rattle.book_history.specs.Entries.{History}

-- What some items leave of a history. Each adds entries, the newest first, by what stands before it.
abbrev pub Adding : {A : Type 0} → (History → A → History → Type 0) → History → List A → History → Type 0
Adding Adds start [] H = H ≡ start
Adding Adds start (item ∷ items) H =
    (added : History) × Adds start item added × Adding Adds (added ++ start) items H

-- The gate's lists of entries, the oldest first, as histories.
use Rattle.std.proofs.Common.{◌≡◌, List, [], ◌∷◌, ◌++◌, reverse, sym, subst}
use Rattle.std.proofs.lemmas.List.{reverse-append}
use Rattle.config_model.specs.Sections.{Sections}
use Rattle.book_history.specs.Entries.{Entry, History}
use Rattle.book_history.specs.Legal.{Allows}
use Rattle.book_core.specs.Seen.{Seen}
use Rattle.book_core.specs.Stands.{Stands}

-- a list with one more entry at its end is the history with that entry
entry_last : (entries : List Entry) (entry : Entry) → reverse (entries ++ entry ∷ []) ≡ entry ∷ reverse entries
entry_last entries entry = reverse-append entries (entry ∷ [])

-- a call that the history allows, and behind which the book stands, follows
pub followed : (cfg : Sections) (entries : List Entry) (entry : Entry) (after : Seen)
    → Allows cfg (reverse entries) entry × Stands cfg (entry ∷ reverse entries) after
    → Stands cfg (reverse (entries ++ entry ∷ [])) after × Allows cfg (reverse entries) entry
followed cfg entries entry after made =
    (subst (λ (H : History). Stands cfg H after) (sym (entry_last entries entry)) made.1, made.0)

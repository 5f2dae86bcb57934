-- Items that add entries, one behind the other.
use Rattle.std.proofs.Common.{List, [], ◌∷◌, ◌++◌, ap, subst}
use Rattle.book_history.specs.Entries.{History}
use Rattle.text_history.specs.Adding.{Adding}

-- one item more
pub adding_more : {A : Type 0} (Adds : History → A → History → Type 0) (start H added : History) (items : List A)
    (item : A) → Adding Adds start items H → Adds H item added
    → Adding Adds start (items ++ item ∷ []) (added ++ H)
adding_more Adds start H added [] item is adds =
    (added, subst (λ (h : History). Adds h item added) is adds, ap (λ (h : History). added ++ h) is)
adding_more Adds start H added (first ∷ items) item (more, adds_first, rest) adds =
    (more, adds_first, adding_more Adds (more ++ start) H added items item rest adds)

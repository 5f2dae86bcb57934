-- Texts that are put behind each other.
use Rattle.std.proofs.Common.{ℕ, ◌≡◌, List, [], ◌∷◌, ◌++◌, ap, subst, sym, ◌∙◌, append_assoc, append-nil}
use Rattle.book_history.specs.Entries.{Entry, History}
use Rattle.answer_texts.specs.Shown.{all_of}
use Rattle.answer_texts.specs.Texts.{IsPut}

-- a piece, and what follows it
pub then : {text one all piece rest : List ℕ} → IsPut text piece one → IsPut one rest all
    → IsPut text (piece ++ rest) all
then {text = text} {piece = piece} {rest = rest} first behind = record {
  after_is = behind.after_is ∙ ap (λ (front : List ℕ). front ++ rest) first.after_is ∙ append_assoc text piece rest;
}

-- what is printed of a history goes on with what is printed of what is added
pub all_follow : (text : Entry → List ℕ) (added H : History)
    → all_of text (added ++ H) ≡ all_of text H ++ all_of text added
all_follow text [] H = sym (append-nil (all_of text H))
all_follow text (entry ∷ added) H =
    ap (λ (front : List ℕ). front ++ text entry) (all_follow text added H)
    ∙ append_assoc (all_of text H) (all_of text added) (text entry)

-- a piece by what it is
pub put_as : {text piece wanted after : List ℕ} → piece ≡ wanted → IsPut text piece after → IsPut text wanted after
put_as {text = text} {after = after} is put =
    subst (λ (named : List ℕ). IsPut text named after) is put

-- What entering one entry leaves, and putting what is printed of it into the buffer.
use Rattle.std.specs.Prelude.{◌≡◌, ◌∷◌, Result, Ok, Err}
use Rattle.config_model.specs.Sections.{Sections}
use Rattle.book_history.specs.declared.outcomes.Reload.{Reload as Loaded}
use Rattle.book_history.specs.Entries.{Entry, History}
use Rattle.book_history.specs.Entries.Entry.{Reloaded}
use Rattle.answer_texts.specs.Shown.{shown}
use Rattle.script_play.specs.declared.player.Player.{Player}
use Rattle.script_play.specs.Player.{PlayerStands}

-- a new configuration was entered, with whatever answer
abbrev pub IsLoaded : Sections → Entry → Type 0
IsLoaded new entry = (given : Loaded) × (entry ≡ Reloaded new given)

-- what a call leaves that enters an entry of a sort, and puts what is printed of it into the buffer
abbrev pub PutsEntry : {E : Type 0} → (Entry → Type 0) → Player → Player → Result (Unit {0}) E → Type 0
PutsEntry IsOne was now (Ok _) =
    (cfg : Sections) (H : History) → PlayerStands cfg H was
    → (entry : Entry) × IsOne entry × PlayerStands cfg (entry ∷ H) now × (now.text.items ≡ shown entry)
PutsEntry IsOne was now (Err _) =
    (cfg : Sections) (H : History) → PlayerStands cfg H was
    → (entry : Entry) × IsOne entry × PlayerStands cfg (entry ∷ H) now

-- The law of additions: what some items leave, and then what one more adds, is what all of them leave.
use Rattle.std.specs.Prelude.{ℕ, List, [], ◌∷◌, ◌++◌, Option}
use Rattle.book_history.specs.Entries.{History}
use Rattle.text_history.specs.Adding.{Adding}
use Rattle.text_history.specs.Encodes.{AddsAnswer, AddsCuts, AddsUp}
use Rattle.text_history.specs.Plays.{AddsLine}

-- one item more, of any kind
abbrev pub GoesOn : {A : Type 0} → (History → A → History → Type 0) → Type 0
GoesOn {A = A} Adds = (start H added : History) (items : List A) (item : A) → Adding Adds start items H
    → Adds H item added → Adding Adds start (items ++ item ∷ []) (added ++ H)

-- a line of a script
abbrev pub ScriptsGoOn : Type 0
ScriptsGoOn = (content : Option (List ℕ → List ℕ)) → GoesOn (AddsLine content)

-- a session that comes up, a helper's line, and a slot's messages
pub record EncodingsGoOn : Type 0 where
  pub ups : GoesOn AddsUp
  pub answers : GoesOn AddsAnswer
  pub cuts : GoesOn AddsCuts

-- The line entries of one incarnation of a helper.
use Rattle.std.specs.Prelude.{ℕ, ◌≡◌, Bool, true, false, List, [], ◌∷◌, ◌++◌, Result, map, not, replicate}
use Rattle.std.specs.List.{flat_map}
use Rattle.text_forms.specs.Lines.{Line, lines}
use Rattle.route_grammar.specs.declared.fault.ReadFault.{ReadFault}
use Rattle.command_grammar.specs.declared.command.Command.{Command}
use Rattle.line_cutter.specs.Chunking.{HasCut}
use Rattle.line_cutter.specs.Cutting.{Cutting}
use Rattle.book_history.specs.declared.outcomes.Verdict.{Verdict}
use Rattle.book_history.specs.declared.outcomes.Verdict.TheVariants as verdict
use Rattle.book_history.specs.Entries.{Entry}
use Rattle.book_history.specs.Entries.Entry.{LineEntered}
use Rattle.book_gate.specs.Known.{Known}
use Rattle.pass_entries.specs.Making.{Makes}

-- a line that was asked for: how it reads, how often its replies found no room, and what it was answered then
pub record Asked : Type 0 where
  pub line : Line
  pub reading : Result Command ReadFault
  pub waits : ℕ
  pub given : Verdict

-- its entries: as long as its replies find no room it is entered again
abbrev pub entries_for : ℕ → ℕ → Asked → List Entry
entries_for h inc asked =
    replicate asked.waits (LineEntered h inc asked.line asked.reading verdict.Busy)
    ++ LineEntered h inc asked.line asked.reading asked.given ∷ []

abbrev pub line_in : Asked → Line
line_in asked = asked.line

-- what holds behind an answer other than that there is no room: the line was taken, or it came too late
abbrev pub GoesOn : Verdict → Type 0 → Type 0 → Type 0
GoesOn verdict.Ended taken late = late
GoesOn verdict.Busy taken late = ⊥
GoesOn (verdict.Error why) taken late = taken
GoesOn verdict.Done taken late = taken

-- all lines were taken; or all but the last, which came too late
abbrev pub AreAsked : List Asked → Bool → Type 0
AreAsked [] late = late ≡ false
AreAsked (asked ∷ more) late = GoesOn asked.given (AreAsked more late) ((more ≡ []) × (late ≡ true))

-- the entries of lines of one incarnation, one behind the other, of which the last came too late or none
pub record LineRun (h inc : ℕ) (texts : List Line) (late : Bool) (entries : List Entry) : Type 0 where
  pub asked : List Asked
  pub entries_are : entries ≡ flat_map (entries_for h inc) asked
  pub texts_are : map line_in asked ≡ texts
  pub ends : AreAsked asked late

module _ {A : Type 0} where
  -- a pass made the entries of lines of an incarnation
  pub record EntersLines (pass : Known A Entry) (h inc : ℕ) (texts : List Line) (late : Bool) (later : Known A Entry)
      : Type 0 where
    pub entries : List Entry
    pub makes : Makes pass entries later
    pub run : LineRun h inc texts late entries

  -- a line was taken, or came too late
  abbrev pub EntersLine : Known A Entry → ℕ → ℕ → Line → Bool → Known A Entry → Type 0
  EntersLine pass h inc line done later = EntersLines pass h inc (line ∷ []) (not done) later

  -- the lines that end in bytes were taken, but for those that were passed before
  pub record PieceTaken (pass : Known A Entry) (h inc : ℕ) (bytes : List ℕ) (passed : List Line) (held : Cutting)
      (later : Known A Entry) : Type 0 where
    pub more : List Line
    pub cut : HasCut bytes (passed ++ more) held
    pub enters : EntersLines pass h inc more false later

  -- some of these were asked for, of which the last came too late
  pub record PieceLate (pass : Known A Entry) (h inc : ℕ) (bytes : List ℕ) (passed : List Line)
      (later : Known A Entry) : Type 0 where
    pub front : List Line
    pub behind : List Line
    pub lines_are : lines bytes ≡ passed ++ (front ++ behind)
    pub enters : EntersLines pass h inc front true later

  -- what a call leaves that enters the lines which end in a piece, whatever came before
  abbrev pub EntersPiece :
      Known A Entry → ℕ → ℕ → Cutting → List ℕ → Bool → Cutting → Known A Entry → Type 0
  EntersPiece pass h inc held piece true held' later =
      (bytes : List ℕ) (passed : List Line) → HasCut bytes passed held
      → PieceTaken pass h inc (bytes ++ piece) passed held' later
  EntersPiece pass h inc held piece false held' later =
      (bytes : List ℕ) (passed : List Line) → HasCut bytes passed held
      → PieceLate pass h inc (bytes ++ piece) passed later

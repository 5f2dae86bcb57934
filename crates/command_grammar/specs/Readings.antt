-- A line together with what reading it gave.
use Rattle.std.specs.Prelude.{ℕ, ◌≡◌, ◌≤◌, ◌<◌, List, length, Result, Ok, Err}
use Rattle.text_forms.specs.declared.lines.Line.{Line as Given}
use Rattle.text_forms.specs.Lines.{Line, Text, TooLong}
use Rattle.text_forms.specs.LineTold.{line_told}
use Rattle.token_reader.specs.LineTokens.{line_tokens}
use Rattle.route_grammar.specs.declared.fault.LineFault.TheVariants as fault
use Rattle.route_grammar.specs.declared.fault.ReadFault.{ReadFault}
use Rattle.route_grammar.specs.declared.fault.ReadFault.TheVariants as read
use Rattle.route_grammar.specs.Limits.{in_force}
use Rattle.command_grammar.specs.declared.command.Command.{Command}
use Rattle.command_grammar.specs.Lines.{ReadsLine, IsRefused}

-- a line and what reading it gave
pub record Reading : Type 0 where
  pub line : Line
  pub reading : Result Command ReadFault

abbrev pub reading_told : Given → Result Command ReadFault → Reading
reading_told line reading = record { line = line_told line; reading = reading }

-- the one command that the text says, or why it isn't known
abbrev pub SaysText : List ℕ → Result Command ReadFault → Type 0
SaysText text (Ok command) =
    ReadsLine in_force (line_tokens 0 text) command
    × ((other : Command) → ReadsLine in_force (line_tokens 0 text) other → other ≡ command)
SaysText text (Err refused) = IsRefused (line_tokens 0 text) refused

-- the reading is that of the line; a text of over 65,535 bytes is too long
abbrev pub Says : Line → Result Command ReadFault → Type 0
Says (Text text) reading =
    (length text ≤ 65535 → SaysText text reading) × (65535 < length text → reading ≡ Err (read.Line fault.TooLong))
Says TooLong reading = reading ≡ Err (read.Line fault.TooLong)

abbrev pub IsReading : Reading → Type 0
IsReading read_line = Says read_line.line read_line.reading

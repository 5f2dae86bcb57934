-- What `parse` writes for what it reads.
use Rattle.std.specs.Prelude.{ℕ, ◌≡◌, codes, decimal, List, ◌++◌, Result, Ok, Err}
use Rattle.std.specs.List.{flat_map, AllZip}
use Rattle.text_forms.specs.Lines.{lines, Line as Given}
use Rattle.line_cutter.specs.Chunking.{HasCut}
use Rattle.line_cutter.specs.Cutting.{Cutting}
use Rattle.route_grammar.specs.declared.fault.LineFault.{LineFault}
use Rattle.route_grammar.specs.declared.fault.LineFault.TheVariants.{BadToken, TooMany, TooLong}
use Rattle.route_grammar.specs.declared.fault.ReadFault.{ReadFault}
use Rattle.route_grammar.specs.declared.fault.ReadFault.TheVariants.{Line, NoMemory}
use Rattle.command_grammar.specs.declared.command.Command.{Command}
use Rattle.command_grammar.specs.Readings.{Says}

-- how a fault of a line is printed
abbrev pub fault_text : LineFault → List ℕ
fault_text (BadToken place) = codes "error token " ++ (decimal place ++ codes "\n")
fault_text (TooMany place limit) =
    codes "error many " ++ (decimal place ++ (codes " " ++ (decimal limit ++ codes "\n")))
fault_text TooLong = codes "error long\n"

-- how it is printed what reading a line gave
abbrev pub reading_text : Result Command ReadFault → List ℕ
reading_text (Ok _) = codes "ok\n"
reading_text (Err (Line fault)) = fault_text fault
reading_text (Err NoMemory) = codes "error memory\n"

-- a text goes on with what reading a line gives
pub record IsPrinted (line : Given) (before after : List ℕ) : Type 0 where
  pub reading : Result Command ReadFault
  pub says : Says line reading
  pub text : after ≡ before ++ reading_text reading

-- each line in order with what reading it gives, printed
pub record IsParsing (input output : List ℕ) : Type 0 where
  pub readings : List (Result Command ReadFault)
  pub read : AllZip Says (lines input) readings
  pub text : output ≡ flat_map reading_text readings

-- Lines end in a piece of a stream, of whose front a cutter holds what is no line yet. A text goes on with what reading
-- each of them gives, printed in order.
pub record ArePut (piece : List ℕ) (held held' : Cutting) (before after : List ℕ) : Type 0 where
  pub more : List Given
  pub cut : (front : List ℕ) (passed : List Given) → HasCut front passed held
      → HasCut (front ++ piece) (passed ++ more) held'
  pub readings : List (Result Command ReadFault)
  pub read : AllZip Says more readings
  pub text : after ≡ before ++ flat_map reading_text readings

-- Lines that end in a piece, read one by one.
use Rattle.std.proofs.Common.{ℕ, ◌≡◌, ◌⊎◌, true, List, [], ◌∷◌, ◌++◌, length, drop, Some, None, Result}
use Rattle.std.proofs.Common.{ap, sym, ◌∙◌, subst, append_assoc, append-nil}
use Rattle.std.specs.List.{AllZip, flat_map}
use Rattle.std.proofs.lemmas.Grind.{flat_map-append}
use Rattle.std.proofs.lemmas.List.{flat_map_more}
use Rattle.text_forms.specs.Lines.{Line, lines}
use Rattle.line_cutter.specs.Chunking.{HasCut}
use Rattle.line_cutter.specs.Cutting.{Cutting, advanced, count_of, fed, standing}
use Rattle.line_cutter.proofs.ChunkingLemmas.{IsTaking, cut_ends, taking_end, taking_next, taking_none}
use Rattle.route_grammar.specs.declared.fault.ReadFault.{ReadFault}
use Rattle.command_grammar.specs.declared.command.Command.{Command}
use Rattle.command_grammar.specs.Readings.{Says}
use Rattle.exa_top.specs.Parsing.{ArePut, IsParsing, IsPrinted, reading_text}
use Rattle.exa_top.proofs.ZippedLemmas.{zipped_both}

-- of the lines that end in front of this rest of a piece it was put how they read
pub record PutFront (piece rest : List ℕ) (held now : Cutting) (before after : List ℕ) : Type 0 where
  pub none : standing now ≡ None
  pub more : List Line
  pub taking : (passed : List Line) → IsTaking piece passed held rest (passed ++ more) now
  pub readings : List (Result Command ReadFault)
  pub read : AllZip Says more readings
  pub text : after ≡ before ++ flat_map reading_text readings

pub put_none : (piece : List ℕ) (held : Cutting) (text : List ℕ) → standing held ≡ None
    → PutFront piece piece held held text text
put_none piece held text none = record {
  none = none;
  more = [];
  taking = λ passed.
      subst (λ (all : List Line). IsTaking piece passed held piece all held) (sym (append-nil passed))
      (taking_none piece passed held none);
  readings = [];
  read = tt;
  text = sym (append-nil text);
}

-- one line more was read
pub put_more : (piece rest left : List ℕ) (line : Line) (held now after next : Cutting) (count : ℕ)
    (before between text : List ℕ) → PutFront piece rest held now before between → count ≡ count_of rest now
    → after ≡ fed rest now → left ≡ drop count rest → Some line ≡ standing after → next ≡ advanced after
    → IsPrinted line between text → PutFront piece left held next before text
put_more piece rest left line held now after next count before between text was counted is left_is stands passes printed
    =
    let taking : (passed : List Line) → IsTaking piece passed held left (passed ++ (was.more ++ line ∷ [])) next =
    λ passed. taking_next piece passed held rest (passed ++ was.more) now line count left
    (passed ++ (was.more ++ line ∷ [])) after next (was.taking passed) counted is left_is stands
    (sym (append_assoc passed was.more (line ∷ []))) passes in
    record {
      none = (taking []).none;
      more = was.more ++ line ∷ [];
      taking = taking;
      readings = was.readings ++ printed.reading ∷ [];
      read =
          zipped_both Says was.more (line ∷ []) was.readings (printed.reading ∷ []) was.read (printed.says, tt);
      text =
          printed.text ∙ ap (λ t. t ++ reading_text printed.reading) was.text
          ∙ flat_map_more reading_text before was.readings printed.reading;
    }

-- no line more ends in the piece
pub put_all : (piece rest : List ℕ) (held now after : Cutting) (count : ℕ) (before text : List ℕ)
    → PutFront piece rest held now before text → count ≡ count_of rest now → after ≡ fed rest now
    → (count ≡ length rest) ⊎ (after.ended ≡ true) → None ≡ standing after → ArePut piece held after before text
put_all piece rest held now after count before text was counted is whole none = record {
  more = was.more;
  cut = λ front passed cut.
      taking_end piece passed held rest (passed ++ was.more) now count after (was.taking passed) counted is whole none
      front cut;
  readings = was.readings;
  read = was.read;
  text = was.text;
}

-- the lines of a stream were read, and then those that end in its next piece
pub parsing_more : (bytes piece text more : List ℕ) (held next : Cutting) → IsParsing bytes text
    → HasCut bytes (lines bytes) held → ArePut piece held next [] more → standing next ≡ None
    → IsParsing (bytes ++ piece) (text ++ more) × HasCut (bytes ++ piece) (lines (bytes ++ piece)) next
parsing_more bytes piece text more held next was cut put none =
    let behind = put.cut bytes (lines bytes) cut in
    let all : lines (bytes ++ piece) ≡ lines bytes ++ put.more =
    cut_ends (bytes ++ piece) (lines bytes ++ put.more) next behind none in (
      record {
        readings = was.readings ++ put.readings;
        read =
            subst (λ (given : List Line). AllZip Says given (was.readings ++ put.readings)) (sym all)
            (zipped_both Says (lines bytes) put.more was.readings put.readings was.read put.read);
        text =
            ap (λ t. t ++ more) was.text ∙ ap (λ t. flat_map reading_text was.readings ++ t) put.text
            ∙ sym (flat_map-append reading_text was.readings put.readings);
      },
      subst (λ (passed : List Line). HasCut (bytes ++ piece) passed next) (sym all) behind,
    )

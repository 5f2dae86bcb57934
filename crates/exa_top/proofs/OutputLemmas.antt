-- Outputs that belong to what a command read.
use Rattle.std.proofs.Common.{ℕ, ◌≡◌, List, [], ◌∷◌, ◌++◌, ◌∙◌, ap, append-nil, refl, subst, sym, inr, cond, Bool, true}
use Rattle.std.proofs.Common.{false, Result, Err, length, ltb, ltb-true, ltb-false, arith}
use Rattle.std.specs.List.{AllZip, flat_map}
use Rattle.std.proofs.lemmas.Grind.{flat_map-append}
use Rattle.text_forms.specs.Lines.{Line, Text, TooLong, lines}
use Rattle.line_cutter.proofs.UnfinishedLemmas.{lines_stay}
use Rattle.route_grammar.specs.declared.fault.LineFault.TheVariants as fault
use Rattle.route_grammar.specs.declared.fault.ReadFault.{ReadFault}
use Rattle.route_grammar.specs.declared.fault.ReadFault.TheVariants.{Line as Refused, NoMemory}
use Rattle.command_grammar.specs.declared.command.Command.{Command}
use Rattle.command_grammar.specs.Readings.{Says}
use Rattle.config_model.specs.Sections.{Sections}
use Rattle.text_history.specs.Encodes.{numbered}
use Rattle.exa_top.specs.Encoded.{IsEncoded, IsEncodedPart}
use Rattle.exa_top.specs.Parsing.{IsParsing, reading_text}
use Rattle.exa_top.proofs.ZippedLemmas.{zipped_both}

-- lines that were encoded to their end were encoded so far
pub encoded_is_part : (config : Sections) (input early late : List ℕ) → IsEncoded config input early late
    → IsEncodedPart config input early late
encoded_is_part config input early late is = record {
  history = is.history;
  begins =
      record {
        started = is.encodes.started;
        raised = is.encodes.raised;
        answered = is.encodes.answered;
        more = [];
        front = lines input;
        behind = [];
        lines_are = sym (append-nil (lines input));
        slots = numbered 0 config.neighbors;
        others = [];
        slots_are = sym (append-nil (numbered 0 config.neighbors));
        late = inr refl;
        ups = is.encodes.ups;
        answers = is.encodes.answers;
        cuts = is.encodes.cuts;
      };
  legal = is.legal;
  output_is = is.output_is;
  parted = inr is.early_is;
}

-- a text whose reading found no memory; one that is too long isn't read
unread_text : Bool → Result Command ReadFault
unread_text long = cond long (Err (Refused fault.TooLong)) (Err NoMemory)

text_says : (text : List ℕ) (long : Bool) → ltb 65535 (length text) ≡ long → Says (Text text) (unread_text long)
unfolding unread_text
text_says text true is = (
  λ few. absurd (omega (arith, few, ltb-true 65535 (length text) is)),
  λ more. refl,
)
text_says text false is = (
  λ few. tt,
  λ more. absurd (omega (arith, more, ltb-false 65535 (length text) is)),
)

unread : Line → Result Command ReadFault
unread (Text text) = unread_text (ltb 65535 (length text))
unread TooLong = Err (Refused fault.TooLong)

unread_says : (line : Line) → Says line (unread line)
unfolding unread
unread_says (Text text) = text_says text (ltb 65535 (length text)) refl
unread_says TooLong = refl

unread_all : List Line → List (Result Command ReadFault)
unread_all [] = []
unread_all (line ∷ others) = unread line ∷ unread_all others

unread_say : (given : List Line) → AllZip Says given (unread_all given)
unfolding unread_all
unread_say [] = tt
unread_say (line ∷ others) = (unread_says line, unread_say others)

-- so a parsing goes on, whatever follows what was read
pub parsing_on : (bytes more text : List ℕ) → IsParsing bytes text
    → (rest : List ℕ) × IsParsing (bytes ++ more) (text ++ rest)
parsing_on bytes more text is =
    let stay = lines_stay bytes more in
    let others : List (Result Command ReadFault) = unread_all stay.0 in (
      flat_map reading_text others,
      record {
        readings = is.readings ++ others;
        read =
            subst (λ (given : List Line). AllZip Says given (is.readings ++ others)) (sym stay.1)
            (zipped_both Says (lines bytes) stay.0 is.readings others is.read (unread_say stay.0));
        text =
            ap (λ t. t ++ flat_map reading_text others) is.text
            ∙ sym (flat_map-append reading_text is.readings others);
      },
    )

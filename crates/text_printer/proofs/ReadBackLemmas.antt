-- The line of an effect is read as a command that tells just the effect.
use Rattle.std.proofs.Common.{ℕ, ◌≡◌, List, [], ◌∷◌, Option, Some, None, Result, Ok, Err, sym, ◌∙◌, refl, subst}
use Rattle.std.proofs.Common.{append-nil}
use Rattle.text_forms.specs.Lines.{Text}
use Rattle.token_reader.specs.LineTokens.{line_tokens}
use Rattle.token_reader.specs.Tokens.{Token}
use Rattle.route_grammar.specs.declared.fault.LineFault.{LineFault}
use Rattle.route_grammar.specs.declared.fault.LineFault.TheVariants.{BadToken, TooMany, TooLong}
use Rattle.route_grammar.specs.declared.fault.ReadFault.{ReadFault}
use Rattle.route_grammar.specs.declared.fault.ReadFault.TheVariants.{Line, NoMemory}
use Rattle.route_grammar.specs.Limits.{Counted, in_force}
use Rattle.route_grammar.specs.Productions.{IsFirstFault, in_force as held_in_force}
use Rattle.update_grammar.specs.declared.effect.Effect.{Effect}
use Rattle.update_grammar.specs.declared.effect.Effect.TheVariants.{Gone, Here}
use Rattle.command_grammar.specs.declared.command.Command.{Command}
use Rattle.command_grammar.specs.declared.command.Command.TheVariants as said
use Rattle.command_grammar.specs.Lines.{ReadsLine, IsLineFault}
use Rattle.command_grammar.specs.Readings.{Says, SaysText}
use Rattle.text_printer.specs.Laws.{IsEffect, HasReading, TellsEffect}
use Rattle.text_printer.specs.Plain.{plain_of}
use Rattle.text_printer.specs.Printable.{IsPrintable}
use Rattle.text_printer.specs.Printing.{effect_tokens, effect_text}
use Rattle.text_printer.specs.Told.{told_by, told_of}
use Rattle.text_printer.proofs.CleanLemmas.{clean_effect}
use Rattle.text_printer.proofs.ExtendedLemmas.{IsEight, all_eight, extended_said}
use Rattle.text_printer.proofs.FoundLemmas.{here_found, gone_found}
use Rattle.text_printer.proofs.LengthLemmas.{effect_short}
use Rattle.text_printer.proofs.TokenLemmas.{spaced_tokens}

-- a reading of an effect's tokens is one of its line
of_line : (effect : Effect) (command : Command) → IsEffect effect → ReadsLine in_force (effect_tokens effect) command
    → told_by command ≡ told_of effect ∷ [] → HasReading effect (effect_text effect)
of_line effect command is read tells = (
  command,
  subst (λ (tokens : List Token). ReadsLine in_force tokens command)
      (sym (spaced_tokens (effect_tokens effect) (clean_effect effect is))) read,
  tells,
)

pub effect_found : (effect : Effect) → IsEffect effect → IsPrintable effect → HasReading effect (effect_text effect)
effect_found (Gone key) is can = of_line (Gone key) (said.Withdraw [] (key ∷ [])) is (gone_found key is) refl
effect_found (Here key sent) is can =
    of_line (Here key sent) (said.Announce [] (key ∷ []) (plain_of sent)) is
    (here_found IsEight extended_said key sent is.0 is.1 can
    (let sendable = is.1 in all_eight sent.extended sendable.extended is.2)) refl

-- ---- no other reading

-- tokens that are read have no fault
no_fault : (tokens : List Token) (spoken : Command) (place : ℕ) (over : Option Counted)
    → ReadsLine in_force tokens spoken → IsFirstFault ReadsLine in_force tokens place over → ⊥
no_fault tokens spoken place over read (before, left, is, at, fault) =
    fault.none in_force left tokens [] spoken held_in_force refl (sym is ∙ sym (append-nil tokens)) read refl

no_line_fault : (tokens : List Token) (spoken : Command) (fault : LineFault) → ReadsLine in_force tokens spoken
    → IsLineFault tokens fault → ⊥
no_line_fault tokens spoken (BadToken place) read is = no_fault tokens spoken is.0 None read is.2
no_line_fault tokens spoken (TooMany place limit) read is = no_fault tokens spoken is.0 (Some is.1) read is.4
no_line_fault tokens spoken TooLong read is = is

text_tells : (effect : Effect) (text : List ℕ) (spoken : Command) (result : Result Command ReadFault)
    → ReadsLine in_force (line_tokens 0 text) spoken → told_by spoken ≡ told_of effect ∷ []
    → SaysText text result → TellsEffect effect result
text_tells effect text spoken (Ok other) read tells says =
    subst (λ (one : Command). told_by one ≡ told_of effect ∷ []) (says.1 spoken read) tells
text_tells effect text spoken (Err (Line fault)) read tells says =
    no_line_fault (line_tokens 0 text) spoken fault read says
text_tells effect text spoken (Err NoMemory) read tells says = tt

pub effect_read_back : (effect : Effect) (result : Result Command ReadFault) → IsEffect effect → IsPrintable effect
    → Says (Text (effect_text effect)) result → TellsEffect effect result
effect_read_back effect result is can says =
    let found = effect_found effect is can in
    text_tells effect (effect_text effect) found.0 result found.1 found.2 (says.0 (effect_short effect is can))

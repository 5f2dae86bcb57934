-- The law of printing: the line of an effect reads back, and tells just that effect.
use Rattle.std.specs.Prelude.{ℕ, ◌≡◌, ◌≤◌, ◌<◌, ◌^◌, ⊤, List, [], ◌∷◌, length, Result, Ok, Err}
use Rattle.std.specs.List.{AllByRecursion, AllZip, flat_map}
use Rattle.std.specs.Option.{option_map}
use Rattle.route_values.specs.declared.key.Key.{Key}
use Rattle.route_values.specs.Caps.{Caps}
use Rattle.route_values.specs.Key.{family_of_key}
use Rattle.route_values.specs.Prefix.{IsPrefix}
use Rattle.text_forms.specs.Lines.{Text}
use Rattle.token_reader.specs.LineTokens.{line_tokens}
use Rattle.route_grammar.specs.declared.fault.ReadFault.{ReadFault}
use Rattle.route_grammar.specs.declared.fault.ReadFault.TheVariants.{Line, NoMemory}
use Rattle.route_grammar.specs.Limits.{in_force}
use Rattle.update_grammar.specs.declared.effect.Effect.{Effect}
use Rattle.update_grammar.specs.declared.effect.Effect.TheVariants.{Gone, Here}
use Rattle.update_grammar.specs.Net.{net}
use Rattle.update_grammar.specs.Update.{Spells}
use Rattle.update_grammar.specs.Written.{IsSendable}
use Rattle.command_grammar.specs.declared.command.Command.{Command}
use Rattle.command_grammar.specs.Lines.{ReadsLine}
use Rattle.command_grammar.specs.Readings.{Says}
use Rattle.text_printer.specs.Printable.{IsPrintable}
use Rattle.text_printer.specs.Printing.{effect_tokens, effect_text}
use Rattle.text_printer.specs.Plain.{plain_of}
use Rattle.text_printer.specs.Told.{told_by, told_of, net_told}

-- a prefix, and an identifier of 32 bits
pub record IsKey (key : Key) : Type 0 where
  pub prefix : IsPrefix key.prefix.addr key.prefix.len
  pub id : key.id < 2 ^ 32

-- a number of 8 bits
abbrev pub IsByte : ℕ → Type 0
IsByte number = number < 256

abbrev pub AreBytes : List ℕ → Type 0
AreBytes bytes = AllByRecursion IsByte bytes

-- an effect that a message can have: numbers in their ranges, and a next hop of its key's family
abbrev pub IsEffect : Effect → Type 0
IsEffect (Gone key) = IsKey key
IsEffect (Here key sent) = IsKey key × IsSendable (family_of_key key) sent × AllByRecursion AreBytes sent.extended

-- the line is read as a command that tells just what the effect does
abbrev pub HasReading : Effect → List ℕ → Type 0
HasReading effect line =
    (command : Command) × ReadsLine in_force (line_tokens 0 line) command × (told_by command ≡ told_of effect ∷ [])

-- what reading a line gave: a command that tells just what the effect does, unless memory was wanting
abbrev pub TellsEffect : Effect → Result Command ReadFault → Type 0
TellsEffect effect (Ok command) = told_by command ≡ told_of effect ∷ []
TellsEffect effect (Err NoMemory) = ⊤
TellsEffect effect (Err (Line fault)) = ⊥

-- the line of an effect says the command
abbrev pub IsSaidFor : Effect → Command → Type 0
IsSaidFor effect command = Says (Text (effect_text effect)) (Ok command)

-- the line of an effect has just its tokens
abbrev pub LinesHaveTheirTokens : Type 0
LinesHaveTheirTokens = (effect : Effect) → IsEffect effect → line_tokens 0 (effect_text effect) ≡ effect_tokens effect

-- and is no longer than a line may be
abbrev pub LinesAreShort : Type 0
LinesAreShort = (effect : Effect) → IsEffect effect → IsPrintable effect → length (effect_text effect) ≤ 65535

-- the line of an effect that can be printed has a reading
abbrev pub LinesHaveReadings : Type 0
LinesHaveReadings = (effect : Effect) → IsEffect effect → IsPrintable effect → HasReading effect (effect_text effect)

-- and no other: whoever reads it is given a command that tells just what the effect does
abbrev pub LinesReadBack : Type 0
LinesReadBack =
    (effect : Effect) (result : Result Command ReadFault) → IsEffect effect → IsPrintable effect
    → Says (Text (effect_text effect)) result → TellsEffect effect result

-- what the lines of effects tell leaves at each key what the effects leave there, as a command writes it
abbrev pub LinesKeepNet : Type 0
LinesKeepNet =
    (effects : List Effect) (commands : List Command) → AllByRecursion IsEffect effects
    → AllByRecursion IsPrintable effects → AllZip IsSaidFor effects commands
    → (key : Key) → net_told (flat_map told_by commands) key ≡ option_map plain_of (net effects key)

-- the effects that the body of an UPDATE spells are such effects
abbrev pub SpelledAreEffects : Type 0
SpelledAreEffects = (caps : Caps) (body : List ℕ) (effects : List Effect) → AreBytes body → Spells caps body effects
    → AllByRecursion IsEffect effects

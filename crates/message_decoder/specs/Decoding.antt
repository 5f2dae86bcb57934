-- What `decode` writes: for each line of its input the commands that tell the same, or a remark with its first fault.
use Rattle.std.specs.Prelude.{ℕ, ◌≡◌, ◌==◌, ◌+◌, ◌||◌, Bool, true, false, codes, List, [], ◌∷◌, ◌++◌, if◌then◌else◌}
use Rattle.std.specs.List.{list_any, list_all}
use Rattle.std.specs.Str.{bytes_eq}
use Rattle.route_values.specs.Caps.{Caps}
use Rattle.text_forms.specs.Blanks.{is_blank_byte}
use Rattle.text_forms.specs.Lines.{without_return}
use Rattle.update_grammar.specs.declared.effect.Effect.{Effect}
use Rattle.text_printer.specs.declared.fault.Unread.{Unread}
use Rattle.text_printer.specs.Printable.{IsPrintable}
use Rattle.text_printer.specs.Printing.{effect_text}
use Rattle.text_printer.specs.Reading.{Tells, IsUnread}
use Rattle.text_printer.specs.Refusals.{IsRefusal, unprintable_text}

-- a byte at the front of the first of some parts
abbrev pub onto_first : ℕ → List (List ℕ) → List (List ℕ)
onto_first b [] = (b ∷ []) ∷ []
onto_first b (part ∷ parts) = (b ∷ part) ∷ parts

-- the lines of an input, each without its line feed, which the last one may lack
abbrev pub input_lines : List ℕ → List (List ℕ)
input_lines [] = []
input_lines (b ∷ bs) = if b == 10 then [] ∷ input_lines bs else onto_first b (input_lines bs)

-- what other commands print besides messages
abbrev pub replies : List (List ℕ)
replies = codes "done" ∷ codes "error" ∷ codes "error memory" ∷ codes "nothing" ∷ []

-- a line that is passed over: blanks alone, or such a reply, with a carriage return or without
abbrev pub is_passed_over : List ℕ → Bool
is_passed_over line =
    list_all is_blank_byte (without_return line) || list_any (bytes_eq (without_return line)) replies

-- a text with its line feed
abbrev pub ended : List ℕ → List ℕ
ended text = text ++ 10 ∷ []

-- the line of an effect, or the remark that it has none
pub data IsEffectLine (effect : Effect) : List ℕ → Type 0 where
  printed : IsPrintable effect → IsEffectLine effect (effect_text effect)
  unprintable : ¬ (IsPrintable effect) → IsEffectLine effect unprintable_text

-- one line an effect, in order
abbrev pub AreEffectLines : List Effect → List ℕ → Type 0
AreEffectLines [] text = text ≡ []
AreEffectLines (effect ∷ effects) text =
    (line : List ℕ) × (others : List ℕ) × (text ≡ ended line ++ others) × IsEffectLine effect line
    × AreEffectLines effects others

-- the line of the remark on the line of this number, which has this fault
abbrev pub IsRemark : ℕ → Unread → List ℕ → Type 0
IsRemark number unread text = (remark : List ℕ) × IsRefusal number unread remark × (text ≡ ended remark)

-- what is written for the line of this number
pub data IsAnswer (caps : Caps) (number : ℕ) (line : List ℕ) : List ℕ → Type 0 where
  passed_over : is_passed_over line ≡ true → IsAnswer caps number line []
  told : (effects : List Effect) (text : List ℕ) → is_passed_over line ≡ false → Tells caps line effects
      → AreEffectLines effects text → IsAnswer caps number line text
  refused : (unread : Unread) (text : List ℕ) → is_passed_over line ≡ false → IsUnread caps line unread
      → IsRemark number unread text → IsAnswer caps number line text

-- what is written for lines of which the first has this number
abbrev pub AreAnswers : Caps → ℕ → List (List ℕ) → List ℕ → Type 0
AreAnswers caps number [] text = text ≡ []
AreAnswers caps number (line ∷ lines) text =
    (answer : List ℕ) × (others : List ℕ) × (text ≡ answer ++ others) × IsAnswer caps number line answer
    × AreAnswers caps (number + 1) lines others

-- what is written for an input; its lines count from 1
abbrev pub IsDecoding : Caps → List ℕ → List ℕ → Type 0
IsDecoding caps input text = AreAnswers caps 1 (input_lines input) text

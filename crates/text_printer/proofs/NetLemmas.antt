-- What the lines of effects tell leaves at each key what the effects leave there.
use Rattle.std.proofs.Common.{◌≡◌, Bool, true, false, List, [], ◌∷◌, ◌++◌, map, Option, Some, None, Ok, ap, ◌∙◌, refl}
use Rattle.std.specs.List.{AllByRecursion, AllZip, flat_map}
use Rattle.std.specs.Option.{option_map}
use Rattle.std.specs.Prelude.{unwrap_or, if◌then◌else◌}
use Rattle.route_values.specs.declared.attrs.Attrs.{Attrs}
use Rattle.route_values.specs.declared.attrs.WireAttrs.{WireAttrs}
use Rattle.route_values.specs.declared.key.Key.{Key}
use Rattle.route_values.specs.Key.{same_key}
use Rattle.update_grammar.specs.declared.effect.Effect.{Effect}
use Rattle.update_grammar.specs.declared.effect.Effect.TheVariants as effect
use Rattle.update_grammar.specs.Net.{later_of, last_word, effect_says, net}
use Rattle.command_grammar.specs.declared.command.Command.{Command}
use Rattle.text_printer.specs.Laws.{IsEffect, IsSaidFor}
use Rattle.text_printer.specs.Plain.{plain_of}
use Rattle.text_printer.specs.Printable.{IsPrintable}
use Rattle.text_printer.specs.Told.{Told, told_by, told_of, told_says, net_told}
use Rattle.text_printer.proofs.ReadBackLemmas.{effect_read_back}

-- a word of an effect as one of what is told
abbrev as_told : Option (Option WireAttrs) → Option (Option Attrs)
as_told word = option_map (option_map plain_of) word

said_where : (stands : Bool) (word : Option WireAttrs)
    → (if stands then Some (option_map plain_of word) else None) ≡ as_told (if stands then Some word else None)
said_where true word = refl
said_where false word = refl

says_same : (one : Effect) (key : Key) → told_says (told_of one) key ≡ as_told (effect_says one key)
says_same (effect.Gone k) key = said_where (same_key k key) None
says_same (effect.Here k sent) key = said_where (same_key k key) (Some sent)

later_same : (later earlier : Option (Option WireAttrs))
    → later_of (as_told later) (as_told earlier) ≡ as_told (later_of later earlier)
later_same (Some word) earlier = refl
later_same None earlier = refl

word_same : (effects : List Effect) (key : Key)
    → last_word told_says (map told_of effects) key ≡ as_told (last_word effect_says effects key)
word_same [] key = refl
word_same (one ∷ effects) key =
    ap (λ (word : Option (Option Attrs)). later_of (last_word told_says (map told_of effects) key) word)
    (says_same one key)
    ∙ ap (λ (word : Option (Option Attrs)). later_of word (as_told (effect_says one key))) (word_same effects key)
    ∙ later_same (last_word effect_says effects key) (effect_says one key)

left_same : (word : Option (Option WireAttrs)) → unwrap_or (as_told word) None ≡ option_map plain_of
    (unwrap_or word None)
left_same None = refl
left_same (Some word) = refl

-- each line tells its effect
all_told : (effects : List Effect) (commands : List Command) → AllByRecursion IsEffect effects
    → AllByRecursion IsPrintable effects → AllZip IsSaidFor effects commands
    → flat_map told_by commands ≡ map told_of effects
all_told [] [] are can said = refl
all_told [] (spoken ∷ commands) are can said = absurd said
all_told (one ∷ effects) [] are can said = absurd said
all_told (one ∷ effects) (spoken ∷ commands) are can said =
    ap (λ (told : List Told). told ++ flat_map told_by commands)
    (effect_read_back one (Ok spoken) are.0 can.0 said.0)
    ∙ ap (λ (told : List Told). told_of one ∷ told) (all_told effects commands are.1 can.1 said.1)

pub net_kept : (effects : List Effect) (commands : List Command) → AllByRecursion IsEffect effects
    → AllByRecursion IsPrintable effects → AllZip IsSaidFor effects commands
    → (key : Key) → net_told (flat_map told_by commands) key ≡ option_map plain_of (net effects key)
net_kept effects commands are can said key =
    ap (λ (told : List Told). net_told told key) (all_told effects commands are can said)
    ∙ ap (λ (word : Option (Option Attrs)). unwrap_or word None) (word_same effects key)
    ∙ left_same (last_word effect_says effects key)

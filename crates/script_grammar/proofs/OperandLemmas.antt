-- What operands are read as.
use Rattle.std.proofs.Common.{ℕ, ◌≡◌, ◌<◌, ◌^◌, ◌==◌, ◌&&◌, not, Bool, true, false, List, [], ◌∷◌, ◌++◌, length}
use Rattle.std.proofs.Common.{Some, None, ap, sym, ◌∙◌, refl, subst, decimal, arith, if◌then◌else◌, nat_lt}
use Rattle.std.proofs.Common.{lt-ltb, le-ltb, ltb-true, ltb-false, ne_eqb, ◌||◌}
use Rattle.std.specs.Char.{is_ascii_digit}
use Rattle.std.specs.List.{list_all, list_any}
use Rattle.std.specs.Option.{option_and_then, option_map}
use Rattle.std.specs.Str.{IsUtf8, is_utf8}
use Rattle.std.proofs.lemmas.Bool.{and_parts, eqb-false, not-true, true≢false}
use Rattle.std.proofs.lemmas.Str.{IsUtf8-from_is_utf8, is_utf8-from_IsUtf8}
use Rattle.text_forms.proofs.CutLemmas.{Lacks, lacks_decimal}
use Rattle.text_forms.specs.Blanks.{is_blank_byte}
use Rattle.text_forms.specs.Lines.{Line as HelperLine, Text, TooLong}
use Rattle.script_grammar.specs.declared.operands.Numbered.{Numbered}
use Rattle.script_grammar.specs.Events.{Reload}
use Rattle.script_grammar.specs.Reading.{helper_line, is_path, numbered, numbered_in, numbered_of, reload_in}
use Rattle.script_grammar.specs.Spelling.{IsTextOf}
use Rattle.script_grammar.specs.Words.{first_word, helpers, longs, number_below}
use Rattle.script_grammar.proofs.NumberLemmas.{number_found, number_is}
use Rattle.script_grammar.proofs.OptionLemmas.{both, mapped}
use Rattle.script_grammar.proofs.WordLemmas.{first_is, first_of}

space_no_digit : is_ascii_digit 32 ≡ true → ⊥
space_no_digit digit = absurd (cc)

-- no number's text has a space
pub number_lacks : (number : ℕ) → number < 2 ^ 64 → Lacks 32 (decimal number)
number_lacks number small = lacks_decimal 32 number space_no_digit small

-- ---- a helper slot and a number

pub record IsNumbered (text : List ℕ) (is : Numbered) : Type 0 where
  pub slot : is.h < helpers
  pub small : is.number < longs
  pub text_is : text ≡ decimal is.h ++ 32 ∷ decimal is.number

pub numbered_is : (text : List ℕ) (is : Numbered) → numbered_in text ≡ Some is → IsNumbered text is
unfolding numbered_in
numbered_is text is read =
    let cut = both numbered_of (first_word text) is read in
    let slot = both (λ h. option_map (numbered h) (number_below longs cut.value.rest))
    (number_below helpers cut.value.word) is cut.gives in
    let number = mapped (numbered slot.value) (number_below longs cut.value.rest) is slot.gives in
    let first = first_is text cut.value cut.answer_is in
    let h_is = number_is helpers slot.value cut.value.word slot.answer_is in
    let number_of = number_is longs number.value cut.value.rest number.answer_is in
    subst (IsNumbered text) number.gives (record {
      slot = h_is.within;
      small = number_of.within;
      text_is = first.text_is ∙ ap (λ (word : List ℕ). word ++ 32 ∷ cut.value.rest) h_is.text_is
          ∙ ap (λ (rest : List ℕ). decimal slot.value ++ 32 ∷ rest) number_of.text_is;
    })

pub numbered_found : (h number : ℕ) → h < helpers → number < longs
    → numbered_in (decimal h ++ 32 ∷ decimal number) ≡ Some (numbered h number)
unfolding numbered_in
numbered_found h number slot small =
    ap (option_and_then numbered_of) (first_of (decimal h) (decimal number) (number_lacks h (omega arith)))
    ∙ ap (option_and_then (λ one. option_map (numbered one) (number_below longs (decimal number))))
    (number_found helpers h (decimal h) slot (omega arith) refl)
    ∙ ap (option_map (numbered h)) (number_found longs number (decimal number) small (omega arith) refl)

-- ---- the line of a helper

text_by : (text : List ℕ) (blank long : Bool) (told : HelperLine) → list_all is_blank_byte text ≡ blank
    → nat_lt 65535 (length text) ≡ long
    → (if blank then None else Some (if long then TooLong else Text text)) ≡ Some told → IsTextOf text told
text_by text true long told is_blank is_long is = absurd (cc)
text_by text false true told is_blank is_long is =
    let told_is : TooLong ≡ told = cc in
    subst (IsTextOf text) told_is (is_blank, ltb-true 65535 (length text) is_long)
text_by text false false told is_blank is_long is =
    let told_is : Text text ≡ told = cc in
    subst (IsTextOf text) told_is (refl, is_blank, ltb-false 65535 (length text) is_long)

pub text_is : (text : List ℕ) (told : HelperLine) → helper_line text ≡ Some told → IsTextOf text told
unfolding helper_line
text_is text told is = text_by text (list_all is_blank_byte text) (nat_lt 65535 (length text)) told refl refl is

pub text_found : (text : List ℕ) (told : HelperLine) → IsTextOf text told → helper_line text ≡ Some told
unfolding helper_line
text_found text (Text told) is =
    ap (λ test. if test then None else Some (if nat_lt 65535 (length text) then TooLong else Text text)) is.1
    ∙ ap (λ test. Some (if test then TooLong else Text text)) (le-ltb 65535 (length text) is.2)
    ∙ ap (λ (bytes : List ℕ). Some (Text bytes)) is.0
text_found text TooLong is =
    ap (λ test. if test then None else Some (if nat_lt 65535 (length text) then TooLong else Text text)) is.0
    ∙ ap (λ test. Some (if test then TooLong else Text text)) (lt-ltb 65535 (length text) is.1)

-- ---- a path

or_parts : (first second : Bool) → (first || second) ≡ false → (first ≡ false) × (second ≡ false)
or_parts false second none = (refl, none)
or_parts true second none = absurd (true≢false none)

any_space : (b : ℕ) (text : List ℕ) → (b == 32 || list_any (λ x. x == 32) text) ≡ false
    → ((b == 32) ≡ false) × (list_any (λ x. x == 32) text ≡ false)
any_space b text none = or_parts (b == 32) (list_any (λ x. x == 32) text) none

lacks_from : (text : List ℕ) → list_any (λ b. b == 32) text ≡ false → Lacks 32 text
lacks_from [] none = tt
lacks_from (b ∷ text) none =
    let parts = any_space b text none in (eqb-false b 32 parts.0, lacks_from text parts.1)

lacks_to : (text : List ℕ) → Lacks 32 text → list_any (λ b. b == 32) text ≡ false
lacks_to [] lacks = refl
lacks_to (b ∷ text) lacks = rw (ne_eqb b 32 lacks.0) (lacks_to text lacks.1)

-- a text that is a path: one word, and in UTF-8
pub record IsPathText (text : List ℕ) : Type 0 where
  pub filled : 0 < length text
  pub one_word : Lacks 32 text
  pub is_text : IsUtf8 text

some_length : (count : ℕ) → (count == 0) ≡ false → 0 < count
some_length count some = let no = eqb-false count 0 some in omega (arith, no)

pub path_is : (text : List ℕ) → is_path text ≡ true → IsPathText text
path_is text tested =
    let first = and_parts (not (length text == 0)) (not (list_any (λ b. b == 32) text) && is_utf8 text) tested in
    let second = and_parts (not (list_any (λ b. b == 32) text)) (is_utf8 text) first.1 in
    record {
      filled = some_length (length text) (not-true (length text == 0) first.0);
      one_word = lacks_from text (not-true (list_any (λ b. b == 32) text) second.0);
      is_text = IsUtf8-from_is_utf8 text second.1;
    }

pub path_found : (text : List ℕ) → 0 < length text → Lacks 32 text → IsUtf8 text → is_path text ≡ true
path_found text filled lacks is =
    let some : (length text == 0) ≡ false = ne_eqb (length text) 0 (λ none. omega (arith, none)) in
    rw (some, lacks_to text lacks, is_utf8-from_IsUtf8 text is) refl

-- a text in UTF-8 that isn't empty and has no space is read as a path
pub reload_text : (text path : List ℕ) → path ≡ text → (length text == 0) ≡ false
    → list_any (λ b. b == 32) text ≡ false → IsUtf8 text → Some (Reload path) ≡ reload_in text
unfolding reload_in
reload_text text path same some none is =
    let tested : is_path text ≡ true = rw (some, none, is_utf8-from_IsUtf8 text is) refl in
    ap (λ (one : List ℕ). Some (Reload one)) same ∙ sym (ap (λ test. if test then Some (Reload text) else None) tested)

not_path : (test : Bool) (text : List ℕ) → is_path text ≡ test → (IsUtf8 text → ⊥) → test ≡ false
not_path false text is never = refl
not_path true text is never = absurd (never (path_is text is).is_text)

-- any other is not
pub reload_none : (text : List ℕ) → (IsUtf8 text → ⊥) → None ≡ reload_in text
unfolding reload_in
reload_none text never =
    sym (ap (λ test. if test then Some (Reload text) else None) (not_path (is_path text) text refl never))

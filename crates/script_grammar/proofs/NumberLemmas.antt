-- Numbers below a bound, as texts.
use Rattle.std.proofs.Common.{ℕ, ◌≡◌, ◌≢◌, ◌<◌, ◌≤◌, ◌^◌, ◌&&◌, List, Option}
use Rattle.std.proofs.Common.{Some, None, Result, Ok, Err, ap, sym, ◌∙◌, refl, subst, decimal, arith}
use Rattle.std.proofs.Common.{lt-ltb, ltb-true, nat_lt}
use Rattle.std.specs.Str.{bytes_eq}
use Rattle.std.specs.Str.Parse.{digits_value, ParsesUnsigned}
use Rattle.std.proofs.lemmas.Bool.{and_parts}
use Rattle.std.proofs.lemmas.Fmt.{decimal_is_IsNumeral, parse-decimal}
use Rattle.std.proofs.lemmas.Option.{cond_some}
use Rattle.std.proofs.lemmas.Slice.Eq.{bytes_eq-Decides}
use Rattle.script_grammar.specs.Words.{number_below}

-- what a text's digits are worth, where it is a number's text
value_of : (number : ℕ) (text : List ℕ) → number < 2 ^ 64 → text ≡ decimal number → digits_value 10 text ≡ number
value_of number text small is = ap (digits_value 10) is ∙ (decimal_is_IsNumeral number small).1

-- a number's text is read as it
pub number_found : (bound number : ℕ) (text : List ℕ) → number < bound → bound ≤ 2 ^ 64 → text ≡ decimal number
    → number_below bound text ≡ Some number
unfolding number_below
number_found bound number text within most is =
    let value = value_of number text (omega arith) is in
    let same = (bytes_eq-Decides text (decimal (digits_value 10 text))).1 (is ∙ sym (ap decimal value)) in
    let less = lt-ltb (digits_value 10 text) bound (subst (λ (n : ℕ). n < bound) (sym value) within) in
    rw (same, less) (ap Some value)

-- what is read is a number's text
pub record IsNumber (bound number : ℕ) (text : List ℕ) : Type 0 where
  pub text_is : text ≡ decimal number
  pub within : number < bound

pub number_is : (bound number : ℕ) (text : List ℕ) → number_below bound text ≡ Some number → IsNumber bound number text
unfolding number_below
number_is bound number text is =
    let value = digits_value 10 text in
    let parts = cond_some (bytes_eq text (decimal value) && nat_lt value bound) value number is in
    let tests = and_parts (bytes_eq text (decimal value)) (nat_lt value bound) parts.0 in
    record {
      text_is = (bytes_eq-Decides text (decimal value)).0 tests.0 ∙ ap decimal parts.1;
      within = subst (λ (n : ℕ). n < bound) parts.1 (ltb-true value bound tests.1);
    }

none_by : (bound : ℕ) (text : List ℕ) (found : Option ℕ) → number_below bound text ≡ found
    → ((other : ℕ) → other < bound → text ≢ decimal other) → found ≡ None
none_by bound text None is never = refl
none_by bound text (Some number) is never =
    let number_of = number_is bound number text is in absurd (never number number_of.within number_of.text_is)

-- where a text is no number's, none is read
pub number_none : (bound : ℕ) (text : List ℕ) → ((other : ℕ) → other < bound → text ≢ decimal other)
    → number_below bound text ≡ None
number_none bound text never = none_by bound text (number_below bound text) refl never

-- ---- numbers of 64 bits

abbrev parsed : ℕ → Result ℕ ℕ
parsed number = Ok number

abbrev refused : Result ℕ ℕ
refused = Err 0

parsed_same : (other number : ℕ) → parsed other ≡ parsed number → other ≡ number
parsed_same other number same = cc

pub same_long : (other number : ℕ) (text : List ℕ) → number < 2 ^ 64 → text ≡ decimal number
    → ParsesUnsigned 64 10 text (parsed other) → other ≡ number
same_long other number text small is parses =
    parsed_same other number (parse-decimal 64 number text (parsed other) small (omega arith) is parses)

pub no_long : (number : ℕ) (text : List ℕ) → number < 2 ^ 64 → text ≡ decimal number
    → ParsesUnsigned 64 10 text refused → ⊥
no_long number text small is parses =
    let no : refused ≡ parsed number = parse-decimal 64 number text refused small (omega arith) is parses in cc

-- Numbers as texts.
use Rattle.std.proofs.Common.{ℕ, ◌≡◌, ◌<◌, ◌^◌, List, decimal, arith, Result, Ok, Err, sym, ◌∙◌}
use Rattle.std.specs.Str.Parse.{ParsesUnsigned}
use Rattle.std.proofs.lemmas.Fmt.{parse-decimal, decimal_injective}

abbrev parsed : ℕ → Result ℕ ℕ
parsed number = Ok number

abbrev refused : Result ℕ ℕ
refused = Err 0

parsed_same : (other number : ℕ) → parsed other ≡ parsed number → other ≡ number
parsed_same other number same = cc

pub same_number : (other number : ℕ) (text : List ℕ) → number < 2 ^ 32 → text ≡ decimal number
    → ParsesUnsigned 32 10 text (parsed other) → other ≡ number
same_number other number text small is parses =
    parsed_same other number (parse-decimal 32 number text (parsed other) small (omega arith) is parses)

pub no_fault : (number : ℕ) (text : List ℕ) → number < 2 ^ 32 → text ≡ decimal number
    → ParsesUnsigned 32 10 text refused → ⊥
no_fault number text small is parses =
    let no : refused ≡ parsed number = parse-decimal 32 number text refused small (omega arith) is parses in cc

-- a text spells one number at most
pub number_one : (text : List ℕ) (other number : ℕ) → other < 2 ^ 32 → number < 2 ^ 32
    → text ≡ decimal other → text ≡ decimal number → other ≡ number
number_one text other number small other_small is also =
    decimal_injective other number (omega arith) (omega arith) (sym is ∙ also)

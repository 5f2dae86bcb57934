-- Numbers of 64 bits as texts.
use Rattle.std.proofs.Common.{ℕ, ◌≡◌, ◌<◌, ◌^◌, List, decimal, Result, Ok, Err}
use Rattle.std.specs.Str.Parse.{ParsesUnsigned}
use Rattle.std.proofs.lemmas.Fmt.{parse-decimal}

abbrev parsed : ℕ → Result ℕ ℕ
parsed number = Ok number

abbrev refused : Result ℕ ℕ
refused = Err 0

parsed_same : (other number : ℕ) → parsed other ≡ parsed number → other ≡ number
parsed_same other number same = cc

pub same_long : (other number : ℕ) (text : List ℕ) → number < 2 ^ 64 → text ≡ decimal number
    → ParsesUnsigned 64 10 text (parsed other) → other ≡ number
same_long other number text small is parses =
    parsed_same other number (parse-decimal 64 number text (parsed other) small small is parses)

pub no_long : (number : ℕ) (text : List ℕ) → number < 2 ^ 64 → text ≡ decimal number
    → ParsesUnsigned 64 10 text refused → ⊥
no_long number text small is parses =
    let no : refused ≡ parsed number = parse-decimal 64 number text refused small small is parses in cc

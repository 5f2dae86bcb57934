-- Tokens that may be there or not.
use Rattle.std.proofs.Common.{◌≡◌, ◌≤◌, true, false, length, Option, Some, None, arith, refl}
use Rattle.std.proofs.lemmas.Bool.{false≢true}
use Rattle.std.specs.Option.{option_to_list, is_some, IfNone}

module _ {T : Type 0} where
  pub length-option_to_list : (token : Option T) → length (option_to_list token) ≤ 1
  length-option_to_list None = omega arith
  length-option_to_list (Some token) = omega arith

  -- what holds where there is no token, where there is one
  pub there : (token : Option T) (P : Type 0) → is_some token ≡ true → IfNone token P
  there None P some = absurd (false≢true some)
  there (Some token) P some = tt

  pub missing : (token : Option T) → is_some token ≡ false → token ≡ None
  missing None none = refl
  missing (Some token) none = absurd (cc)

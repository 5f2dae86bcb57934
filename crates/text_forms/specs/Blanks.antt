-- Spaces and tabs.
use Rattle.std.specs.Prelude.{ℕ, ◌≡◌, ◌==◌, ◌||◌, Bool, true, false, List, ◌++◌, All}

-- a space or a tab
abbrev pub is_blank_byte : ℕ → Bool
is_blank_byte b = b == 32 || b == 9

-- nothing but spaces and tabs
abbrev pub AreBlanks : List ℕ → Type 0
AreBlanks text = All (λ b. is_blank_byte b ≡ true) text

-- no space and no tab
abbrev pub HasNoBlank : List ℕ → Type 0
HasNoBlank text = All (λ b. is_blank_byte b ≡ false) text

-- a text is blanks, and then a rest
pub record IsBehindBlanks (text rest : List ℕ) : Type 0 where
  pub before : List ℕ
  pub blanks : AreBlanks before
  pub text_is : text ≡ before ++ rest

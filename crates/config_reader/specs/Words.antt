-- The words of a configuration file.
use Rattle.std.specs.Prelude.{ℕ, ◌≡◌, ◌⊎◌, ◌<◌, ◌≤◌, ◌^◌, Bool, true, false, ◌||◌, ◌&&◌, ◌==◌, nat_le, codes, decimal}
use Rattle.std.specs.Prelude.{List, ◌∷◌, length, Option}
use Rattle.std.specs.List.{AllByRecursion, list_any}
use Rattle.arrayvec.specs.ArrayVec.{ArrayVec}
use Rattle.token_reader.specs.Tokens.{Token, Word, Quoted}
use Rattle.config_model.specs.declared.fault.ConfigKind.{ConfigKind}
use Rattle.config_reader.specs.Rules.{Rule, ◌>>=◌, saying, sign, front, never}

-- a token that is a word, and what it spells
abbrev pub SaysWord : {V : Type 0} → (List ℕ → V → Type 0) → Token → V → Type 0
SaysWord Spells token value = (word : List ℕ) × (token ≡ Word word) × Spells word value

-- a word that may be at fault for what it spells
abbrev pub word_or : {V : Type 0} → (List ℕ → V → Type 0) → (V → Option ConfigKind) → Rule V
word_or Spells wrong = front (SaysWord Spells) wrong

abbrev pub word : {V : Type 0} → (List ℕ → V → Type 0) → Rule V
word Spells = word_or Spells never

-- a word and `;`
abbrev pub word_ended : {V : Type 0} → (List ℕ → V → Type 0) → Rule V
word_ended Spells = word Spells >>= λ value. sign 59 >>= λ ended. saying value

-- a given word
abbrev pub IsText : List ℕ → List ℕ → Unit {0} → Type 0
IsText text word value = word ≡ text

abbrev pub keyword : List ℕ → Rule (Unit {0})
keyword text = word (IsText text)

-- any word, also between quotation marks
abbrev pub SaysBytes : Token → List ℕ → Type 0
SaysBytes token bytes = (token ≡ Word bytes) ⊎ (token ≡ Quoted bytes)

abbrev pub any_word : Rule (List ℕ)
any_word = front SaysBytes never

-- a byte of a name: a letter, a digit, `-`, `_` or `.`
abbrev pub is_name_byte : ℕ → Bool
is_name_byte b =
    (nat_le 97 b && nat_le b 122) || (nat_le 65 b && nat_le b 90) || (nat_le 48 b && nat_le b 57)
    || b == 45 || b == 95 || b == 46

-- a name has 1 to 64 of them
pub record IsName (word : List ℕ) (name : ArrayVec ℕ) : Type 0 where
  pub some : 0 < length word
  pub few : length word ≤ 64
  pub all : AllByRecursion (λ b. is_name_byte b ≡ true) word
  pub name_is : name.items ≡ word

-- seconds of a hold time: none, or from 3 to 65535 (RFC 4271, section 4.2)
abbrev pub IsHold : List ℕ → ℕ → Type 0
IsHold word seconds = ((seconds ≡ 0) ⊎ (3 ≤ seconds)) × (seconds < 65536) × (word ≡ decimal seconds)

-- a TCP port
abbrev pub IsPort : List ℕ → ℕ → Type 0
IsPort word port = (0 < port) × (port < 65536) × (word ≡ decimal port)

-- one of two words
abbrev pub IsSwitch : List ℕ → List ℕ → List ℕ → Bool → Type 0
IsSwitch off on word true = word ≡ on
IsSwitch off on word false = word ≡ off

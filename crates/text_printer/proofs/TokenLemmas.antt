-- The tokens of a spaced text are those that it was made of.
use Rattle.std.proofs.Common.{ℕ, ◌≡◌, ◌<◌, ◌≤◌, true, false, List, [], ◌∷◌, ◌++◌, length, Some, None, refl, sym, arith}
use Rattle.std.specs.List.{AllByRecursion}
use Rattle.token_reader.specs.LineSpelling.{IsLinePiece, SpellsLine, blank, mark, word, done, more}
use Rattle.token_reader.specs.LineTokens.{line_tokens}
use Rattle.token_reader.specs.Signs.{is_line_mark, is_line_word, begins}
use Rattle.token_reader.specs.Tokens.{Token, Mark, Word, Quoted, Unclosed}
use Rattle.token_reader.proofs.LineSpellingLemmas.{line_only}
use Rattle.text_printer.specs.Spaced.{token_text, all_led, spaced}

-- a byte of a line's word
abbrev pub IsWordByte : ℕ → Type 0
IsWordByte b = is_line_word b ≡ true

abbrev pub AreWordBytes : List ℕ → Type 0
AreWordBytes text = AllByRecursion IsWordByte text

-- the bytes of a word, of which there is one at least
pub record IsWordText (text : List ℕ) : Type 0 where
  pub filled : 0 < length text
  pub bytes : AreWordBytes text

-- a word that is no longer than a prefix of IPv6
pub record IsShortWord (text : List ℕ) : Type 0 where
  pub text_is : IsWordText text
  pub short : length text ≤ 43

-- a token of a line: a mark, or a word
abbrev pub IsClean : Token → Type 0
IsClean (Mark sign) = is_line_mark sign ≡ true
IsClean (Word text) = IsShortWord text
IsClean (Quoted text) = ⊥
IsClean Unclosed = ⊥

abbrev pub AreClean : List Token → Type 0
AreClean tokens = AllByRecursion IsClean tokens

-- what follows a word is nothing, or begins with a space
led_ends : (tokens : List Token) → begins is_line_word (all_led tokens) ≡ false
led_ends [] = refl
led_ends (first ∷ others) = refl

piece_of : (token : Token) (others : List Token) → IsClean token
    → IsLinePiece (token_text token) (all_led others) (Some token)
piece_of (Mark sign) others clean = mark sign (all_led others) clean
piece_of (Word []) others clean =
    let is = clean.text_is in
    let filled = is.filled in absurd (omega arith)
piece_of (Word (b ∷ bs)) others clean =
    let is = clean.text_is in word b bs (all_led others) (record { all = is.bytes; ends = led_ends others })
piece_of (Quoted text) others clean = absurd clean
piece_of Unclosed others clean = absurd clean

spells_led : (tokens : List Token) → AreClean tokens → SpellsLine (all_led tokens) tokens
spells_led [] clean = done
spells_led (first ∷ others) clean =
    let rest : List ℕ = token_text first ++ all_led others in
    more (32 ∷ []) rest None (first ∷ others) (blank 32 rest refl)
    (more (token_text first) (all_led others) (Some first) others (piece_of first others clean.0)
    (spells_led others clean.1))

spells_spaced : (tokens : List Token) → AreClean tokens → SpellsLine (spaced tokens) tokens
spells_spaced [] clean = done
spells_spaced (first ∷ others) clean =
    more (token_text first) (all_led others) (Some first) others (piece_of first others clean.0)
    (spells_led others clean.1)

pub spaced_tokens : (tokens : List Token) → AreClean tokens → line_tokens 0 (spaced tokens) ≡ tokens
spaced_tokens tokens clean = sym (line_only (spaced tokens) tokens (spells_spaced tokens clean))

-- tokens, and then others
pub clean_append : (first second : List Token) → AreClean first → AreClean second → AreClean (first ++ second)
clean_append [] second front back = back
clean_append (token ∷ first) second front back = (front.0, clean_append first second front.1 back)

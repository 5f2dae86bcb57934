-- The words of a line: what stands between spaces and tabs.
use Rattle.std.specs.Prelude.{ℕ, ◌≡◌, ◌<◌, not, if◌then◌else◌, Bool, false, List, [], ◌∷◌, ◌++◌, length}
use Rattle.text_forms.specs.Blanks.{is_blank_byte, AreBlanks, HasNoBlank}
use Rattle.text_forms.specs.Lines.{onto_first}

-- a text that begins with no space and no tab
abbrev pub begins_word : List ℕ → Bool
begins_word [] = false
begins_word (b ∷ bs) = not (is_blank_byte b)

-- the words of a text, in order
unfoldable pub words_of : List ℕ → List (List ℕ)
words_of [] = []
words_of (b ∷ bs) =
    if is_blank_byte b then words_of bs
    else (if begins_word bs then onto_first b (words_of bs) else (b ∷ []) ∷ words_of bs)

-- a text is blanks, then a word without a blank, and then a rest that is empty or begins with a blank
pub record IsFirstWord (text word rest : List ℕ) : Type 0 where
  pub before : List ℕ
  pub blanks : AreBlanks before
  pub no_blank : HasNoBlank word
  pub filled : 0 < length word
  pub ends : begins_word rest ≡ false
  pub text_is : text ≡ before ++ (word ++ rest)

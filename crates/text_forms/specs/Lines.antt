-- The lines of a stream: the parts that a line feed ends, each without one carriage return at its end. Parts of
-- spaces and tabs alone are left out, and so is what follows the last line feed.
use Rattle.std.specs.Prelude.{ℕ, ◌≡◌, ◌≢◌, ◌==◌, nat_lt, if◌then◌else◌, Bool, true, List, [], ◌∷◌, ◌++◌, length, All}
use Rattle.std.specs.List.{list_all, flat_map, AllByRecursion}
use Rattle.text_forms.specs.Blanks.{is_blank_byte}

-- a line; of one over 65,535 bytes the text isn't told
pub data Line : Type 0 where
  Text : List ℕ → Line
  TooLong : Line

-- a byte put before the first of some lists
abbrev pub onto_first : ℕ → List (List ℕ) → List (List ℕ)
onto_first b [] = []
onto_first b (part ∷ parts) = (b ∷ part) ∷ parts

-- the parts that a line feed ends
abbrev pub ended_parts : List ℕ → List (List ℕ)
ended_parts [] = []
ended_parts (b ∷ bs) = if b == 10 then [] ∷ ended_parts bs else onto_first b (ended_parts bs)

-- a part without one carriage return at its end
abbrev pub without_return : List ℕ → List ℕ
without_return [] = []
without_return (b ∷ []) = if b == 13 then [] else b ∷ []
without_return (b ∷ c ∷ bs) = b ∷ without_return (c ∷ bs)

-- nothing but spaces and tabs, and perhaps the carriage return
abbrev pub is_blank_part : List ℕ → Bool
is_blank_part part = list_all is_blank_byte (without_return part)

-- the line that a part makes; its carriage return counts
abbrev pub line_of : List ℕ → Line
line_of part = if nat_lt 65535 (length part) then TooLong else Text (without_return part)

-- the line of a part that isn't blank
unfoldable pub line_or_none : List ℕ → List Line
line_or_none part = if is_blank_part part then [] else line_of part ∷ []

-- the lines of a stream, in order
abbrev pub lines : List ℕ → List Line
lines bytes = flat_map line_or_none (ended_parts bytes)

-- a part as it stands in a stream, with its line feed
abbrev pub ended : List ℕ → List ℕ
ended part = part ++ 10 ∷ []

-- a part that makes no line
pub record IsPassedOver (part : List ℕ) : Type 0 where
  pub no_feed : All (λ b. b ≢ 10) part
  pub blank : is_blank_part part ≡ true

-- a stream is parts that make no line, then the part that makes this line, its line feed, and then a rest
pub record IsFirstLine (bytes : List ℕ) (line : Line) (rest : List ℕ) : Type 0 where
  pub before : List (List ℕ)
  pub passed_over : AllByRecursion IsPassedOver before
  pub part : List ℕ
  pub no_feed : All (λ b. b ≢ 10) part
  pub line_is : line_or_none part ≡ line ∷ []
  pub bytes_are : bytes ≡ flat_map ended before ++ (part ++ 10 ∷ rest)

-- The places of a file: lines, and the bytes of a line, both counted from 1.
use Rattle.std.specs.Prelude.{ℕ, ◌+◌, ◌<◌, ◌≤◌, List, [], ◌∷◌, if◌then◌else◌}
use Rattle.token_reader.specs.declared.token.Place.{Place}
use Rattle.token_reader.specs.Signs.{is_line_feed}

-- the place of a file's first byte
abbrev pub start : Place
start = record { line = 1; column = 1 }

-- the place so many bytes further along a line
abbrev pub along : Place → ℕ → Place
along place n = record { line = place.line; column = place.column + n }

-- the place behind a byte: the next one of its line, or behind a line feed, the first one of the next line
abbrev pub behind_byte : Place → ℕ → Place
behind_byte place b = if is_line_feed b then record { line = place.line + 1; column = 1 } else along place 1

-- the place behind some bytes
abbrev pub behind_bytes : Place → List ℕ → Place
behind_bytes place [] = place
behind_bytes place (b ∷ bs) = behind_bytes (behind_byte place b) bs

-- a place in a file of at most 1,048,576 bytes, of which so many are left from there on
pub record IsInFile (place : Place) (rest : ℕ) : Type 0 where
  pub line_from_one : 0 < place.line
  pub column_from_one : 0 < place.column
  pub lines : place.line + rest ≤ 1048577
  pub columns : place.column + rest ≤ 1048577

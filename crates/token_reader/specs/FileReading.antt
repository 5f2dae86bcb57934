-- A file that is read from the front: its front token and where that begins, and the bytes behind it and where these
-- begin.
use Rattle.std.specs.Prelude.{ℕ, ◌≡◌, ◌+◌, ◌≤◌, List, [], ◌++◌, length, Option, IfNone}
use Rattle.std.specs.Option.{option_map, option_to_list}
use Rattle.token_reader.specs.declared.token.Place.{Place}
use Rattle.token_reader.specs.declared.token.Token.{Token as Given}
use Rattle.token_reader.specs.FileTokens.{at, file_tokens}
use Rattle.token_reader.specs.Places.{behind_bytes, IsInFile}
use Rattle.token_reader.specs.Tokens.{Placed, Unread, token_told}

-- the front token, and those of the bytes behind it
abbrev pub file_left : Option Given → Place → List ℕ → Place → List Placed
file_left front place rest behind =
    option_to_list (option_map (at place) (option_map token_told front)) ++ file_tokens behind 0 rest

-- what is left of the file
abbrev pub unread_file : Option Given → Place → List ℕ → Place → Unread
unread_file front place rest behind = record {
  left = file_left front place rest behind;
  end = behind_bytes behind rest;
}

-- without a front token nothing is left and the place is that of the end
pub record IsFileReading (front : Option Given) (place : Place) (rest : List ℕ) (behind : Place) : Type 0 where
  pub ended : IfNone front ((rest ≡ []) × (place ≡ behind))
  pub here : IsInFile place (length (option_to_list front))
  pub ahead : IsInFile behind (length rest)
  pub few : length (option_to_list front) + length rest ≤ 1048576

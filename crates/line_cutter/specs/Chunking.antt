-- A stream that is cut into lines while it comes, in pieces of any size.
use Rattle.std.specs.Prelude.{ℕ, ◌≡◌, List, [], ◌++◌, take, None}
use Rattle.std.specs.Option.{option_to_list}
use Rattle.text_forms.specs.Lines.{Line, lines}
use Rattle.line_cutter.specs.Unfinished.{unfinished}
use Rattle.line_cutter.specs.Cutting.{Cutting, fresh, waiting, standing, fed, count_of, advanced}

-- A cutter has taken these bytes and passed these lines of them: with the one that stands they are all, and behind
-- that the cutter holds what is no line yet.
pub record HasCut (taken : List ℕ) (passed : List Line) (now : Cutting) : Type 0 where
  pub lines_are : lines taken ≡ passed ++ option_to_list (standing now)
  pub rest_is : advanced now ≡ waiting (unfinished taken)

-- at the beginning nothing was taken
abbrev pub Begins : Type 0
Begins = HasCut [] [] fresh

-- those bytes of a piece that are taken
abbrev pub Takes : Type 0
Takes = (taken : List ℕ) (passed : List Line) (now : Cutting) (piece : List ℕ)
    → HasCut taken passed now → HasCut (taken ++ take (count_of piece now) piece) passed (fed piece now)

-- the line that stands is passed
abbrev pub Passes : Type 0
Passes = (taken : List ℕ) (passed : List Line) (now : Cutting)
    → HasCut taken passed now → HasCut taken (passed ++ option_to_list (standing now)) (advanced now)

-- where none stands, all lines of what was taken were passed
abbrev pub Ends : Type 0
Ends = (taken : List ℕ) (passed : List Line) (now : Cutting)
    → HasCut taken passed now → standing now ≡ None → lines taken ≡ passed

-- the lines of a stream stay when more comes
abbrev pub LinesStay : Type 0
LinesStay = (bytes more : List ℕ) → (others : List Line) × (lines (bytes ++ more) ≡ lines bytes ++ others)

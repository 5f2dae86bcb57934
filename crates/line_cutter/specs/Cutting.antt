-- What a contract sees of a cutter, and what its calls make of it.
use Rattle.std.specs.Prelude.{ℕ, suc, ◌-◌, ◌==◌, nat_lt, if◌then◌else◌, Bool, true, false, ◌||◌, List, [], ◌∷◌, ◌++◌}
use Rattle.std.specs.Prelude.{length, take, Option, Some, None}
use Rattle.std.specs.List.{fold}
use Rattle.text_forms.specs.Lines.{Line, Text, TooLong, without_return}
use Rattle.line_cutter.specs.declared.content.Content.{Content}
use Rattle.line_cutter.specs.declared.content.Content.TheVariants.{Blank}
use Rattle.line_cutter.specs.Contents.{content_after, is_blank_content}

-- the part behind the last line feed, or the one whose line stands: its first 65,535 bytes, whether it has more, what
-- all of them are, and whether its line stands
pub record Cutting : Type 0 where
  pub bytes : List ℕ
  pub long : Bool
  pub content : Content
  pub ended : Bool

-- nothing has come of a part
abbrev pub fresh : Cutting
fresh = record { bytes = []; long = false; content = Blank; ended = false }

-- the line that stands, if one does
abbrev pub standing : Cutting → Option Line
standing now =
    if now.ended then Some (if now.long then TooLong else Text (without_return now.bytes)) else None

-- how many more bytes of the part are kept
abbrev pub room_of : Cutting → ℕ
room_of now = 65535 - length now.bytes

-- more bytes of the part came
abbrev pub grown : List ℕ → Cutting → Cutting
grown piece now = record now {
  bytes = now.bytes ++ take (room_of now) piece;
  long = now.long || nat_lt (room_of now) (length piece);
  content = fold content_after now.content piece;
}

-- these bytes of a part came, and not its line feed
abbrev pub waiting : List ℕ → Cutting
waiting part = grown part fresh

-- its line feed came: a blank line doesn't stand
abbrev pub closed : Cutting → Cutting
closed now = if is_blank_content now.content then fresh else record now { ended = true }

-- a byte came
abbrev pub after : ℕ → Cutting → Cutting
after b now = if b == 10 then closed now else grown (b ∷ []) now

-- bytes came, of which none is taken once a line stands
abbrev pub fed : List ℕ → Cutting → Cutting
fed [] now = now
fed (b ∷ bs) now = if now.ended then now else fed bs (after b now)

-- how many of them are taken
abbrev pub count_of : List ℕ → Cutting → ℕ
count_of [] now = 0
count_of (b ∷ bs) now = if now.ended then 0 else suc (count_of bs (after b now))

-- the line that stands is passed, if one does
abbrev pub advanced : Cutting → Cutting
advanced now = if now.ended then fresh else now

-- What a line in memory tells.
use Rattle.text_forms.specs.declared.lines.Line.{Line as Given}
use Rattle.text_forms.specs.declared.lines.Line.TheVariants.{Text as GivenText, TooLong as GivenTooLong}
use Rattle.text_forms.specs.Lines.{Line, Text, TooLong}

-- the line with the bytes that a slice holds
abbrev pub line_told : Given → Line
line_told (GivenText bytes) = Text bytes.now
line_told GivenTooLong = TooLong

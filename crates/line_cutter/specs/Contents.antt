-- What the bytes of a part are, as far as it tells whether their line is blank.
use Rattle.std.specs.Prelude.{ℕ, ◌==◌, if◌then◌else◌, Bool, true, false, List}
use Rattle.std.specs.List.{fold}
use Rattle.text_forms.specs.Blanks.{is_blank_byte}
use Rattle.line_cutter.specs.declared.content.Content.{Content}
use Rattle.line_cutter.specs.declared.content.Content.TheVariants.{Blank, Returned, Filled}

-- a byte more
abbrev pub content_after : Content → ℕ → Content
content_after Blank b = if is_blank_byte b then Blank else if b == 13 then Returned else Filled
content_after Returned b = Filled
content_after Filled b = Filled

-- what all bytes of a part are
abbrev pub content_of : List ℕ → Content
content_of part = fold content_after Blank part

-- a line that ends here is blank
abbrev pub is_blank_content : Content → Bool
is_blank_content Blank = true
is_blank_content Returned = true
is_blank_content Filled = false

-- The signs of lines and files.
use Rattle.std.specs.Prelude.{ℕ, Bool, false, not, nat_eq, ◌==◌, ◌||◌, List, [], ◌∷◌, codes}
use Rattle.std.specs.List.{list_any}

-- a space or a tab, which part the words of a line
abbrev pub is_blank : ℕ → Bool
is_blank b = list_any (nat_eq b) (codes " \t")

-- a sign that is a token of a line by itself
abbrev pub is_line_mark : ℕ → Bool
is_line_mark b = list_any (nat_eq b) (codes "[](),")

-- a byte of a line's word: all else
abbrev pub is_line_word : ℕ → Bool
is_line_word b = not (is_blank b || is_line_mark b)

-- a space, a tab, a carriage return or a line feed, which part the words of a file
abbrev pub is_separator : ℕ → Bool
is_separator b = list_any (nat_eq b) (codes " \t\r\n")

-- a sign that is a token of a file by itself
abbrev pub is_file_mark : ℕ → Bool
is_file_mark b = list_any (nat_eq b) (codes "{}[](),;")

-- a byte of a file's word: all else
abbrev pub is_file_word : ℕ → Bool
is_file_word b = not (is_separator b || is_file_mark b)

-- a line feed, which ends a line of a file
abbrev pub is_line_feed : ℕ → Bool
is_line_feed b = b == 10

-- a quotation mark
abbrev pub is_quote : ℕ → Bool
is_quote b = b == 34

-- the sign that begins a comment
abbrev pub is_hash : ℕ → Bool
is_hash b = b == 35

-- a byte that a quoted word can hold
abbrev pub is_quotable : ℕ → Bool
is_quotable b = not (is_quote b || is_line_feed b)

-- whether a text begins with such a byte
abbrev pub begins : (ℕ → Bool) → List ℕ → Bool
begins such [] = false
begins such (b ∷ bs) = such b

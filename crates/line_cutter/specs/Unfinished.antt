-- What of a stream of lines is no line yet.
use Rattle.std.specs.Prelude.{ℕ, ◌==◌, if◌then◌else◌, Bool, List, [], ◌∷◌}
use Rattle.std.specs.List.{list_any}

-- a line feed is among the bytes
abbrev pub has_feed : List ℕ → Bool
has_feed bytes = list_any (λ b. b == 10) bytes

-- what follows the last line feed
abbrev pub unfinished : List ℕ → List ℕ
unfinished [] = []
unfinished (b ∷ bs) = if has_feed (b ∷ bs) then unfinished bs else b ∷ bs

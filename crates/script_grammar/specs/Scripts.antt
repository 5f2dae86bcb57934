-- The lines of a script: those that a line feed ends, and what follows the last one, unless it is empty.
use Rattle.std.specs.Prelude.{ℕ, ◌==◌, List, [], ◌∷◌, if◌then◌else◌}
use Rattle.script_grammar.specs.Caps.{onto_first}

unfoldable pub script_lines : List ℕ → List (List ℕ)
script_lines [] = []
script_lines (b ∷ bs) = if b == 10 then [] ∷ script_lines bs else onto_first b (script_lines bs)

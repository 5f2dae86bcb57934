-- Files in memory by path.
use Rattle.std.specs.Prelude.{ℕ, List, [], ◌∷◌, nat_eq, if◌then◌else◌}
use Rattle.std.specs.Cmp.Lexicographic.{pointwise}
use Rattle.outside.specs.declared.memory.held.HeldFile.{HeldFile}

-- the content of the first file with a path, or nothing where none has it
abbrev pub content_at : List HeldFile → List ℕ → List ℕ
content_at [] path = []
content_at (file ∷ others) path =
    if pointwise nat_eq file.path.now path then file.content.now else content_at others path

-- What a stream in memory has kept of what it took.
use Rattle.std.specs.Prelude.{ℕ, List}
use Rattle.std.specs.declared.option.Option.{Option}
use Rattle.outside.specs.declared.memory.kept.Kept.{Kept}
use Rattle.outside.specs.declared.memory.kept.Kept.TheVariants.{Made, Own}

-- the bytes taken so far, where there was room for all
abbrev pub kept_bytes : Kept → Option (List ℕ)
kept_bytes (Made room) = room
kept_bytes (Own room) = room

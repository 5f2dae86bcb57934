-- What a sink in memory keeps.
use Rattle.std.specs.Prelude.{ℕ, ◌≡◌, ◌+◌, List, ◌++◌, length, nat_le, if◌then◌else◌}
use Rattle.std.specs.declared.option.Option.{Option}
use Rattle.std.specs.declared.option.Option.TheVariants.{Some, None}
use Rattle.outside.specs.declared.memory.sure_sink.SureSink.{SureSink}

-- how many bytes it can keep
abbrev pub room_of : SureSink → ℕ
room_of s = s.room

-- how many bytes it takes at most in one call
abbrev pub step_of : SureSink → ℕ
step_of s = s.step

-- the told bytes grow by a part where the room suffices, and else are told no more
abbrev pub Keeps : ℕ → Option (List ℕ) → Option (List ℕ) → List ℕ → Type 0
Keeps room None now part = now ≡ None
Keeps room (Some was) now part =
    now ≡ (if nat_le (length was + length part) room then Some (was ++ part) else None)

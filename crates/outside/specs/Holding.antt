-- How a call fares that is held.
use Rattle.std.specs.Prelude.{ℕ, ◌<◌, ⊤}
use Rattle.outside.specs.declared.memory.holds.Passage.{Passage}
use Rattle.outside.specs.declared.memory.holds.Passage.TheVariants.{Free, Killed, Missed}

-- where it may pass, a byte or more may pass
abbrev pub HasRoom : Passage → Type 0
HasRoom (Free room) = 0 < room
HasRoom Killed = ⊤
HasRoom Missed = ⊤

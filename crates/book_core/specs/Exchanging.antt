-- Sections by their numbers.
use Rattle.std.specs.Prelude.{ℕ, List, slice_get, Option}
use Rattle.std.specs.Option.{option_and_then}

-- the section of a list at a place, if there is a place
abbrev pub section_at : {A : Type 0} → List A → Option ℕ → Option A
section_at sections place = option_and_then (slice_get sections) place

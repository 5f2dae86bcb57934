-- A tally: a number that calls add to, modulo 2^64.
use Rattle.std.specs.Prelude.{◌≡◌, ℕ, ◌+◌, ◌%◌, ◌^◌, List, [], ◌∷◌}
use Rattle.book_gate_many.specs.declared.tally.Added.{Added}

-- The total after these entries
abbrev pub total_of : ℕ → List Added → ℕ
total_of start [] = start
total_of start (entry ∷ entries) = total_of ((start + entry.by) % 2 ^ 64) entries

-- A call is told the total with what it added
abbrev pub IsTotal : ℕ → List Added → Added → Type 0
IsTotal start history entry = entry.total ≡ (total_of start history + entry.by) % 2 ^ 64

-- The entry of a call
abbrev pub added : ℕ → ℕ → Added
added by total = record { by = by; total = total }

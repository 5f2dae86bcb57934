-- One more entry of a tally.
use Rattle.std.proofs.Common.{◌≡◌, ℕ, ◌+◌, ◌%◌, ◌^◌, List, [], ◌∷◌, ◌++◌, refl}
use Rattle.book_gate_many.specs.declared.tally.Added.{Added}
use Rattle.book_gate_many.specs.Tallies.{total_of}

pub total_of-push : (start : ℕ) (history : List Added) (entry : Added)
    → total_of start (history ++ entry ∷ []) ≡ (total_of start history + entry.by) % 2 ^ 64
total_of-push start [] entry = refl
total_of-push start (x ∷ xs) entry = total_of-push ((start + x.by) % 2 ^ 64) xs entry

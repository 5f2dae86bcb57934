-- Messages whose lengths may be wrong (RFC 4271, sections 4.1 and 4.3).
use Rattle.std.specs.Prelude.{ℕ, List, ◌∷◌, ◌++◌}
use Rattle.std.specs.Int.{w16, to_be_bytes}
use Rattle.update_grammar.specs.Codes.{update_type}
use Rattle.update_grammar.specs.Written.{header}

-- an UPDATE with attributes alone, behind some length of the whole and some length of the attributes
abbrev pub unsealed : ℕ → ℕ → List ℕ → List ℕ
unsealed total field attributes = header total update_type ++ (0 ∷ 0 ∷ (to_be_bytes w16 field ++ attributes))

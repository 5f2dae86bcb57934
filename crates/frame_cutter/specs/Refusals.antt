-- The refusals of a message's header (RFC 4271, sections 4.5 and 6.1).
use Rattle.std.specs.Prelude.{ℕ, List, [], ◌∷◌}
use Rattle.frame_cutter.specs.declared.refusal.Refusal.{Refusal}

-- a refusal with this data
abbrev pub refused : ℕ → ℕ → List ℕ → Refusal
refused code sub data_bytes = record { code = code; sub = sub; detail = record { items = data_bytes } }

-- the marker isn't all ones
abbrev pub not_synchronized : Refusal
not_synchronized = refused 1 1 []

-- the length isn't one that the message may have; the data is its two bytes
abbrev pub bad_length : List ℕ → Refusal
bad_length field = refused 1 2 field

-- there is no such type of message; the data is its byte
abbrev pub bad_type : ℕ → Refusal
bad_type kind = refused 1 3 (kind ∷ [])

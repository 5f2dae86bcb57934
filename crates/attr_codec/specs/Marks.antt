-- A set of codes as marks.
use Rattle.std.specs.Prelude.{ℕ, ◌≡◌, ◌==◌, ◌<◌, false, List, length, slice_index_or}
use Rattle.std.specs.List.{list_any}
use Rattle.attr_codec.specs.declared.reading.codes.Codes.{Codes}

-- the marks are those of these codes, in any order
pub record HasCodes (set : Codes) (codes : List ℕ) : Type 0 where
  pub len : length set.marks ≡ 256
  pub marked : (code : ℕ) → code < 256 → slice_index_or set.marks code false ≡ list_any (λ other. other == code) codes

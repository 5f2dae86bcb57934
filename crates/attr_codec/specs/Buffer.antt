-- The buffer of a message, as the bytes in it and how many fit.
use Rattle.std.specs.Prelude.{ℕ, ◌≡◌, ◌+◌, ◌≤◌, List, ◌++◌, length}

-- the greatest length of a message (RFC 8654, section 4)
abbrev pub max_message : ℕ
max_message = 65535

-- what a contract sees of a buffer
pub record Buffer : Type 0 where
  pub bytes : List ℕ
  pub room : ℕ

-- there is room for so many bytes more
abbrev pub HasRoom : Buffer → ℕ → Type 0
HasRoom buffer n = length buffer.bytes + n ≤ buffer.room

-- new is old with more bytes at its end
pub record Appended (old new : Buffer) (more : List ℕ) : Type 0 where
  pub bytes : new.bytes ≡ old.bytes ++ more
  pub room : new.room ≡ old.room
  pub len : length new.bytes ≡ length old.bytes + length more

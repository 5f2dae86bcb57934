-- Where messages are written and gathered.
use Rattle.std.specs.Prelude.{ℕ, ◌≡◌, List, [], Option, Some, None}
use Rattle.attr_codec.specs.Buffer.{Buffer}

-- the message that was written last, and what is gathered to be sent
pub record Desked : Type 0 where
  pub slip : List ℕ
  pub out : List ℕ

abbrev pub fresh : Desked
fresh = record { slip = []; out = [] }

-- the bytes in a buffer that may be away
abbrev pub slip_of : Option Buffer → List ℕ
slip_of None = []
slip_of (Some buffer) = buffer.bytes

-- the buffer is there, and has room for any message
abbrev pub HasSlip : Option Buffer → Type 0
HasSlip None = ⊥
HasSlip (Some buffer) = buffer.room ≡ 65535

-- What a contract sees of a cutter, and what its calls make of it.
use Rattle.std.specs.Prelude.{ℕ, ◌-◌, min, List, [], ◌∷◌, ◌++◌, length, drop, Option, Some, None}
use Rattle.frame_cutter.specs.Front.{Frame, frame_len, Front, Whole, NotYet, Fault, front}
use Rattle.frame_cutter.specs.Frames.{greatest, behind}

-- the bytes that came and were not passed, and from which message on, counted from the first of them, they may be long
pub record Cutting : Type 0 where
  pub bytes : List ℕ
  pub wide : Option ℕ

-- nothing has come, and no message may be long
abbrev pub fresh : Cutting
fresh = record { bytes = []; wide = None }

-- what stands at the front
abbrev pub front_of : Cutting → Front
front_of cutting = front (greatest cutting.wide) cutting.bytes

-- how many bytes are taken besides so many, by what stands at the front: none behind a fault
abbrev pub room_behind : Front → ℕ → ℕ
room_behind (Whole frame) count = 65535 - count
room_behind NotYet count = 65535 - count
room_behind (Fault refusal) count = 0

-- how many more bytes are taken
abbrev pub room_of : Cutting → ℕ
room_of cutting = room_behind (front_of cutting) (length cutting.bytes)

-- bytes came
abbrev pub fed : List ℕ → Cutting → Cutting
fed piece cutting = record cutting { bytes = cutting.bytes ++ piece }

-- the whole message at the front, if one stands there
abbrev pub first_of : Front → List Frame
first_of (Whole frame) = frame ∷ []
first_of NotYet = []
first_of (Fault refusal) = []

-- the message at the front is passed, if one stands there
abbrev pub behind_front : Front → Cutting → Cutting
behind_front (Whole frame) cutting =
    record { bytes = drop (frame_len frame) cutting.bytes; wide = behind cutting.wide }
behind_front NotYet cutting = cutting
behind_front (Fault refusal) cutting = cutting

abbrev pub advanced : Cutting → Cutting
advanced cutting = behind_front (front_of cutting) cutting

-- from which message on they may be long, where those from this number on may be, too
abbrev pub from_on : ℕ → Option ℕ → Option ℕ
from_on number None = Some number
from_on number (Some wide) = Some (min wide number)

-- those behind the first message may be long
abbrev pub widened : Cutting → Cutting
widened cutting = record cutting { wide = from_on 1 cutting.wide }

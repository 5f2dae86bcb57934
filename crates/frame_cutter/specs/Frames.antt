-- The messages of a stream, one behind another (RFC 4271, section 4.1; RFC 8654, section 4).
use Rattle.std.specs.Prelude.{ℕ, zero, suc, ◌-◌, List, [], ◌∷◌, length, drop, Option, Some, None}
use Rattle.std.specs.Option.{option_map}
use Rattle.frame_cutter.specs.declared.refusal.Refusal.{Refusal}
use Rattle.frame_cutter.specs.Front.{Frame, frame_len, Front, Whole, NotYet, Fault, front}

-- How long the first message may be, where those from a number on, counted from the first, may be long. None says that
-- none may.
abbrev pub greatest : Option ℕ → ℕ
greatest None = 4096
greatest (Some zero) = 65535
greatest (Some (suc n)) = 4096

-- the same number, counted from the second message
abbrev pub behind : Option ℕ → Option ℕ
behind wide = option_map (λ n. n - 1) wide

-- what follows the last whole message: bytes that are none yet, or the first fault
pub data End : Type 0 where
  Rest : List ℕ → End
  Broken : Refusal → End

-- whole messages, and what follows them
pub record Frames : Type 0 where
  pub frames : List Frame
  pub end : End

-- messages before others
abbrev pub onto : List Frame → Frames → Frames
onto [] others = others
onto (frame ∷ frames) others = record { frames = frame ∷ (onto frames others).frames; end = (onto frames others).end }

-- no messages behind what stands at the front, or that message and others
abbrev pub from_front : Front → List ℕ → (Frame → Frames) → Frames
from_front (Whole frame) bytes others = onto (frame ∷ []) (others frame)
from_front NotYet bytes others = record { frames = []; end = Rest bytes }
from_front (Fault refusal) bytes others = record { frames = []; end = Broken refusal }

-- the messages of a stream, up to n of them
unfoldable pub frames_of : ℕ → Option ℕ → List ℕ → Frames
frames_of zero wide bytes = record { frames = []; end = Rest bytes }
frames_of (suc n) wide bytes =
    from_front (front (greatest wide) bytes) bytes (λ frame. frames_of n (behind wide) (drop (frame_len frame) bytes))

-- The messages of a stream, where those from a number on may have up to 65,535 bytes, and all others up to 4,096. Each
-- has a header, so there are no more of them than bytes.
abbrev pub frames_in : Option ℕ → List ℕ → Frames
frames_in wide bytes = frames_of (length bytes) wide bytes

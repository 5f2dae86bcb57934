-- What stands at the front of a stream of messages (RFC 4271, section 4.1).
use Rattle.std.specs.Prelude.{ℕ, ◌+◌, nat_lt, Bool, false, if◌then◌else◌, List, length, slice_range, Option, Some, None}
use Rattle.std.specs.Prelude.{⊤}
use Rattle.frame_cutter.specs.declared.kinds.Lengths.{Lengths}
use Rattle.frame_cutter.specs.declared.refusal.Refusal.{Refusal}
use Rattle.frame_cutter.specs.Header.{Header, header_of, length_of, is_within, lengths_of, header_fault}

-- a message: its type, and what stands behind its header
pub record Frame : Type 0 where
  pub kind : ℕ
  pub body : List ℕ

-- how many bytes it has with its header
abbrev pub frame_len : Frame → ℕ
frame_len frame = 19 + length frame.body

-- whether a length is one of these
abbrev pub has_length : Option Lengths → ℕ → Bool
has_length None len = false
has_length (Some lengths) len = is_within lengths len

-- whether there is such a type of message, and its messages have such a length, where they have at most so many bytes
abbrev pub is_sized : ℕ → Frame → Bool
is_sized most frame = has_length (lengths_of most frame.kind) (frame_len frame)

-- a whole message, or none yet, or a fault
pub data Front : Type 0 where
  Whole : Frame → Front
  NotYet : Front
  Fault : Refusal → Front

-- what stands behind a whole header that has this fault, or none
abbrev pub judged : Option Refusal → Header → List ℕ → Front
judged (Some refusal) header bytes = Fault refusal
judged None header bytes =
    if nat_lt (length bytes) (length_of header) then NotYet else
    Whole (record { kind = header.kind; body = slice_range bytes 19 (length_of header) })

-- what stands at the front of bytes, where messages have at most so many bytes
unfoldable pub front : ℕ → List ℕ → Front
front most bytes =
    if nat_lt (length bytes) 19 then NotYet else judged (header_fault most (header_of bytes)) (header_of bytes) bytes

-- a whole message stands there
abbrev pub IsWhole : Front → Type 0
IsWhole (Whole frame) = ⊤
IsWhole NotYet = ⊥
IsWhole (Fault refusal) = ⊥

-- a fault stands there
abbrev pub IsFault : Front → Type 0
IsFault (Whole frame) = ⊥
IsFault NotYet = ⊥
IsFault (Fault refusal) = ⊤

-- a fact of the whole message, if one stands there
abbrev pub IfWhole : Front → (Frame → Type 0) → Type 0
IfWhole (Whole frame) P = P frame
IfWhole NotYet P = ⊤
IfWhole (Fault refusal) P = ⊤

-- a fact where neither a whole message nor a fault stands there
abbrev pub OnNotYet : Front → Type 0 → Type 0
OnNotYet (Whole frame) P = ⊤
OnNotYet NotYet P = P
OnNotYet (Fault refusal) P = ⊤

-- The text of a message (RFC 4271, section 4.1), and that cutting gives just what was written.
use Rattle.std.specs.Prelude.{ℕ, ◌≡◌, ◌^◌, ◌<◌, ◌≤◌, IsTrue, List, ◌∷◌, ◌++◌, drop, get_or, replicate}
use Rattle.std.specs.Int.{w16, to_be_bytes}
use Rattle.frame_cutter.specs.Front.{Frame, frame_len, is_sized, Whole, front}

-- 16 bytes of ones, the length of the whole message, its type, and its body
abbrev pub frame_text : Frame → List ℕ
frame_text frame = replicate 16 255 ++ (to_be_bytes w16 (frame_len frame) ++ (frame.kind ∷ frame.body))

-- numbers below 256
abbrev pub AreBytes : List ℕ → Type 0
AreBytes bytes = (i : ℕ) → get_or bytes i 0 < 256

-- a message that stands at the front of bytes is what they begin with
abbrev pub FramesAreText : Type 0
FramesAreText = (most : ℕ) (bytes : List ℕ) (frame : Frame) → AreBytes bytes
    → front most bytes ≡ Whole frame → bytes ≡ frame_text frame ++ drop (frame_len frame) bytes

-- a message that is written stands at the front, whatever follows it
abbrev pub TextsAreFrames : Type 0
TextsAreFrames = (most : ℕ) (frame : Frame) (rest : List ℕ) → most < 2 ^ 16 → frame_len frame ≤ most
    → IsTrue (is_sized most frame) → front most (frame_text frame ++ rest) ≡ Whole frame

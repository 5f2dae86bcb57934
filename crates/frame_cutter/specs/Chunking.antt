-- A stream that is cut into messages while it comes, in pieces of any size.
use Rattle.std.specs.Prelude.{ℕ, ◌≡◌, ◌+◌, List, [], ◌∷◌, ◌++◌, length, drop, Option, None}
use Rattle.frame_cutter.specs.declared.refusal.Refusal.{Refusal}
use Rattle.frame_cutter.specs.Front.{Frame, frame_len, Whole, front}
use Rattle.frame_cutter.specs.Frames.{greatest, behind, Broken, Frames, onto, frames_in}
use Rattle.frame_cutter.specs.Cutting.{Cutting, fresh, front_of, first_of, fed, advanced, from_on, widened}

-- A cutter has taken these bytes and passed these messages of them. The messages from the wide-th on, counted from the
-- first that was passed, may be long.
abbrev pub HasCut : Option ℕ → List ℕ → List Frame → Cutting → Type 0
HasCut wide taken [] now = now ≡ record { bytes = taken; wide = wide }
HasCut wide taken (frame ∷ frames) now =
    (front (greatest wide) taken ≡ Whole frame) × HasCut (behind wide) (drop (frame_len frame) taken) frames now

-- at the beginning nothing was taken
abbrev pub Begins : Type 0
Begins = HasCut None [] [] fresh

-- bytes that are fed are taken
abbrev pub Takes : Type 0
Takes = (wide : Option ℕ) (taken : List ℕ) (frames : List Frame) (now : Cutting) (piece : List ℕ)
    → HasCut wide taken frames now → HasCut wide (taken ++ piece) frames (fed piece now)

-- the message in front is passed
abbrev pub Passes : Type 0
Passes = (wide : Option ℕ) (taken : List ℕ) (frames : List Frame) (now : Cutting)
    → HasCut wide taken frames now → HasCut wide taken (frames ++ first_of (front_of now)) (advanced now)

-- the messages behind the one in front may be long, and what was cut before is as it was
abbrev pub Widens : Type 0
Widens = (wide : Option ℕ) (taken : List ℕ) (frames : List Frame) (now : Cutting)
    → HasCut wide taken frames now → HasCut (from_on (length frames + 1) wide) taken frames (widened now)

-- what was passed, and then the messages of what is left, are the messages of all that was taken
abbrev pub CutsAll : Type 0
CutsAll = (wide : Option ℕ) (taken : List ℕ) (frames : List Frame) (now : Cutting)
    → HasCut wide taken frames now → frames_in wide taken ≡ onto frames (frames_in now.wide now.bytes)

-- the messages of a stream stay when more comes
abbrev pub FramesStay : Type 0
FramesStay = (wide : Option ℕ) (bytes more : List ℕ)
    → (others : Frames) × (frames_in wide (bytes ++ more) ≡ onto (frames_in wide bytes).frames others)

-- a fault of a stream is for good
abbrev pub FaultsStay : Type 0
FaultsStay = (wide : Option ℕ) (bytes more : List ℕ) (refusal : Refusal)
    → (frames_in wide bytes).end ≡ Broken refusal → frames_in wide (bytes ++ more) ≡ frames_in wide bytes

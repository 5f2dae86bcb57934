-- Lines that hold a message in hexadecimal digits: these alone, or as messages are printed with their neighbour and
-- whether more of their batch follow.
use Rattle.std.specs.Prelude.{ℕ, ◌≡◌, ◌⊎◌, ◌<◌, ◌≤◌, codes, decimal, List, [], ◌∷◌, ◌++◌, length, Ok, Option, Some}
use Rattle.std.specs.Prelude.{None}
use Rattle.std.specs.Prelude.{if◌then◌else◌}
use Rattle.hex.specs.Hex.{decode_of}
use Rattle.route_values.specs.Caps.{Caps}
use Rattle.frame_cutter.specs.Frames.{greatest, frames_in, Rest}

-- whether further messages of the batch follow
abbrev pub IsPlace : List ℕ → Type 0
IsPlace word = (word ≡ codes "more") ⊎ (word ≡ codes "last")

-- a neighbour's number, of which there are 64
abbrev pub IsNeighbor : List ℕ → Type 0
IsNeighbor word = (number : ℕ) × (number < 64) × (word ≡ decimal number)

-- three words that introduce a message
abbrev pub AreIntroducing : List ℕ → List ℕ → List ℕ → Type 0
AreIntroducing word neighbor place = (word ≡ codes "update") × IsNeighbor neighbor × IsPlace place

-- what stands before the digits of a printed message: `update`, the neighbour's number, and the message's place
pub record IsIntroduction (text : List ℕ) : Type 0 where
  pub neighbor : List ℕ
  pub place : List ℕ
  pub neighbor_is : IsNeighbor neighbor
  pub place_is : IsPlace place
  pub text_is : text ≡ codes "update" ++ 32 ∷ (neighbor ++ 32 ∷ (place ++ 32 ∷ []))

-- what stands behind the introduction of a line, or the whole line where it has none
pub data IsDigitsOf (line : List ℕ) : List ℕ → Type 0 where
  alone : ((front rest : List ℕ) → IsIntroduction front → line ≡ front ++ rest → ⊥) → IsDigitsOf line line
  introduced : (front digits : List ℕ) → IsIntroduction front → line ≡ front ++ digits → IsDigitsOf line digits

-- a line of bytes: nothing or an introduction, and then two digits a byte, of either case
pub record IsHexLine (line bytes : List ℕ) : Type 0 where
  pub front : List ℕ
  pub digits : List ℕ
  pub front_is : (front ≡ []) ⊎ IsIntroduction front
  pub filled : 0 < length digits
  pub digits_are : decode_of digits ≡ Ok bytes
  pub line_is : line ≡ front ++ digits

-- from which message on messages may be long: all of them, where that was agreed (RFC 8654, section 4)
abbrev pub wide_of : Caps → Option ℕ
wide_of caps = if caps.extended then Some 0 else None

-- how many bytes an UPDATE may have, header included
abbrev pub IsSized : Caps → ℕ → Type 0
IsSized caps len = (23 ≤ len) × (len ≤ greatest (wide_of caps))

-- bytes that are one whole UPDATE with this body, and no more (RFC 4271, sections 4.1 and 4.3)
abbrev pub IsUpdate : Caps → List ℕ → List ℕ → Type 0
IsUpdate caps bytes body =
    frames_in (wide_of caps) bytes
    ≡ record { frames = record { kind = 2; body = body } ∷ []; end = Rest [] }

-- A stream that is cut while it comes.
use Rattle.std.proofs.Common.{ℕ, zero, suc, ◌≡◌, ◌+◌, ◌-◌, ◌<◌, min, List, [], ◌∷◌, ◌++◌, length, drop, Option, Some}
use Rattle.std.proofs.Common.{None, refl, sym, ap, subst, ◌∙◌, arith}
use Rattle.std.proofs.lemmas.List.{drop-append-le}
use Rattle.frame_cutter.specs.Front.{Frame, frame_len, Front, Whole, NotYet, Fault, front}
use Rattle.frame_cutter.specs.Frames.{greatest, behind, onto, frames_in}
use Rattle.frame_cutter.specs.Cutting.{Cutting, front_of, first_of, fed, behind_front, advanced, from_on, widened}
use Rattle.frame_cutter.specs.Chunking.{HasCut}
use Rattle.frame_cutter.proofs.FrontLemmas.{whole_fits, whole_more}
use Rattle.frame_cutter.proofs.FramesLemmas.{frames_in-at}

-- bytes that are fed are taken
pub cut_takes : (wide : Option ℕ) (taken : List ℕ) (frames : List Frame) (now : Cutting) (piece : List ℕ)
    → HasCut wide taken frames now → HasCut wide (taken ++ piece) frames (fed piece now)
cut_takes wide taken [] now piece cut = ap (fed piece) cut
cut_takes wide taken (frame ∷ frames) now piece cut =
    let split : drop (frame_len frame) (taken ++ piece) ≡ drop (frame_len frame) taken ++ piece =
    drop-append-le (frame_len frame) taken piece (whole_fits (greatest wide) taken frame cut.0) in (
      whole_more (greatest wide) taken piece frame cut.0,
      subst (λ (rest : List ℕ). HasCut (behind wide) rest frames (fed piece now)) (sym split)
          (cut_takes (behind wide) (drop (frame_len frame) taken) frames now piece cut.1),
    )

-- the first message is passed
cut_first : (wide : Option ℕ) (taken : List ℕ) (at : Front) → front (greatest wide) taken ≡ at
    → HasCut wide taken (first_of at) (behind_front at (record { bytes = taken; wide = wide }))
cut_first wide taken (Whole frame) is = (is, refl)
cut_first wide taken NotYet is = refl
cut_first wide taken (Fault refusal) is = refl

-- the message in front is passed
pub cut_passes : (wide : Option ℕ) (taken : List ℕ) (frames : List Frame) (now : Cutting) → HasCut wide taken frames now
    → HasCut wide taken (frames ++ first_of (front_of now)) (advanced now)
cut_passes wide taken [] now cut =
    subst (λ (now : Cutting). HasCut wide taken (first_of (front_of now)) (advanced now)) (sym cut)
    (cut_first wide taken (front (greatest wide) taken) refl)
cut_passes wide taken (frame ∷ frames) now cut = (
  cut.0,
  cut_passes (behind wide) (drop (frame_len frame) taken) frames now cut.1,
)

-- a message with a number that isn't 0 counts as short
short_at : (number : ℕ) → 0 < number → greatest (Some number) ≡ 4096
short_at zero some = absurd (omega arith)
short_at (suc number) some = refl

-- the first message stays short or long where later ones may be long
first_stays : (count : ℕ) (wide : Option ℕ) → greatest (from_on (suc count + 1) wide) ≡ greatest wide
first_stays count None = short_at (suc count + 1) (omega arith)
first_stays count (Some zero) =
    let least : min 0 (suc count + 1) ≡ 0 = omega arith in ap (λ n. greatest (Some n)) least
first_stays count (Some (suc wide)) = short_at (min (suc wide) (suc count + 1)) (omega arith)

-- the same number, counted from the second message
behind_stays : (count : ℕ) (wide : Option ℕ) → behind (from_on (suc count + 1) wide) ≡ from_on (count + 1) (behind wide)
behind_stays count None = let less : suc count + 1 - 1 ≡ count + 1 = omega arith in ap Some less
behind_stays count (Some wide) =
    let less : min wide (suc count + 1) - 1 ≡ min (wide - 1) (count + 1) = omega arith in ap Some less

-- the messages behind the one in front may be long
pub cut_widens : (wide : Option ℕ) (taken : List ℕ) (frames : List Frame) (now : Cutting) → HasCut wide taken frames now
    → HasCut (from_on (length frames + 1) wide) taken frames (widened now)
cut_widens wide taken [] now cut = ap widened cut
cut_widens wide taken (frame ∷ frames) now cut = (
  ap (λ most. front most taken) (first_stays (length frames) wide) ∙ cut.0,
  subst (λ (w : Option ℕ). HasCut w (drop (frame_len frame) taken) frames (widened now))
      (sym (behind_stays (length frames) wide)) (cut_widens (behind wide) (drop (frame_len frame) taken) frames
      now cut.1),
)

-- what was passed, and then the messages of what is left, are the messages of all that was taken
pub cut_all : (wide : Option ℕ) (taken : List ℕ) (frames : List Frame) (now : Cutting) → HasCut wide taken frames now
    → frames_in wide taken ≡ onto frames (frames_in now.wide now.bytes)
cut_all wide taken [] now cut = ap (λ (now : Cutting). frames_in now.wide now.bytes) (sym cut)
cut_all wide taken (frame ∷ frames) now cut =
    frames_in-at wide taken (Whole frame) cut.0 ∙ ap (onto (frame ∷ []))
    (cut_all (behind wide) (drop (frame_len frame) taken) frames now cut.1)

-- The messages of a stream, one at a time.
use Rattle.std.proofs.Common.{ℕ, zero, suc, ◌≡◌, ◌<◌, ◌≤◌, ltb, true, List, [], ◌∷◌, ◌++◌, length, drop, Option, refl}
use Rattle.std.proofs.Common.{sym, ap, ◌∙◌, arith}
use Rattle.std.proofs.lemmas.Bool.{lt-ltb}
use Rattle.std.proofs.lemmas.List.{length-drop, drop-append-le}
use Rattle.frame_cutter.specs.declared.refusal.Refusal.{Refusal}
use Rattle.frame_cutter.specs.Front.{Frame, frame_len, Front, Whole, NotYet, Fault, front}
use Rattle.frame_cutter.specs.Frames.{greatest, behind, Rest, Broken, Frames, onto, from_front, frames_of, frames_in}
use Rattle.frame_cutter.proofs.FrontLemmas.{whole_fits, whole_more, fault_more}

-- messages behind the one in front that come in two ways
same_behind : (at : Front) (bytes : List ℕ) (f g : Frame → Frames) → ((frame : Frame) → f frame ≡ g frame)
    → from_front at bytes f ≡ from_front at bytes g
same_behind (Whole frame) bytes f g same = ap (onto (frame ∷ [])) (same frame)
same_behind NotYet bytes f g same = refl
same_behind (Fault refusal) bytes f g same = refl

-- bytes that are too few for a header are no message
too_few : (n : ℕ) (wide : Option ℕ) (bytes : List ℕ) → length bytes < 19
    → frames_of n wide bytes ≡ record { frames = []; end = Rest bytes }
unfolding frames_of front
too_few zero wide bytes short = refl
too_few (suc n) wide bytes short =
    let header : ltb (length bytes) 19 ≡ true = lt-ltb _ _ short in
    rw header refl

-- how many messages are looked for makes no difference, from the number of bytes on
enough : (m n : ℕ) (wide : Option ℕ) (bytes : List ℕ) → length bytes ≤ m → length bytes ≤ n
    → frames_of m wide bytes ≡ frames_of n wide bytes
unfolding frames_of
enough zero n wide bytes short_m short_n = too_few zero wide bytes (omega arith)
    ∙ sym (too_few n wide bytes (omega arith))
enough (suc m) zero wide bytes short_m short_n = too_few (suc m) wide bytes (omega arith)
    ∙ sym (too_few zero wide bytes (omega arith))
enough (suc m) (suc n) wide bytes short_m short_n =
    same_behind (front (greatest wide) bytes) bytes
    (λ frame. frames_of m (behind wide) (drop (frame_len frame) bytes))
    (λ frame. frames_of n (behind wide) (drop (frame_len frame) bytes))
    (λ frame. enough m n (behind wide) (drop (frame_len frame) bytes)
    (omega (arith, length-drop (frame_len frame) bytes)) (omega (arith, length-drop (frame_len frame) bytes)))

-- the first message, and then those behind it
pub frames_in-step : (wide : Option ℕ) (bytes : List ℕ)
    → frames_in wide bytes ≡ from_front (front (greatest wide) bytes) bytes
    (λ frame. frames_in (behind wide) (drop (frame_len frame) bytes))
unfolding frames_of
frames_in-step wide bytes =
    enough (length bytes) (suc (length bytes)) wide bytes (omega arith) (omega arith)
    ∙ same_behind (front (greatest wide) bytes) bytes
    (λ frame. frames_of (length bytes) (behind wide) (drop (frame_len frame) bytes))
    (λ frame. frames_in (behind wide) (drop (frame_len frame) bytes))
    (λ frame. enough (length bytes) (length (drop (frame_len frame) bytes)) (behind wide)
    (drop (frame_len frame) bytes) (omega (arith, length-drop (frame_len frame) bytes)) (omega arith))

-- where that is known
pub frames_in-at : (wide : Option ℕ) (bytes : List ℕ) (at : Front) → front (greatest wide) bytes ≡ at
    → frames_in wide bytes ≡ from_front at bytes (λ frame. frames_in (behind wide) (drop (frame_len frame) bytes))
frames_in-at wide bytes at is =
    frames_in-step wide bytes ∙ ap (λ (at : Front). from_front at bytes
    (λ frame. frames_in (behind wide) (drop (frame_len frame) bytes))) is

-- what becomes of messages when more comes
record AreKept (wide : Option ℕ) (bytes more : List ℕ) : Type 0 where
  pub others : Frames
  pub stay : frames_in wide (bytes ++ more) ≡ onto (frames_in wide bytes).frames others
  pub broken : (refusal : Refusal) → (frames_in wide bytes).end ≡ Broken refusal
      → frames_in wide (bytes ++ more) ≡ frames_in wide bytes

-- a message in front stays, and those behind it do as they do by themselves
kept_whole : (wide : Option ℕ) (bytes more : List ℕ) (frame : Frame) → front (greatest wide) bytes ≡ Whole frame
    → AreKept (behind wide) (drop (frame_len frame) bytes) more → AreKept wide bytes more
kept_whole wide bytes more frame is later =
    let now : frames_in wide bytes ≡ onto (frame ∷ []) (frames_in (behind wide) (drop (frame_len frame) bytes)) =
    frames_in-at wide bytes (Whole frame) is in
    let then_at : front (greatest wide) (bytes ++ more) ≡ Whole frame =
    whole_more (greatest wide) bytes more frame is in
    let cut : drop (frame_len frame) (bytes ++ more) ≡ drop (frame_len frame) bytes ++ more =
    drop-append-le (frame_len frame) bytes more (whole_fits (greatest wide) bytes frame is) in
    let then : frames_in wide (bytes ++ more) ≡ onto (frame ∷ [])
    (frames_in (behind wide) (drop (frame_len frame) bytes ++ more)) =
    frames_in-at wide (bytes ++ more) (Whole frame) then_at
    ∙ ap (λ (rest : List ℕ). onto (frame ∷ []) (frames_in (behind wide) rest)) cut in
    record {
      others = later.others;
      stay = then ∙ ap (onto (frame ∷ [])) later.stay ∙ ap (λ (all : Frames). onto all.frames later.others) (sym now);
      broken = λ refusal fault. then ∙ ap (onto (frame ∷ []))
          (later.broken refusal (sym (ap (λ (all : Frames). all.end) now) ∙ fault)) ∙ sym now;
    }

kept_not_yet : (wide : Option ℕ) (bytes more : List ℕ) → front (greatest wide) bytes ≡ NotYet → AreKept wide bytes more
kept_not_yet wide bytes more is =
    let now : frames_in wide bytes ≡ record { frames = []; end = Rest bytes } = frames_in-at wide bytes NotYet is in
    record {
      others = frames_in wide (bytes ++ more);
      stay = ap (λ (all : Frames). onto all.frames (frames_in wide (bytes ++ more))) (sym now);
      broken = λ refusal fault. absurd (let at : Rest bytes ≡ Broken refusal = sym (ap (λ (all : Frames). all.end) now)
          ∙ fault in cc);
    }

kept_fault : (wide : Option ℕ) (bytes more : List ℕ) (refusal : Refusal) → front (greatest wide) bytes ≡ Fault refusal
    → AreKept wide bytes more
kept_fault wide bytes more refusal is =
    let now : frames_in wide bytes ≡ record { frames = []; end = Broken refusal } =
    frames_in-at wide bytes (Fault refusal) is in
    let then : frames_in wide (bytes ++ more) ≡ record { frames = []; end = Broken refusal } =
    frames_in-at wide (bytes ++ more) (Fault refusal) (fault_more (greatest wide) bytes more refusal is) in
    record {
      others = frames_in wide (bytes ++ more);
      stay = ap (λ (all : Frames). onto all.frames (frames_in wide (bytes ++ more))) (sym now);
      broken = λ other fault. then ∙ sym now;
    }

kept_at : (wide : Option ℕ) (bytes more : List ℕ) (at : Front) → front (greatest wide) bytes ≡ at
    → ((frame : Frame) → at ≡ Whole frame → AreKept (behind wide) (drop (frame_len frame) bytes) more)
    → AreKept wide bytes more
kept_at wide bytes more (Whole frame) is later = kept_whole wide bytes more frame is (later frame refl)
kept_at wide bytes more NotYet is later = kept_not_yet wide bytes more is
kept_at wide bytes more (Fault refusal) is later = kept_fault wide bytes more refusal is

kept : (n : ℕ) (wide : Option ℕ) (bytes more : List ℕ) → length bytes ≤ n → AreKept wide bytes more
kept zero wide bytes more short =
    kept_at wide bytes more (front (greatest wide) bytes) refl
    (λ frame is. absurd (omega (arith, whole_fits (greatest wide) bytes frame is)))
kept (suc n) wide bytes more short =
    kept_at wide bytes more (front (greatest wide) bytes) refl
    (λ frame is. kept n (behind wide) (drop (frame_len frame) bytes) more
    (omega (arith, length-drop (frame_len frame) bytes)))

pub frames_stay : (wide : Option ℕ) (bytes more : List ℕ) → (others : Frames)
    × (frames_in wide (bytes ++ more) ≡ onto (frames_in wide bytes).frames others)
frames_stay wide bytes more =
    let parts : AreKept wide bytes more = kept (length bytes) wide bytes more (omega arith) in
    (parts.others, parts.stay)

pub faults_stay : (wide : Option ℕ) (bytes more : List ℕ) (refusal : Refusal)
    → (frames_in wide bytes).end ≡ Broken refusal → frames_in wide (bytes ++ more) ≡ frames_in wide bytes
faults_stay wide bytes more refusal fault = (kept (length bytes) wide bytes more (omega arith)).broken refusal fault

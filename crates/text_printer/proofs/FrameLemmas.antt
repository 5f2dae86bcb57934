-- Bytes that are one UPDATE and nothing more: its header, and then its body.
use Rattle.std.proofs.Common.{ℕ, ◌≡◌, ◌<◌, ◌≤◌, ◌^◌, Bool, true, false, nat_le, List, [], ◌∷◌, ◌++◌, length, take, drop}
use Rattle.std.proofs.Common.{Option, Some, None, replicate, ap, sym, ◌∙◌, refl, subst, arith, append-nil}
use Rattle.std.proofs.Common.{if◌then◌else◌}
use Rattle.std.specs.Int.{w16, to_be_bytes}
use Rattle.std.proofs.lemmas.Bool.{and_from, and_parts, le-leb, leb-true}
use Rattle.std.proofs.lemmas.List.{drop_all, length-append, take_at, take-append-drop}
use Rattle.route_values.specs.Caps.{Caps}
use Rattle.frame_cutter.specs.Front.{Frame, frame_len, is_sized, Front, Whole, NotYet, Fault, front}
use Rattle.frame_cutter.specs.Frames.{greatest, behind, Rest, Broken, End, Frames, onto, from_front, frames_of}
use Rattle.frame_cutter.specs.Frames.{frames_in}
use Rattle.frame_cutter.specs.Texts.{frame_text, AreBytes}
use Rattle.frame_cutter.proofs.FramesLemmas.{frames_in-step, frames_in-at}
use Rattle.frame_cutter.proofs.FrontLemmas.{whole_sized}
use Rattle.frame_cutter.proofs.TextLemmas.{frame_found, frame_only}
use Rattle.text_printer.specs.Forms.{wide_of, IsSized, IsUpdate}

-- the header of an UPDATE of so many bytes
abbrev pub header_text : ℕ → List ℕ
header_text len = replicate 16 255 ++ (to_be_bytes w16 len ++ 2 ∷ [])

-- an UPDATE with this body
abbrev pub update_of : List ℕ → Frame
update_of body = record { kind = 2; body = body }

-- what is found where messages are cut from bytes
abbrev pub alone : Frame → Frames
alone frame = record { frames = frame ∷ []; end = Rest [] }

most_of : (extended : Bool) → greatest (if extended then Some 0 else None) < 2 ^ 16
most_of true = omega arith
most_of false = omega arith

pub most_small : (caps : Caps) → greatest (wide_of caps) < 2 ^ 16
most_small caps = most_of caps.extended

no_bytes : (wide : Option ℕ) → frames_in wide [] ≡ record { frames = []; end = Rest [] }
unfolding frames_of
no_bytes wide = refl

header_joined : (len : ℕ) (body : List ℕ) → len ≡ frame_len (update_of body)
    → header_text len ++ body ≡ frame_text (update_of body)
header_joined len body is = ap (λ n. header_text n ++ body) is

pub update_found : (caps : Caps) (bytes body : List ℕ) → 23 ≤ length bytes → length bytes ≤ greatest (wide_of caps)
    → length bytes ≡ frame_len (update_of body) → bytes ≡ header_text (length bytes) ++ body → IsUpdate caps bytes body
update_found caps bytes body least greatest_is len is =
    let wide : Option ℕ = wide_of caps in
    let most : ℕ = greatest wide in
    let small = most_small caps in
    let frame : Frame = update_of body in
    let text : bytes ≡ frame_text frame ++ [] =
    is ∙ header_joined (length bytes) body len ∙ sym (append-nil (frame_text frame)) in
    let sized : is_sized most frame ≡ true =
    and_from (nat_le 23 (frame_len frame)) (nat_le (frame_len frame) most) (le-leb 23 (frame_len frame) (omega arith))
    (le-leb (frame_len frame) most (omega arith)) in
    let whole : front most bytes ≡ Whole frame =
    ap (front most) text ∙ frame_only most frame [] small (omega arith) sized in
    let rest : drop (frame_len frame) bytes ≡ [] = drop_all (frame_len frame) bytes (omega arith) in
    frames_in-at wide bytes (Whole frame) whole
    ∙ ap (λ (others : List ℕ). onto (frame ∷ []) (frames_in (behind wide) others)) rest
    ∙ ap (onto (frame ∷ [])) (no_bytes (behind wide))

-- bytes that hold no message and no fault are the rest
rest_alone : (wide : Option ℕ) (bytes : List ℕ) (at : Front) (others : Frame → Frames) → from_front at bytes others
    ≡ record { frames = []; end = Rest [] } → bytes ≡ []
rest_alone wide bytes (Whole frame) others is = absurd (some (ap (λ (found : Frames). found.frames) is))
  where
    some : {rest : List Frame} → frame ∷ rest ≡ [] → ⊥
    some same = cc
rest_alone wide bytes NotYet others is = same_rest (ap (λ (found : Frames). found.end) is)
  where
    same_rest : Rest bytes ≡ Rest [] → bytes ≡ []
    same_rest same = cc
rest_alone wide bytes (Fault refusal) others is = absurd (broken (ap (λ (found : Frames). found.end) is))
  where
    broken : Broken refusal ≡ Rest [] → ⊥
    broken same = cc

-- the first of the messages, and what stands behind it
record IsFirst (most : ℕ) (wide : Option ℕ) (bytes : List ℕ) (frame : Frame) : Type 0 where
  pub whole : front most bytes ≡ Whole frame
  pub rest : frames_in (behind wide) (drop (frame_len frame) bytes) ≡ record { frames = []; end = Rest [] }

first_alone : (wide : Option ℕ) (bytes : List ℕ) (frame : Frame) (at : Front) → front (greatest wide) bytes ≡ at
    → from_front at bytes (λ one. frames_in (behind wide) (drop (frame_len one) bytes)) ≡ alone frame
    → IsFirst (greatest wide) wide bytes frame
first_alone wide bytes frame (Whole one) stands is =
    let others : Frames = frames_in (behind wide) (drop (frame_len one) bytes) in
    let listed : one ∷ others.frames ≡ frame ∷ [] = ap (λ (found : Frames). found.frames) is in
    let same : one ≡ frame = heads listed in
    let end_is : others.end ≡ Rest [] = ap (λ (found : Frames). found.end) is in
    subst (λ (first : Frame). IsFirst (greatest wide) wide bytes first) same (record {
      whole = stands;
      rest = both others (tails listed) end_is;
    })
  where
    heads : {first second : Frame} {more others : List Frame} → first ∷ more ≡ second ∷ others → first ≡ second
    heads same = cc

    tails : {first second : Frame} {more others : List Frame} → first ∷ more ≡ second ∷ others → more ≡ others
    tails same = cc

    both : (found : Frames) → found.frames ≡ [] → found.end ≡ Rest [] → found ≡ record { frames = []; end = Rest [] }
    both found frames_are end_is =
        ap (λ (frames : List Frame). let all : Frames = record { frames = frames; end = found.end } in all) frames_are
        ∙ ap (λ (end : End). let all : Frames = record { frames = []; end = end } in all) end_is
first_alone wide bytes frame NotYet stands is = absurd (none (ap (λ (found : Frames). found.frames) is))
  where
    none : [] ≡ frame ∷ [] → ⊥
    none same = cc
first_alone wide bytes frame (Fault refusal) stands is = absurd (none (ap (λ (found : Frames). found.frames) is))
  where
    none : [] ≡ frame ∷ [] → ⊥
    none same = cc

-- what an UPDATE's bytes are
pub record IsWholeUpdate (most : ℕ) (bytes body : List ℕ) : Type 0 where
  pub len : length bytes ≡ frame_len (update_of body)
  pub least : 23 ≤ length bytes
  pub greatest : length bytes ≤ most
  pub text : bytes ≡ header_text (length bytes) ++ body

pub update_only : (caps : Caps) (bytes body : List ℕ) → AreBytes bytes → IsUpdate caps bytes body
    → IsWholeUpdate (greatest (wide_of caps)) bytes body
update_only caps bytes body are is =
    let wide : Option ℕ = wide_of caps in
    let most : ℕ = greatest wide in
    let frame : Frame = update_of body in
    let first : IsFirst most wide bytes frame =
    first_alone wide bytes frame (front most bytes) refl (sym (frames_in-step wide bytes) ∙ is) in
    let rest : List ℕ = drop (frame_len frame) bytes in
    let none : rest ≡ [] =
    rest_alone (behind wide) rest (front (greatest (behind wide)) rest)
    (λ one. frames_in (behind (behind wide)) (drop (frame_len one) rest))
    (sym (frames_in-step (behind wide) rest) ∙ first.rest) in
    let text : bytes ≡ frame_text frame =
    frame_found most bytes frame are first.whole ∙ ap (λ (more : List ℕ). frame_text frame ++ more) none
    ∙ append-nil (frame_text frame) in
    let len : length bytes ≡ frame_len frame = ap length text ∙ text_len body in
    let sized : is_sized most frame ≡ true = whole_sized most bytes frame first.whole in
    let bounds = and_parts (nat_le 23 (frame_len frame)) (nat_le (frame_len frame) most) sized in
    let least = leb-true 23 (frame_len frame) bounds.0 in
    let within = leb-true (frame_len frame) most bounds.1 in
    record {
      len = len;
      least = omega arith;
      greatest = omega arith;
      text = text ∙ sym (header_joined (length bytes) body len);
    }
  where
    text_len : (body : List ℕ) → length (frame_text (update_of body)) ≡ frame_len (update_of body)
    text_len body = omega arith

-- ---- bytes that are cut behind their header

pub cut_at : (bytes front rest : List ℕ) → front ≡ take 19 bytes → rest ≡ drop 19 bytes → bytes ≡ front ++ rest
cut_at bytes front rest front_is rest_is =
    sym (take-append-drop 19 bytes) ∙ ap (λ (text : List ℕ). text ++ drop 19 bytes) (sym front_is)
    ∙ ap (λ (text : List ℕ). front ++ text) (sym rest_is)

-- how many bytes the header and a body have
cut_len : (bytes front body : List ℕ) → bytes ≡ front ++ body → length front ≡ 19
    → length bytes ≡ frame_len (update_of body)
cut_len bytes front body is len = ap length is ∙ length-append front body ∙ omega (arith, len)

pub body_found : (caps : Caps) (bytes front body : List ℕ) → IsSized caps (length bytes) → bytes ≡ front ++ body
    → length front ≡ 19 → front ≡ header_text (length bytes) → IsUpdate caps bytes body
body_found caps bytes front body sized is len header =
    update_found caps bytes body sized.0 sized.1 (cut_len bytes front body is len)
    (is ∙ ap (λ (text : List ℕ). text ++ body) header)

-- bytes of another size are no UPDATE
pub unsized : (caps : Caps) (bytes body : List ℕ) → AreBytes bytes → ¬ (IsSized caps (length bytes))
    → IsUpdate caps bytes body → ⊥
unsized caps bytes body are never is =
    let only = update_only caps bytes body are is in never (only.least, only.greatest)

-- nor are bytes with another header
pub no_header : (caps : Caps) (bytes front rest body : List ℕ) → AreBytes bytes → bytes ≡ front ++ rest
    → length front ≡ 19 → ¬ (front ≡ header_text (length bytes)) → IsUpdate caps bytes body → ⊥
no_header caps bytes front rest body are cut len never is =
    let only = update_only caps bytes body are is in
    let header : List ℕ = header_text (length bytes) in
    never (sym (take_at front rest 19 len) ∙ ap (take 19) (sym cut ∙ only.text) ∙ take_at header body 19 refl)

-- The text of a message, and what is cut off.
use Rattle.std.proofs.Common.{ℕ, ◌≡◌, ◌+◌, ◌-◌, ◌^◌, ◌<◌, ◌≤◌, ◌==◌, true, List, [], ◌∷◌, ◌++◌, length, take, drop}
use Rattle.std.proofs.Common.{get_or, replicate, refl, sym, ap, ◌∙◌, arith, inl, inr}
use Rattle.std.specs.Int.{w16, to_be_bytes}
use Rattle.std.specs.List.{list_all}
use Rattle.std.proofs.lemmas.Bool.{cases_lt, and_parts, eqb-true}
use Rattle.std.proofs.lemmas.List.{length-append, length-take, length-drop, length-take-le, take-append-drop, take_at}
use Rattle.std.proofs.lemmas.List.{drop_more, drop-drop, get_or-drop, get_or-take, get_or_past}
use Rattle.std.proofs.lemmas.Nat.{be_bytes_2, from_be_bytes-to_be_bytes_2}
use Rattle.frame_cutter.specs.Header.{header_of, length_of, lengths_of}
use Rattle.frame_cutter.specs.Front.{Frame, frame_len, has_length, is_sized, Whole, front}
use Rattle.frame_cutter.specs.Texts.{frame_text, AreBytes}
use Rattle.frame_cutter.proofs.FrontLemmas.{IsSound, sound_header, header_sound, IsFront, whole_front, front_whole}
use Rattle.frame_cutter.proofs.FrontLemmas.{whole_len}

-- a list of one number alone
all_same : (xs : List ℕ) (n : ℕ) → list_all (λ x. x == n) xs ≡ true → xs ≡ replicate (length xs) n
all_same [] n all = refl
all_same (x ∷ xs) n all =
    let parts = and_parts (x == n) (list_all (λ x. x == n) xs) all in
    ap (λ y. y ∷ xs) (eqb-true x n parts.0) ∙ ap (λ (ys : List ℕ). n ∷ ys) (all_same xs n parts.1)

-- the marker is in front, the length behind it, then the type
split_header : (bytes : List ℕ) → 19 ≤ length bytes → bytes ≡ take 16 bytes
    ++ (take 2 (drop 16 bytes) ++ (get_or bytes 18 0 ∷ drop 19 bytes))
split_header bytes long =
    let marker : bytes ≡ take 16 bytes ++ drop 16 bytes = sym (take-append-drop 16 bytes) in
    let field : drop 16 bytes ≡ take 2 (drop 16 bytes) ++ drop 18 bytes =
    sym (take-append-drop 2 (drop 16 bytes)) ∙ ap (λ (rest : List ℕ). take 2 (drop 16 bytes) ++ rest)
    (drop-drop 2 16 bytes) in
    let kind : drop 18 bytes ≡ get_or bytes 18 0 ∷ drop 19 bytes = drop_more bytes 18 0 (omega arith) in
    marker ∙ ap (λ (rest : List ℕ). take 16 bytes ++ rest) (field
    ∙ ap (λ (rest : List ℕ). take 2 (drop 16 bytes) ++ rest) kind)

-- a part of bytes are bytes
bytes_between : (start count : ℕ) (bytes : List ℕ) → AreBytes bytes → AreBytes (take count (drop start bytes))
bytes_between start count bytes are i =
    elim (cases_lt i count) [
      | inl within ↦ rw (get_or-take count (drop start bytes) i 0 within, get_or-drop start bytes i 0) (are (start + i))
      | inr past ↦ rw (get_or_past (take count (drop start bytes)) i 0
          (omega (arith, length-take count (drop start bytes)))) (omega arith)
    ]

-- a message that stands at the front of bytes is what they begin with
pub frame_found : (most : ℕ) (bytes : List ℕ) (frame : Frame) → AreBytes bytes → front most bytes ≡ Whole frame
    → bytes ≡ frame_text frame ++ drop (frame_len frame) bytes
frame_found most bytes frame are is =
    let parts : IsFront most bytes frame = whole_front most bytes frame is in
    let sound : IsSound most (header_of bytes) = sound_header most (header_of bytes) parts.sound in
    let long = parts.long in
    let fits = parts.fits in
    let len : frame_len frame ≡ length_of (header_of bytes) = whole_len most bytes frame parts in
    let least = sound.least in
    let full : length (take 16 bytes) ≡ 16 = length-take-le 16 bytes (omega arith) in
    let marker : take 16 bytes ≡ replicate 16 255 = all_same (take 16 bytes) 255 sound.marked
    ∙ ap (λ n. replicate n 255) full in
    let two : length (take 2 (drop 16 bytes)) ≡ 2 = length-take-le 2 (drop 16 bytes)
    (omega (arith, length-drop 16 bytes)) in
    let field : take 2 (drop 16 bytes) ≡ to_be_bytes w16 (frame_len frame) =
    sym (be_bytes_2 (take 2 (drop 16 bytes)) _ two (bytes_between 16 2 bytes are) refl)
    ∙ ap (to_be_bytes w16) (sym len) in
    let body : drop 19 bytes ≡ frame.body ++ drop (frame_len frame) bytes =
    sym (take-append-drop (length_of (header_of bytes) - 19) (drop 19 bytes))
    ∙ ap (λ (rest : List ℕ). take (length_of (header_of bytes) - 19) (drop 19 bytes) ++ rest)
    (drop-drop (length_of (header_of bytes) - 19) 19 bytes)
    ∙ ap (λ (front : List ℕ). front ++ drop (19 + (length_of (header_of bytes) - 19)) bytes)
    (sym (ap (λ (f : Frame). f.body) parts.is))
    ∙ ap (λ n. frame.body ++ drop n bytes) (let whole : 19 + (length_of (header_of bytes) - 19) ≡ frame_len frame =
    omega arith in whole) in
    let kind : get_or bytes 18 0 ≡ frame.kind = sym (ap (λ (f : Frame). f.kind) parts.is) in
    split_header bytes long
    ∙ ap (λ (front : List ℕ). front ++ (take 2 (drop 16 bytes) ++ (get_or bytes 18 0 ∷ drop 19 bytes))) marker
    ∙ ap (λ (text : List ℕ). replicate 16 255 ++ (text ++ (get_or bytes 18 0 ∷ drop 19 bytes))) field
    ∙ ap (λ k. replicate 16 255 ++ (to_be_bytes w16 (frame_len frame) ++ (k ∷ drop 19 bytes))) kind
    ∙ ap (λ (rest : List ℕ). replicate 16 255 ++ (to_be_bytes w16 (frame_len frame) ++ (frame.kind ∷ rest))) body

-- a message that is written stands at the front, whatever follows it
pub frame_only : (most : ℕ) (frame : Frame) (rest : List ℕ) → most < 2 ^ 16 → frame_len frame ≤ most
    → is_sized most frame ≡ true → front most (frame_text frame ++ rest) ≡ Whole frame
frame_only most frame rest small within sized =
    let text : List ℕ = frame_text frame ++ rest in
    let len : length_of (header_of text) ≡ frame_len frame = from_be_bytes-to_be_bytes_2 (frame_len frame)
    (omega arith) in
    let sound : IsSound most (header_of text) = record {
      marked = refl;
      least = omega arith;
      greatest = omega arith;
      sized = ap (has_length (lengths_of most frame.kind)) len ∙ sized;
    } in
    let body : take (length_of (header_of text) - 19) (frame.body ++ rest) ≡ frame.body =
    take_at frame.body rest (length_of (header_of text) - 19) (omega arith) in
    front_whole most text frame (record {
      long = omega arith;
      sound = header_sound most (header_of text) sound;
      fits = omega (arith, length-append frame.body rest);
      is = ap (λ (body : List ℕ). let whole : Frame = record { kind = frame.kind; body = body } in whole) (sym body);
    })

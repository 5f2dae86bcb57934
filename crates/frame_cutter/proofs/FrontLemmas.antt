-- What stands at the front of a stream, and that it stays there when more comes.
use Rattle.std.proofs.Common.{ℕ, ◌≡◌, ◌+◌, ◌-◌, ◌<◌, ◌≤◌, ◌==◌, ltb, leb, Bool, true, false, cond, not, List, ◌++◌}
use Rattle.std.proofs.Common.{length, take, drop, get_or, slice_range, Some, None, Option, refl, sym, ap, ◌∙◌, arith}
use Rattle.std.proofs.Common.{inl, inr, ltb-true, ltb-false, le-ltb}
use Rattle.std.specs.List.{list_all}
use Rattle.std.proofs.lemmas.Bool.{cases_lt, not-false, and_parts, and_from, leb-true, le-leb}
use Rattle.std.proofs.lemmas.List.{length-append, length-take, length-drop, take-append-le, drop-append-le}
use Rattle.std.proofs.lemmas.List.{get_or_append_left}
use Rattle.frame_cutter.specs.declared.kinds.Lengths.{Lengths}
use Rattle.frame_cutter.specs.declared.refusal.Refusal.{Refusal}
use Rattle.frame_cutter.specs.Refusals.{not_synchronized, bad_length}
use Rattle.frame_cutter.specs.Header.{Header, header_of, length_of, is_within, range, lengths_of, kind_fault}
use Rattle.frame_cutter.specs.Header.{header_fault}
use Rattle.frame_cutter.specs.Front.{Frame, frame_len, has_length, is_sized, Whole, NotYet, Fault, judged, front}

-- a choice that gives something else than its first value
other_value : {A : Type 0} (b : Bool) (x y z : A) → (x ≡ z → ⊥) → cond b x y ≡ z → (b ≡ false) × (y ≡ z)
other_value true x y z unlike is = absurd (unlike is)
other_value false x y z unlike is = (refl, is)

-- a header without a fault
pub record IsSound (most : ℕ) (header : Header) : Type 0 where
  pub marked : list_all (λ byte. byte == 255) header.marker ≡ true
  pub least : 19 ≤ length_of header
  pub greatest : length_of header ≤ most
  pub sized : has_length (lengths_of most header.kind) (length_of header) ≡ true

sized_kind : (lengths : Option Lengths) (header : Header) → kind_fault lengths header ≡ None
    → has_length lengths (length_of header) ≡ true
sized_kind None header is = absurd cc
sized_kind (Some lengths) header is =
    elim (is_within lengths (length_of header)) as (λ b. cond b None (Some (bad_length header.field)) ≡ None → b ≡ true)
    [ true ↦ λ same. refl | false ↦ λ same. absurd cc ] is

pub sound_header : (most : ℕ) (header : Header) → header_fault most header ≡ None → IsSound most header
unfolding header_fault
sound_header most header is =
    let first = other_value (not (list_all (λ byte. byte == 255) header.marker)) (Some not_synchronized) _ None
    (λ same. absurd cc) is in
    let second = other_value (not (is_within (range 19 most) (length_of header))) (Some (bad_length header.field)) _
    None (λ same. absurd cc) first.1 in
    let within = and_parts (leb 19 (length_of header)) (leb (length_of header) most) (not-false _ second.0) in
    record {
      marked = not-false _ first.0;
      least = leb-true 19 (length_of header) within.0;
      greatest = leb-true (length_of header) most within.1;
      sized = sized_kind (lengths_of most header.kind) header second.1;
    }

kind_sized : (lengths : Option Lengths) (header : Header) → has_length lengths (length_of header) ≡ true
    → kind_fault lengths header ≡ None
kind_sized None header is = absurd cc
kind_sized (Some lengths) header is = ap (λ b. cond b None (Some (bad_length header.field))) is

pub header_sound : (most : ℕ) (header : Header) → IsSound most header → header_fault most header ≡ None
unfolding header_fault
header_sound most header sound =
    let marked : list_all (λ byte. byte == 255) header.marker ≡ true = sound.marked in
    let within : is_within (range 19 most) (length_of header) ≡ true =
    and_from _ _ (le-leb 19 (length_of header) sound.least) (le-leb (length_of header) most sound.greatest) in
    ap (λ b. cond (not b) (Some not_synchronized) (cond (not (is_within (range 19 most) (length_of header)))
    (Some (bad_length header.field)) (kind_fault (lengths_of most header.kind) header))) marked
    ∙ ap (λ b. cond (not b) (Some (bad_length header.field)) (kind_fault (lengths_of most header.kind) header)) within
    ∙ kind_sized (lengths_of most header.kind) header sound.sized

-- where one stands in front, and where it ends
pub record IsFront (most : ℕ) (bytes : List ℕ) (frame : Frame) : Type 0 where
  pub long : 19 ≤ length bytes
  pub sound : header_fault most (header_of bytes) ≡ None
  pub fits : length_of (header_of bytes) ≤ length bytes
  pub is : frame ≡ record { kind = (header_of bytes).kind; body = slice_range bytes 19 (length_of (header_of bytes)) }

judged_whole : (most : ℕ) (bytes : List ℕ) (frame : Frame) (fault : Option Refusal) → 19 ≤ length bytes
    → header_fault most (header_of bytes) ≡ fault → judged fault (header_of bytes) bytes ≡ Whole frame
    → IsFront most bytes frame
judged_whole most bytes frame (Some refusal) long same is = absurd cc
judged_whole most bytes frame None long same is =
    let parts = other_value (ltb (length bytes) (length_of (header_of bytes))) NotYet _ (Whole frame) (λ e. absurd cc)
    is in
    record { long = long; sound = same; fits = ltb-false _ _ parts.0; is = cc }

-- a whole message in front, taken apart
pub whole_front : (most : ℕ) (bytes : List ℕ) (frame : Frame) → front most bytes ≡ Whole frame
    → IsFront most bytes frame
unfolding front
whole_front most bytes frame is =
    let parts = other_value (ltb (length bytes) 19) NotYet _ (Whole frame) (λ e. absurd cc) is in
    judged_whole most bytes frame (header_fault most (header_of bytes)) (ltb-false _ _ parts.0) refl parts.1

-- and put together
pub front_whole : (most : ℕ) (bytes : List ℕ) (frame : Frame) → IsFront most bytes frame
    → front most bytes ≡ Whole frame
unfolding front
front_whole most bytes frame parts =
    let long : ltb (length bytes) 19 ≡ false = le-ltb _ _ parts.long in
    let whole : ltb (length bytes) (length_of (header_of bytes)) ≡ false = le-ltb _ _ parts.fits in
    let sound = parts.sound in
    rw (long, sound, whole) (ap Whole (sym parts.is))

-- a message is as long as its header says
pub whole_len : (most : ℕ) (bytes : List ℕ) (frame : Frame) → IsFront most bytes frame
    → frame_len frame ≡ length_of (header_of bytes)
whole_len most bytes frame parts =
    let sound : IsSound most (header_of bytes) = sound_header most (header_of bytes) parts.sound in
    let least = sound.least in
    let body : length frame.body ≡ length (slice_range bytes 19 (length_of (header_of bytes))) =
    ap (λ (f : Frame). length f.body) parts.is in
    let fits = parts.fits in
    omega (arith, length-take (length_of (header_of bytes) - 19) (drop 19 bytes), length-drop 19 bytes)

-- a message stands there whole
pub whole_fits : (most : ℕ) (bytes : List ℕ) (frame : Frame) → front most bytes ≡ Whole frame
    → frame_len frame ≤ length bytes
whole_fits most bytes frame is =
    let parts : IsFront most bytes frame = whole_front most bytes frame is in
    let len : frame_len frame ≡ length_of (header_of bytes) = whole_len most bytes frame parts in
    let fits = parts.fits in
    omega arith

-- a message has a length that its type has
pub whole_sized : (most : ℕ) (bytes : List ℕ) (frame : Frame) → front most bytes ≡ Whole frame
    → is_sized most frame ≡ true
whole_sized most bytes frame is =
    let parts : IsFront most bytes frame = whole_front most bytes frame is in
    let sound : IsSound most (header_of bytes) = sound_header most (header_of bytes) parts.sound in
    ap (λ (f : Frame). has_length (lengths_of most f.kind) (frame_len frame)) parts.is
    ∙ ap (λ len. has_length (lengths_of most (header_of bytes).kind) len) (whole_len most bytes frame parts)
    ∙ sound.sized

judged_not_yet : (most : ℕ) (bytes : List ℕ) (fault : Option Refusal) → header_fault most (header_of bytes) ≡ fault
    → judged fault (header_of bytes) bytes ≡ NotYet → length bytes < most
judged_not_yet most bytes (Some refusal) same is = absurd cc
judged_not_yet most bytes None same is =
    let sound : IsSound most (header_of bytes) = sound_header most (header_of bytes) same in
    let fits = sound.greatest in
    let short : ltb (length bytes) (length_of (header_of bytes)) ≡ true =
    elim (ltb (length bytes) (length_of (header_of bytes))) as
    (λ b. cond b NotYet (Whole (record {
      kind = (header_of bytes).kind;
      body =
          slice_range bytes 19 (length_of (header_of bytes));
    })) ≡ NotYet → b ≡ true)
    [ true ↦ λ e. refl | false ↦ λ e. absurd cc ] is in
    omega (arith, ltb-true (length bytes) (length_of (header_of bytes)) short)

-- where no whole message and no fault stands there, the bytes are fewer than a message may have
pub not_yet_short : (most : ℕ) (bytes : List ℕ) → 19 ≤ most → front most bytes ≡ NotYet → length bytes < most
unfolding front
not_yet_short most bytes wide is =
    elim (cases_lt (length bytes) 19) [
      | inl short ↦ omega arith
      | inr long ↦
          let header : ltb (length bytes) 19 ≡ false = le-ltb _ _ long in
          judged_not_yet most bytes (header_fault most (header_of bytes)) refl (rw header at is)
    ]

-- The header stays when more comes.
header_more : (bytes more : List ℕ) → 19 ≤ length bytes → header_of (bytes ++ more) ≡ header_of bytes
header_more bytes more long =
    let with : List ℕ → List ℕ → ℕ → Header = λ (marker : List ℕ) (field : List ℕ) (kind : ℕ).
    record { marker = marker; field = field; kind = kind } in
    let marker : take 16 (bytes ++ more) ≡ take 16 bytes = take-append-le 16 bytes more (omega arith) in
    let later : drop 16 (bytes ++ more) ≡ drop 16 bytes ++ more = drop-append-le 16 bytes more (omega arith) in
    let field : take 2 (drop 16 (bytes ++ more)) ≡ take 2 (drop 16 bytes) =
    ap (λ (rest : List ℕ). take 2 rest) later ∙ take-append-le 2 (drop 16 bytes) more
    (omega (arith, length-drop 16 bytes)) in
    let kind : get_or (bytes ++ more) 18 0 ≡ get_or bytes 18 0 = get_or_append_left bytes more 0 18 (omega arith) in
    ap (λ (m : List ℕ). with m (take 2 (drop 16 (bytes ++ more))) (get_or (bytes ++ more) 18 0)) marker
    ∙ ap (λ (f : List ℕ). with (take 16 bytes) f (get_or (bytes ++ more) 18 0)) field
    ∙ ap (λ (k : ℕ). with (take 16 bytes) (take 2 (drop 16 bytes)) k) kind

-- a message in front stays there when more comes
pub whole_more : (most : ℕ) (bytes more : List ℕ) (frame : Frame) → front most bytes ≡ Whole frame
    → front most (bytes ++ more) ≡ Whole frame
whole_more most bytes more frame is =
    let parts : IsFront most bytes frame = whole_front most bytes frame is in
    let same : header_of (bytes ++ more) ≡ header_of bytes = header_more bytes more parts.long in
    let len : length_of (header_of (bytes ++ more)) ≡ length_of (header_of bytes) = ap length_of same in
    let longer : length (bytes ++ more) ≡ length bytes + length more = length-append bytes more in
    let fits = parts.fits in
    let long = parts.long in
    let behind_header : drop 19 (bytes ++ more) ≡ drop 19 bytes ++ more = drop-append-le 19 bytes more long in
    let body : slice_range (bytes ++ more) 19 (length_of (header_of (bytes ++ more)))
    ≡ slice_range bytes 19 (length_of (header_of bytes)) =
    ap (λ n. take (n - 19) (drop 19 (bytes ++ more))) len
    ∙ ap (λ (rest : List ℕ). take (length_of (header_of bytes) - 19) rest) behind_header
    ∙ take-append-le (length_of (header_of bytes) - 19) (drop 19 bytes) more
    (omega (arith, length-drop 19 bytes)) in
    let message : ℕ → List ℕ → Frame = λ (kind : ℕ) (body : List ℕ). record { kind = kind; body = body } in
    front_whole most (bytes ++ more) frame (record {
      long = omega arith;
      sound = ap (header_fault most) same ∙ parts.sound;
      fits = omega arith;
      is = parts.is
          ∙ ap (λ (rest : List ℕ). message (header_of bytes).kind rest) (sym body)
          ∙ ap (λ (header : Header). message header.kind (slice_range (bytes ++ more) 19
          (length_of (header_of (bytes ++ more))))) (sym same);
    })

-- a fault in front, taken apart
record HasFault (most : ℕ) (bytes : List ℕ) (refusal : Refusal) : Type 0 where
  pub long : 19 ≤ length bytes
  pub fault : header_fault most (header_of bytes) ≡ Some refusal

judged_fault : (most : ℕ) (bytes : List ℕ) (refusal : Refusal) (fault : Option Refusal) → 19 ≤ length bytes
    → header_fault most (header_of bytes) ≡ fault → judged fault (header_of bytes) bytes ≡ Fault refusal
    → HasFault most bytes refusal
judged_fault most bytes refusal (Some other) long same is = record { long = long; fault = cc }
judged_fault most bytes refusal None long same is =
    let parts = other_value (ltb (length bytes) (length_of (header_of bytes))) NotYet _ (Fault refusal) (λ e. absurd cc)
    is in
    absurd cc

fault_front : (most : ℕ) (bytes : List ℕ) (refusal : Refusal) → front most bytes ≡ Fault refusal
    → HasFault most bytes refusal
unfolding front
fault_front most bytes refusal is =
    let parts = other_value (ltb (length bytes) 19) NotYet _ (Fault refusal) (λ e. absurd cc) is in
    judged_fault most bytes refusal (header_fault most (header_of bytes)) (ltb-false _ _ parts.0) refl parts.1

-- a fault in front stays there when more comes
pub fault_more : (most : ℕ) (bytes more : List ℕ) (refusal : Refusal) → front most bytes ≡ Fault refusal
    → front most (bytes ++ more) ≡ Fault refusal
unfolding front
fault_more most bytes more refusal is =
    let parts : HasFault most bytes refusal = fault_front most bytes refusal is in
    let long = parts.long in
    let header : ltb (length (bytes ++ more)) 19 ≡ false = le-ltb _ _ (omega (arith, length-append bytes more)) in
    let fault : header_fault most (header_of (bytes ++ more)) ≡ Some refusal =
    ap (header_fault most) (header_more bytes more long) ∙ parts.fault in
    rw (header, fault) refl

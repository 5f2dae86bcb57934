-- The last line of bytes, which no line feed ends.
use Rattle.std.proofs.Common.{ℕ, ◌≡◌, ◌⊎◌, ◌+◌, ◌<◌, List, [], ◌∷◌, ◌++◌, length, Result, Ok, Err, ap, sym, ◌∙◌, refl}
use Rattle.std.proofs.Common.{subst}
use Rattle.std.proofs.Common.{inl, inr, append_assoc, append-nil, arith}
use Rattle.std.specs.List.{flat_map}
use Rattle.std.specs.Prelude.{⊤}
use Rattle.outside.specs.Seen.{SinkSeen}
use Rattle.route_values.specs.Caps.{Caps}
use Rattle.message_decoder.specs.declared.halt.Halt.{Halt}
use Rattle.message_decoder.specs.Decoding.{ended, IsAnswer, IsDecoding}
use Rattle.message_decoder.specs.Streams.{AreDecoded, Finishes, IsDecodedPart, Writes, Wrote}
use Rattle.message_decoder.proofs.DecodedLemmas.{part_decoded}
use Rattle.message_decoder.proofs.LineLemmas.{decoding_last, decoding_of}
use Rattle.message_decoder.proofs.WritingLemmas.{wrote_none}

-- a list without elements is the empty one
pub no_elements : (items : List ℕ) → length items ≡ 0 → items ≡ []
no_elements [] none = refl
no_elements (item ∷ items) none = absurd (omega (arith, none))

-- bytes behind whose last line feed nothing stands are answered already
pub none_last : (caps : Caps) (bytes held text : List ℕ) (number : ℕ) (sink : SinkSeen)
    → AreDecoded caps bytes held text number → held ≡ [] → Wrote (λ more. IsDecoding caps bytes (text ++ more)) sink
    sink
none_last caps bytes held text number sink are none =
    let lines_are : flat_map ended are.lines ≡ bytes =
    sym (are.bytes_are ∙ ap (λ (last : List ℕ). flat_map ended are.lines ++ last) none
    ∙ append-nil (flat_map ended are.lines)) in
    wrote_none (λ more. IsDecoding caps bytes (text ++ more)) sink
    (subst (λ (all : List ℕ). IsDecoding caps all (text ++ [])) lines_are
    (subst (λ (all : List ℕ). IsDecoding caps (flat_map ended are.lines) all) (sym (append-nil text))
    (decoding_of caps are.lines text are.no_feeds are.answers)))

-- the last line, with its answer
last_decoded : (caps : Caps) (bytes held text answer : List ℕ) (number : ℕ) → AreDecoded caps bytes held text number
    → 0 < length held → IsAnswer caps (number + 1) held answer → IsDecoding caps bytes (text ++ answer)
last_decoded caps bytes held text answer number are some is =
    let place : number + 1 ≡ 1 + length are.lines = omega (arith, are.count) in
    subst (λ (all : List ℕ). IsDecoding caps all (text ++ answer)) (sym are.bytes_are)
    (decoding_last caps are.lines held text answer are.no_feeds are.no_feed some are.answers
    (subst (λ (at : ℕ). IsAnswer caps at held answer) place is))

-- the front of its answer was written, or nothing of it
front_last : (caps : Caps) (bytes held text written : List ℕ) (number : ℕ) → AreDecoded caps bytes held text number
    → 0 < length held → (written ≡ []) ⊎ ((rest : List ℕ) × IsAnswer caps (number + 1) held (written ++ rest))
    → IsDecodedPart ⊤ caps bytes (text ++ written)
front_last caps bytes held text written number are some (inl none) =
    subst (λ (all : List ℕ). IsDecodedPart ⊤ caps bytes all)
    (sym (append-nil text) ∙ ap (λ (last : List ℕ). text ++ last) (sym none))
    (subst (λ (all : List ℕ). IsDecodedPart ⊤ caps all text) (append-nil bytes)
    (part_decoded ⊤ caps bytes held text [] number are))
front_last caps bytes held text written number are some (inr (rest, is)) = record {
  front = bytes;
  behind = [];
  bytes_are = sym (append-nil bytes);
  closed = inr (tt, refl);
  rest = rest;
  decoding = subst (λ (all : List ℕ). IsDecoding caps bytes all) (sym (append_assoc text written rest))
      (last_decoded caps bytes held text (written ++ rest) number are some is);
}

-- the last line was answered, or the call stopped
pub finished : (caps : Caps) (bytes held text : List ℕ) (number : ℕ) (sink sink' : SinkSeen)
    (result : Result (Unit {0}) Halt) → AreDecoded caps bytes held text number → 0 < length held
    → Writes (IsAnswer caps (number + 1) held) sink sink' result → Finishes caps bytes text sink sink' result
finished caps bytes held text number sink sink' (Ok done) are some was = record {
  text = was.text;
  fits = last_decoded caps bytes held text was.text number are some was.fits;
  taken = was.taken;
  same = was.same;
}
finished caps bytes held text number sink sink' (Err halted) are some was = record {
  part = was.part;
  decoded = front_last caps bytes held text was.part number are some was.front;
  taken = was.taken;
  stops = was.stops;
}

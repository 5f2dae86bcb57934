-- Writes over bytes of a message, and the lengths in front of its attributes.
use Rattle.std.proofs.Common.{ℕ, ◌≡◌, ◌+◌, ◌-◌, List, [], ◌++◌, length, take, drop, arith, length-append, append_assoc}
use Rattle.std.proofs.Common.{subst, ap, ◌∙◌}
use Rattle.std.proofs.Math.Seq.{take-append_seam, drop-append_seam}
use Rattle.std.specs.Int.{w16, to_be_bytes}
use Rattle.update_grammar.specs.Update.{body}
use Rattle.update_grammar.specs.Written.{message}
use Rattle.update_codec.specs.Unsealed.{unsealed}
use Rattle.update_codec.proofs.WrittenLemmas.{frame_before}

-- bytes with a piece written over those from a place on
abbrev pub overwritten : ℕ → List ℕ → List ℕ → List ℕ
overwritten start piece bytes = take start bytes ++ (piece ++ drop (start + length piece) bytes)

-- bytes with their number written into the header
abbrev pub sealed : List ℕ → List ℕ
sealed bytes = take 16 bytes ++ (to_be_bytes w16 (length bytes) ++ drop 18 bytes)

-- a piece written over one of its length
pub written_over : (before head piece rest : List ℕ) (start : ℕ) → length before ≡ start → length piece ≡ length head
    → overwritten start piece (before ++ (head ++ rest)) ≡ before ++ (piece ++ rest)
written_over before head piece rest start is same =
    let front : take start (before ++ (head ++ rest)) ≡ before =
    subst (λ n. take n (before ++ (head ++ rest)) ≡ before) is (take-append_seam before (head ++ rest)) in
    let len : length (before ++ head) ≡ start + length piece = omega (arith, length-append before head, is, same) in
    let seam : drop (length (before ++ head)) (before ++ (head ++ rest)) ≡ rest =
    subst (λ bytes. drop (length (before ++ head)) bytes ≡ rest) (append_assoc before head rest)
    (drop-append_seam (before ++ head) rest) in
    let back : drop (start + length piece) (before ++ (head ++ rest)) ≡ rest =
    subst (λ n. drop n (before ++ (head ++ rest)) ≡ rest) len seam in
    ap (λ t. t ++ (piece ++ drop (start + length piece) (before ++ (head ++ rest)))) front
    ∙ ap (λ t. before ++ (piece ++ t)) back

-- the message around its attributes, where both lengths are known by equations
around : (attributes : List ℕ) (total field : ℕ) → total ≡ 23 + length attributes → field ≡ length attributes
    → unsealed total field attributes ≡ message 2 (body [] attributes [])
around attributes total field total_is field_is = rw total_is (rw field_is (frame_before attributes))

-- right lengths make a message of its attributes
pub attributes_closed : (attributes old written new : List ℕ) (total field size : ℕ)
    → old ≡ unsealed total field attributes → size ≡ length old
    → written ≡ overwritten 21 (to_be_bytes w16 (size - 23)) old → new ≡ sealed written
    → new ≡ message 2 (body [] attributes [])
attributes_closed attributes old written new total field size is size_is written_is new_is =
    let field_is : size - 23 ≡ length attributes = omega (arith, size_is, ap length is) in
    rw new_is (rw written_is (rw is (around attributes (length (unsealed total field attributes)) (size - 23)
    (omega arith) field_is)))

-- what making the lengths right does
abbrev pub Closes : List ℕ → List ℕ → Type 0
Closes old new = (total field : ℕ) → (attributes : List ℕ) → old ≡ unsealed total field attributes
    → new ≡ message 2 (body [] attributes [])

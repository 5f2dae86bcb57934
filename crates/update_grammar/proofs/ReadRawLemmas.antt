-- One attribute: what is read is its text, and its text is read.
use Rattle.std.proofs.Common.{ℕ, suc, ◌≡◌, ◌^◌, ◌<◌, ◌≤◌, Bool, true, false, ltb, List, [], ◌∷◌, ◌++◌, length, take}
use Rattle.std.proofs.Common.{drop, Some, refl, sym, ap, subst, ◌∙◌, append_assoc, arith, if◌then◌else◌}
use Rattle.std.specs.Option.{option_and_then}
use Rattle.std.specs.Int.{w16, to_be_bytes, from_be_bytes}
use Rattle.std.proofs.lemmas.Bool.{ltb-false, le-ltb}
use Rattle.std.proofs.lemmas.List.{length-append, length-take, take-append-drop, take_at, drop_at}
use Rattle.std.proofs.lemmas.Option.{same_Some}
use Rattle.update_grammar.specs.Attributes.{Raw, is_extended, raw_text, IsRaw}
use Rattle.update_grammar.specs.ReadAttributes.{len_at, raw_with, raw_at}
use Rattle.update_grammar.specs.Laws.{AreBytes}
use Rattle.update_grammar.proofs.ByteLemmas.{bytes_take, bytes_drop, bytes_rest, wide16, number_read, number_written}
use Rattle.update_grammar.proofs.ReadPrefixLemmas.{and_then_some, unless}

-- a length as it's written
abbrev len_text : Bool → ℕ → List ℕ
len_text extended len = if extended then to_be_bytes w16 len else len ∷ []

-- a length that is read, and what is behind it
record HasLen (extended : Bool) (bytes : List ℕ) (len : ℕ × List ℕ) : Type 0 where
  pub text : bytes ≡ len_text extended len.0 ++ len.1
  pub fits : len.0 < (if extended then 2 ^ 16 else 256)
  pub rest : AreBytes len.1

-- a length that is read is written so
len_found : (extended : Bool) (bytes : List ℕ) (len : ℕ × List ℕ) → AreBytes bytes → len_at extended bytes ≡ Some len
    → HasLen extended bytes len
len_found true bytes len are read =
    let parts = unless (ltb (length bytes) 2) (Some (from_be_bytes w16 bytes, drop 2 bytes)) len read in
    let has : HasLen true bytes (from_be_bytes w16 bytes, drop 2 bytes) =
    record {
      text = sym (number_written w16 (2 ^ 16) wide16 bytes are (ltb-false _ _ parts.0));
      fits = wide16.below bytes are;
      rest = bytes_drop 2 bytes are;
    } in
    subst (HasLen true bytes) (same_Some _ _ parts.1) has
len_found false [] len are read = absurd cc
len_found false (byte ∷ bytes) len are read =
    let parts = unless (ltb (length (byte ∷ bytes)) 1) (Some (byte, bytes)) len read in
    let has : HasLen false (byte ∷ bytes) (byte, bytes) = record {
      text = refl;
      fits = are 0;
      rest = bytes_rest byte bytes are;
    } in
    subst (HasLen false (byte ∷ bytes)) (same_Some _ _ parts.1) has

-- a length that is written is read
len_only : (extended : Bool) (len : ℕ) (rest : List ℕ) → len < (if extended then 2 ^ 16 else 256)
    → len_at extended (len_text extended len ++ rest) ≡ Some (len, rest)
len_only true len rest fits =
    let long : ltb (length (to_be_bytes w16 len ++ rest)) 2 ≡ false =
    le-ltb _ _ (omega (arith, length-append (to_be_bytes w16 len) rest)) in
    let is : from_be_bytes w16 (to_be_bytes w16 len ++ rest) ≡ len = number_read w16 (2 ^ 16) wide16 len rest fits in
    rw (long, is) refl
len_only false len rest fits =
    let long : ltb (length (len ∷ rest)) 1 ≡ false = le-ltb _ _ (omega arith) in
    rw long refl

-- an attribute that is read, and what is behind it
abbrev IsTaken : List ℕ → Raw × List ℕ → Type 0
IsTaken bytes one = (bytes ≡ raw_text one.0 ++ one.1) × IsRaw one.0 × AreBytes one.1 × AreBytes one.0.value

-- behind its flags, its code and its length
with_found : (flags code : ℕ) (bytes : List ℕ) (len : ℕ × List ℕ) (one : Raw × List ℕ) → flags < 256 → code < 256
    → HasLen (is_extended flags) bytes len → raw_with flags code len ≡ Some one → IsTaken (flags ∷ code ∷ bytes) one
with_found flags code bytes len one small_flags small_code has read =
    let value : List ℕ = take len.0 len.1 in
    let rest : List ℕ = drop len.0 len.1 in
    let parts = unless (ltb (length len.1) len.0) (Some (record { flags = flags; code = code; value = value }, rest))
    one read in
    let long : len.0 ≤ length len.1 = ltb-false _ _ parts.0 in
    let is_len : length value ≡ len.0 = omega (arith, length-take len.0 len.1) in
    let head : List ℕ = len_text (is_extended flags) len.0 in
    let split : bytes ≡ (head ++ value) ++ rest = has.text ∙ ap (λ (behind : List ℕ). head ++ behind)
    (sym (take-append-drop len.0 len.1)) ∙ sym (append_assoc head value rest) in
    let whole : bytes ≡ (len_text (is_extended flags) (length value) ++ value) ++ rest = split
    ∙ ap (λ n. (len_text (is_extended flags) n ++ value) ++ rest) (sym is_len) in
    let fits : length value < (if is_extended flags then 2 ^ 16 else 256) =
    subst (λ n. n < (if is_extended flags then 2 ^ 16 else 256)) (sym is_len) has.fits in
    let taken : IsTaken (flags ∷ code ∷ bytes) (record { flags = flags; code = code; value = value }, rest) = (
      ap (λ (behind : List ℕ). flags ∷ code ∷ behind) whole,
      record {
        flags = small_flags;
        code = small_code;
        length_fits = fits;
      },
      bytes_drop len.0 len.1 has.rest,
      bytes_take len.0 len.1 has.rest,
    ) in
    subst (IsTaken (flags ∷ code ∷ bytes)) (same_Some _ _ parts.1) taken

-- what is read is the text of an attribute
pub raw_found : (bytes : List ℕ) (a : Raw) (rest : List ℕ) → AreBytes bytes → raw_at bytes ≡ Some (a, rest)
    → (bytes ≡ raw_text a ++ rest) × IsRaw a × AreBytes rest × AreBytes a.value
unfolding raw_at
raw_found [] a rest are read = absurd cc
raw_found (flags ∷ []) a rest are read = absurd cc
raw_found (flags ∷ code ∷ bytes) a rest are read =
    let parts = unless (ltb (length (flags ∷ code ∷ bytes)) 2)
    (option_and_then (raw_with flags code) (len_at (is_extended flags) bytes)) (a, rest) read in
    let steps = and_then_some (raw_with flags code) (len_at (is_extended flags) bytes) (a, rest) parts.1 in
    let has : HasLen (is_extended flags) bytes steps.0 = len_found (is_extended flags) bytes steps.0
    (λ i. are (suc (suc i))) steps.1 in
    with_found flags code bytes steps.0 (a, rest) (are 0) (are 1) has steps.2

-- the text of an attribute is read, whatever stands behind it
pub raw_only : (a : Raw) (rest : List ℕ) → IsRaw a → raw_at (raw_text a ++ rest) ≡ Some (a, rest)
unfolding raw_at
raw_only a rest is =
    let head : List ℕ = len_text (is_extended a.flags) (length a.value) in
    let behind : List ℕ = head ++ (a.value ++ rest) in
    let regrouped : raw_text a ++ rest ≡ a.flags ∷ a.code ∷ behind =
    ap (λ (more : List ℕ). a.flags ∷ a.code ∷ more) (append_assoc head a.value rest) in
    let two : ltb (length (a.flags ∷ a.code ∷ behind)) 2 ≡ false = le-ltb _ _ (omega arith) in
    let len : len_at (is_extended a.flags) behind ≡ Some (length a.value, a.value ++ rest) =
    len_only (is_extended a.flags) (length a.value) (a.value ++ rest) is.length_fits in
    let long : ltb (length (a.value ++ rest)) (length a.value) ≡ false =
    le-ltb _ _ (omega (arith, length-append a.value rest)) in
    ap raw_at regrouped ∙ rw (
      two,
      len,
      long,
      take_at a.value rest (length a.value) refl,
      drop_at a.value rest (length a.value) refl,
    ) refl

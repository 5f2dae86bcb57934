-- The bytes that the digits of a line hold are the line's, and where they hold none the line holds none.
use Rattle.std.proofs.Common.{ℕ, ◌≡◌, ◌<◌, true, List, [], ◌++◌, ◌⊎◌, length, codes, Ok, Err, ap, sym, ◌∙◌, refl, subst}
use Rattle.std.proofs.Common.{inl, inr}
use Rattle.std.proofs.lemmas.Bool.{false≢true}
use Rattle.std.proofs.lemmas.List.Elements.{All-head}
use Rattle.hex.specs.declared.error.FromHexError.{FromHexError}
use Rattle.hex.specs.declared.error.FromHexError.TheVariants as hex
use Rattle.hex.specs.Hex.{decode_of, is_hex_digit}
use Rattle.hex.proofs.HexLemmas.{decode_of-ok}
use Rattle.text_printer.specs.Forms.{IsIntroduction, IsDigitsOf, alone, introduced, IsHexLine}
use Rattle.text_printer.specs.Reading.{ReadsHex, unread_hex}
use Rattle.text_printer.proofs.FormLemmas.{cut_of, introduced_front, introduced_once}

-- a line of an introduction isn't digits alone: its first letter is none
no_digits : (rest bytes : List ℕ) → decode_of (codes "update" ++ rest) ≡ Ok bytes → ⊥
no_digits rest bytes is =
    let read = decode_of-ok (codes "update" ++ rest) bytes is in
    false≢true (All-head (λ c. is_hex_digit c ≡ true) 117 (codes "pdate" ++ rest) read.1)

ok_or_err : {bytes : List ℕ} {fault : FromHexError} → Ok bytes ≡ Err fault → ⊥
ok_or_err same = cc

pub hex_line : (line digits bytes : List ℕ) → IsDigitsOf line digits → 0 < length digits → decode_of digits ≡ Ok bytes
    → IsHexLine line bytes
hex_line line digits bytes (alone none) some is =
    record { front = []; digits = line; front_is = inl refl; filled = some; digits_are = is; line_is = refl }
hex_line line digits bytes (introduced front digits_are intro line_is) some is =
    record { front = front; digits = digits; front_is = inr intro; filled = some; digits_are = is; line_is = line_is }

-- the digits of a line that holds bytes
abbrev Hold : List ℕ → List ℕ → Type 0
Hold digits bytes = (0 < length digits) × (decode_of digits ≡ Ok bytes)

alone_hold : (line bytes : List ℕ) → ((front rest : List ℕ) → IsIntroduction front → line ≡ front ++ rest → ⊥)
    → (is : IsHexLine line bytes) → (is.front ≡ []) ⊎ IsIntroduction is.front → Hold line bytes
alone_hold line bytes none is (inl empty) =
    let same : is.digits ≡ line = sym (is.line_is ∙ ap (λ (front : List ℕ). front ++ is.digits) empty) in
    subst (λ (digits : List ℕ). Hold digits bytes) same (is.filled, is.digits_are)
alone_hold line bytes none is (inr intro) = absurd (none is.front is.digits intro is.line_is)

introduced_hold : (line front digits bytes : List ℕ) → (intro : IsIntroduction front) → line ≡ front ++ digits
    → (is : IsHexLine line bytes) → (is.front ≡ []) ⊎ IsIntroduction is.front → Hold digits bytes
introduced_hold line front digits bytes intro line_is is (inl empty) =
    let same : is.digits ≡ line = sym (is.line_is ∙ ap (λ (front : List ℕ). front ++ is.digits) empty) in
    let begun = introduced_front front digits intro in
    absurd (no_digits begun.0 bytes
    (subst (λ (text : List ℕ). decode_of text ≡ Ok bytes) (same ∙ line_is ∙ begun.1) is.digits_are))
introduced_hold line front digits bytes intro line_is is (inr other) =
    let once = introduced_once line (codes "update") intro.neighbor intro.place digits is.front is.digits
    (cut_of line front digits intro line_is) other is.line_is in
    subst (λ (some : List ℕ). Hold some bytes) (sym once.3) (is.filled, is.digits_are)

pub digits_hold : (line digits bytes : List ℕ) → IsDigitsOf line digits → IsHexLine line bytes → Hold digits bytes
digits_hold line digits bytes (alone none) is = alone_hold line bytes none is is.front_is
digits_hold line digits bytes (introduced front digits_are intro line_is) is =
    introduced_hold line front digits bytes intro line_is is is.front_is

-- digits that hold no bytes are those of a line that holds none
pub no_bytes : (line digits : List ℕ) (fault : FromHexError) → IsDigitsOf line digits
    → (fault ≡ hex.OutOfMemory) ⊎ (decode_of digits ≡ Err fault) → ReadsHex line (unread_hex fault)
no_bytes line digits hex.OutOfMemory are refused = tt
no_bytes line digits (hex.InvalidHexCharacter digit place) are (inl same) = cc
no_bytes line digits (hex.InvalidHexCharacter digit place) are (inr refused) =
    λ bytes is. let hold = digits_hold line digits bytes are is in ok_or_err (sym hold.1 ∙ refused)
no_bytes line digits hex.OddLength are (inl same) = cc
no_bytes line digits hex.OddLength are (inr refused) =
    λ bytes is. let hold = digits_hold line digits bytes are is in ok_or_err (sym hold.1 ∙ refused)
no_bytes line digits hex.InvalidStringLength are (inl same) = cc
no_bytes line digits hex.InvalidStringLength are (inr refused) =
    λ bytes is. let hold = digits_hold line digits bytes are is in ok_or_err (sym hold.1 ∙ refused)

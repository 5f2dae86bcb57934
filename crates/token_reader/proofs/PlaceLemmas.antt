-- Places along a line of a file.
use Rattle.std.proofs.Common.{ℕ, zero, suc, ◌≡◌, ◌+◌, ◌≤◌, Bool, true, false, cond, List, [], ◌∷◌, length, take}
use Rattle.std.proofs.Common.{drop, arith, ap, sym, ◌∙◌, refl, subst, add-zero}
use Rattle.std.specs.List.{AllByRecursion, prefix_len}
use Rattle.token_reader.specs.declared.token.Place.{Place}
use Rattle.token_reader.specs.Places.{along, behind_byte, behind_bytes, IsInFile}
use Rattle.token_reader.specs.Signs.{is_line_feed}

-- no line feed stands among the first bytes
abbrev pub OnLine : ℕ → List ℕ → Type 0
OnLine n bs = AllByRecursion (λ b. is_line_feed b ≡ false) (take n bs)

abbrev place_at : ℕ → ℕ → Place
place_at line column = record { line = line; column = column }

-- the place behind a byte, by whether that is a line feed
behind_other : (place : Place) (b : ℕ) → is_line_feed b ≡ false → behind_byte place b ≡ along place 1
behind_other place b other = ap (λ test. cond test (place_at (place.line + 1) 1) (along place 1)) other

along-one : (place : Place) (n : ℕ) → along (along place 1) n ≡ along place (suc n)
along-one place n = ap (place_at place.line) (omega arith)

pub along-byte : (place : Place) (b n : ℕ) → is_line_feed b ≡ false
    → along (behind_byte place b) n ≡ along place (suc n)
along-byte place b n other = ap (λ (p : Place). along p n) (behind_other place b other) ∙ along-one place n

pub along-zero : (place : Place) → along place 0 ≡ place
along-zero place = ap (place_at place.line) (add-zero place.column)

-- what stands behind the first bytes of a line ends where the whole does
pub behind_bytes-along : (n : ℕ) (place : Place) (bs : List ℕ) → n ≤ length bs → OnLine n bs
    → behind_bytes place bs ≡ behind_bytes (along place n) (drop n bs)
behind_bytes-along zero place bs within on_line = ap (λ (p : Place). behind_bytes p bs) (sym (along-zero place))
behind_bytes-along (suc n) place [] within on_line = absurd (omega (arith, within))
behind_bytes-along (suc n) place (b ∷ bs) within on_line =
    behind_bytes-along n (behind_byte place b) bs (omega (arith, within)) on_line.1
    ∙ ap (λ (p : Place). behind_bytes p (drop n bs)) (along-byte place b n on_line.0)

-- the bytes from the front on that pass a test which no line feed passes
on_line_more : (test : Bool) (b n : ℕ) (bs : List ℕ) → (test ≡ true → is_line_feed b ≡ false) → OnLine n bs
    → OnLine (cond test (1 + n) 0) (b ∷ bs)
on_line_more false b n bs other on_line = tt
on_line_more true b n bs other on_line =
    let more : suc n ≡ 1 + n = omega arith in
    subst (λ k. OnLine k (b ∷ bs)) more (other refl, on_line)

pub on_line : (p : ℕ → Bool) → ((b : ℕ) → p b ≡ true → is_line_feed b ≡ false) → (bs : List ℕ)
    → OnLine (prefix_len p bs) bs
on_line p other [] = tt
on_line p other (b ∷ bs) = on_line_more (p b) b (prefix_len p bs) bs (other b) (on_line p other bs)

pub in_file-behind : (place : Place) (b n rest : ℕ) → IsInFile place (1 + n + rest)
    → IsInFile (along (behind_byte place b) n) rest
in_file-behind place b n rest is = split (is_line_feed b)
  where
    split : (test : Bool) → IsInFile (along (cond test (place_at (place.line + 1) 1) (along place 1)) n) rest
    split true = record {
      line_from_one = omega arith;
      column_from_one = omega arith;
      lines = omega (arith, is.lines);
      columns = omega (arith, is.columns, is.column_from_one);
    }
    split false = record {
      line_from_one = is.line_from_one;
      column_from_one = omega arith;
      lines = omega (arith, is.lines);
      columns = omega (arith, is.columns);
    }

-- the place behind bytes of one line
pub behind_bytes-line : (place : Place) (text : List ℕ) → AllByRecursion (λ b. is_line_feed b ≡ false) text
    → behind_bytes place text ≡ along place (length text)
behind_bytes-line place [] on_line = sym (along-zero place)
behind_bytes-line place (b ∷ bs) on_line =
    behind_bytes-line (behind_byte place b) bs on_line.1 ∙ along-byte place b (length bs) on_line.0

-- Lines that hold bytes in digits: what their introduction is, and that there is one at most.
use Rattle.std.proofs.Common.{ℕ, ◌≡◌, true, List, [], ◌∷◌, ◌++◌, codes, ap, sym, ◌∙◌, refl, subst}
use Rattle.std.proofs.Common.{inl, inr, arith, append_assoc}
use Rattle.std.specs.Char.{is_ascii_digit}
use Rattle.text_forms.proofs.CutLemmas.{Lacks, lacks_decimal, first_same, lacks_none}
use Rattle.text_printer.specs.Forms.{IsPlace, IsNeighbor, AreIntroducing, IsIntroduction}

-- the text of an introduction with these words
abbrev pub introduction : List ℕ → List ℕ → List ℕ
introduction neighbor place = codes "update" ++ 32 ∷ (neighbor ++ 32 ∷ (place ++ 32 ∷ []))

-- the line behind its first space
abbrev behind_word : List ℕ → List ℕ → List ℕ → List ℕ
behind_word neighbor place digits = neighbor ++ 32 ∷ (place ++ 32 ∷ digits)

space_no_digit : is_ascii_digit 32 ≡ true → ⊥
space_no_digit digit = absurd (cc)

update_lacks : Lacks 32 (codes "update")
update_lacks = (
  (λ same. omega arith),
  (
    (λ same. omega arith),
    ((λ same. omega arith), ((λ same. omega arith), ((λ same. omega arith), ((λ same. omega arith), tt)))),
  ),
)

more_lacks : Lacks 32 (codes "more")
more_lacks = ((λ same. omega arith), ((λ same. omega arith), ((λ same. omega arith), ((λ same. omega arith), tt))))

last_lacks : Lacks 32 (codes "last")
last_lacks = ((λ same. omega arith), ((λ same. omega arith), ((λ same. omega arith), ((λ same. omega arith), tt))))

place_lacks : (place : List ℕ) → IsPlace place → Lacks 32 place
place_lacks place (inl is) = subst (Lacks 32) (sym is) more_lacks
place_lacks place (inr is) = subst (Lacks 32) (sym is) last_lacks

neighbor_lacks : (neighbor : List ℕ) → IsNeighbor neighbor → Lacks 32 neighbor
neighbor_lacks neighbor is =
    let small = is.1 in subst (Lacks 32) (sym is.2) (lacks_decimal 32 is.0 space_no_digit (omega arith))

-- an introduction in front of digits, by its words
pub introduced_text : (neighbor place digits : List ℕ)
    → introduction neighbor place ++ digits ≡ codes "update" ++ 32 ∷ behind_word neighbor place digits
introduced_text neighbor place digits =
    ap (λ (rest : List ℕ). codes "update" ++ 32 ∷ rest)
    (append_assoc neighbor (32 ∷ (place ++ 32 ∷ [])) digits
    ∙ ap (λ (rest : List ℕ). neighbor ++ 32 ∷ rest) (append_assoc place (32 ∷ []) digits))

-- a line that is cut at its first three spaces
pub record IsCut (line word neighbor place digits : List ℕ) : Type 0 where
  pub line_is : line ≡ word ++ 32 ∷ behind_word neighbor place digits
  pub word_lacks : Lacks 32 word
  pub neighbor_lacks : Lacks 32 neighbor
  pub place_lacks : Lacks 32 place

-- an introduction in front of digits begins with its first word
pub introduced_front : (front digits : List ℕ) → IsIntroduction front
    → (rest : List ℕ) × (front ++ digits ≡ codes "update" ++ rest)
introduced_front front digits is = (
  32 ∷ behind_word is.neighbor is.place digits,
  ap (λ (text : List ℕ). text ++ digits) is.text_is ∙ introduced_text is.neighbor is.place digits,
)

-- a line that begins with an introduction is cut at its words
pub cut_of : (line front digits : List ℕ) → (is : IsIntroduction front) → line ≡ front ++ digits
    → IsCut line (codes "update") is.neighbor is.place digits
cut_of line front digits is line_is = record {
  line_is = line_is ∙ ap (λ (text : List ℕ). text ++ digits) is.text_is
      ∙ introduced_text is.neighbor is.place digits;
  word_lacks = update_lacks;
  neighbor_lacks = neighbor_lacks is.neighbor is.neighbor_is;
  place_lacks = place_lacks is.place is.place_is;
}

-- a line that is cut so has no other introduction than these words
pub introduced_once : (line word neighbor place digits front rest : List ℕ) → IsCut line word neighbor place digits
    → (is : IsIntroduction front) → line ≡ front ++ rest
    → (word ≡ codes "update") × (neighbor ≡ is.neighbor) × (place ≡ is.place) × (digits ≡ rest)
introduced_once line word neighbor place digits front rest cut is line_is =
    let whole : word ++ 32 ∷ behind_word neighbor place digits
    ≡ codes "update" ++ 32 ∷ behind_word is.neighbor is.place rest =
    sym cut.line_is ∙ line_is ∙ ap (λ (text : List ℕ). text ++ rest) is.text_is
    ∙ introduced_text is.neighbor is.place rest in
    let first = first_same 32 word (behind_word neighbor place digits) (codes "update")
    (behind_word is.neighbor is.place rest) cut.word_lacks update_lacks whole in
    let second = first_same 32 neighbor (place ++ 32 ∷ digits) is.neighbor (is.place ++ 32 ∷ rest) cut.neighbor_lacks
    (neighbor_lacks is.neighbor is.neighbor_is) first.1 in
    let third = first_same 32 place digits is.place rest cut.place_lacks (place_lacks is.place is.place_is) second.1 in
    (first.0, second.0, third.0, third.1)

-- a line without a space has none
pub no_space : (line front rest : List ℕ) → Lacks 32 line → IsIntroduction front → line ≡ front ++ rest → ⊥
no_space line front rest lacks is line_is =
    lacks_none 32 (codes "update") (behind_word is.neighbor is.place rest)
    (subst (Lacks 32) (line_is ∙ ap (λ (text : List ℕ). text ++ rest) is.text_is
    ∙ introduced_text is.neighbor is.place rest) lacks)

-- what stands behind the first space is what stands behind the first word of an introduction
behind_first : (line word after front rest : List ℕ) → line ≡ word ++ 32 ∷ after → Lacks 32 word
    → (is : IsIntroduction front) → line ≡ front ++ rest → after ≡ behind_word is.neighbor is.place rest
behind_first line word after front rest cut lacks is line_is =
    (first_same 32 word after (codes "update") (behind_word is.neighbor is.place rest) lacks update_lacks
    (sym cut ∙ line_is ∙ ap (λ (text : List ℕ). text ++ rest) is.text_is
    ∙ introduced_text is.neighbor is.place rest)).1

-- nor has a line with one space
pub one_space : (line word after front rest : List ℕ) → line ≡ word ++ 32 ∷ after → Lacks 32 word → Lacks 32 after
    → IsIntroduction front → line ≡ front ++ rest → ⊥
one_space line word after front rest cut lacks after_lacks is line_is =
    lacks_none 32 is.neighbor (is.place ++ 32 ∷ rest)
    (subst (Lacks 32) (behind_first line word after front rest cut lacks is line_is) after_lacks)

-- nor one with two
pub two_spaces : (line word after number behind front rest : List ℕ) → line ≡ word ++ 32 ∷ after → Lacks 32 word
    → after ≡ number ++ 32 ∷ behind → Lacks 32 number → Lacks 32 behind → IsIntroduction front → line ≡ front ++ rest
    → ⊥
two_spaces line word after number behind front rest cut lacks after_cut number_lacks behind_lacks is line_is =
    let first = behind_first line word after front rest cut lacks is line_is in
    let second = first_same 32 number behind is.neighbor (is.place ++ 32 ∷ rest) number_lacks
    (neighbor_lacks is.neighbor is.neighbor_is) (sym after_cut ∙ first) in
    lacks_none 32 is.place rest (subst (Lacks 32) second.1 behind_lacks)

-- words that introduce a message, one behind the other
pub introduction_of : (line word after number behind place digits : List ℕ) → line ≡ word ++ 32 ∷ after
    → after ≡ number ++ 32 ∷ behind → behind ≡ place ++ 32 ∷ digits → AreIntroducing word number place
    → (front : List ℕ) × IsIntroduction front × (line ≡ front ++ digits)
introduction_of line word after number behind place digits cut after_cut behind_cut are = (
  introduction number place,
  record { neighbor = number; place = place; neighbor_is = are.1; place_is = are.2; text_is = refl },
  cut ∙ ap (λ (text : List ℕ). text ++ 32 ∷ after) are.0
      ∙ ap (λ (text : List ℕ). codes "update" ++ 32 ∷ text)
      (after_cut ∙ ap (λ (text : List ℕ). number ++ 32 ∷ text) behind_cut)
      ∙ sym (introduced_text number place digits),
)

-- a line that is cut at other words has no introduction
pub no_introduction : (line word after number behind place digits front rest : List ℕ) → line ≡ word ++ 32 ∷ after
    → after ≡ number ++ 32 ∷ behind → behind ≡ place ++ 32 ∷ digits → Lacks 32 word → Lacks 32 number → Lacks 32 place
    → ¬ (AreIntroducing word number place) → IsIntroduction front → line ≡ front ++ rest → ⊥
no_introduction line word after number behind place digits front rest cut after_cut behind_cut lacks number_lacks
    place_lacks never is line_is =
    let cuts : IsCut line word number place digits = record {
      line_is = cut ∙ ap (λ (text : List ℕ). word ++ 32 ∷ text)
          (after_cut ∙ ap (λ (text : List ℕ). number ++ 32 ∷ text) behind_cut);
      word_lacks = lacks;
      neighbor_lacks = number_lacks;
      place_lacks = place_lacks;
    } in
    let once = introduced_once line word number place digits front rest cuts is line_is in
    never (once.0, subst IsNeighbor (sym once.1) is.neighbor_is, subst IsPlace (sym once.2) is.place_is)

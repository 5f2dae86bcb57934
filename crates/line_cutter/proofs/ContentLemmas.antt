-- The content of a part tells whether its line is blank.
use Rattle.std.proofs.Common.{ℕ, ◌≡◌, ◌==◌, Bool, true, false, cond, List, [], ◌∷◌, ap, sym, ◌∙◌, refl}
use Rattle.std.proofs.Common.{take, drop}
use Rattle.std.specs.List.{fold, list_all}
use Rattle.std.proofs.lemmas.List.{take-append-drop}
use Rattle.std.proofs.lemmas.List.Sums.{fold-append}
use Rattle.text_forms.specs.Blanks.{is_blank_byte}
use Rattle.text_forms.specs.Lines.{without_return, is_blank_part}
use Rattle.line_cutter.specs.declared.content.Content.{Content}
use Rattle.line_cutter.specs.declared.content.Content.TheVariants.{Blank, Returned, Filled}
use Rattle.line_cutter.specs.Contents.{content_after, content_of, is_blank_content}

-- what isn't blank stays so
pub filled_stays : (bytes : List ℕ) → fold content_after Filled bytes ≡ Filled
filled_stays [] = refl
filled_stays (b ∷ bs) = filled_stays bs

pub filled_front : (first : Content) (n : ℕ) (bytes : List ℕ) → fold content_after first (take n bytes) ≡ Filled
    → fold content_after first bytes ≡ Filled
filled_front first n bytes is =
    ap (fold content_after first) (sym (take-append-drop n bytes))
    ∙ fold-append content_after first (take n bytes) (drop n bytes)
    ∙ ap (λ (content : Content). fold content_after content (drop n bytes)) is ∙ filled_stays (drop n bytes)

-- one byte
one_byte : (b : ℕ) (blank return : Bool) → is_blank_byte b ≡ blank
    → list_all is_blank_byte (cond return [] (b ∷ []))
    ≡ is_blank_content (cond blank Blank (cond return Returned Filled))
one_byte b true true is = refl
one_byte b false true is = refl
one_byte b true false is = rw is refl
one_byte b false false is = rw is refl

-- bytes behind one that isn't blank
behind_other : (return : Bool) (c : ℕ) (bs : List ℕ)
    → is_blank_content (fold content_after (cond return Returned Filled) (c ∷ bs)) ≡ false
behind_other true c bs = ap is_blank_content (filled_stays bs)
behind_other false c bs = ap is_blank_content (filled_stays bs)

-- more bytes than one, where that holds of those behind the first
more_bytes : (b c : ℕ) (bs : List ℕ) (blank : Bool) → is_blank_byte b ≡ blank
    → list_all is_blank_byte (without_return (c ∷ bs)) ≡ is_blank_content (content_of (c ∷ bs))
    → is_blank_part (b ∷ c ∷ bs) ≡ is_blank_content (content_of (b ∷ c ∷ bs))
more_bytes b c bs true is later = rw is later
more_bytes b c bs false is later = rw is (sym (behind_other (b == 13) c bs))

pub content_blank : (part : List ℕ) → is_blank_part part ≡ is_blank_content (content_of part)
content_blank [] = refl
content_blank (b ∷ []) = one_byte b (is_blank_byte b) (b == 13) refl
content_blank (b ∷ c ∷ bs) = more_bytes b c bs (is_blank_byte b) refl (content_blank (c ∷ bs))

-- A word among words, which are told by references.
use Rattle.std.proofs.Common.{ℕ, ◌≡◌, ◌<◌, ◌≤◌, ◌+◌, ◌∷◌, [], ◌∙◌, true, false, List, ap, get_or, length, map}
use Rattle.std.proofs.Common.{refl, sym}
use Rattle.std.proofs.Common.{take}
use Rattle.std.proofs.lemmas.List.{length-map, take_all}
use Rattle.std.proofs.lemmas.List.Folds.{list_any_at, list_any_more}
use Rattle.std.specs.Prelude.{◌||◌}
use Rattle.std.specs.List.{list_any}
use Rattle.std.specs.Str.{bytes_eq}
use Rattle.route_values.specs.Caps.{Caps}
use Rattle.exa_top.specs.CapWords.{AreCaps, caps_in, spell_caps, stands}

-- whether a word stands among words, by their references
stands_told : {A : Type 0} (now : A → List ℕ) (word : List ℕ) (words : List A)
    → stands word (map now words) ≡ list_any (λ one. bytes_eq word (now one)) words
stands_told now word [] = refl
stands_told now word (one ∷ words) = ap (λ rest. bytes_eq word (now one) || rest) (stands_told now word words)

pub stands_at : {A : Type 0} (now : A → List ℕ) (word : List ℕ) (words : List A) (i : ℕ) (one : A) → i < length words
    → bytes_eq word (now (get_or words i one)) ≡ true → stands word (map now words) ≡ true
stands_at now word words i one within is =
    stands_told now word words ∙ list_any_at (λ other. bytes_eq word (now other)) words i one within is

pub not_so_far : {A : Type 0} (now : A → List ℕ) (word : List ℕ) (words : List A) (i : ℕ) (one : A) → i < length words
    → list_any (λ other. bytes_eq word (now other)) (take i words) ≡ false
    → bytes_eq word (now (get_or words i one)) ≡ false
    → list_any (λ other. bytes_eq word (now other)) (take (i + 1) words) ≡ false
not_so_far now word words i one within before is =
    list_any_more (λ other. bytes_eq word (now other)) words i one within
    ∙ ap (λ found. found || bytes_eq word (now (get_or words i one))) before ∙ is

pub stands_nowhere : {A : Type 0} (now : A → List ℕ) (word : List ℕ) (words : List A) (i : ℕ) → length words ≤ i
    → list_any (λ other. bytes_eq word (now other)) (take i words) ≡ false → stands word (map now words) ≡ false
stands_nowhere now word words i past none =
    stands_told now word words
    ∙ sym (ap (λ some. list_any (λ other. bytes_eq word (now other)) some) (take_all i words past)) ∙ none

-- words that spell capabilities, and words that spell none
pub are_spelled : {A : Type 0} (now : A → List ℕ) (words : List A) (caps : Caps)
    → spell_caps (length words) (map now words) ≡ true → caps ≡ caps_in (map now words)
    → AreCaps (map now words) caps
are_spelled now words caps spell is =
    (ap (λ count. spell_caps count (map now words)) (length-map words now) ∙ spell, is)

pub none_spelled : {A : Type 0} (now : A → List ℕ) (words : List A)
    → spell_caps (length words) (map now words) ≡ false → (caps : Caps) → AreCaps (map now words) caps → ⊥
none_spelled now words none caps are =
    let both : true ≡ false =
    sym are.0 ∙ ap (λ count. spell_caps count (map now words)) (length-map words now) ∙ none in
    absurd (cc)

-- The last word of lists that are put end to end.
use Rattle.std.proofs.Common.{◌≡◌, List, [], ◌∷◌, ◌++◌, Option, Some, None, refl, sym, ap, ◌∙◌}
use Rattle.update_grammar.specs.Net.{later_of, last_word}

pub later_none : {V : Type 0} (a : Option V) → later_of a None ≡ a
later_none (Some word) = refl
later_none None = refl

later_assoc : {V : Type 0} (a b c : Option V) → later_of (later_of a b) c ≡ later_of a (later_of b c)
later_assoc (Some word) b c = refl
later_assoc None b c = refl

-- the last word of two lists one behind the other
pub last_word-append : {X K V : Type 0} (says : X → K → Option V) (xs ys : List X) (key : K)
    → last_word says (xs ++ ys) key ≡ later_of (last_word says ys key) (last_word says xs key)
last_word-append says [] ys key = sym (later_none (last_word says ys key))
last_word-append says (x ∷ xs) ys key =
    ap (λ word. later_of word (says x key)) (last_word-append says xs ys key)
    ∙ later_assoc (last_word says ys key) (last_word says xs key) (says x key)

-- the word of one entry more
pub last_word-push : {X K V : Type 0} (says : X → K → Option V) (xs : List X) (x : X) (key : K)
    → last_word says (xs ++ x ∷ []) key ≡ later_of (says x key) (last_word says xs key)
last_word-push says xs x key = last_word-append says xs (x ∷ []) key

-- Texts that go on with tokens.
use Rattle.std.proofs.Common.{ℕ, ◌≡◌, ◌+◌, ◌<◌, List, [], ◌∷◌, ◌++◌, length, take, get_or, ap, sym, ◌∙◌}
use Rattle.std.proofs.Common.{append_assoc, append-nil, arith}
use Rattle.std.specs.List.{flat_map}
use Rattle.std.proofs.lemmas.List.{map_more, take_more}
use Rattle.std.proofs.lemmas.List.Concat.{flat_map-append}
use Rattle.token_reader.specs.Tokens.{Token, Word}
use Rattle.text_printer.specs.Items.{opening_bracket, closing_bracket, word_each, listed}
use Rattle.text_printer.specs.Spaced.{token_text, led, all_led, GoesOn}

-- no token
pub goes_none : (text : List ℕ) → GoesOn [] text text
goes_none text = sym (append-nil text)

-- a space, and the bytes of one token
pub goes_one : (old new : List ℕ) (token : Token) → new ≡ (old ++ 32 ∷ []) ++ token_text token
    → GoesOn (token ∷ []) old new
goes_one old new token is =
    is ∙ append_assoc old (32 ∷ []) (token_text token)
    ∙ ap (λ (text : List ℕ). old ++ text) (sym (append-nil (led token)))

-- tokens, and then others
pub goes_then : (first second : List Token) (old between new : List ℕ) → GoesOn first old between
    → GoesOn second between new → GoesOn (first ++ second) old new
goes_then first second old between new front back =
    back ∙ ap (λ (text : List ℕ). text ++ all_led second) front
    ∙ append_assoc old (all_led first) (all_led second)
    ∙ ap (λ (text : List ℕ). old ++ text) (sym (flat_map-append led first second))

-- the words of the first values, and that of the next one
pub goes_more : {V : Type 0} (text : V → List ℕ) (values : List V) (i : ℕ) (value : V) (old between new : List ℕ)
    → i < length values → get_or values i value ≡ value → GoesOn (word_each text (take i values)) old between
    → GoesOn (Word (text value) ∷ []) between new → GoesOn (word_each text (take (i + 1) values)) old new
goes_more text values i value old between new within is front back =
    goes_then (word_each text (take i values)) (Word (text value) ∷ []) old between new front back
    ∙ ap (λ (tokens : List Token). old ++ all_led tokens) (sym (
    map_more (λ one. Word (text one)) values i value within
    ∙ ap (λ one. word_each text (take i values) ++ Word (text one) ∷ []) is))

-- the tokens of the first values, and those of the next one
pub goes_along : {V : Type 0} (tokens : V → List Token) (values : List V) (i : ℕ) (value : V) (old between new : List ℕ)
    → i < length values → get_or values i value ≡ value → GoesOn (flat_map tokens (take i values)) old between
    → GoesOn (tokens value) between new → GoesOn (flat_map tokens (take (i + 1) values)) old new
goes_along tokens values i value old between new within is front back =
    goes_then (flat_map tokens (take i values)) (tokens value) old between new front back
    ∙ ap (λ (all : List Token). old ++ all_led all) (sym (
    ap (flat_map tokens) (take_more values i value within
    ∙ ap (λ one. take i values ++ one ∷ []) is)
    ∙ flat_map-append tokens (take i values) (value ∷ [])
    ∙ ap (λ (last : List Token). flat_map tokens (take i values) ++ last) (append-nil (tokens value))))

-- a list that isn't empty has its name and brackets
pub listed_some : {V : Type 0} (name : List ℕ) (text : V → List ℕ) (values : List V) (old new : List ℕ)
    → 0 < length values
    → GoesOn (Word name ∷ opening_bracket ∷ (word_each text values ++ closing_bracket ∷ [])) old new
    → GoesOn (listed name text values) old new
listed_some name text [] old new some goes_on = absurd (omega arith)
listed_some name text (value ∷ values) old new some goes_on = goes_on

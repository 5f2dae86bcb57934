-- Items that stand one after another, each of which takes at least one byte.
use Rattle.std.proofs.Common.{ℕ, zero, suc, ◌≡◌, ◌<◌, ◌≤◌, List, [], ◌∷◌, ◌++◌, length, Result, Ok, Err, arith}
use Rattle.std.proofs.Common.{append_assoc, append-nil, ap, sym, ◌∙◌, refl, subst}
use Rattle.std.specs.List.{flat_map}
use Rattle.update_grammar.specs.Pieces.{SpellsEach}
use Rattle.update_grammar.specs.Steps.{◌>>=◌, blamed, each_of, each}

-- a step over what is known and the bytes
abbrev pub Step : Type 0 → Type 0 → Type 0 → Type 0
Step S X E = S → List ℕ → Result (X × S × List ℕ) E

-- a step leaves fewer bytes than it found
pub record Shrinks {S X E : Type 0} (step : Step S X E) : Type 0 where
  pub less : (known : S) (bytes : List ℕ) (one : X × S × List ℕ) → step known bytes ≡ Ok one
      → length one.2 < length bytes

-- an item, and then others that are read in one way or another
same_others : {S X E : Type 0} (r : Result (X × S × List ℕ) E) (k : ℕ) (f g : S → List ℕ → Result (List X) E)
    → ((known : S) (rest : List ℕ) → length rest ≤ k → f known rest ≡ g known rest)
    → ((one : X × S × List ℕ) → r ≡ Ok one → length one.2 ≤ k)
    → (r >>= λ one. f one.1 one.2 >>= λ others. Ok (one.0 ∷ others))
    ≡ (r >>= λ one. g one.1 one.2 >>= λ others. Ok (one.0 ∷ others))
same_others (Ok one) k f g same short = ap (λ read. read >>= λ others. Ok (one.0 ∷ others))
    (same one.1 one.2 (short one refl))
same_others (Err e) k f g same short = refl

-- how many items are looked for makes no difference, from the number of bytes on
enough : {S X E : Type 0} (step : Step S X E) → Shrinks step → (m n : ℕ) (known : S) (bytes : List ℕ) → length bytes ≤ m
    → length bytes ≤ n → each_of step m known bytes ≡ each_of step n known bytes
unfolding each_of
enough step shrinks zero zero known bytes short_m short_n = refl
enough step shrinks zero (suc n) known [] short_m short_n = refl
enough step shrinks zero (suc n) known (byte ∷ bytes) short_m short_n = absurd (omega arith)
enough step shrinks (suc m) zero known [] short_m short_n = refl
enough step shrinks (suc m) zero known (byte ∷ bytes) short_m short_n = absurd (omega arith)
enough step shrinks (suc m) (suc n) known [] short_m short_n = refl
enough step shrinks (suc m) (suc n) known (byte ∷ bytes) short_m short_n =
    same_others (step known (byte ∷ bytes)) (length bytes) (λ after rest. each_of step m after rest)
    (λ after rest. each_of step n after rest)
    (λ after rest short. enough step shrinks m n after rest (omega (arith, short, short_m))
    (omega (arith, short, short_n)))
    (λ one is. omega (arith, shrinks.less known (byte ∷ bytes) one is))

-- no bytes are no items
pub each_none : {S X E : Type 0} (step : Step S X E) (known : S) → each step known [] ≡ Ok []
unfolding each_of
each_none step known = refl

-- bytes are an item and what is behind it
each_some : {S X E : Type 0} (step : Step S X E) → Shrinks step → (known : S) (byte : ℕ) (bytes : List ℕ)
    → each step known (byte ∷ bytes) ≡ (step known (byte ∷ bytes) >>= λ one. each step one.1 one.2 >>= λ others.
    Ok (one.0 ∷ others))
unfolding each_of
each_some step shrinks known byte bytes =
    same_others (step known (byte ∷ bytes)) (length bytes) (λ after rest. each_of step (length bytes) after rest)
    (λ after rest. each step after rest)
    (λ after rest short. enough step shrinks (length bytes) (length rest) after rest short (omega arith))
    (λ one is. omega (arith, shrinks.less known (byte ∷ bytes) one is))

-- where an item is there
pub each_one : {S X E : Type 0} (step : Step S X E) → Shrinks step → (known : S) (bytes : List ℕ) (one : X × S × List ℕ)
    → step known bytes ≡ Ok one
    → each step known bytes ≡ (each step one.1 one.2 >>= λ others. Ok (one.0 ∷ others))
each_one step shrinks known [] one is = absurd (omega (arith, shrinks.less known [] one is))
each_one step shrinks known (byte ∷ bytes) one is =
    each_some step shrinks known byte bytes ∙ ap (λ read. read >>= λ first. each step first.1 first.2 >>= λ others.
    Ok (first.0 ∷ others)) is

-- where a fault is there
pub each_fault : {S X E : Type 0} (step : Step S X E) → Shrinks step → (known : S) (bytes : List ℕ) (e : E)
    → 0 < length bytes → step known bytes ≡ Err e → each step known bytes ≡ Err e
each_fault step shrinks known [] e some is = absurd (omega arith)
each_fault step shrinks known (byte ∷ bytes) e some is =
    each_some step shrinks known byte bytes ∙ ap (λ read. read >>= λ first. each step first.1 first.2 >>= λ others.
    Ok (first.0 ∷ others)) is

-- What a loop keeps: the items so far, each told as a list, and what the rest gives.
abbrev pub with_front : {X Y E : Type 0} → (X → List Y) → List Y → Result (List X) E → Result (List Y) E
with_front tell front read = read >>= λ others. Ok (front ++ flat_map tell others)

front_more : {X Y E : Type 0} (tell : X → List Y) (front : List Y) (x : X) (read : Result (List X) E)
    → with_front tell front (read >>= λ others. Ok (x ∷ others)) ≡ with_front tell (front ++ tell x) read
front_more tell front x (Ok others) = ap (λ told. Ok told) (sym (append_assoc front (tell x) (flat_map tell others)))
front_more tell front x (Err e) = refl

-- a loop goes on behind an item
pub goes_on : {S X Y E : Type 0} (step : Step S X E) → Shrinks step
    → (tell : X → List Y) (front : List Y) (known : S) (bytes : List ℕ) (one : X × S × List ℕ)
    (total : Result (List Y) E) → step known bytes ≡ Ok one
    → with_front tell front (each step known bytes) ≡ total → with_front tell (front ++ tell one.0)
    (each step one.1 one.2) ≡ total
goes_on step shrinks tell front known bytes one total is so_far =
    sym (front_more tell front one.0 (each step one.1 one.2))
    ∙ sym (ap (with_front tell front) (each_one step shrinks known bytes one is)) ∙ so_far

-- it stops at a fault
pub stops : {S X Y E : Type 0} (step : Step S X E) → Shrinks step
    → (tell : X → List Y) (front : List Y) (known : S) (bytes : List ℕ) (e : E) (total : Result (List Y) E)
    → 0 < length bytes → step known bytes ≡ Err e
    → with_front tell front (each step known bytes) ≡ total → total ≡ Err e
stops step shrinks tell front known bytes e total some is so_far =
    sym so_far ∙ ap (with_front tell front) (each_fault step shrinks known bytes e some is)

-- it is done where no byte is left
pub is_done : {S X Y E : Type 0} (step : Step S X E) (tell : X → List Y) (front : List Y) (known : S) (bytes : List ℕ)
    (total : Result (List Y) E) → length bytes ≡ 0
    → with_front tell front (each step known bytes) ≡ total → total ≡ Ok front
is_done step tell front known [] total none so_far = sym so_far ∙ ap (with_front tell front) (each_none step known)
    ∙ simp append-nil
is_done step tell front known (byte ∷ bytes) total none so_far = absurd (omega arith)

-- it begins with no item
pub begins : {X Y E : Type 0} (tell : X → List Y) (read : Result (List X) E)
    → with_front tell [] read ≡ (read >>= λ items. Ok (flat_map tell items))
begins tell (Ok items) = refl
begins tell (Err e) = refl

-- items told one by one are the items
told_alone : {X : Type 0} (items : List X) → flat_map (λ x. x ∷ []) items ≡ items
told_alone [] = refl
told_alone (x ∷ items) = ap (λ others. x ∷ others) (told_alone items)

pub begins_alone : {X E : Type 0} (read : Result (List X) E) → with_front (λ x. x ∷ []) [] read ≡ read
begins_alone (Ok items) = ap (λ told. Ok told) (told_alone items)
begins_alone (Err e) = refl

-- the value of a step that did not fail
pub bind_ok : {A B E : Type 0} (r : Result A E) (f : A → Result B E) (y : B) → (r >>= f) ≡ Ok y
    → (x : A) × (r ≡ Ok x) × (f x ≡ Ok y)
bind_ok (Ok x) f y is = (x, refl, is)
bind_ok (Err e) f y is = absurd cc

-- and of a fault that is said in other words
pub blamed_ok : {A D E : Type 0} (say : D → E) (r : Result A D) (x : A) → blamed say r ≡ Ok x → r ≡ Ok x
blamed_ok say (Ok y) x is = cc
blamed_ok say (Err d) x is = absurd cc

abbrev done : {A E : Type 0} → E → A → Result A E
done e x = Ok x

-- two values of one answer
pub ok_is : {A E : Type 0} (e : E) (x y : A) → done e x ≡ done e y → x ≡ y
ok_is e x y is = cc

-- What a step has to tell for its items to be spelled, piece by piece: for bytes that fit, the piece that it took.
abbrev pub Takes : {S X E : Type 0} → (List ℕ → Type 0) → (List ℕ → X → Type 0) → Step S X E → Type 0
Takes {S = S} {X = X} Fit Piece step =
    (known : S) (bytes : List ℕ) (one : X × S × List ℕ) → Fit bytes → step known bytes ≡ Ok one
    → (text : List ℕ) × (bytes ≡ text ++ one.2) × Piece text one.0 × Fit one.2

-- what is read is spelled
each_of_found : {S X E : Type 0} (Fit : List ℕ → Type 0) (Piece : List ℕ → X → Type 0) (step : Step S X E)
    → Takes Fit Piece step → (n : ℕ) (known : S) (bytes : List ℕ) (items : List X) → length bytes ≤ n → Fit bytes
    → Shrinks step → each_of step n known bytes ≡ Ok items → SpellsEach Piece bytes items
unfolding each_of
each_of_found Fit Piece step takes zero known [] [] short fit shrinks is = refl
each_of_found Fit Piece step takes zero known [] (x ∷ items) short fit shrinks is = absurd cc
each_of_found Fit Piece step takes zero known (byte ∷ bytes) items short fit shrinks is = absurd (omega arith)
each_of_found Fit Piece step takes (suc n) known [] [] short fit shrinks is = refl
each_of_found Fit Piece step takes (suc n) known [] (x ∷ items) short fit shrinks is = absurd cc
each_of_found {S = S} {X = X} {E = E} Fit Piece step takes (suc n) known (byte ∷ bytes) items short fit shrinks is =
    let first = bind_ok (step known (byte ∷ bytes)) (λ one. each_of step n one.1 one.2 >>= λ others.
    Ok (one.0 ∷ others)) items is in
    let second = bind_ok (each_of step n first.0.1 first.0.2) (λ others. Ok (first.0.0 ∷ others)) items first.2 in
    let taken = takes known (byte ∷ bytes) first.0 fit first.1 in
    let others : SpellsEach Piece first.0.2 second.0 = each_of_found Fit Piece step takes n first.0.1 first.0.2 second.0
    (omega (arith, short, shrinks.less known (byte ∷ bytes) first.0 first.1)) taken.3 shrinks second.1 in
    let same : first.0.0 ∷ second.0 ≡ items = cc (second.2) in
    subst (λ read. SpellsEach Piece (byte ∷ bytes) read) same (taken.0, first.0.2, taken.1, taken.2, others)

pub each_found : {S X E : Type 0} (Fit : List ℕ → Type 0) (Piece : List ℕ → X → Type 0) (step : Step S X E)
    → Takes Fit Piece step → Shrinks step → (known : S) (bytes : List ℕ) (items : List X) → Fit bytes
    → each step known bytes ≡ Ok items → SpellsEach Piece bytes items
each_found Fit Piece step takes shrinks known bytes items fit is =
    each_of_found Fit Piece step takes (length bytes) known bytes items (omega arith) fit shrinks is

-- What a step has to tell for spelled items to be read: it takes a piece from the front, whatever is known.
abbrev pub Reads : {S X E : Type 0} → (List ℕ → X → Type 0) → Step S X E → Type 0
Reads {S = S} {X = X} Piece step =
    (known : S) (text rest : List ℕ) (x : X) → Piece text x → (after : S)
    × (step known (text ++ rest) ≡ Ok (x, after, rest))

-- what is spelled is read
pub each_only : {S X E : Type 0} (Piece : List ℕ → X → Type 0) (step : Step S X E) → Reads Piece step → Shrinks step
    → (known : S) (bytes : List ℕ) (items : List X) → SpellsEach Piece bytes items → each step known bytes ≡ Ok items
each_only Piece step reads shrinks known bytes [] spelled = ap (each step known) spelled ∙ each_none step known
each_only Piece step reads shrinks known bytes (x ∷ items) spelled =
    let read = reads known spelled.0 spelled.1 x spelled.3 in
    let is : step known bytes ≡ Ok (x, read.0, spelled.1) = ap (step known) spelled.2 ∙ read.1 in
    each_one step shrinks known bytes (x, read.0, spelled.1) is
    ∙ ap (λ others. others >>= λ more. Ok (x ∷ more)) (each_only Piece step reads shrinks read.0 spelled.1 items
    spelled.4)

-- What the writes of one more prefix make of an attribute.
use Rattle.std.proofs.Common.{ℕ, ◌≡◌, ◌+◌, ◌-◌, ◌<◌, ◌≤◌, ◌⊎◌, inl, inr, Bool, true, false, List, [], ◌∷◌, ◌++◌, length}
use Rattle.std.proofs.Common.{take, drop, nat_lt, arith, length-append, append_assoc, take-append-drop, ap, sym, ◌∙◌}
use Rattle.std.proofs.Common.{refl, if◌then◌else◌}
use Rattle.std.proofs.lemmas.List.{length-take-le, length-drop}
use Rattle.std.specs.Int.{w16, to_be_bytes}
use Rattle.update_grammar.specs.Attributes.{raw_head, raw_text, optional}
use Rattle.update_grammar.specs.Written.{flags_for, raw}
use Rattle.attr_codec.specs.declared.codes.Kind.TheVariants.{Optional}
use Rattle.attr_codec.specs.Sizes.{head_size}
use Rattle.attr_codec.proofs.SizeLemmas.{length-raw_head, length-raw_text}
use Rattle.update_codec.specs.Sizes.{passes, short_attribute, attribute_growth}
use Rattle.update_codec.proofs.OverwriteLemmas.{overwritten, written_over}

-- how long a head is by the length of the value
abbrev pub IsSized : ℕ → Type 0
IsSized n = ((n ≤ 255) × (head_size n ≡ 3)) ⊎ ((256 ≤ n) × (head_size n ≡ 4))

sized_by : (n : ℕ) (long : Bool) → nat_lt 255 n ≡ long → IsSized n
sized_by n false is = inl (grind (arith, is), rw is refl)
sized_by n true is = inr (grind (arith, is), rw is refl)

pub sized : (n : ℕ) → IsSized n
sized n = sized_by n (nat_lt 255 n) refl

-- the head by the length of the value
short_head : (code n : ℕ) → head_size n ≡ 3 → (long : Bool) → nat_lt 255 n ≡ long
    → raw_head (flags_for optional n) code n ≡ 128 ∷ code ∷ n ∷ []
short_head code n size false is = rw is refl
short_head code n size true is = absurd (grind (arith, is, size))

long_head : (code n : ℕ) → head_size n ≡ 4 → (long : Bool) → nat_lt 255 n ≡ long
    → raw_head (flags_for optional n) code n ≡ 144 ∷ code ∷ to_be_bytes w16 n
long_head code n size true is = rw is refl
long_head code n size false is = absurd (grind (arith, is, size))

-- whether an attribute's length has one byte, by how long it is
short_size : (len n : ℕ) → len ≡ head_size n + n → len ≤ 258 → IsSized n → head_size n ≡ 3
short_size len n is short (inl few) = few.1
short_size len n is short (inr many) = absurd (omega (arith, is, short, many.0, many.1))

long_size : (len n : ℕ) → len ≡ head_size n + n → 258 < len → IsSized n → head_size n ≡ 4
long_size len n is long (inl few) = absurd (omega (arith, is, long, few.0, few.1))
long_size len n is long (inr many) = many.1

-- what writing a head does
abbrev pub PutsHead : List ℕ → List ℕ → ℕ → ℕ → ℕ → Type 0
PutsHead old new start code len = (before head rest : List ℕ) → (value_len : ℕ) → length before ≡ start
    → length head ≡ head_size value_len → len ≡ head_size value_len + value_len → old ≡ before ++ (head ++ rest)
    → new ≡ before ++ (raw_head (flags_for optional value_len) code value_len ++ rest)

pub short_head_put : (old new : List ℕ) (start code len : ℕ) → len ≤ 258
    → new ≡ overwritten start (128 ∷ code ∷ (len - 3) ∷ []) old → PutsHead old new start code len
short_head_put old new start code len short new_is before head rest n start_is head_is len_is is =
    let size : head_size n ≡ 3 = short_size len n len_is short (sized n) in
    let value : len - 3 ≡ n = omega (arith, len_is, size) in
    new_is
    ∙ ap (overwritten start (128 ∷ code ∷ (len - 3) ∷ [])) is
    ∙ written_over before head (128 ∷ code ∷ (len - 3) ∷ []) rest start start_is (sym (head_is ∙ size))
    ∙ ap (λ m. before ++ (128 ∷ code ∷ m ∷ rest)) value
    ∙ ap (λ h. before ++ (h ++ rest)) (sym (short_head code n size (nat_lt 255 n) refl))

pub long_head_put : (old mid new : List ℕ) (start code len : ℕ) → 258 < len
    → mid ≡ overwritten start (144 ∷ code ∷ []) old → new ≡ overwritten (start + 2) (to_be_bytes w16 (len - 4)) mid
    → PutsHead old new start code len
long_head_put old mid new start code len long mid_is new_is before head rest n start_is head_is len_is is =
    let size : head_size n ≡ 4 = long_size len n len_is long (sized n) in
    let value : len - 4 ≡ n = omega (arith, len_is, size) in
    let two : length (take 2 head) ≡ 2 = length-take-le 2 head (omega (arith, head_is, size)) in
    let others : length (drop 2 head) ≡ 2 = omega (arith, length-drop 2 head, head_is, size) in
    let split : old ≡ before ++ (take 2 head ++ (drop 2 head ++ rest)) =
    is ∙ ap (λ h. before ++ (h ++ rest)) (sym (take-append-drop 2 head))
    ∙ ap (λ t. before ++ t) (append_assoc (take 2 head) (drop 2 head) rest) in
    let mid_split : mid ≡ (before ++ 144 ∷ code ∷ []) ++ (drop 2 head ++ rest) =
    mid_is
    ∙ ap (overwritten start (144 ∷ code ∷ [])) split
    ∙ written_over before (take 2 head) (144 ∷ code ∷ []) (drop 2 head ++ rest) start start_is (sym two)
    ∙ sym (append_assoc before (144 ∷ code ∷ []) (drop 2 head ++ rest)) in
    new_is
    ∙ ap (overwritten (start + 2) (to_be_bytes w16 (len - 4))) mid_split
    ∙ written_over (before ++ 144 ∷ code ∷ []) (drop 2 head) (to_be_bytes w16 (len - 4)) rest (start + 2)
    (omega (arith, length-append before (144 ∷ code ∷ []), start_is)) (sym others)
    ∙ append_assoc before (144 ∷ code ∷ []) (to_be_bytes w16 (len - 4) ++ rest)
    ∙ ap (λ m. before ++ (144 ∷ code ∷ (to_be_bytes w16 m ++ rest))) value
    ∙ ap (λ h. before ++ (h ++ rest)) (sym (long_head code n size (nat_lt 255 n) refl))

-- what putting a piece before the byte at a place does
abbrev pub Inserts : List ℕ → List ℕ → ℕ → List ℕ → Type 0
Inserts old new place piece = (before after : List ℕ) → length before ≡ place → old ≡ before ++ after
    → new ≡ before ++ (piece ++ after)

-- what stands before the value of an optional attribute
abbrev pub head_of : ℕ → List ℕ → List ℕ
head_of code value = raw_head (flags_for optional (length value)) code (length value)

pub length-head_of : (code : ℕ) (value : List ℕ) → length (head_of code value) ≡ head_size (length value)
length-head_of code value = length-raw_head Optional code (length value)

pub length-optional : (code : ℕ) (value : List ℕ)
    → length (raw_text (raw optional code value)) ≡ head_size (length value) + length value
length-optional code value = length-raw_text Optional code value

regrouped : (a b c d e : List ℕ) → (a ++ (b ++ c)) ++ (d ++ e) ≡ a ++ (b ++ ((c ++ d) ++ e))
regrouped a b c d e = simp append_assoc

-- a piece put behind the value
inserted : (before value after more old put : List ℕ) (start end code : ℕ) → length before ≡ start
    → end ≡ start + length (raw_text (raw optional code value))
    → old ≡ before ++ (raw_text (raw optional code value) ++ after) → Inserts old put end more
    → put ≡ before ++ (head_of code value ++ ((value ++ more) ++ after))
inserted before value after more old put start end code start_is end_is is inserts =
    inserts (before ++ raw_text (raw optional code value)) after
    (omega (arith, length-append before (raw_text (raw optional code value)), start_is, end_is))
    (is ∙ sym (append_assoc before (raw_text (raw optional code value)) after))
    ∙ regrouped before (head_of code value) value more after

-- what it is to pass a limit, and what it is not to
passed : (limit len more : ℕ) → passes limit len more ≡ true → (len ≤ limit) × (limit < len + more)
passed limit len more is = (grind (arith, is), grind (arith, is))

not_passed : (limit len more : ℕ) → passes limit len more ≡ false → (limit < len) ⊎ (len + more ≤ limit)
not_passed limit len more is = grind (arith, is)

-- the head keeps its length
same_size : (len n added : ℕ) → len ≡ head_size n + n → (258 < len) ⊎ (len + added ≤ 258) → IsSized n
    → IsSized (n + added) → head_size n ≡ head_size (n + added)
same_size len n added is (inl long) (inl few) after = absurd (omega (arith, is, long, few.0, few.1))
same_size len n added is (inl long) (inr many) (inl few) = absurd (omega (arith, many.0, few.0))
same_size len n added is (inl long) (inr many) (inr more) = many.1 ∙ sym more.1
same_size len n added is (inr short) (inr many) after = absurd (omega (arith, is, short, many.0, many.1))
same_size len n added is (inr short) (inl few) (inl still) = few.1 ∙ sym still.1
same_size len n added is (inr short) (inl few) (inr many) = absurd (omega (arith, is, short, few.1, many.0))

-- the head gets one byte more
next_size : (len n added : ℕ) → len ≡ head_size n + n → len ≤ 258 → 258 < len + added → IsSized n → IsSized (n + added)
    → head_size (n + added) ≡ 1 + head_size n
next_size len n added is short long (inr many) after = absurd (omega (arith, is, short, many.0, many.1))
next_size len n added is short long (inl few) (inl still) = absurd (omega (arith, is, long, few.1, still.0))
next_size len n added is short long (inl few) (inr many) = many.1 ∙ ap (λ size. 1 + size) (sym few.1)

-- one more prefix where the attribute's length keeps its bytes
pub put_kept : (before value after more old put new : List ℕ) (start end code len added : ℕ)
    → passes short_attribute len added ≡ false → len ≡ end - start → added ≡ length more → Inserts old put end more
    → PutsHead put new start code (len + attribute_growth len added)
    → length before ≡ start → end ≡ start + length (raw_text (raw optional code value))
    → old ≡ before ++ (raw_text (raw optional code value) ++ after)
    → new ≡ before ++ (raw_text (raw optional code (value ++ more)) ++ after)
put_kept before value after more old put new start end code len added fits len_is added_is inserts puts start_is end_is
    is =
    let total : length (value ++ more) ≡ length value + added = length-append value more
    ∙ ap (λ n. length value + n) (sym added_is) in
    let whole : len ≡ head_size (length value) + length value =
    omega (arith, len_is, end_is, length-optional code value) in
    let size : head_size (length value) ≡ head_size (length (value ++ more)) =
    same_size len (length value) added whole (not_passed short_attribute len added fits) (sized (length value))
    (sized (length value + added)) ∙ ap head_size (sym total) in
    let grown : len + attribute_growth len added ≡ len + added =
    ap (λ b. len + (if b then added + 1 else added)) fits in
    puts before (head_of code value) ((value ++ more) ++ after) (length (value ++ more)) start_is
    (length-head_of code value ∙ size) (grown ∙ omega (arith, whole, size, total))
    (inserted before value after more old put start end code start_is end_is is inserts)
    ∙ ap (λ t. before ++ t) (sym (append_assoc (head_of code (value ++ more)) (value ++ more) after))

-- where it gets a second byte
pub put_widened : (before value after more old put wide new : List ℕ) (start end code len added : ℕ)
    → passes short_attribute len added ≡ true → len ≡ end - start → added ≡ length more → Inserts old put end more
    → Inserts put wide start (0 ∷ []) → PutsHead wide new start code (len + attribute_growth len added)
    → length before ≡ start → end ≡ start + length (raw_text (raw optional code value))
    → old ≡ before ++ (raw_text (raw optional code value) ++ after)
    → new ≡ before ++ (raw_text (raw optional code (value ++ more)) ++ after)
put_widened before value after more old put wide new start end code len added over len_is added_is inserts widens puts
    start_is end_is is =
    let total : length (value ++ more) ≡ length value + added = length-append value more
    ∙ ap (λ n. length value + n) (sym added_is) in
    let whole : len ≡ head_size (length value) + length value =
    omega (arith, len_is, end_is, length-optional code value) in
    let both : (len ≤ 258) × (258 < len + added) = passed short_attribute len added over in
    let size : head_size (length (value ++ more)) ≡ 1 + head_size (length value) =
    ap head_size total ∙ next_size len (length value) added whole both.0 both.1 (sized (length value))
    (sized (length value + added)) in
    let grown : len + attribute_growth len added ≡ len + (added + 1) =
    ap (λ b. len + (if b then added + 1 else added)) over in
    puts before (0 ∷ head_of code value) ((value ++ more) ++ after) (length (value ++ more)) start_is
    (omega (arith, length-head_of code value, size)) (grown ∙ omega (arith, whole, size, total))
    (widens before (head_of code value ++ ((value ++ more) ++ after)) start_is
    (inserted before value after more old put start end code start_is end_is is inserts))
    ∙ ap (λ t. before ++ t) (sym (append_assoc (head_of code (value ++ more)) (value ++ more) after))

-- what putting a piece at the end of an attribute does
abbrev pub PutsLast : List ℕ → List ℕ → ℕ → ℕ → ℕ → List ℕ → Type 0
PutsLast old new start end code more = (before value after : List ℕ) → length before ≡ start
    → end ≡ start + length (raw_text (raw optional code value))
    → old ≡ before ++ (raw_text (raw optional code value) ++ after)
    → new ≡ before ++ (raw_text (raw optional code (value ++ more)) ++ after)

-- an attribute's length is not changed by a piece at its end but by what it grows
grown_by : (len n added : ℕ) (over : Bool) → passes short_attribute len added ≡ over → len ≡ head_size n + n
    → head_size (n + added) + (n + added) ≡ len + attribute_growth len added
grown_by len n added false is whole =
    let size : head_size n ≡ head_size (n + added) = same_size len n added whole
    (not_passed short_attribute len added is) (sized n) (sized (n + added)) in
    omega (arith, whole, size) ∙ ap (λ b. len + (if b then added + 1 else added)) (sym is)
grown_by len n added true is whole =
    let both : (len ≤ 258) × (258 < len + added) = passed short_attribute len added is in
    let size : head_size (n + added) ≡ 1 + head_size n = next_size len n added whole both.0 both.1 (sized n)
    (sized (n + added)) in
    omega (arith, whole, size) ∙ ap (λ b. len + (if b then added + 1 else added)) (sym is)

pub length-grown : (code : ℕ) (value more : List ℕ)
    → length (raw_text (raw optional code (value ++ more)))
    ≡ length (raw_text (raw optional code value))
    + attribute_growth (length (raw_text (raw optional code value))) (length more)
length-grown code value more =
    length-optional code (value ++ more)
    ∙ ap (λ n. head_size n + n) (length-append value more)
    ∙ grown_by (length (raw_text (raw optional code value))) (length value) (length more)
    (passes short_attribute (length (raw_text (raw optional code value))) (length more)) refl
    (length-optional code value)

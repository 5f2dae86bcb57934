-- Paths: what is read is spelled so, and what is spelled so is read.
use Rattle.std.proofs.Common.{ℕ, suc, ◌≡◌, ◌+◌, ◌*◌, ◌<◌, ◌≤◌, Bool, true, false, not, ◌||◌, eqb, ltb, List, [], ◌∷◌}
use Rattle.std.proofs.Common.{◌++◌, length, map, take, drop, Result, Ok, refl, sym, ap, subst, ◌∙◌, arith}
use Rattle.std.proofs.Common.{length-append, length-take, inl, inr, if◌then◌else◌}
use Rattle.std.specs.List.{AllByRecursion}
use Rattle.std.proofs.lemmas.Bool.{eqb-true, ne_eqb, ltb-false, le-ltb, and_parts, or_cases, not-true, cond_both}
use Rattle.std.proofs.lemmas.Bool.{eqb-false, not_from_false}
use Rattle.std.proofs.lemmas.List.{take_at, drop_at, take-append-drop}
use Rattle.route_values.specs.declared.path.Segment.{Segment}
use Rattle.update_grammar.specs.Pieces.{SpellsEach}
use Rattle.update_grammar.specs.Steps.{◌>>=◌, each}
use Rattle.update_grammar.specs.Values.{IsNumber, number_text, numbers_text, segment_text, path_text, IsSegment}
use Rattle.update_grammar.specs.ReadValues.{Wrong, BadLength, BadValue, number_from, items_from, Part, part_at}
use Rattle.update_grammar.specs.ReadValues.{is_segment, segments_of, path_in}
use Rattle.update_grammar.specs.Laws.{AreBytes}
use Rattle.update_grammar.proofs.ByteLemmas.{bytes_take, bytes_drop}
use Rattle.update_grammar.proofs.StepsLemmas.{Takes, Reads, each_found, each_only, bind_ok, ok_is}
use Rattle.update_grammar.proofs.ShrinkLemmas.{unless_fault, parts_shrink}
use Rattle.update_grammar.proofs.ReadValueLemmas.{number_code, items_length, whole_items_found, whole_items_only}
use Rattle.update_grammar.proofs.ReadValueLemmas.{when_is}

-- a part: its type, a count, and so many numbers
abbrev part_text : Part → List ℕ
part_text part = part.kind ∷ length part.numbers ∷ numbers_text part.numbers

-- a part that has a text
abbrev SpellsPart : List ℕ → Part → Type 0
SpellsPart text part = (text ≡ part_text part) × (length part.numbers ≤ 255) × AllByRecursion IsNumber part.numbers

-- the numbers of a part that is read
numbers_of_part : (count : ℕ) (bytes : List ℕ) → AreBytes bytes → 4 * count ≤ length bytes
    → (take (4 * count) bytes ≡ numbers_text (items_from 4 number_from (take (4 * count) bytes)))
    × (length (items_from 4 number_from (take (4 * count) bytes)) ≡ count)
    × AllByRecursion IsNumber (items_from 4 number_from (take (4 * count) bytes))
numbers_of_part count bytes are long =
    let field : List ℕ = take (4 * count) bytes in
    let len : length field ≡ 4 * count = omega (arith, length-take (4 * count) bytes) in
    let found = whole_items_found 4 number_from number_text IsNumber number_code field
    (bytes_take (4 * count) bytes are) (omega arith) in
    let numbers : List ℕ = items_from 4 number_from field in
    let fours : length (numbers_text numbers) ≡ length numbers * 4 =
    items_length 4 number_from number_text IsNumber number_code numbers found.1 in
    (found.0, omega (arith, ap length found.0), found.1)

-- what a part takes
abbrev PartTaken : List ℕ → Part × Unit {0} × List ℕ → Type 0
PartTaken bytes one = (text : List ℕ) × (bytes ≡ text ++ one.2) × SpellsPart text one.0 × AreBytes one.2

-- a part that is read is spelled
part_taken : Takes AreBytes SpellsPart part_at
unfolding part_at
part_taken known [] one are read = absurd cc
part_taken known (kind ∷ []) one are read = absurd cc
part_taken known (kind ∷ count ∷ bytes) one are read =
    let numbers : List ℕ = items_from 4 number_from (take (4 * count) bytes) in
    let read_part : Part × Unit {0} × List ℕ = (
      record { kind = kind; numbers = numbers },
      tt,
      drop (4 * count) bytes,
    ) in
    let parts = unless_fault (ltb (length (kind ∷ count ∷ bytes)) (2 + 4 * count)) BadLength (Ok read_part) one read in
    let long : 2 + 4 * count ≤ length (kind ∷ count ∷ bytes) = ltb-false _ _ parts.0 in
    let found = numbers_of_part count bytes (λ i. are (suc (suc i))) (omega arith) in
    let split : bytes ≡ numbers_text numbers ++ drop (4 * count) bytes = sym (take-append-drop (4 * count) bytes)
    ∙ ap (λ (front : List ℕ). front ++ drop (4 * count) bytes) found.0 in
    let whole : kind ∷ count ∷ bytes ≡ kind ∷ length numbers ∷ (numbers_text numbers ++ drop (4 * count) bytes) = λ i.
    kind ∷ sym found.1 i ∷ split i in
    let taken : PartTaken (kind ∷ count ∷ bytes) read_part = (
      kind ∷ length numbers ∷ numbers_text numbers,
      whole,
      (refl, omega (arith, are 1, found.1), found.2),
      bytes_drop (4 * count) bytes (λ i. are (suc (suc i))),
    ) in
    subst (PartTaken (kind ∷ count ∷ bytes)) (ok_is BadLength _ _ parts.1) taken

-- a part that is spelled is read
part_read : Reads SpellsPart part_at
unfolding part_at
part_read known text rest part spelled =
    let numbers : List ℕ = numbers_text part.numbers in
    let len : length numbers ≡ 4 * length part.numbers = omega
    (arith, items_length 4 number_from number_text IsNumber number_code part.numbers spelled.2) in
    let long : ltb (length (part.kind ∷ length part.numbers ∷ (numbers ++ rest))) (2 + 4 * length part.numbers)
    ≡ false = le-ltb _ _ (omega (arith, length-append numbers rest)) in
    let again : items_from 4 number_from numbers ≡ part.numbers =
    whole_items_only 4 number_from number_text IsNumber number_code part.numbers spelled.2 in (
      tt,
      ap (λ front. part_at known (front ++ rest)) spelled.0
          ∙ rw (
            long,
            take_at numbers rest (4 * length part.numbers) len,
            drop_at numbers rest (4 * length part.numbers) len,
            again,
          ) refl,
    )

-- the type of a segment's part
kind_is : (kind : ℕ) → (eqb kind 1 || eqb kind 2) ≡ true → kind ≡ (if eqb kind 1 then 1 else 2)
kind_is kind one_or_two =
    cond_both (eqb kind 1) 1 2 (λ n. kind ≡ n) (λ one. eqb-true kind 1 one) (λ other.
    elim (or_cases (eqb kind 1) (eqb kind 2) one_or_two) [
      | inl one ↦ absurd cc
      | inr two ↦ eqb-true kind 2 two
    ])

-- the segment that a part is
abbrev segment_of : Part → Segment
segment_of part = record { set = eqb part.kind 1; numbers = part.numbers }

-- a part that is a segment is spelled like it
segment_found : (text : List ℕ) (part : Part) → SpellsPart text part → is_segment part ≡ true
    → (text ≡ segment_text (segment_of part)) × IsSegment (segment_of part)
segment_found text part spelled is =
    let both = and_parts (eqb part.kind 1 || eqb part.kind 2) (not (eqb (length part.numbers) 0)) is in
    let some : eqb (length part.numbers) 0 ≡ false = not-true _ both.1 in
    let filled : 0 < length part.numbers = omega (arith, eqb-false (length part.numbers) 0 some) in (
      spelled.0 ∙ ap (λ kind. kind ∷ length part.numbers ∷ numbers_text part.numbers) (kind_is part.kind both.0),
      record { filled = filled; short = spelled.1; numbers = spelled.2 },
    )

-- parts that are segments are spelled like them
segments_found : (bytes : List ℕ) (parts : List Part) (path : List Segment) → SpellsEach SpellsPart bytes parts
    → segments_of parts ≡ Ok path → (bytes ≡ path_text path) × AllByRecursion IsSegment path
segments_found bytes [] path spelled read = subst (λ segments.
    (bytes ≡ path_text segments) × AllByRecursion IsSegment segments) (ok_is BadValue [] path read) (spelled, tt)
segments_found bytes (part ∷ parts) path spelled read =
    let after : List Segment → Result (List Segment) Wrong = λ others. Ok (segment_of part ∷ others) in
    let is = when_is (is_segment part) (segments_of parts >>= after) path BadValue read in
    let steps = bind_ok (segments_of parts) after path is.1 in
    let first = segment_found spelled.0 part spelled.3 is.0 in
    let others = segments_found spelled.1 parts steps.0 spelled.4 steps.1 in
    let whole : bytes ≡ segment_text (segment_of part) ++ path_text steps.0 = spelled.2
    ∙ (λ i. first.0 i ++ others.0 i) in
    subst (λ segments. (bytes ≡ path_text segments) × AllByRecursion IsSegment segments)
    (ok_is BadValue (segment_of part ∷ steps.0) path steps.2) (whole, (first.1, others.1))

-- a path that is read is spelled
pub path_found : (value : List ℕ) (path : List Segment) → AreBytes value → path_in value ≡ Ok path
    → (value ≡ path_text path) × AllByRecursion IsSegment path
unfolding path_in
path_found value path are read =
    let steps = bind_ok (each part_at tt value) segments_of path read in
    segments_found value steps.0 path (each_found AreBytes SpellsPart part_at part_taken parts_shrink tt value steps.0
    are steps.1) steps.2

-- the part that a segment is
abbrev part_of : Segment → Part
part_of segment = record { kind = if segment.set then 1 else 2; numbers = segment.numbers }

-- segments are spelled as their parts
path_spelled : (path : List Segment) → AllByRecursion IsSegment path
    → SpellsEach SpellsPart (path_text path) (map part_of path)
path_spelled [] fit = refl
path_spelled (segment ∷ path) fit = (
  segment_text segment,
  path_text path,
  refl,
  (refl, fit.0.short, fit.0.numbers),
  path_spelled path fit.1,
)

-- a part of a type that a segment has is one
part_is_segment : (set : Bool) (numbers : List ℕ) → 0 < length numbers
    → is_segment (record { kind = if set then 1 else 2; numbers = numbers }) ≡ true
part_is_segment true numbers some = not_from_false _ (ne_eqb (length numbers) 0 (λ none. omega arith))
part_is_segment false numbers some = not_from_false _ (ne_eqb (length numbers) 0 (λ none. omega arith))

-- and it is the same one
same_set : (set : Bool) → eqb (if set then 1 else 2) 1 ≡ set
same_set true = refl
same_set false = refl

-- the parts of segments are these segments
segments_again : (path : List Segment) → AllByRecursion IsSegment path → segments_of (map part_of path) ≡ Ok path
segments_again [] fit = refl
segments_again (segment ∷ path) fit =
    rw (part_is_segment segment.set segment.numbers fit.0.filled, segments_again path fit.1, same_set segment.set) refl

-- a path that is spelled is read
pub path_only : (path : List Segment) → AllByRecursion IsSegment path → path_in (path_text path) ≡ Ok path
unfolding path_in
path_only path fit =
    let parts : each part_at tt (path_text path) ≡ Ok (map part_of path) =
    each_only SpellsPart part_at part_read parts_shrink tt (path_text path) (map part_of path)
    (path_spelled path fit) in
    rw (parts, segments_again path fit) refl

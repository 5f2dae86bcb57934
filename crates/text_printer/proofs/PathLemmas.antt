-- The tokens of a path are read as its segments, of which neighbouring sequences are one.
use Rattle.std.proofs.Common.{ℕ, ◌≡◌, ◌<◌, ◌≤◌, Bool, true, false, List, [], ◌∷◌, ◌++◌, length, map, decimal, sym}
use Rattle.std.proofs.Common.{◌∙◌, refl, inl, inr, arith, append-nil, if◌then◌else◌}
use Rattle.std.proofs.lemmas.List.Sums.{sum_by-cons}
use Rattle.std.specs.List.{flat_map, AllByRecursion}
use Rattle.route_values.specs.declared.path.Segment.{Segment}
use Rattle.route_values.specs.Limits.{numbers_in}
use Rattle.route_values.specs.Path.{AllFilled}
use Rattle.text_forms.specs.Numbers.{IsAsn}
use Rattle.token_reader.specs.Tokens.{Word}
use Rattle.route_grammar.specs.declared.path.Part.TheVariants.{Number}
use Rattle.route_grammar.specs.Limits.{in_force}
use Rattle.route_grammar.specs.Lists.{OnePart, OnePath, count_of}
use Rattle.route_grammar.specs.Productions.{Repeated}
use Rattle.route_grammar.proofs.PathLemmas.{count_append}
use Rattle.route_grammar.proofs.RepeatedLemmas.{repeated_append}
use Rattle.update_grammar.specs.Values.{IsNumber, IsSegment}
use Rattle.text_printer.specs.Items.{opening_bracket, closing_bracket, word_each, set_tokens, segment_tokens}
use Rattle.text_printer.specs.Plain.{merged}
use Rattle.text_printer.specs.Printable.{IsAs, HasNoZero}
use Rattle.text_printer.proofs.MergedLemmas.{parts_of, segment_parts, path_parts, path_joined}
use Rattle.text_printer.proofs.SaidLemmas.{asn_said, words_said}

-- an AS number that a command can write
pub record IsWrittenAs (number : ℕ) : Type 0 where
  pub some : 0 < number
  pub small : IsNumber number

written_said : (number : ℕ) → IsWrittenAs number → IsAsn (decimal number) number
written_said number is = asn_said number is.some is.small

both_as : (numbers : List ℕ) → AllByRecursion IsAs numbers → AllByRecursion IsNumber numbers
    → AllByRecursion IsWrittenAs numbers
both_as [] some small = tt
both_as (number ∷ numbers) some small =
    (record { some = some.0; small = small.0 }, both_as numbers some.1 small.1)

-- numbers outside parentheses, each a part
run_read : (numbers : List ℕ) → AllByRecursion IsWrittenAs numbers
    → Repeated OnePart in_force (word_each decimal numbers) (map Number numbers)
run_read [] are = refl
run_read (number ∷ numbers) are = (
  Word (decimal number) ∷ [],
  word_each decimal numbers,
  refl,
  inl (number, refl, (decimal number, refl, written_said number are.0)),
  run_read numbers are.1,
)

-- a segment's tokens are its parts
segment_read : (set : Bool) (numbers : List ℕ) → 0 < length numbers → length numbers ≤ 255
    → AllByRecursion IsWrittenAs numbers
    → Repeated OnePart in_force (if set then set_tokens numbers else word_each decimal numbers) (parts_of set numbers)
segment_read true numbers filled few are = (
  set_tokens numbers,
  [],
  sym (append-nil (set_tokens numbers)),
  inr (
    numbers,
    refl,
    (
      word_each decimal numbers,
      refl,
      words_said IsAsn IsWrittenAs decimal in_force numbers written_said are,
      (filled, omega arith),
    ),
  ),
  refl,
)
segment_read false numbers filled few are = run_read numbers are

run_count : (numbers : List ℕ) → count_of (map Number numbers) ≡ length numbers
run_count [] = refl
run_count (number ∷ numbers) = let rest = run_count numbers in omega arith

segment_count : (set : Bool) (numbers : List ℕ) → count_of (parts_of set numbers) ≡ length numbers
segment_count true numbers = omega arith
segment_count false numbers = run_count numbers

path_count : (path : List Segment) → count_of (path_parts path) ≡ numbers_in path
path_count [] = refl
path_count (segment ∷ path) =
    let first = segment_count segment.set segment.numbers in
    let rest = path_count path in
    count_append (segment_parts segment) (path_parts path)
    ∙ omega (arith, first, rest, sum_by-cons (λ (one : Segment). length one.numbers) segment path)

segments_read : (path : List Segment) → AllByRecursion HasNoZero path → AllByRecursion IsSegment path
    → numbers_in path ≤ 255 → Repeated OnePart in_force (flat_map segment_tokens path) (path_parts path)
segments_read [] some are few = refl
segments_read (segment ∷ path) some are few =
    let first = are.0 in
    let filled = first.filled in
    let sum = sum_by-cons (λ (one : Segment). length one.numbers) segment path in
    repeated_append OnePart in_force (segment_tokens segment) (flat_map segment_tokens path) (segment_parts segment)
    (path_parts path)
    (segment_read segment.set segment.numbers filled (omega (arith, few, sum))
    (both_as segment.numbers some.0 first.numbers)) (segments_read path some.1 are.1 (omega (arith, few, sum)))

pub all_filled : (path : List Segment) → AllByRecursion IsSegment path → AllFilled path
all_filled [] are = tt
all_filled (segment ∷ path) are = let first = are.0 in (first.filled, all_filled path are.1)

-- a path between brackets
pub path_read : (path : List Segment) → AllByRecursion HasNoZero path → AllByRecursion IsSegment path
    → numbers_in path ≤ 255
    → OnePath in_force (opening_bracket ∷ (flat_map segment_tokens path ++ closing_bracket ∷ [])) (merged path)
path_read path some are few =
    inr (
      path_parts path,
      sym (path_joined path (all_filled path are)),
      (
        flat_map segment_tokens path,
        refl,
        segments_read path some are few,
        (let count = path_count path in omega arith),
      ),
    )

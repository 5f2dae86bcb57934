-- Values of path attributes: what is read is spelled so, and what is spelled so is read.
use Rattle.std.proofs.Common.{ℕ, zero, suc, ◌≡◌, ◌*◌, ◌/◌, ◌%◌, ◌^◌, ◌<◌, ◌≤◌, Bool, true, false, eqb, List, [], ◌∷◌}
use Rattle.std.proofs.Common.{◌++◌, length, map, take, drop, get_or, Result, Ok, Err, refl, sym, ap, subst, ◌∙◌, arith}
use Rattle.std.proofs.Common.{if◌then◌else◌}
use Rattle.std.specs.List.{flat_map, AllByRecursion}
use Rattle.std.specs.Int.{w32}
use Rattle.std.specs.Simd.{first_chunks}
use Rattle.std.proofs.lemmas.Bool.{eqb-true, eq-eqb, ne_eqb}
use Rattle.std.proofs.lemmas.List.{length-append, length-take, length-drop, take-append-drop, take_at, drop_at}
use Rattle.std.proofs.lemmas.List.{nil_from_length, drop-drop}
use Rattle.std.proofs.lemmas.Nat.{div-add-mod'}
use Rattle.std.proofs.Math.Nat.{mul-div_cancel, mul-mod_left}
use Rattle.route_values.specs.declared.attrs.Aggregator.{Aggregator}
use Rattle.route_values.specs.declared.attrs.Large.{Large}
use Rattle.route_values.specs.declared.attrs.Origin.{Origin}
use Rattle.route_values.specs.declared.attrs.Origin.TheVariants.{Igp, Egp, Incomplete}
use Rattle.update_grammar.specs.Values.{IsNumber, number_text, numbers_text, origin_number, aggregator_text}
use Rattle.update_grammar.specs.Values.{IsAggregator, exts_text, IsExt, large_text, larges_text, IsLarge}
use Rattle.update_grammar.specs.ReadValues.{Wrong, BadLength, BadValue, number_from, sized, items_from, listed}
use Rattle.update_grammar.specs.ReadValues.{origin_of, origin_in, number_in, aggregator_from, aggregator_in, numbers_in}
use Rattle.update_grammar.specs.ReadValues.{exts_in}
use Rattle.update_grammar.specs.ReadValues.{large_from, larges_in}
use Rattle.update_grammar.proofs.StepsLemmas.{bind_ok}
use Rattle.update_grammar.specs.Laws.{AreBytes}
use Rattle.update_grammar.proofs.ByteLemmas.{bytes_take, bytes_drop, wide32, number_read, number_written}

-- an item of so many bytes: how it is read from them and how it is written
pub record IsCode {A : Type 0} (width : ℕ) (say : List ℕ → A) (text : A → List ℕ) (Fit : A → Type 0) : Type 0 where
  pub filled : 0 < width
  pub len : (x : A) → Fit x → length (text x) ≡ width
  pub again : (x : A) → Fit x → say (text x) ≡ x
  pub back : (bytes : List ℕ) → length bytes ≡ width → AreBytes bytes → text (say bytes) ≡ bytes
  pub fits : (bytes : List ℕ) → length bytes ≡ width → AreBytes bytes → Fit (say bytes)

-- the value that is read where a test holds
pub when_ok : {A : Type 0} (b : Bool) (x y : A) (wrong : Wrong) → (if b then Ok x else Err wrong) ≡ Ok y
    → (b ≡ true) × (x ≡ y)
when_ok true x y wrong read = (refl, cc)
when_ok false x y wrong read = absurd cc

-- the reading that is left where a test holds
pub when_is : {A : Type 0} (b : Bool) (r : Result A Wrong) (y : A) (wrong : Wrong) → (if b then r else Err wrong) ≡ Ok y
    → (b ≡ true) × (r ≡ Ok y)
when_is true r y wrong read = (refl, read)
when_is false r y wrong read = absurd cc

-- ---- one item, and items one after another

module _ {A : Type 0} (width : ℕ) (say : List ℕ → A) (text : A → List ℕ) (Fit : A → Type 0)
    (code : IsCode width say text Fit) where
  -- an item that is read is spelled
  pub sized_found : (value : List ℕ) (x : A) → AreBytes value → sized width say value ≡ Ok x → (value ≡ text x) × Fit x
  sized_found value x are read =
      let parts = when_ok (eqb (length value) width) (say value) x BadLength read in
      let len : length value ≡ width = eqb-true _ _ parts.0 in
      subst (λ y. (value ≡ text y) × Fit y) parts.1 (sym (code.back value len are), code.fits value len are)

  -- an item that is spelled is read
  pub sized_only : (x : A) → Fit x → sized width say (text x) ≡ Ok x
  sized_only x fit =
      rw (eq-eqb (length (text x)) width (code.len x fit), code.again x fit) refl

  -- the items that are read from bytes are spelled by them
  items_found : (count : ℕ) (bytes : List ℕ) → AreBytes bytes → length bytes ≡ count * width
      → (bytes ≡ flat_map text (map say (first_chunks width count bytes)))
      × AllByRecursion Fit (map say (first_chunks width count bytes))
  items_found zero bytes are len = (nil_from_length bytes (omega arith), tt)
  items_found (suc count) bytes are len =
      let front : length (take width bytes) ≡ width = omega (arith, length-take width bytes) in
      let fronts : AreBytes (take width bytes) = bytes_take width bytes are in
      let others = items_found count (drop width bytes) (bytes_drop width bytes are)
      (omega (arith, length-drop width bytes)) in
      let first : take width bytes ≡ text (say (take width bytes)) = sym (code.back (take width bytes) front fronts) in
      let whole : bytes ≡ text (say (take width bytes)) ++ flat_map text
      (map say (first_chunks width count (drop width bytes))) =
      sym (take-append-drop width bytes) ∙ ap (λ (front : List ℕ). front ++ drop width bytes) first
      ∙ ap (λ (rest : List ℕ). text (say (take width bytes)) ++ rest) others.0 in
      (whole, (code.fits (take width bytes) front fronts, others.1))

  -- items have so many bytes each
  pub items_length : (xs : List A) → AllByRecursion Fit xs → length (flat_map text xs) ≡ length xs * width
  items_length [] fit = omega arith
  items_length (x ∷ xs) fit =
      let first : length (text x) ≡ width = code.len x fit.0 in
      let others : length (flat_map text xs) ≡ length xs * width = items_length xs fit.1 in
      omega (arith, length-append (text x) (flat_map text xs))

  -- items that are written are read again
  items_again : (xs : List A) → AllByRecursion Fit xs → map say (first_chunks width (length xs) (flat_map text xs)) ≡ xs
  items_again [] fit = refl
  items_again (x ∷ xs) fit =
      let first : take width (text x ++ flat_map text xs) ≡ text x =
      take_at (text x) (flat_map text xs) width (code.len x fit.0) in
      let others : drop width (text x ++ flat_map text xs) ≡ flat_map text xs =
      drop_at (text x) (flat_map text xs) width (code.len x fit.0) in
      rw (first, others, code.again x fit.0, items_again xs fit.1) refl

  -- bytes that are a number of whole items are spelled by them
  pub whole_items_found : (bytes : List ℕ) → AreBytes bytes → length bytes % width ≡ 0
      → (bytes ≡ flat_map text (items_from width say bytes)) × AllByRecursion Fit (items_from width say bytes)
  whole_items_found bytes are whole =
      items_found (length bytes / width) bytes are (omega (arith, div-add-mod' (length bytes) width))

  -- the items of their own text
  pub whole_items_only : (xs : List A) → AllByRecursion Fit xs → items_from width say (flat_map text xs) ≡ xs
  whole_items_only xs fit =
      let count : length (flat_map text xs) / width ≡ length xs = ap (λ len. len / width) (items_length xs fit)
      ∙ mul-div_cancel (length xs) code.filled in
      ap (λ many. map say (first_chunks width many (flat_map text xs))) count ∙ items_again xs fit

  -- a list that is read is spelled
  pub listed_found : (value : List ℕ) (xs : List A) → AreBytes value → listed width say value ≡ Ok xs
      → (value ≡ flat_map text xs) × AllByRecursion Fit xs
  listed_found value xs are read =
      let parts = when_ok (eqb (length value % width) 0) (items_from width say value) xs BadLength read in
      subst (λ ys. (value ≡ flat_map text ys) × AllByRecursion Fit ys) parts.1
      (whole_items_found value are (eqb-true _ _ parts.0))

  -- a list that is spelled is read
  pub listed_only : (xs : List A) → AllByRecursion Fit xs → listed width say (flat_map text xs) ≡ Ok xs
  listed_only xs fit =
      let whole : length (flat_map text xs) % width ≡ 0 = ap (λ len. len % width) (items_length xs fit)
      ∙ mul-mod_left (length xs) width in
      rw (eq-eqb (length (flat_map text xs) % width) 0 whole, whole_items_only xs fit) refl

-- ---- the items of attributes

-- numbers of four bytes
pub number_code : IsCode 4 number_from number_text IsNumber
number_code = record {
  filled = omega arith;
  len = λ n fit. refl;
  again = λ n fit. wide32.again n fit;
  back = λ bytes len are. wide32.back bytes len are;
  fits = λ bytes len are. wide32.below bytes are;
}

-- extended communities are their bytes
pub ext_code : IsCode 8 (λ bytes. bytes) (λ ext. ext) IsExt
ext_code = record {
  filled = omega arith;
  len = λ ext fit. fit;
  again = λ ext fit. refl;
  back = λ bytes len are. refl;
  fits = λ bytes len are. len;
}

-- four bytes are the text of their number
last_number : (bytes : List ℕ) → AreBytes bytes → length bytes ≡ 4 → number_text (number_from bytes) ≡ bytes
last_number bytes are len = wide32.back bytes len are

-- bytes begin with the text of their number
first_number : (bytes : List ℕ) → AreBytes bytes → 4 ≤ length bytes
    → number_text (number_from bytes) ++ drop 4 bytes ≡ bytes
first_number bytes are long = number_written w32 (2 ^ 32) wide32 bytes are long

-- an AS number and an address that are written are read again
aggregator_again : (by : Aggregator) → IsAggregator by → aggregator_from (aggregator_text by) ≡ by
aggregator_again by fit =
    let asn : number_from (aggregator_text by) ≡ by.asn = number_read w32 (2 ^ 32) wide32 by.asn (number_text by.addr)
    fit.asn in
    let addr : number_from (drop 4 (aggregator_text by)) ≡ by.addr = wide32.again by.addr fit.addr in
    λ i. record { asn = asn i; addr = addr i }

-- an AS number and an address of four bytes each
pub aggregator_code : IsCode 8 aggregator_from aggregator_text IsAggregator
aggregator_code = record {
  filled = omega arith;
  len = λ by fit. refl;
  again = aggregator_again;
  back = λ bytes len are. ap (λ (rest : List ℕ). number_text (number_from bytes) ++ rest)
      (last_number (drop 4 bytes) (bytes_drop 4 bytes are) (omega (arith, length-drop 4 bytes)))
      ∙ first_number bytes are (omega arith);
  fits = λ bytes len are. record {
    asn = wide32.below bytes are;
    addr = wide32.below (drop 4 bytes) (bytes_drop 4 bytes are);
  };
}

-- three numbers that are written are read again
large_again : (large : Large) → IsLarge large → large_from (large_text large) ≡ large
large_again large fit =
    let global : number_from (large_text large) ≡ large.global =
    number_read w32 (2 ^ 32) wide32 large.global (number_text large.first ++ number_text large.second) fit.global in
    let first : number_from (drop 4 (large_text large)) ≡ large.first =
    number_read w32 (2 ^ 32) wide32 large.first (number_text large.second) fit.first in
    let second : number_from (drop 8 (large_text large)) ≡ large.second = wide32.again large.second fit.second in
    λ i. record { global = global i; first = first i; second = second i }

-- twelve bytes are the text of the three numbers that they hold
large_back : (bytes : List ℕ) → length bytes ≡ 12 → AreBytes bytes → large_text (large_from bytes) ≡ bytes
large_back bytes len are =
    let fours : drop 4 (drop 4 bytes) ≡ drop 8 bytes = drop-drop 4 4 bytes in
    let last : number_text (number_from (drop 8 bytes)) ≡ drop 8 bytes =
    last_number (drop 8 bytes) (bytes_drop 8 bytes are) (omega (arith, length-drop 8 bytes)) in
    let middle : number_text (number_from (drop 4 bytes)) ++ drop 4 (drop 4 bytes) ≡ drop 4 bytes =
    first_number (drop 4 bytes) (bytes_drop 4 bytes are) (omega (arith, length-drop 4 bytes)) in
    let behind : number_text (number_from (drop 4 bytes)) ++ number_text (number_from (drop 8 bytes)) ≡ drop 4 bytes =
    ap (λ (rest : List ℕ). number_text (number_from (drop 4 bytes)) ++ rest) (last ∙ sym fours) ∙ middle in
    ap (λ (rest : List ℕ). number_text (number_from bytes) ++ rest) behind ∙ first_number bytes are (omega arith)

-- large communities of three numbers of four bytes each
pub large_code : IsCode 12 large_from large_text IsLarge
large_code = record {
  filled = omega arith;
  len = λ large fit. refl;
  again = large_again;
  back = large_back;
  fits = λ bytes len are. record {
    global = wide32.below bytes are;
    first = wide32.below (drop 4 bytes) (bytes_drop 4 bytes are);
    second = wide32.below (drop 8 bytes) (bytes_drop 8 bytes are);
  };
}

-- ---- whole values

-- a number that is read is spelled
pub number_found : (value : List ℕ) (n : ℕ) → AreBytes value → number_in value ≡ Ok n
    → (value ≡ number_text n) × IsNumber n
unfolding number_in
number_found value n are read = sized_found 4 number_from number_text IsNumber number_code value n are read

-- a number that is spelled is read
pub number_only : (n : ℕ) → IsNumber n → number_in (number_text n) ≡ Ok n
unfolding number_in
number_only n fit = sized_only 4 number_from number_text IsNumber number_code n fit

-- an aggregator that is read is spelled
pub aggregator_found : (value : List ℕ) (by : Aggregator) → AreBytes value → aggregator_in value ≡ Ok by
    → (value ≡ aggregator_text by) × IsAggregator by
unfolding aggregator_in
aggregator_found value by are read =
    sized_found 8 aggregator_from aggregator_text IsAggregator aggregator_code value by are read

-- an aggregator that is spelled is read
pub aggregator_only : (by : Aggregator) → IsAggregator by → aggregator_in (aggregator_text by) ≡ Ok by
unfolding aggregator_in
aggregator_only by fit = sized_only 8 aggregator_from aggregator_text IsAggregator aggregator_code by fit

-- numbers that are read are spelled
pub numbers_found : (value : List ℕ) (ns : List ℕ) → AreBytes value → numbers_in value ≡ Ok ns
    → (value ≡ numbers_text ns) × AllByRecursion IsNumber ns
unfolding numbers_in
numbers_found value ns are read = listed_found 4 number_from number_text IsNumber number_code value ns are read

-- numbers that are spelled are read
pub numbers_only : (ns : List ℕ) → AllByRecursion IsNumber ns → numbers_in (numbers_text ns) ≡ Ok ns
unfolding numbers_in
numbers_only ns fit = listed_only 4 number_from number_text IsNumber number_code ns fit

-- extended communities that are read are spelled
pub exts_found : (value : List ℕ) (exts : List (List ℕ)) → AreBytes value → exts_in value ≡ Ok exts
    → (value ≡ exts_text exts) × AllByRecursion IsExt exts
unfolding exts_in
exts_found value exts are read = listed_found 8 (λ bytes. bytes) (λ ext. ext) IsExt ext_code value exts are read

-- extended communities that are spelled are read
pub exts_only : (exts : List (List ℕ)) → AllByRecursion IsExt exts → exts_in (exts_text exts) ≡ Ok exts
unfolding exts_in
exts_only exts fit = listed_only 8 (λ bytes. bytes) (λ ext. ext) IsExt ext_code exts fit

-- large communities that are read are spelled
pub larges_found : (value : List ℕ) (larges : List Large) → AreBytes value → larges_in value ≡ Ok larges
    → (value ≡ larges_text larges) × AllByRecursion IsLarge larges
unfolding larges_in
larges_found value larges are read = listed_found 12 large_from large_text IsLarge large_code value larges are read

-- large communities that are spelled are read
pub larges_only : (larges : List Large) → AllByRecursion IsLarge larges → larges_in (larges_text larges) ≡ Ok larges
unfolding larges_in
larges_only larges fit = listed_only 12 large_from large_text IsLarge large_code larges fit

-- another number is of no origin
origin_of_other : (n : ℕ) → eqb n 0 ≡ false → eqb n 1 ≡ false → eqb n 2 ≡ false → origin_of n ≡ Err BadValue
origin_of_other n first second third = rw (first, second, third) refl

-- the number of an origin that is read
origin_of_found : (n : ℕ) (origin : Origin) → origin_of n ≡ Ok origin → n ≡ origin_number origin
origin_of_found zero Igp read = refl
origin_of_found zero Egp read = absurd cc
origin_of_found zero Incomplete read = absurd cc
origin_of_found (suc zero) Igp read = absurd cc
origin_of_found (suc zero) Egp read = refl
origin_of_found (suc zero) Incomplete read = absurd cc
origin_of_found (suc (suc zero)) Igp read = absurd cc
origin_of_found (suc (suc zero)) Egp read = absurd cc
origin_of_found (suc (suc zero)) Incomplete read = refl
origin_of_found (suc (suc (suc n))) origin read =
    let m : ℕ = suc (suc (suc n)) in
    let wrong : origin_of m ≡ Err BadValue = origin_of_other m (ne_eqb m 0 (λ same. omega arith))
    (ne_eqb m 1 (λ same. omega arith)) (ne_eqb m 2 (λ same. omega arith)) in
    absurd cc

-- one byte is what stands at its front
one_byte : (value : List ℕ) → length value ≡ 1 → value ≡ get_or value 0 0 ∷ []
one_byte [] len = absurd (omega arith)
one_byte (byte ∷ []) len = refl
one_byte (byte ∷ other ∷ value) len = absurd (omega arith)

-- an origin that is read is spelled
pub origin_found : (value : List ℕ) (origin : Origin) → origin_in value ≡ Ok origin → value ≡ origin_number origin ∷ []
unfolding origin_in
origin_found value origin read =
    let steps = bind_ok (sized 1 (λ bytes. get_or bytes 0 0) value) origin_of origin read in
    let parts = when_ok (eqb (length value) 1) (get_or value 0 0) steps.0 BadLength steps.1 in
    one_byte value (eqb-true _ _ parts.0) ∙ ap (λ n. n ∷ []) (parts.1 ∙ origin_of_found steps.0 origin steps.2)

-- an origin that is spelled is read
pub origin_only : (origin : Origin) → origin_in (origin_number origin ∷ []) ≡ Ok origin
unfolding origin_in
origin_only Igp = refl
origin_only Egp = refl
origin_only Incomplete = refl

-- a value of no bytes is empty
pub empty_found : (value said : List ℕ) → sized 0 (λ bytes. bytes) value ≡ Ok said → value ≡ []
empty_found value said read =
    let parts = when_ok (eqb (length value) 0) value said BadLength read in
    nil_from_length value (eqb-true _ _ parts.0)

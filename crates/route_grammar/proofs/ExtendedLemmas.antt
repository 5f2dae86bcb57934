-- Extended communities: that a word spells one, and that none is spelled where the parts spell none.
use Rattle.std.proofs.Common.{ℕ, ◌≡◌, ◌≢◌, ◌<◌, ◌≤◌, ◌^◌, List, ◌∷◌, ◌++◌, All, decimal, codes}
use Rattle.std.proofs.Common.{arith, ap, sym, ◌∙◌, refl, subst, inl, inr, length, Bool, eqb, get_or}
use Rattle.std.proofs.lemmas.Bool.{false≢true}
use Rattle.std.proofs.Common.{take}
use Rattle.std.proofs.lemmas.Int.Digits.{digits_value-lt}
use Rattle.std.proofs.lemmas.List.{append_cancel_left, length-take-le}
use Rattle.std.proofs.Math.Nat.{pow-le-pow_right}
use Rattle.std.specs.Int.{w16, w32, w64, to_be_bytes}
use Rattle.std.specs.Str.Parse.{AllDigits, digits_value}
use Rattle.text_forms.specs.Addresses.{IsIpv4}
use Rattle.text_forms.proofs.AddressLemmas.{ipv4_one}
use Rattle.text_forms.proofs.CutLemmas.{Lacks, first_same, lacks_from_all, lacks_none, lacks_append}
use Rattle.text_forms.proofs.DecimalLemmas.{number_one}
use Rattle.text_forms.proofs.Ipv6Lemmas.{digits_lack}
use Rattle.route_grammar.specs.Communities.{IsHexadecimal, IsSort, IsParts, IsSorted, IsExtended}
use Rattle.route_grammar.proofs.TextLemmas.{lacks_tested, colonless, ipv4_colonless, number_or_addr}

-- IN DIGITS

hexadecimal_colonless : (word bytes : List ℕ) → IsHexadecimal word bytes → Lacks 58 word
hexadecimal_colonless word bytes is =
    subst (Lacks 58) (sym is.word_is)
    (lacks_append 58 (codes "0x") is.digits (lacks_tested 58 (codes "0x") refl)
    (digits_lack 58 is.digits (omega arith) is.are_digits))

hexadecimal_one : (word other bytes : List ℕ) → IsHexadecimal word other → IsHexadecimal word bytes → other ≡ bytes
hexadecimal_one word other bytes is also =
    let digits : is.digits ≡ also.digits =
    append_cancel_left (codes "0x") is.digits also.digits (sym is.word_is ∙ also.word_is) in
    is.value ∙ ap (λ (text : List ℕ). to_be_bytes w64 (digits_value 16 text)) digits ∙ sym also.value

-- fifteen digits, and a further one, make less than 2^64
pub digits_below : (digits : List ℕ) (i : ℕ) → length digits ≡ 16 → i < 16 → AllDigits 16 (take i digits)
    → digits_value 16 (take i digits) < 16 ^ 15
digits_below digits i sixteen within all =
    let len = length-take-le i digits (omega (arith, sixteen, within)) in
    let below = digits_value-lt 16 (take i digits) all in
    let power : 16 ^ length (take i digits) ≤ 16 ^ 15 =
    pow-le-pow_right {n = 16} (omega arith) {i = length (take i digits)} {j = 15} (omega (arith, len, within)) in
    omega (arith, below, power)

-- BY NAME AND PARTS

sort_name : (name : List ℕ) (sort : ℕ) → IsSort name sort → Lacks 58 name
sort_name name sort (inl is) = subst (Lacks 58) (sym is.0) (lacks_tested 58 (codes "target") refl)
sort_name name sort (inr is) = subst (Lacks 58) (sym is.0) (lacks_tested 58 (codes "origin") refl)

names_differ : (name : List ℕ) → name ≡ codes "target" → name ≡ codes "origin" → ⊥
names_differ name is also =
    let is_origin : List ℕ → Bool = λ text. eqb (get_or text 0 0) 111 in
    false≢true (sym (ap is_origin is) ∙ ap is_origin also)

sort_one : (name : List ℕ) (other sort : ℕ) → IsSort name other → IsSort name sort → other ≡ sort
sort_one name other sort (inl is) (inl also) = is.1 ∙ sym also.1
sort_one name other sort (inl is) (inr also) = absurd (names_differ name is.0 also.0)
sort_one name other sort (inr is) (inl also) = absurd (names_differ name also.0 is.0)
sort_one name other sort (inr is) (inr also) = is.1 ∙ sym also.1

parts_colonless : (text : List ℕ) (sort low : ℕ) (bytes : List ℕ) → IsParts text sort low bytes → Lacks 58 text
parts_colonless text sort low bytes (inl (number, is, small, value)) = ipv4_colonless text number is
parts_colonless text sort low bytes (inr (inl (number, small, is, low_small, value))) =
    subst (Lacks 58) (sym is) (colonless number (omega (arith, small)))
parts_colonless text sort low bytes (inr (inr (number, large, small, is, low_small, value))) =
    subst (Lacks 58) (sym is) (colonless number small)

pub parts_low : (text : List ℕ) (sort low : ℕ) (bytes : List ℕ) → IsParts text sort low bytes → low < 2 ^ 32
parts_low text sort low bytes (inl (number, is, small, value)) = omega (arith, small)
parts_low text sort low bytes (inr (inl (number, small, is, low_small, value))) = low_small
parts_low text sort low bytes (inr (inr (number, large, small, is, low_small, value))) = omega (arith, low_small)

parts_one : (text : List ℕ) (sort low : ℕ) (other bytes : List ℕ) → IsParts text sort low other
    → IsParts text sort low bytes → other ≡ bytes
parts_one text sort low other bytes (inl (n, is, _, value)) (inl (m, also, _, also_value)) =
    value ∙ ap (λ (k : ℕ). 1 ∷ sort ∷ (to_be_bytes w32 k ++ to_be_bytes w16 low)) (ipv4_one text n m is also)
    ∙ sym also_value
parts_one text sort low other bytes (inl (n, is, _, value)) (inr (inl (m, small, also, _, also_value))) =
    absurd (number_or_addr text m n (omega (arith, small)) also is)
parts_one text sort low other bytes (inl (n, is, _, value)) (inr (inr (m, large, small, also, _, also_value))) =
    absurd (number_or_addr text m n small also is)
parts_one text sort low other bytes (inr (inl (n, small, is, _, value))) (inl (m, also, _, also_value)) =
    absurd (number_or_addr text n m (omega (arith, small)) is also)
parts_one text sort low other bytes (inr (inl (n, small, is, _, value))) (inr (inl (m, small', also, _, also_value))) =
    let same = number_one text n m (omega (arith, small)) (omega (arith, small')) is also in
    value ∙ ap (λ (k : ℕ). 0 ∷ sort ∷ (to_be_bytes w16 k ++ to_be_bytes w32 low)) same ∙ sym also_value
parts_one text sort low other bytes (inr (inl (n, small, is, _, value)))
    (inr (inr (m, large, small', also, _, also_value))) =
    absurd (omega (arith, number_one text n m (omega (arith, small)) small' is also, small, large))
parts_one text sort low other bytes (inr (inr (n, large, small, is, _, value))) (inl (m, also, _, also_value)) =
    absurd (number_or_addr text n m small is also)
parts_one text sort low other bytes (inr (inr (n, large, small, is, _, value)))
    (inr (inl (m, small', also, _, also_value))) =
    absurd (omega (arith, number_one text n m small (omega (arith, small')) is also, small', large))
parts_one text sort low other bytes (inr (inr (n, large, small, is, _, value)))
    (inr (inr (m, large', small', also, _, also_value))) =
    let same = number_one text n m small small' is also in
    value ∙ ap (λ (k : ℕ). 2 ∷ sort ∷ (to_be_bytes w32 k ++ to_be_bytes w16 low)) same ∙ sym also_value

-- what stands behind the name is cut in one way
pub parts_cut : (parts text rest also : List ℕ) (sort low : ℕ) (bytes : List ℕ) → Lacks 58 text
    → parts ≡ text ++ 58 ∷ rest → IsParts also sort low bytes → parts ≡ also ++ 58 ∷ decimal low
    → (text ≡ also) × (rest ≡ decimal low)
parts_cut parts text rest also sort low bytes lacks cut are is =
    first_same 58 text rest also (decimal low) lacks (parts_colonless also sort low bytes are) (sym cut ∙ is)

pub parts_uncut : (parts also : List ℕ) (low : ℕ) → All (λ b. b ≢ 58) parts → parts ≡ also ++ 58 ∷ decimal low → ⊥
parts_uncut parts also low lacks is =
    lacks_none 58 also (decimal low) (subst (Lacks 58) is (lacks_from_all 58 parts lacks))

same_parts : (text also : List ℕ) (sort other low more : ℕ) (bytes : List ℕ) → text ≡ also → sort ≡ other → low ≡ more
    → IsParts text sort low bytes → IsParts also other more bytes
same_parts text also sort other low more bytes texts sorts lows are =
    subst (λ (n : ℕ). IsParts also other n bytes) lows
    (subst (λ (n : ℕ). IsParts also n low bytes) sorts
    (subst (λ (word : List ℕ). IsParts word sort low bytes) texts are))

sorted_one : (word other bytes : List ℕ) → IsSorted word other → IsSorted word bytes → other ≡ bytes
sorted_one word other bytes is also =
    let outer = first_same 58 is.name (is.text ++ 58 ∷ decimal is.low) also.name (also.text ++ 58 ∷ decimal also.low)
    (sort_name is.name is.sort is.sort_is) (sort_name also.name also.sort also.sort_is)
    (sym is.word_is ∙ also.word_is) in
    let inner = first_same 58 is.text (decimal is.low) also.text (decimal also.low)
    (parts_colonless is.text is.sort is.low other is.parts) (parts_colonless also.text also.sort also.low bytes
    also.parts)
    outer.1 in
    let sorts = sort_one also.name is.sort also.sort
    (subst (λ (name : List ℕ). IsSort name is.sort) outer.0 is.sort_is) also.sort_is in
    let lows = number_one _ is.low also.low (parts_low is.text is.sort is.low other is.parts)
    (parts_low also.text also.sort also.low bytes also.parts) refl inner.1 in
    parts_one also.text also.sort also.low other bytes
    (same_parts is.text also.text is.sort also.sort is.low also.low other inner.0 sorts lows is.parts) also.parts

sorted_or_hexadecimal : (word other bytes : List ℕ) → IsSorted word other → IsHexadecimal word bytes → ⊥
sorted_or_hexadecimal word other bytes is also =
    lacks_none 58 is.name (is.text ++ 58 ∷ decimal is.low)
    (subst (Lacks 58) is.word_is (hexadecimal_colonless word bytes also))

pub extended_one : (word other bytes : List ℕ) → IsExtended word other → IsExtended word bytes → other ≡ bytes
extended_one word other bytes (inl is) (inl also) = hexadecimal_one word other bytes is also
extended_one word other bytes (inl is) (inr also) = absurd (sorted_or_hexadecimal word bytes other also is)
extended_one word other bytes (inr is) (inl also) = absurd (sorted_or_hexadecimal word other bytes is also)
extended_one word other bytes (inr is) (inr also) = sorted_one word other bytes is also

-- WHERE NONE IS SPELLED

pub no_sorted : (word name parts bytes : List ℕ) → All (λ b. b ≢ 58) name → word ≡ name ++ 58 ∷ parts
    → ((sort : ℕ) (text : List ℕ) (low : ℕ) (bytes : List ℕ) → IsSort name sort → IsParts text sort low bytes
    → parts ≡ text ++ 58 ∷ decimal low → ⊥) → IsExtended word bytes → ⊥
no_sorted word name parts bytes lacks cut none (inl is) =
    lacks_none 58 name parts (subst (Lacks 58) cut (hexadecimal_colonless word bytes is))
no_sorted word name parts bytes lacks cut none (inr is) =
    let at = first_same 58 name parts is.name (is.text ++ 58 ∷ decimal is.low) (lacks_from_all 58 name lacks)
    (sort_name is.name is.sort is.sort_is) (sym cut ∙ is.word_is) in
    none is.sort is.text is.low bytes (subst (λ (one : List ℕ). IsSort one is.sort) (sym at.0) is.sort_is) is.parts
    at.1

pub no_hexadecimal : (word bytes : List ℕ) → All (λ b. b ≢ 58) word
    → ((other : List ℕ) → IsHexadecimal word other → ⊥) → IsExtended word bytes → ⊥
no_hexadecimal word bytes lacks none (inl is) = none bytes is
no_hexadecimal word bytes lacks none (inr is) =
    lacks_none 58 is.name (is.text ++ 58 ∷ decimal is.low)
    (subst (Lacks 58) is.word_is (lacks_from_all 58 word lacks))

-- parts that make a community, read in a word
pub sorted_read : (name parts text rest bytes : List ℕ) (sort low : ℕ) → IsSort name sort → IsParts text sort low bytes
    → parts ≡ text ++ 58 ∷ rest → rest ≡ decimal low → IsSorted (name ++ 58 ∷ parts) bytes
sorted_read name parts text rest bytes sort low sort_is are cut rest_is = record {
  name = name;
  sort = sort;
  text = text;
  low = low;
  sort_is = sort_is;
  parts = are;
  word_is = ap (λ (tail : List ℕ). name ++ 58 ∷ tail) (cut ∙ ap (λ (tail : List ℕ). text ++ 58 ∷ tail) rest_is);
}

-- and none, where those that are read make none
pub no_parts : (name parts text rest also bytes : List ℕ) (sort low other_sort other_low : ℕ) → IsSort name sort
    → All (λ b. b ≢ 58) text → parts ≡ text ++ 58 ∷ rest → rest ≡ decimal low → low < 2 ^ 32
    → ((other : List ℕ) → IsParts text sort low other → ⊥) → IsSort name other_sort
    → IsParts also other_sort other_low bytes → parts ≡ also ++ 58 ∷ decimal other_low → ⊥
no_parts name parts text rest also bytes sort low other_sort other_low sort_is lacks cut rest_is small none other_is
    are
    is =
    let at = parts_cut parts text rest also other_sort other_low bytes (lacks_from_all 58 text lacks) cut are is in
    let lows = number_one _ other_low low (parts_low also other_sort other_low bytes are) small refl
    (sym at.1 ∙ rest_is) in
    none bytes
    (same_parts also text other_sort sort other_low low bytes (sym at.0) (sort_one name other_sort sort other_is
    sort_is)
    lows are)

pub no_low : (parts text rest also bytes : List ℕ) (sort low : ℕ) → All (λ b. b ≢ 58) text
    → parts ≡ text ++ 58 ∷ rest → ((other : ℕ) → other < 2 ^ 32 → rest ≡ decimal other → ⊥)
    → IsParts also sort low bytes → parts ≡ also ++ 58 ∷ decimal low → ⊥
no_low parts text rest also bytes sort low lacks cut none are is =
    none low (parts_low also sort low bytes are)
    (parts_cut parts text rest also sort low bytes (lacks_from_all 58 text lacks) cut are is).1

-- an address with a number that is too great for two bytes
pub no_addr_parts : (text : List ℕ) (addr sort low : ℕ) (bytes : List ℕ) → IsIpv4 text addr → 65536 ≤ low
    → IsParts text sort low bytes → ⊥
no_addr_parts text addr sort low bytes is large (inl (number, also, small, value)) = omega (arith, large, small)
no_addr_parts text addr sort low bytes is large (inr (inl (number, small, also, low_small, value))) =
    number_or_addr text number addr (omega (arith, small)) also is
no_addr_parts text addr sort low bytes is large (inr (inr (number, above, small, also, low_small, value))) =
    number_or_addr text number addr small also is

-- no first part
pub no_number_parts : (text : List ℕ) (sort low : ℕ) (bytes : List ℕ) → ((addr : ℕ) → IsIpv4 text addr → ⊥)
    → ((number : ℕ) → number < 2 ^ 32 → text ≡ decimal number → ⊥) → IsParts text sort low bytes → ⊥
no_number_parts text sort low bytes no_addr no_number (inl (number, also, small, value)) = no_addr number also
no_number_parts text sort low bytes no_addr no_number (inr (inl (number, small, also, low_small, value))) =
    no_number number (omega (arith, small)) also
no_number_parts text sort low bytes no_addr no_number (inr (inr (number, above, small, also, low_small, value))) =
    no_number number small also

-- a number of four bytes with one that is too great for two
pub no_wide_parts : (text : List ℕ) (high sort low : ℕ) (bytes : List ℕ) → ((addr : ℕ) → IsIpv4 text addr → ⊥)
    → text ≡ decimal high → high < 2 ^ 32 → 65536 ≤ high → 65536 ≤ low → IsParts text sort low bytes → ⊥
no_wide_parts text high sort low bytes no_addr is below above large (inl (number, also, small, value)) =
    no_addr number also
no_wide_parts text high sort low bytes no_addr is below above large (inr (inl (
  number,
  small,
  also,
  low_small,
  value,
))) =
    omega (arith, number_one text high number below (omega (arith, small)) is also, small, above)
no_wide_parts text high sort low bytes no_addr is below above large
    (inr (inr (number, over, small, also, low_small, value))) =
    omega (arith, large, low_small)

-- How long the texts of values and attributes are.
use Rattle.std.proofs.Common.{ℕ, min, ◌≡◌, ◌+◌, ◌*◌, Bool, true, false, List, [], ◌∷◌, length, arith, length-append, ap}
use Rattle.std.proofs.Common.{sym, ◌∙◌, refl, suc, get_or, append-nil, Option, Some, None, is_some, nat_lt, ◌<◌, ◌==◌}
use Rattle.std.proofs.Common.{if◌then◌else◌}
use Rattle.std.proofs.lemmas.Bool.Decides.{nat_tests}
use Rattle.std.proofs.lemmas.List.Sums.{sum_by-cons}
use Rattle.std.specs.List.{flat_map}
use Rattle.std.specs.Int.{w32, to_be_bytes}
use Rattle.route_values.specs.declared.addr.Addr.{Addr}
use Rattle.route_values.specs.declared.addr.Addr.TheVariants.{V4, V6}
use Rattle.route_values.specs.declared.addr.Family.{Family}
use Rattle.route_values.specs.declared.addr.Family.TheVariants.{Ipv4, Ipv6}
use Rattle.route_values.specs.declared.attrs.Aggregator.{Aggregator}
use Rattle.route_values.specs.declared.attrs.Large.{Large}
use Rattle.route_values.specs.declared.path.Segment.{Segment}
use Rattle.update_grammar.specs.Attributes.{raw_head, raw_text}
use Rattle.update_grammar.specs.Values.{numbers_text, segment_text, path_text, exts_text}
use Rattle.update_grammar.specs.Values.{larges_text, large_text}
use Rattle.update_grammar.specs.Written.{flags_for, raw, raw_some, hop_raws, reach_raws}
use Rattle.attr_codec.specs.declared.codes.Kind.{Kind}
use Rattle.attr_codec.specs.declared.codes.Kind.TheVariants.{WellKnown, Optional, OptionalTransitive}
use Rattle.attr_codec.specs.Groups.{raws_text, number_attr, atomic_attr, aggregator_attr}
use Rattle.attr_codec.specs.Kind.{flags_of}
use Rattle.attr_codec.specs.Sizes.{head_size, attr_size, segment_size, path_size, size_if, list_size, hop_size}

-- a list of texts of one length
pub length-flat_same : {A : Type 0} (text : A → List ℕ) (width : ℕ) → ((x : A) → length (text x) ≡ width)
    → (xs : List A) → length (flat_map text xs) ≡ length xs * width
length-flat_same text width each [] = omega arith
length-flat_same text width each (x ∷ xs) =
    omega (arith, length-append (text x) (flat_map text xs), each x, length-flat_same text width each xs)

pub length-numbers_text : (ns : List ℕ) → length (numbers_text ns) ≡ length ns * 4
length-numbers_text ns = length-flat_same (to_be_bytes w32) 4 (λ n. refl) ns

pub length-larges_text : (larges : List Large) → length (larges_text larges) ≡ length larges * 12
length-larges_text larges = length-flat_same large_text 12 (λ l. refl) larges

pub length-exts_text : (exts : List (List ℕ)) → ((i : ℕ) → i < length exts → length (get_or exts i []) ≡ 8)
    → length (exts_text exts) ≡ length exts * 8
length-exts_text [] each = omega arith
length-exts_text (ext ∷ exts) each =
    let front : length ext ≡ 8 = each 0 (omega arith) in
    let rest : length (exts_text exts) ≡ length exts * 8 = length-exts_text exts
    (λ i within. each (suc i) (omega arith)) in
    omega (arith, length-append ext (exts_text exts), front, rest)

pub length-segment_text : (s : Segment) → length (segment_text s) ≡ 2 + 4 * length s.numbers
length-segment_text s = omega (arith, length-numbers_text s.numbers)

pub length-path_text : (path : List Segment) → length (path_text path) ≡ path_size path
length-path_text [] = refl
length-path_text (s ∷ path) =
    length-append (segment_text s) (path_text path) ∙ ap (λ n. n + length (path_text path)) (length-segment_text s)
    ∙ ap (λ n. segment_size s + n) (length-path_text path) ∙ sym (sum_by-cons segment_size s path)

-- what stands before a value
length_head : (kind : Kind) (long : Bool) (code n : ℕ)
    → length (raw_head (if long then flags_of kind + 16 else flags_of kind) code n) ≡ (if long then 4 else 3)
length_head WellKnown true code n = refl
length_head WellKnown false code n = refl
length_head Optional true code n = refl
length_head Optional false code n = refl
length_head OptionalTransitive true code n = refl
length_head OptionalTransitive false code n = refl

pub length-raw_head : (kind : Kind) (code n : ℕ) → length (raw_head (flags_for (flags_of kind) n) code n) ≡ head_size n
length-raw_head kind code n = length_head kind (nat_lt 255 n) code n

pub length-raw_text : (kind : Kind) (code : ℕ) (value : List ℕ)
    → length (raw_text (raw (flags_of kind) code value)) ≡ attr_size (length value)
length-raw_text kind code value =
    omega (
      arith,
      length-append (raw_head (flags_for (flags_of kind) (length value)) code (length value)) value,
      length-raw_head kind code (length value),
    )

-- an attribute that stands or not
pub length-number_if : (kind : Kind) (code : ℕ) (o : Option ℕ)
    → length (number_attr kind code o) ≡ size_if (is_some o) 4
length-number_if kind code None = refl
length-number_if WellKnown code (Some n) = refl
length-number_if Optional code (Some n) = refl
length-number_if OptionalTransitive code (Some n) = refl

pub length-aggregator_if : (o : Option Aggregator) → length (aggregator_attr o) ≡ size_if (is_some o) 8
length-aggregator_if None = refl
length-aggregator_if (Some by) = refl

pub length-atomic_when : (b : Bool) → length (atomic_attr b) ≡ size_if b 0
length-atomic_when true = refl
length-atomic_when false = refl

-- NEXT_HOP or MP_REACH_NLRI
pub length-hop : (family : Family) (hop : Addr)
    → length (raws_text (hop_raws family hop)) + length (raws_text (reach_raws family hop [])) ≡ hop_size family hop
length-hop Ipv4 (V4 n) = refl
length-hop Ipv4 (V6 n) = refl
length-hop Ipv6 (V4 n) = refl
length-hop Ipv6 (V6 n) = refl

-- a list that isn't empty, by the length of its value
pub length-list_some : {A : Type 0} (kind : Kind) (code : ℕ) (text : List A → List ℕ) (xs : List A) (n : ℕ)
    → (length xs == 0) ≡ false → n ≡ length (text xs)
    → length (raws_text (raw_some text (flags_of kind) code xs)) ≡ attr_size n
length-list_some kind code text [] n filled is = cc
length-list_some kind code text (x ∷ xs) n filled is =
    ap length (append-nil (raw_text (raw (flags_of kind) code (text (x ∷ xs)))))
    ∙ length-raw_text kind code (text (x ∷ xs)) ∙ ap attr_size (sym is)

some_is_filled : (n : ℕ) → (suc n == 0) ≡ false
some_is_filled n = grind (arith, nat_tests)

-- a list of values of one width
pub length-list : {A : Type 0} (kind : Kind) (code : ℕ) (text : List A → List ℕ) (xs : List A) (width : ℕ)
    → length (text xs) ≡ length xs * width
    → length (raws_text (raw_some text (flags_of kind) code xs)) ≡ list_size (length xs) width
length-list kind code text [] width is = refl
length-list kind code text (x ∷ xs) width is =
    length-list_some kind code text (x ∷ xs) (length (x ∷ xs) * width) (some_is_filled (length xs)) (sym is)
    ∙ sym (ap (λ b. if b then 0 else attr_size (length (x ∷ xs) * width)) (some_is_filled (length xs)))

-- sums that stop at a greatest number
pub capped_more : (m a b x y sum : ℕ) → x ≡ min a m → y ≡ min b m → sum ≡ min (x + y) m → sum ≡ min (a + b) m
capped_more m a b x y sum is_x is_y is_sum = omega arith

pub capped_first : (m a b y sum : ℕ) → y ≡ min b m → sum ≡ min (a + y) m → sum ≡ min (a + b) m
capped_first m a b y sum is_y is_sum = omega arith

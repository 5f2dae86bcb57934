-- Addresses and prefixes as texts.
use Rattle.std.proofs.Common.{ℕ, ◌≡◌, ◌≢◌, ◌<◌, ◌≤◌, List, ◌∷◌, ◌++◌, All, decimal, arith, ap, sym, ◌∙◌, refl}
use Rattle.std.proofs.Common.{subst, inl, inr, true, length, length-append}
use Rattle.std.specs.Char.{is_ascii_digit}
use Rattle.route_values.specs.declared.addr.Addr.{Addr}
use Rattle.route_values.specs.declared.addr.Addr.TheVariants.{V4}
use Rattle.route_values.specs.Prefix.{Block, IsPrefix}
use Rattle.text_forms.specs.Addresses.{IsIpv4, IsMaskedText, IsPrefixText}
use Rattle.text_forms.proofs.CutLemmas.{Lacks, first_same, lacks_from_all, lacks_none, lacks_append, lacks_decimal}
use Rattle.text_forms.proofs.CutLemmas.{dot_no_digit, slash_no_digit}
use Rattle.text_forms.proofs.DecimalLemmas.{number_one}

dotless : (number : ℕ) → number < 256 → Lacks 46 (decimal number)
dotless number small = lacks_decimal 46 number dot_no_digit (omega arith)

pub byte_one : (byte other : ℕ) → byte < 256 → other < 256 → decimal byte ≡ decimal other → byte ≡ other
byte_one byte other small other_small same = number_one (decimal byte) byte other (omega arith) (omega arith) refl same

-- what a text spells before its first dot, and what follows that dot
pub leading_one : (text : List ℕ) (other number : ℕ) (tail tail' : List ℕ) → other < 256 → number < 256
    → text ≡ decimal other ++ 46 ∷ tail → text ≡ decimal number ++ 46 ∷ tail' → (other ≡ number) × (tail ≡ tail')
leading_one text other number tail tail' small small' is is' =
    let parts = first_same 46 (decimal other) tail (decimal number) tail' (dotless other small) (dotless number small')
    (sym is ∙ is') in
    (byte_one other number small small' parts.0, parts.1)

-- the text before the first dot, where a number stands there
pub leading_cut : (text front rest : List ℕ) (number : ℕ) (tail : List ℕ) → text ≡ front ++ 46 ∷ rest
    → All (λ b. b ≢ 46) front → number < 256 → text ≡ decimal number ++ 46 ∷ tail → front ≡ decimal number
leading_cut text front rest number tail cut lacks small is =
    (first_same 46 front rest (decimal number) tail (lacks_from_all 46 front lacks) (dotless number small)
    (sym cut ∙ is)).0

pub leading_none : (text : List ℕ) (number : ℕ) (tail : List ℕ) → All (λ b. b ≢ 46) text
    → text ≡ decimal number ++ 46 ∷ tail → ⊥
leading_none text number tail lacks is =
    lacks_none 46 (decimal number) tail (subst (Lacks 46) is (lacks_from_all 46 text lacks))

-- a byte that is no digit and no dot stands in no address's text
pub ipv4_lacks : (byte : ℕ) (text : List ℕ) (number : ℕ) → (is_ascii_digit byte ≡ true → ⊥) → (46 ≡ byte → ⊥)
    → IsIpv4 text number → Lacks byte text
ipv4_lacks byte text number no_digit no_dot is =
    let part : (n : ℕ) → n < 256 → Lacks byte (decimal n) = λ n small. lacks_decimal byte n no_digit (omega arith) in
    subst (Lacks byte) (sym is.text_is)
    (lacks_append byte _ _ (part is.first is.first_small) (
      no_dot,
      lacks_append byte _ _ (part is.second is.second_small) (
        no_dot,
        lacks_append byte _ _ (part is.third is.third_small) (no_dot, part is.fourth is.fourth_small),
      ),
    ))

-- an address's text has no slash
ipv4_slashless : (text : List ℕ) (number : ℕ) → IsIpv4 text number → Lacks 47 text
ipv4_slashless text number is =
    ipv4_lacks 47 text number slash_no_digit (λ same. absurd (omega (arith, same))) is

-- an address's text isn't empty
pub ipv4_filled : (text : List ℕ) (number : ℕ) → IsIpv4 text number → 0 < length text
ipv4_filled text number is =
    omega (
      arith,
      ap length is.text_is,
      length-append (decimal is.first)
          (46 ∷ (decimal is.second ++ 46 ∷ (decimal is.third ++ 46 ∷ decimal is.fourth))),
    )

-- a text spells one address at most
pub ipv4_one : (text : List ℕ) (other number : ℕ) → IsIpv4 text other → IsIpv4 text number → other ≡ number
ipv4_one text other number is also =
    let first = leading_one text is.first also.first _ _ is.first_small also.first_small is.text_is also.text_is in
    let second = leading_one _ is.second also.second _ _ is.second_small also.second_small refl first.1 in
    let third = leading_one _ is.third also.third _ _ is.third_small also.third_small refl second.1 in
    let last = byte_one is.fourth also.fourth is.fourth_small also.fourth_small third.1 in
    omega (arith, is.value, also.value, first.0, second.0, third.0, last)

abbrev pub block_of : Addr → ℕ → Block
block_of addr len = record { addr = addr; len = len }

block_of-same : (addr addr' : Addr) (len len' : ℕ) → addr ≡ addr' → len ≡ len' → block_of addr len ≡ block_of addr' len'
block_of-same addr addr' len len' addrs lens = cc

pub same_block : (block block' : Block) → block.addr ≡ block'.addr → block.len ≡ block'.len → block ≡ block'
same_block block block' addrs lens = block_of-same block.addr block'.addr block.len block'.len addrs lens

-- what stands before and behind the slash is spelled once
masked_one : (text : List ℕ) (other number bits bits' : ℕ) → bits ≤ 32 → bits' ≤ 32
    → IsMaskedText text other bits → IsMaskedText text number bits' → (other ≡ number) × (bits ≡ bits')
masked_one text other number bits bits' short short' (addr, is, text_is) (addr', is', text_is') =
    let parts = first_same 47 addr _ addr' _ (ipv4_slashless addr other is) (ipv4_slashless addr' number is')
    (sym text_is ∙ text_is') in (
      ipv4_one addr other number is (subst (λ (part : List ℕ). IsIpv4 part number) (sym parts.0) is'),
      byte_one bits bits' (omega arith) (omega arith) parts.1,
    )

masked_or_whole : (text : List ℕ) (other number bits : ℕ) → IsMaskedText text other bits → IsIpv4 text number → ⊥
masked_or_whole text other number bits (addr, is, text_is) whole =
    lacks_none 47 addr (decimal bits) (subst (Lacks 47) text_is (ipv4_slashless text number whole))

short_of : (block : Block) (number : ℕ) → block.addr ≡ V4 number → IsPrefix block.addr block.len → block.len ≤ 32
short_of block number is canonical = (subst (λ (addr : Addr). IsPrefix addr block.len) is canonical).short

-- a text spells one prefix at most
pub prefix_one : (text : List ℕ) (block block' : Block) → IsPrefixText text block
    → IsPrefixText text block' → block ≡ block'
prefix_one text block block' (other, is, canonical, inl masked) (number, is', canonical', inl masked') =
    let short = short_of block other is canonical in
    let short' = short_of block' number is' canonical' in
    let both = masked_one text other number block.len block'.len short short' masked masked' in
    same_block block block' (is ∙ ap V4 both.0 ∙ sym is') both.1
prefix_one text block block' (other, is, canonical, inl masked) (number, is', canonical', inr whole') =
    absurd (masked_or_whole text other number block.len masked whole'.0)
prefix_one text block block' (other, is, canonical, inr whole) (number, is', canonical', inl masked') =
    absurd (masked_or_whole text number other block'.len masked' whole.0)
prefix_one text block block' (other, is, canonical, inr whole) (number, is', canonical', inr whole') =
    let numbers = ipv4_one text other number whole.0 whole'.0 in
    same_block block block' (is ∙ ap V4 numbers ∙ sym is') (whole.1 ∙ sym whole'.1)

-- no prefix is spelled where none is before and behind the first slash
pub no_masked : (addr len : List ℕ) (block : Block) → Lacks 47 addr
    → ((number bits : ℕ) → IsIpv4 addr number → len ≡ decimal bits → IsPrefix (V4 number) bits → ⊥)
    → IsPrefixText (addr ++ 47 ∷ len) block → ⊥
no_masked addr len block lacks none (number, is, canonical, inl masked) =
    let parts = first_same 47 addr len masked.0 (decimal block.len) lacks (ipv4_slashless masked.0 number masked.1)
    masked.2 in
    none number block.len (subst (λ (part : List ℕ). IsIpv4 part number) (sym parts.0) masked.1) parts.1
    (subst (λ (addr : Addr). IsPrefix addr block.len) is canonical)
no_masked addr len block lacks none (number, is, canonical, inr whole) =
    lacks_none 47 addr len (ipv4_slashless (addr ++ 47 ∷ len) number whole.0)

-- no prefix is spelled where there is no slash and no address
pub no_whole : (text : List ℕ) (block : Block) → Lacks 47 text
    → ((number : ℕ) → IsIpv4 text number → IsPrefix (V4 number) 32 → ⊥) → IsPrefixText text block → ⊥
no_whole text block lacks none (number, is, canonical, inl masked) =
    lacks_none 47 masked.0 (decimal block.len) (subst (Lacks 47) masked.2 lacks)
no_whole text block lacks none (number, is, canonical, inr whole) =
    let spelled = subst (λ (addr : Addr). IsPrefix addr block.len) is canonical in
    none number whole.0 (subst (λ (bits : ℕ). IsPrefix (V4 number) bits) whole.1 spelled)

-- Addresses and prefixes of either family as texts.
use Rattle.std.proofs.Common.{ℕ, zero, suc, ◌≡◌, ◌≢◌, ◌<◌, ◌≤◌, ◌+◌, ◌*◌, ◌^◌, ◌/◌, ◌%◌, false, List, [], ◌∷◌, ◌++◌}
use Rattle.std.proofs.Common.{length}
use Rattle.std.proofs.Common.{decimal, arith, ap, sym, ◌∙◌, refl, subst, inl, inr, append-nil, length-append, ◌⊎◌}
use Rattle.route_values.specs.declared.addr.Addr.{Addr}
use Rattle.route_values.specs.declared.addr.Addr.TheVariants.{V4, V6}
use Rattle.route_values.specs.Addr.{number_of, width_of}
use Rattle.route_values.specs.Prefix.{Block, IsPrefix}
use Rattle.text_forms.specs.Addresses.{IsIpv4}
use Rattle.text_forms.specs.Families.{IsAddrText, IsMaskedAddr, IsWholeAddr, IsBlockText}
use Rattle.text_forms.specs.Ipv6.{IsEnd, AreColoned, AreGroups, AreBehind, IsCutAtColons, IsFilled, IsIpv6}
use Rattle.text_forms.proofs.CutLemmas.{Lacks, first_same, lacks_none, lacks_append, slash_no_digit}
use Rattle.text_forms.proofs.AddressLemmas.{ipv4_one, ipv4_lacks, byte_one, same_block}
use Rattle.text_forms.proofs.Ipv6Lemmas.{digits_lack, ipv6_one}

end_short : (text last : List ℕ) → IsEnd text last → length last ≤ 2
end_short text [] is = absurd is
end_short text (group ∷ []) is = omega arith
end_short text (high ∷ low ∷ []) is = omega arith
end_short text (a ∷ b ∷ c ∷ more) is = absurd is

colon_in : (text : List ℕ) (group : ℕ) (groups rest : List ℕ) → AreColoned text (group ∷ groups) rest → Lacks 58 text
    → ⊥
colon_in text group groups rest (front, tail, text_is, led, _) lacks =
    lacks_none 58 front tail (subst (Lacks 58) text_is lacks)

written_colon : (text first last rest : List ℕ) → AreColoned text first rest → IsEnd rest last
    → 8 ≤ length (first ++ last) → Lacks 58 text → ⊥
written_colon text [] last rest is end many lacks = absurd (omega (arith, many, end_short rest last end))
written_colon text (group ∷ groups) last rest is end many lacks = colon_in text group groups rest is lacks

-- an IPv6 address's text has a `:`
ipv6_colon : (text : List ℕ) (number : ℕ) → IsIpv6 text number → Lacks 58 text → ⊥
ipv6_colon text number (inl (groups, is, spell)) lacks =
    written_colon text is.first is.last is.rest is.coloned is.end
    (omega (arith, spell.0, ap length is.groups_are)) lacks
ipv6_colon text number (inr ([], back, cut, filled)) lacks = (subst (Lacks 58) cut lacks).0 refl
ipv6_colon text number (inr (group ∷ groups, back, cut, filled)) lacks =
    colon_in text group groups (58 ∷ back) cut lacks

-- no text is spelled as an address of each family
pub one_family : (text : List ℕ) (number number' : ℕ) → IsIpv4 text number → IsIpv6 text number' → ⊥
one_family text number number' is is' =
    ipv6_colon text number' is'
    (ipv4_lacks 58 text number (λ digit. absurd (cc)) (λ dot. absurd (omega (arith, dot))) is)

-- a text spells one address at most
pub addr_one : (text : List ℕ) (addr addr' : Addr) → IsAddrText text addr → IsAddrText text addr' → addr ≡ addr'
addr_one text (V4 number) (V4 number') is is' = ap V4 (ipv4_one text number number' is is')
addr_one text (V4 number) (V6 number') is is' = absurd (one_family text number number' is is')
addr_one text (V6 number) (V4 number') is is' = absurd (one_family text number' number is' is)
addr_one text (V6 number) (V6 number') is is' = ap V6 (ipv6_one text number number' is is')

-- no text spells an address that spells none of either family
pub no_addr : (text : List ℕ) (addr : Addr) → ((number : ℕ) → IsIpv4 text number → ⊥)
    → ((number : ℕ) → IsIpv6 text number → ⊥) → IsAddrText text addr → ⊥
no_addr text (V4 number) no_ipv4 no_ipv6 is = no_ipv4 number is
no_addr text (V6 number) no_ipv4 no_ipv6 is = no_ipv6 number is

colon_no_slash : ◌≡◌ {A = ℕ} 58 47 → ⊥
colon_no_slash same = absurd (omega (arith, same))

coloned_slashless : (text groups rest : List ℕ) → AreColoned text groups rest → Lacks 47 rest → Lacks 47 text
coloned_slashless text [] rest is lacks = subst (Lacks 47) (sym is) lacks
coloned_slashless text (group ∷ groups) rest (front, tail, text_is, led, more) lacks =
    subst (Lacks 47) (sym text_is)
    (lacks_append 47 front (58 ∷ tail) (digits_lack 47 front (omega arith) led.numeral.1)
    (colon_no_slash, coloned_slashless tail groups rest more lacks))

ipv4_slashless : (text : List ℕ) (number : ℕ) → IsIpv4 text number → Lacks 47 text
ipv4_slashless text number is =
    ipv4_lacks 47 text number slash_no_digit (λ same. absurd (omega (arith, same))) is

end_slashless : (text last : List ℕ) → IsEnd text last → Lacks 47 text
end_slashless text [] is = absurd is
end_slashless text (group ∷ []) is = digits_lack 47 text (omega arith) is.numeral.1
end_slashless text (high ∷ low ∷ []) is = ipv4_slashless text (high * 65536 + low) is.dotted
end_slashless text (a ∷ b ∷ c ∷ more) is = absurd is

groups_slashless : (text groups : List ℕ) → AreGroups text groups → Lacks 47 text
groups_slashless text groups is =
    coloned_slashless text is.first is.rest is.coloned (end_slashless is.rest is.last is.end)

behind_slashless : (text groups : List ℕ) → AreBehind text groups → Lacks 47 text
behind_slashless text groups (inl none) = subst (Lacks 47) (sym none.0) tt
behind_slashless text groups (inr is) = groups_slashless text groups is

cut_slashless : (text before back : List ℕ) (number : ℕ) → IsCutAtColons text before back
    → IsFilled before back number → Lacks 47 text
cut_slashless text [] back number cut filled =
    subst (Lacks 47) (sym cut) (colon_no_slash, (colon_no_slash, behind_slashless back filled.behind filled.behind_are))
cut_slashless text (group ∷ groups) back number cut filled =
    coloned_slashless text (group ∷ groups) (58 ∷ back) cut
    (colon_no_slash, behind_slashless back filled.behind filled.behind_are)

-- an address's text has no slash
pub addr_slashless : (text : List ℕ) (addr : Addr) → IsAddrText text addr → Lacks 47 text
addr_slashless text (V4 number) is = ipv4_slashless text number is
addr_slashless text (V6 number) (inl (groups, is, spell)) = groups_slashless text groups is
addr_slashless text (V6 number) (inr (before, back, cut, filled)) = cut_slashless text before back number cut filled

width_short : (addr : Addr) → width_of addr ≤ 128
width_short (V4 number) = omega arith
width_short (V6 number) = omega arith

pub block_short : (addr : Addr) (len : ℕ) → IsPrefix addr len → len < 256
block_short addr len is = omega (arith, is.short, width_short addr)

masked_one : (text : List ℕ) (addr addr' : Addr) (bits bits' : ℕ) → bits < 256 → bits' < 256
    → IsMaskedAddr text addr bits → IsMaskedAddr text addr' bits' → (addr ≡ addr') × (bits ≡ bits')
masked_one text addr addr' bits bits' small small' is is' =
    let parts = first_same 47 is.front (decimal bits) is'.front (decimal bits')
    (addr_slashless is.front addr is.front_is)
    (addr_slashless is'.front addr' is'.front_is) (sym is.text_is ∙ is'.text_is) in (
      addr_one is.front addr addr' is.front_is
          (subst (λ (front : List ℕ). IsAddrText front addr') (sym parts.0) is'.front_is),
      byte_one bits bits' small small' parts.1,
    )

masked_or_whole : (text : List ℕ) (addr addr' : Addr) (bits : ℕ) → IsMaskedAddr text addr bits
    → IsAddrText text addr' → ⊥
masked_or_whole text addr addr' bits is whole =
    lacks_none 47 is.front (decimal bits) (subst (Lacks 47) is.text_is (addr_slashless text addr' whole))

block_at : (text : List ℕ) (block block' : Block) → IsPrefix block.addr block.len → IsPrefix block'.addr block'.len
    → (IsMaskedAddr text block.addr block.len ⊎ IsWholeAddr text block.addr block.len)
    → (IsMaskedAddr text block'.addr block'.len ⊎ IsWholeAddr text block'.addr block'.len) → block ≡ block'
block_at text block block' short short' (inl is) (inl is') =
    let both = masked_one text block.addr block'.addr block.len block'.len (block_short block.addr block.len short)
    (block_short block'.addr block'.len short') is is' in
    same_block block block' both.0 both.1
block_at text block block' short short' (inl is) (inr is') =
    absurd (masked_or_whole text block.addr block'.addr block.len is is'.text_is)
block_at text block block' short short' (inr is) (inl is') =
    absurd (masked_or_whole text block'.addr block.addr block'.len is' is.text_is)
block_at text block block' short short' (inr is) (inr is') =
    let addrs = addr_one text block.addr block'.addr is.text_is is'.text_is in
    same_block block block' addrs (is.all ∙ ap width_of addrs ∙ sym is'.all)

-- a text spells one prefix at most
pub block_one : (text : List ℕ) (block block' : Block) → IsBlockText text block → IsBlockText text block'
    → block ≡ block'
block_one text block block' is is' =
    block_at text block block' is.canonical is'.canonical is.spelled is'.spelled

no_masked_at : (front len : List ℕ) (block : Block) → Lacks 47 front → IsPrefix block.addr block.len
    → ((addr : Addr) (bits : ℕ) → IsAddrText front addr → len ≡ decimal bits → IsPrefix addr bits → ⊥)
    → (IsMaskedAddr (front ++ 47 ∷ len) block.addr block.len ⊎ IsWholeAddr (front ++ 47 ∷ len) block.addr block.len)
    → ⊥
no_masked_at front len block lacks canonical none (inl is) =
    let parts = first_same 47 front len is.front (decimal block.len) lacks
    (addr_slashless is.front block.addr is.front_is) is.text_is in
    none block.addr block.len (subst (λ (part : List ℕ). IsAddrText part block.addr) (sym parts.0) is.front_is) parts.1
    canonical
no_masked_at front len block lacks canonical none (inr is) =
    lacks_none 47 front len (addr_slashless (front ++ 47 ∷ len) block.addr is.text_is)

-- no prefix is spelled where none is before and behind the first slash
pub no_masked : (front len : List ℕ) (block : Block) → Lacks 47 front
    → ((addr : Addr) (bits : ℕ) → IsAddrText front addr → len ≡ decimal bits → IsPrefix addr bits → ⊥)
    → IsBlockText (front ++ 47 ∷ len) block → ⊥
no_masked front len block lacks none is = no_masked_at front len block lacks is.canonical none is.spelled

no_whole_at : (text : List ℕ) (block : Block) → Lacks 47 text → IsPrefix block.addr block.len
    → ((addr : Addr) → IsAddrText text addr → IsPrefix addr (width_of addr) → ⊥)
    → (IsMaskedAddr text block.addr block.len ⊎ IsWholeAddr text block.addr block.len) → ⊥
no_whole_at text block lacks canonical none (inl is) =
    lacks_none 47 is.front (decimal block.len) (subst (Lacks 47) is.text_is lacks)
no_whole_at text block lacks canonical none (inr is) =
    none block.addr is.text_is (subst (λ (bits : ℕ). IsPrefix block.addr bits) is.all canonical)

-- no prefix is spelled where there is no slash and no address
pub no_whole : (text : List ℕ) (block : Block) → Lacks 47 text
    → ((addr : Addr) → IsAddrText text addr → IsPrefix addr (width_of addr) → ⊥) → IsBlockText text block → ⊥
no_whole text block lacks none is = no_whole_at text block lacks is.canonical none is.spelled

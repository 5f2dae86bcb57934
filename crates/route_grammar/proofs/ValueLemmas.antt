-- Next hops, origins and the words of items: that each word spells one.
use Rattle.std.proofs.Common.{ℕ, ◌≡◌, ◌≢◌, ◌≤◌, ◌++◌, ◌∷◌, cond, eqb, get_or, length, List, [], codes}
use Rattle.std.proofs.Common.{decimal, Option, arith, ap, sym, ◌∙◌, refl, subst, inl, inr}
use Rattle.route_values.specs.declared.addr.Addr.{Addr}
use Rattle.route_values.specs.declared.addr.Addr.TheVariants.{V4, V6}
use Rattle.route_values.specs.declared.addr.Family.{Family}
use Rattle.route_values.specs.declared.attrs.Hop.{Hop}
use Rattle.route_values.specs.declared.attrs.Hop.TheVariants.{Own, Is}
use Rattle.route_values.specs.declared.attrs.Origin.{Origin}
use Rattle.route_values.specs.declared.attrs.Origin.TheVariants.{Igp, Egp, Incomplete}
use Rattle.text_forms.specs.Families.{IsAddrText}
use Rattle.text_forms.specs.Ipv6.{IsEnd, AreColoned, IsIpv6}
use Rattle.text_forms.proofs.CutLemmas.{Lacks, lacks_none}
use Rattle.text_forms.proofs.FamilyLemmas.{addr_one}
use Rattle.route_grammar.specs.Numbers.{IsOfFamily, IsHop, IsOrigin}
use Rattle.route_grammar.proofs.TextLemmas.{lacks_tested}

-- NEXT HOPS

end_short : (text last : List ℕ) → IsEnd text last → length last ≤ 2
end_short text [] is = absurd is
end_short text (group ∷ []) is = omega arith
end_short text (high ∷ low ∷ []) is = omega arith
end_short text (a ∷ b ∷ c ∷ more) is = absurd is

colon_in : (text : List ℕ) (group : ℕ) (groups rest : List ℕ) → AreColoned text (group ∷ groups) rest → Lacks 58 text
    → ⊥
colon_in text group groups rest (front, tail, text_is, led, _) lacks =
    lacks_none 58 front tail (subst (Lacks 58) text_is lacks)

written_colon : (text first last rest : List ℕ) → AreColoned text first rest → IsEnd rest last
    → 8 ≤ length (first ++ last) → Lacks 58 text → ⊥
written_colon text [] last rest is end many lacks = absurd (omega (arith, many, end_short rest last end))
written_colon text (group ∷ groups) last rest is end many lacks = colon_in text group groups rest is lacks

-- an IPv6 address's text has a `:`
ipv6_colon : (text : List ℕ) (number : ℕ) → IsIpv6 text number → Lacks 58 text → ⊥
ipv6_colon text number (inl (groups, is, spell)) lacks =
    written_colon text is.first is.last is.rest is.coloned is.end
    (omega (arith, spell.0, ap length is.groups_are)) lacks
ipv6_colon text number (inr ([], back, cut, filled)) lacks = (subst (Lacks 58) cut lacks).0 refl
ipv6_colon text number (inr (group ∷ groups, back, cut, filled)) lacks =
    colon_in text group groups (58 ∷ back) cut lacks

self_no_addr : (addr : Addr) → IsAddrText (codes "self") addr → ⊥
self_no_addr (V4 number) is =
    lacks_none 46 (decimal is.first) _ (subst (Lacks 46) is.text_is (lacks_tested 46 (codes "self") refl))
self_no_addr (V6 number) is = ipv6_colon (codes "self") number is (lacks_tested 58 (codes "self") refl)

own_no_addr : (text : List ℕ) (addr : Addr) → text ≡ codes "self" → IsAddrText text addr → ⊥
own_no_addr text addr own is = self_no_addr addr (subst (λ (word : List ℕ). IsAddrText word addr) own is)

pub hop_one : (family : Option Family) (text : List ℕ) (other hop : Hop) → IsHop family text other
    → IsHop family text hop → other ≡ hop
hop_one family text Own Own is also = refl
hop_one family text Own (Is addr) is also = absurd (own_no_addr text addr is also.0)
hop_one family text (Is addr) Own is also = absurd (own_no_addr text addr also is.0)
hop_one family text (Is other) (Is addr) is also = ap Is (addr_one text other addr is.0 also.0)

pub no_hop : (family : Option Family) (text : List ℕ) (hop : Hop) → text ≢ codes "self"
    → ((addr : Addr) → IsAddrText text addr → IsOfFamily family addr → ⊥) → IsHop family text hop → ⊥
no_hop family text Own other none is = other is
no_hop family text (Is addr) other none is = none addr is.0 is.1

-- nor where the address is of the other family
pub no_hop_of : (family : Option Family) (text : List ℕ) (addr : Addr) (hop : Hop) → text ≢ codes "self"
    → IsAddrText text addr → (IsOfFamily family addr → ⊥) → IsHop family text hop → ⊥
no_hop_of family text addr hop other spelled none =
    no_hop family text hop other
    (λ also is of_family. none (subst (λ (one : Addr). IsOfFamily family one) (addr_one text also addr is spelled)
    of_family))

-- ORIGINS

-- words of different origins differ in their length or their first letter
origin_at : List ℕ → Origin
origin_at text =
    cond (eqb (length text) 10) Incomplete
    (cond (eqb (get_or text 0 0) 105) Igp (cond (eqb (get_or text 0 0) 73) Igp Egp))

origin_is : (text : List ℕ) (origin : Origin) → IsOrigin text origin → origin_at text ≡ origin
unfolding origin_at
origin_is text Igp (inl is) = ap origin_at is
origin_is text Igp (inr is) = ap origin_at is
origin_is text Egp (inl is) = ap origin_at is
origin_is text Egp (inr is) = ap origin_at is
origin_is text Incomplete (inl is) = ap origin_at is
origin_is text Incomplete (inr is) = ap origin_at is

pub origin_one : (text : List ℕ) (other origin : Origin) → IsOrigin text other → IsOrigin text origin → other ≡ origin
origin_one text other origin is also = sym (origin_is text other is) ∙ origin_is text origin also

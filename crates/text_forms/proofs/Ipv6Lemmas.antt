-- IPv6 addresses as texts: what is read of a text, and that it is read in one way.
use Rattle.std.proofs.Common.{ℕ, zero, suc, ◌≡◌, ◌≢◌, ◌<◌, ◌≤◌, ◌+◌, ◌*◌, ◌^◌, List, [], ◌∷◌, ◌++◌, length, replicate}
use Rattle.std.proofs.Common.{All, decimal, get_or, take}
use Rattle.std.proofs.Common.{arith, ap, sym, ◌∙◌, refl, subst, inl, inr, append_assoc, append-nil, length-append}
use Rattle.std.proofs.lemmas.List.{length-replicate, take-replicate}
use Rattle.std.proofs.lemmas.List.Elements.{All-from_recursion}
use Rattle.std.specs.Char.{digit_value}
use Rattle.std.specs.Int.Digits.{number_from_digits}
use Rattle.std.specs.Str.Parse.{AllDigits, digits_value}
use Rattle.text_forms.specs.Addresses.{IsIpv4}
use Rattle.text_forms.specs.Ipv6.{IsGroup, IsDotted, AreColoned, Stops, IsEnd, AreGroups, AreBehind, SpellNumber}
use Rattle.text_forms.specs.Ipv6.{IsCutAtColons, IsFilled, IsWhole, IsShortened, IsIpv6}
use Rattle.text_forms.proofs.CutLemmas.{Lacks, first_same, lacks_from_all, lacks_none}
use Rattle.text_forms.proofs.AddressLemmas.{ipv4_one, ipv4_lacks, ipv4_filled}

-- no hexadecimal digit is such a byte
pub digits_lack : (byte : ℕ) (text : List ℕ) → 16 ≤ digit_value byte → AllDigits 16 text → Lacks byte text
digits_lack byte [] large digits = tt
digits_lack byte (b ∷ bs) large digits =
    ((λ same. absurd (omega (arith, digits.0, large, ap digit_value same))), digits_lack byte bs large digits.1)

group_lacks_colon : (text : List ℕ) (group : ℕ) → IsGroup text group → Lacks 58 text
group_lacks_colon text group is = digits_lack 58 text (omega arith) is.numeral.1

group_lacks_dot : (text : List ℕ) (group : ℕ) → IsGroup text group → Lacks 46 text
group_lacks_dot text group is = digits_lack 46 text (omega arith) is.numeral.1

group_one : (text text' : List ℕ) (group group' : ℕ) → text ≡ text' → IsGroup text group → IsGroup text' group'
    → group ≡ group'
group_one text text' group group' same is is' = cc (same, is.value, is'.value)

-- a text that has a `:` behind something else goes on
stops_front : (front tail : List ℕ) → Stops (front ++ 58 ∷ tail) → Lacks 58 front → 0 < length front → ⊥
stops_front front tail (inl all) lacks filled = lacks_none 58 front tail (lacks_from_all 58 (front ++ 58 ∷ tail) all)
stops_front [] tail (inr begins) lacks filled = absurd (omega (arith, filled))
stops_front (b ∷ bs) tail (inr begins) lacks filled = lacks.0 (cc (begins.1))

-- a text that has a group with `:` behind it goes on
pub stops_led : (text front tail : List ℕ) (group : ℕ) → Stops text → text ≡ front ++ 58 ∷ tail → IsGroup front group
    → ⊥
stops_led text front tail group stops is led =
    stops_front front tail (subst Stops is stops) (group_lacks_colon front group led) led.numeral.0

-- what a text has behind its first groups
pub record GoesOn (groups rest groups' rest' : List ℕ) : Type 0 where
  pub more : List ℕ
  pub groups_are : groups' ≡ groups ++ more
  pub coloned : AreColoned rest more rest'

-- the groups of a text to its last `:` begin with any that stand at its front
pub goes_on : (text groups rest groups' rest' : List ℕ) → AreColoned text groups rest → Stops rest'
    → AreColoned text groups' rest' → GoesOn groups rest groups' rest'
goes_on text [] rest groups' rest' is stops also = record {
  more = groups';
  groups_are = refl;
  coloned = subst (λ (left : List ℕ). AreColoned left groups' rest') is also;
}
goes_on text (group ∷ groups) rest [] rest' (front, tail, text_is, led, _) stops also =
    absurd (stops_led text front tail group (subst Stops (sym also) stops) text_is led)
goes_on text (group ∷ groups) rest (group' ∷ groups') rest' (front, tail, text_is, led, more) stops
    (front', tail', text_is', led', more') =
    let parts = first_same 58 front tail front' tail' (group_lacks_colon front group led)
    (group_lacks_colon front' group' led') (sym text_is ∙ text_is') in
    let heads = group_one front front' group group' parts.0 led led' in
    let left = goes_on tail groups rest groups' rest' more stops
    (subst (λ (left : List ℕ). AreColoned left groups' rest') (sym parts.1) more') in
    record { more = left.more; groups_are = cc (heads, left.groups_are); coloned = left.coloned }

none_more : (rest more rest' : List ℕ) → AreColoned rest more rest' → Stops rest → (more ≡ []) × (rest ≡ rest')
none_more rest [] rest' is stops = (refl, is)
none_more rest (group ∷ more) rest' (front, tail, text_is, led, _) stops =
    absurd (stops_led rest front tail group stops text_is led)

-- the groups of a text to its last `:` are read in one way
pub coloned_one : (text groups rest groups' rest' : List ℕ) → AreColoned text groups rest → Stops rest
    → AreColoned text groups' rest' → Stops rest' → (groups ≡ groups') × (rest ≡ rest')
coloned_one text groups rest groups' rest' is stops also stops' =
    let on = goes_on text groups rest groups' rest' is stops' also in
    let none = none_more rest on.more rest' on.coloned stops in
    (sym (on.groups_are ∙ ap (λ more. groups ++ more) none.0 ∙ append-nil groups), none.1)

-- one group more with `:` behind it
pub coloned_push : (text groups rest front after : List ℕ) (group : ℕ) → AreColoned text groups rest
    → rest ≡ front ++ 58 ∷ after → IsGroup front group → AreColoned text (groups ++ group ∷ []) after
coloned_push text [] rest front after group is cut led = (front, after, is ∙ cut, led, refl)
coloned_push text (first ∷ groups) rest front after group (front', tail', text_is, led', more) cut led =
    (front', tail', text_is, led', coloned_push tail' groups rest front after group more cut led)

-- a first group stands where something stands before a `:`
led_more : (rest more rest' front after : List ℕ) → AreColoned rest more rest' → Stops rest'
    → rest ≡ front ++ 58 ∷ after → All (λ b. b ≢ 58) front → 0 < length front
    → (group : ℕ) × IsGroup front group × (0 < length more)
led_more rest [] rest' front after is stops cut lacks filled =
    absurd (stops_front front after (subst Stops (sym is ∙ cut) stops) (lacks_from_all 58 front lacks) filled)
led_more rest (group ∷ more) rest' front after (front', tail', text_is, led', _) stops cut lacks filled =
    let parts = first_same 58 front' tail' front after (group_lacks_colon front' group led')
    (lacks_from_all 58 front lacks) (sym text_is ∙ cut) in
    (group, subst (λ (part : List ℕ). IsGroup part group) parts.0 led', omega arith)

-- no groups are read where what stands before a `:` is none
pub no_group_there : (text groups rest front after : List ℕ) → AreColoned text groups rest
    → rest ≡ front ++ 58 ∷ after → All (λ b. b ≢ 58) front → 0 < length front
    → ((group : ℕ) → IsGroup front group → ⊥) → (groups' rest' : List ℕ) → Stops rest'
    → AreColoned text groups' rest' → ⊥
no_group_there text groups rest front after is cut lacks filled none groups' rest' stops also =
    let on = goes_on text groups rest groups' rest' is stops also in
    let led = led_more rest on.more rest' front after on.coloned stops cut lacks filled in
    none led.0 led.1

-- nor where eight groups stand before one more
pub no_ninth_group : (text groups rest front after : List ℕ) → AreColoned text groups rest
    → rest ≡ front ++ 58 ∷ after → All (λ b. b ≢ 58) front → 0 < length front → 8 ≤ length groups
    → (groups' rest' : List ℕ) → Stops rest' → length groups' ≤ 8 → AreColoned text groups' rest' → ⊥
no_ninth_group text groups rest front after is cut lacks filled many groups' rest' stops few also =
    let on = goes_on text groups rest groups' rest' is stops also in
    let led = led_more rest on.more rest' front after on.coloned stops cut lacks filled in
    absurd (omega (arith, few, many, led.2, ap length on.groups_are, length-append groups on.more))

-- a text behind the last `:` has none
end_lacks : (text last : List ℕ) → IsEnd text last → Lacks 58 text
end_lacks text [] is = absurd is
end_lacks text (group ∷ []) is = group_lacks_colon text group is
end_lacks text (high ∷ low ∷ []) is = ipv4_lacks 58 text (high * 65536 + low) (λ digit. absurd (cc))
    (λ dot. absurd (omega (arith, dot))) is.dotted
end_lacks text (a ∷ b ∷ c ∷ more) is = absurd is

pub end_stops : (text last : List ℕ) → IsEnd text last → Stops text
end_stops text last is = inl (All-from_recursion (λ b. b ≢ 58) text (end_lacks text last is))

pub end_no_colon : (text tail last : List ℕ) → text ≡ 58 ∷ tail → IsEnd text last → ⊥
end_no_colon text tail last is end = (subst (Lacks 58) is (end_lacks text last end)).0 refl

group_or_dotted : (text : List ℕ) (group high low : ℕ) → IsGroup text group → IsDotted text high low → ⊥
group_or_dotted text group high low is dotted =
    lacks_none 46 (decimal dotted.dotted.first) _
    (subst (Lacks 46) dotted.dotted.text_is (group_lacks_dot text group is))

dotted_one : (text : List ℕ) (high low high' low' : ℕ) → IsDotted text high low → IsDotted text high' low'
    → (high ≡ high') × (low ≡ low')
dotted_one text high low high' low' is is' =
    let same = ipv4_one text (high * 65536 + low) (high' * 65536 + low') is.dotted is'.dotted in
    let small = is.low_small in
    let small' = is'.low_small in
    (omega arith, omega arith)

-- what stands behind the last `:` is read in one way
pub end_one : (text last last' : List ℕ) → IsEnd text last → IsEnd text last' → last ≡ last'
end_one text [] last' is is' = absurd is
end_one text (group ∷ []) [] is is' = absurd is'
end_one text (group ∷ []) (group' ∷ []) is is' = ap (λ last. last ∷ []) (group_one text text group group' refl is is')
end_one text (group ∷ []) (high ∷ low ∷ []) is is' = absurd (group_or_dotted text group high low is is')
end_one text (group ∷ []) (a ∷ b ∷ c ∷ more) is is' = absurd is'
end_one text (high ∷ low ∷ []) [] is is' = absurd is'
end_one text (high ∷ low ∷ []) (group ∷ []) is is' = absurd (group_or_dotted text group high low is' is)
end_one text (high ∷ low ∷ []) (high' ∷ low' ∷ []) is is' =
    let both = dotted_one text high low high' low' is is' in cc (both.0, both.1)
end_one text (high ∷ low ∷ []) (a ∷ b ∷ c ∷ more) is is' = absurd is'
end_one text (a ∷ b ∷ c ∷ more) last' is is' = absurd is

groups_one : (text groups groups' : List ℕ) → AreGroups text groups → AreGroups text groups' → groups ≡ groups'
groups_one text groups groups' is is' =
    let both = coloned_one text is.first is.rest is'.first is'.rest is.coloned (end_stops is.rest is.last is.end)
    is'.coloned (end_stops is'.rest is'.last is'.end) in
    let last = end_one is.rest is.last is'.last is.end
    (subst (λ (rest : List ℕ). IsEnd rest is'.last) (sym both.1) is'.end) in
    cc (both.0, last, is.groups_are, is'.groups_are)

coloned_filled : (text groups rest : List ℕ) → AreColoned text groups rest → 0 < length rest → 0 < length text
coloned_filled text [] rest is filled = rw is filled
coloned_filled text (group ∷ groups) rest (front, tail, text_is, led, _) filled =
    omega (arith, ap length text_is, length-append front (58 ∷ tail))

end_filled : (text last : List ℕ) → IsEnd text last → 0 < length text
end_filled text [] is = absurd is
end_filled text (group ∷ []) is = is.numeral.0
end_filled text (high ∷ low ∷ []) is = ipv4_filled text (high * 65536 + low) is.dotted
end_filled text (a ∷ b ∷ c ∷ more) is = absurd is

-- an empty text has no groups
pub no_groups_in_none : (text groups : List ℕ) → text ≡ [] → AreGroups text groups → ⊥
no_groups_in_none text groups none is =
    absurd (omega (
      arith,
      coloned_filled text is.first is.rest is.coloned (end_filled is.rest is.last is.end),
      ap length none,
    ))

pub behind_one : (text groups groups' : List ℕ) → AreBehind text groups → AreBehind text groups' → groups ≡ groups'
behind_one text groups groups' (inl none) (inl none') = none.1 ∙ sym none'.1
behind_one text groups groups' (inl none) (inr is') = absurd (no_groups_in_none text groups' none.0 is')
behind_one text groups groups' (inr is) (inl none') = absurd (no_groups_in_none text groups none'.0 is)
behind_one text groups groups' (inr is) (inr is') = groups_one text groups groups' is is'

number_one : (groups groups' : List ℕ) (number number' : ℕ) → groups ≡ groups' → SpellNumber groups number
    → SpellNumber groups' number' → number ≡ number'
number_one groups groups' number number' same is is' = cc (same, is.1, is'.1)

-- groups with zeros between them
abbrev pub with_zeros : List ℕ → ℕ → List ℕ → List ℕ
with_zeros before zeros behind = before ++ (replicate zeros 0 ++ behind)

pub length-with_zeros : (before : List ℕ) (zeros : ℕ) (behind : List ℕ)
    → length (with_zeros before zeros behind) ≡ length before + (zeros + length behind)
length-with_zeros before zeros behind =
    length-append before (replicate zeros 0 ++ behind)
    ∙ ap (λ n. length before + n) (length-append (replicate zeros 0) behind)
    ∙ ap (λ n. length before + (n + length behind)) (length-replicate zeros 0)

filled_one : (before before' back back' : List ℕ) (number number' : ℕ) → before ≡ before' → back ≡ back'
    → IsFilled before back number → IsFilled before' back' number' → number ≡ number'
filled_one before before' back back' number number' befores backs is is' =
    let behinds = behind_one back is.behind is'.behind is.behind_are
    (subst (λ (text : List ℕ). AreBehind text is'.behind) (sym backs) is'.behind_are) in
    let zeros : is.zeros ≡ is'.zeros =
    omega (
      arith,
      is.spell.0,
      is'.spell.0,
      length-with_zeros before is.zeros is.behind,
      length-with_zeros before' is'.zeros is'.behind,
      ap length befores,
      ap length behinds,
    ) in
    let same : with_zeros before is.zeros is.behind ≡ with_zeros before' is'.zeros is'.behind =
    cc (befores, zeros, behinds) in
    number_one _ _ number number' same is.spell is'.spell

-- what stands behind the first `:` after the groups before `::`
abbrev colon_and : List ℕ → List ℕ → List ℕ
colon_and [] back = 58 ∷ back
colon_and (group ∷ groups) back = back

cut_coloned : (text before back : List ℕ) → IsCutAtColons text before back
    → AreColoned text before (58 ∷ colon_and before back)
cut_coloned text [] back is = is
cut_coloned text (group ∷ groups) back is = is

same_back_at : (before back back' : List ℕ) → colon_and before back ≡ colon_and before back' → back ≡ back'
same_back_at [] back back' same = cc
same_back_at (group ∷ groups) back back' same = same

tails_same : (tail tail' : List ℕ) → ◌≡◌ {A = List ℕ} (58 ∷ tail) (58 ∷ tail') → tail ≡ tail'
tails_same tail tail' same = cc

-- a text is cut at `::` in one way
cut_one : (text before back before' back' : List ℕ) → IsCutAtColons text before back
    → IsCutAtColons text before' back' → (before ≡ before') × (back ≡ back')
cut_one text before back before' back' is is' =
    let both = coloned_one text before (58 ∷ colon_and before back) before' (58 ∷ colon_and before' back')
    (cut_coloned text before back is) (inr (colon_and before back, refl)) (cut_coloned text before' back' is')
    (inr (colon_and before' back', refl)) in
    let backs = tails_same _ _ both.1 ∙ ap (λ groups. colon_and groups back') (sym both.0) in
    (both.0, same_back_at before back back' backs)

whole_or_cut : (text groups before back : List ℕ) → AreGroups text groups → IsCutAtColons text before back → ⊥
whole_or_cut text groups before back is cut =
    let both = coloned_one text is.first is.rest before (58 ∷ colon_and before back) is.coloned
    (end_stops is.rest is.last is.end) (cut_coloned text before back cut) (inr (colon_and before back, refl)) in
    end_no_colon is.rest _ is.last both.1 is.end

-- a text spells one address at most
pub ipv6_one : (text : List ℕ) (number number' : ℕ) → IsIpv6 text number → IsIpv6 text number' → number ≡ number'
ipv6_one text number number' (inl (groups, are, spell)) (inl (groups', are', spell')) =
    number_one groups groups' number number' (groups_one text groups groups' are are') spell spell'
ipv6_one text number number' (inl (groups, are, spell)) (inr (before', back', cut', filled')) =
    absurd (whole_or_cut text groups before' back' are cut')
ipv6_one text number number' (inr (before, back, cut, filled)) (inl (groups', are', spell')) =
    absurd (whole_or_cut text groups' before back are' cut)
ipv6_one text number number' (inr (before, back, cut, filled)) (inr (before', back', cut', filled')) =
    let both = cut_one text before back before' back' cut cut' in
    filled_one before before' back back' number number' both.0 both.1 filled filled'

-- eight digits of a number, four and four
pub spelled_by : (groups : List ℕ) (high low : ℕ) → length groups ≡ 8
    → high ≡ ((get_or groups 0 0 * 65536 + get_or groups 1 0) * 65536 + get_or groups 2 0) * 65536 + get_or groups 3 0
    → low ≡ ((get_or groups 4 0 * 65536 + get_or groups 5 0) * 65536 + get_or groups 6 0) * 65536 + get_or groups 7 0
    → high * 2 ^ 64 + low ≡ number_from_digits 65536 groups
spelled_by [] high low eight is is' = absurd (omega (arith, eight))
spelled_by (a ∷ []) high low eight is is' = absurd (omega (arith, eight))
spelled_by (a ∷ b ∷ []) high low eight is is' = absurd (omega (arith, eight))
spelled_by (a ∷ b ∷ c ∷ []) high low eight is is' = absurd (omega (arith, eight))
spelled_by (a ∷ b ∷ c ∷ d ∷ []) high low eight is is' = absurd (omega (arith, eight))
spelled_by (a ∷ b ∷ c ∷ d ∷ e ∷ []) high low eight is is' = absurd (omega (arith, eight))
spelled_by (a ∷ b ∷ c ∷ d ∷ e ∷ f ∷ []) high low eight is is' = absurd (omega (arith, eight))
spelled_by (a ∷ b ∷ c ∷ d ∷ e ∷ f ∷ g ∷ []) high low eight is is' = absurd (omega (arith, eight))
spelled_by (a ∷ b ∷ c ∷ d ∷ e ∷ f ∷ g ∷ h ∷ []) high low eight is is' = omega (arith, is, is')
spelled_by (a ∷ b ∷ c ∷ d ∷ e ∷ f ∷ g ∷ h ∷ i ∷ more) high low eight is is' = absurd (omega (arith, eight))

-- four digits at most are a group's
pub digits_short : (text : List ℕ) → AllDigits 16 text → length text ≤ 4 → digits_value 16 text < 65536
digits_short [] digits short = omega arith
digits_short (a ∷ []) digits short = omega (arith, digits.0)
digits_short (a ∷ b ∷ []) digits short = omega (arith, digits.0, digits.1.0)
digits_short (a ∷ b ∷ c ∷ []) digits short = omega (arith, digits.0, digits.1.0, digits.1.1.0)
digits_short (a ∷ b ∷ c ∷ d ∷ []) digits short = omega (arith, digits.0, digits.1.0, digits.1.1.0, digits.1.1.1.0)
digits_short (a ∷ b ∷ c ∷ d ∷ e ∷ more) digits short = absurd (omega (arith, short))

-- each byte of hexadecimal digits is one
pub digit_in : (text : List ℕ) (i : ℕ) → AllDigits 16 text → i < length text → digit_value (get_or text i 0) < 16
digit_in [] i digits within = absurd (omega (arith, within))
digit_in (b ∷ bs) zero digits within = digits.0
digit_in (b ∷ bs) (suc i) digits within = digit_in bs i digits.1 (omega (arith, within))

-- zeros put between groups
pub zeros_between : (slice all padded before behind : List ℕ) (zeros : ℕ) → slice ≡ all → all ≡ padded ++ behind
    → padded ≡ before ++ take zeros (replicate 8 0) → zeros ≤ 8 → slice ≡ with_zeros before zeros behind
zeros_between slice all padded before behind zeros is all_is padded_is few =
    is ∙ all_is
    ∙ ap (λ (front : List ℕ). front ++ behind)
    (padded_is ∙ ap (λ (piece : List ℕ). before ++ piece) (take-replicate zeros 8 0 few))
    ∙ append_assoc before (replicate zeros 0) behind

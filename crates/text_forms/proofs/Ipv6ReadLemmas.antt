-- What the readers of IPv6 addresses find in a text.
use Rattle.std.proofs.Common.{ℕ, suc, ◌≡◌, ◌≢◌, ◌<◌, ◌≤◌, ◌+◌, List, [], ◌∷◌, ◌++◌, length, replicate, arith}
use Rattle.std.proofs.Common.{ap, sym, ◌∙◌, refl, subst, inl, inr, length-append}
use Rattle.text_forms.specs.Ipv6.{IsGroup, IsDotted, AreColoned, Stops, IsEnd, AreGroups, AreBehind, SpellNumber}
use Rattle.text_forms.specs.Ipv6.{IsCutAtColons, IsFilled, IsIpv6}
use Rattle.text_forms.proofs.Ipv6Lemmas.{coloned_one, stops_led, end_stops, end_no_colon, end_one, behind_one}
use Rattle.text_forms.proofs.Ipv6Lemmas.{with_zeros, length-with_zeros}

colon_stops : (tail : List ℕ) → Stops (58 ∷ tail)
colon_stops tail = inr (tail, refl)

first_short : (text groups : List ℕ) → (is : AreGroups text groups) → length groups ≤ 8
    → length is.first + length is.last ≤ 8
first_short text groups is short = omega (arith, short, ap length is.groups_are, length-append is.first is.last)

-- what an address is that begins with `:`
pub record IsColonLed (tail : List ℕ) (number : ℕ) : Type 0 where
  pub back : List ℕ
  pub second : tail ≡ 58 ∷ back
  pub filled : IsFilled [] back number

pub colon_first : (tail : List ℕ) (number : ℕ) → IsIpv6 (58 ∷ tail) number → IsColonLed tail number
colon_first tail number (inl (groups, is, spell)) =
    let both = coloned_one (58 ∷ tail) is.first is.rest [] (58 ∷ tail) is.coloned (end_stops is.rest is.last is.end)
    refl (colon_stops tail) in
    absurd (end_no_colon is.rest tail is.last both.1 is.end)
colon_first tail number (inr ([], back, cut, filled)) = record { back = back; second = cc cut; filled = filled }
colon_first tail number (inr (group ∷ groups, back, (front, tail', text_is, led, _), filled)) =
    absurd (stops_led (58 ∷ tail) front tail' group (colon_stops tail) text_is led)

pub colons_first : (tail back : List ℕ) (number : ℕ) → tail ≡ 58 ∷ back → IsFilled [] back number
    → IsIpv6 (58 ∷ tail) number
colons_first tail back number second filled = inr ([], back, ap (λ text. 58 ∷ text) second, filled)

pub no_colons_first : (tail back : List ℕ) (number : ℕ) → tail ≡ 58 ∷ back
    → ((other : ℕ) → IsFilled [] back other → ⊥) → IsIpv6 (58 ∷ tail) number → ⊥
no_colons_first tail back number second none is =
    let led = colon_first tail number is in
    let same : led.back ≡ back = cc (led.second, second) in
    none number (subst (λ (text : List ℕ). IsFilled [] text number) same led.filled)

-- a text that begins with no `:`
abbrev pub IsUnled : List ℕ → Type 0
IsUnled text = (tail : List ℕ) → text ≢ 58 ∷ tail

pub no_coloned : (text : List ℕ) (number : ℕ) → IsUnled text
    → ((groups rest : List ℕ) → Stops rest → length groups ≤ 8 → AreColoned text groups rest → ⊥)
    → IsIpv6 text number → ⊥
no_coloned text number unled none (inl (groups, is, spell)) =
    let short = first_short text groups is (omega (arith, spell.0)) in
    none is.first is.rest (end_stops is.rest is.last is.end) (omega (arith, short)) is.coloned
no_coloned text number unled none (inr ([], back, cut, filled)) = unled (58 ∷ back) cut
no_coloned text number unled none (inr (group ∷ groups, back, cut, filled)) =
    none (group ∷ groups) (58 ∷ back) (colon_stops back)
    (omega (arith, filled.spell.0, length-with_zeros (group ∷ groups) filled.zeros filled.behind)) cut

pub cut_found : (text groups rest back : List ℕ) (number : ℕ) → IsUnled text → AreColoned text groups rest
    → rest ≡ 58 ∷ back → IsFilled groups back number → IsIpv6 text number
cut_found text [] rest back number unled is cut filled = absurd (unled back (is ∙ cut))
cut_found text (group ∷ groups) rest back number unled is cut filled =
    inr (group ∷ groups, back, subst (λ (left : List ℕ). AreColoned text (group ∷ groups) left) cut is, filled)

pub no_cut : (text groups rest back : List ℕ) (number : ℕ) → IsUnled text → AreColoned text groups rest
    → rest ≡ 58 ∷ back → ((other : ℕ) → IsFilled groups back other → ⊥) → IsIpv6 text number → ⊥
no_cut text groups rest back number unled coloned cut none (inl (all, is, spell)) =
    let both = coloned_one text is.first is.rest groups rest is.coloned (end_stops is.rest is.last is.end) coloned
    (inr (back, cut)) in
    end_no_colon is.rest back is.last (both.1 ∙ cut) is.end
no_cut text groups rest back number unled coloned cut none (inr ([], back', cut', filled)) = unled (58 ∷ back') cut'
no_cut text groups rest back number unled coloned cut none (inr (group ∷ groups', back', cut', filled)) =
    let both = coloned_one text (group ∷ groups') (58 ∷ back') groups rest cut' (colon_stops back') coloned
    (inr (back, cut)) in
    let backs : back' ≡ back = cc (both.1, cut) in
    none number
    (subst (λ (text : List ℕ). IsFilled groups text number) backs
    (subst (λ (before : List ℕ). IsFilled before back' number) both.0 filled))

pub whole_found : (text groups rest last : List ℕ) (number : ℕ) → AreColoned text groups rest → IsEnd rest last
    → SpellNumber (groups ++ last) number → IsIpv6 text number
whole_found text groups rest last number is end spell =
    inl (
      groups ++ last,
      record { first = groups; last = last; rest = rest; coloned = is; end = end; groups_are = refl },
      spell,
    )

pub no_whole : (text groups rest : List ℕ) (number : ℕ) → IsUnled text → AreColoned text groups rest → Stops rest
    → IsUnled rest → ((last : List ℕ) (other : ℕ) → IsEnd rest last → SpellNumber (groups ++ last) other → ⊥)
    → IsIpv6 text number → ⊥
no_whole text groups rest number unled coloned stops uncut none (inl (all, is, spell)) =
    let both = coloned_one text is.first is.rest groups rest is.coloned (end_stops is.rest is.last is.end) coloned
    stops in
    none is.last number (subst (λ (left : List ℕ). IsEnd left is.last) both.1 is.end)
    (subst (λ (groups : List ℕ). SpellNumber groups number)
    (is.groups_are ∙ ap (λ (first : List ℕ). first ++ is.last) both.0) spell)
no_whole text groups rest number unled coloned stops uncut none (inr ([], back, cut, filled)) = unled (58 ∷ back) cut
no_whole text groups rest number unled coloned stops uncut none (inr (group ∷ groups', back, cut, filled)) =
    let both = coloned_one text (group ∷ groups') (58 ∷ back) groups rest cut (colon_stops back) coloned stops in
    uncut back (sym both.1)

-- the groups behind `::`
pub behind_found : (text groups rest last all : List ℕ) → AreColoned text groups rest → IsEnd rest last
    → all ≡ groups ++ last → AreBehind text all
behind_found text groups rest last all is end are =
    inr (record { first = groups; last = last; rest = rest; coloned = is; end = end; groups_are = are })

pub no_behind_coloned : (text groups : List ℕ) → 0 < length text
    → ((groups rest : List ℕ) → Stops rest → length groups ≤ 8 → AreColoned text groups rest → ⊥)
    → length groups ≤ 8 → AreBehind text groups → ⊥
no_behind_coloned text groups some none short (inl empty) =
    absurd (omega (arith, some, ap length empty.0))
no_behind_coloned text groups some none short (inr is) =
    let few = first_short text groups is short in
    none is.first is.rest (end_stops is.rest is.last is.end) (omega (arith, few)) is.coloned

pub no_behind_end : (text groups first rest : List ℕ) → 0 < length text → AreColoned text first rest → Stops rest
    → ((last : List ℕ) → length first + length last ≤ 8 → IsEnd rest last → ⊥)
    → length groups ≤ 8 → AreBehind text groups → ⊥
no_behind_end text groups first rest some coloned stops none short (inl empty) =
    absurd (omega (arith, some, ap length empty.0))
no_behind_end text groups first rest some coloned stops none short (inr is) =
    let both = coloned_one text is.first is.rest first rest is.coloned (end_stops is.rest is.last is.end) coloned
    stops in
    none is.last (omega (arith, first_short text groups is short, ap length both.0))
    (subst (λ (left : List ℕ). IsEnd left is.last) both.1 is.end)

-- a number of groups that isn't eight spells no address
pub no_eight : (rest groups all last last' : List ℕ) (number : ℕ) → all ≡ groups ++ last → IsEnd rest last
    → (length all ≡ 8 → ⊥) → IsEnd rest last' → SpellNumber (groups ++ last') number → ⊥
no_eight rest groups all last last' number are end none end' spell =
    let same = end_one rest last last' end end' in
    none (ap length are ∙ ap (λ more. length (groups ++ more)) same ∙ spell.0)

pub no_room_for_zeros : (before back behind : List ℕ) (number : ℕ) → AreBehind back behind
    → 8 ≤ length before + length behind → IsFilled before back number → ⊥
no_room_for_zeros before back behind number are many is =
    let same = behind_one back behind is.behind are is.behind_are in
    absurd (omega (
      arith,
      many,
      is.some,
      is.spell.0,
      length-with_zeros before is.zeros is.behind,
      ap length same,
    ))

pub behind_short : (before back : List ℕ) (number : ℕ) → (is : IsFilled before back number) → length is.behind ≤ 8
behind_short before back number is =
    omega (arith, is.spell.0, length-with_zeros before is.zeros is.behind)

-- two groups more have no room
pub no_room_for_two : (text groups last : List ℕ) (high low : ℕ) → IsDotted text high low → 6 < length groups
    → length groups + length last ≤ 8 → IsEnd text last → ⊥
no_room_for_two text groups last high low is many short end =
    absurd (omega (arith, many, short, ap length (end_one text (high ∷ low ∷ []) last is end)))

-- nothing ends a text that is no address and no group
pub no_end : (text groups last : List ℕ) → ((high low : ℕ) → IsDotted text high low → ⊥)
    → ((group : ℕ) → length groups < 8 → IsGroup text group → ⊥) → length groups + length last ≤ 8
    → IsEnd text last → ⊥
no_end text groups [] no_dotted no_group short end = end
no_end text groups (group ∷ []) no_dotted no_group short end = no_group group (omega (arith, short)) end
no_end text groups (high ∷ low ∷ []) no_dotted no_group short end = no_dotted high low end
no_end text groups (a ∷ b ∷ c ∷ more) no_dotted no_group short end = end

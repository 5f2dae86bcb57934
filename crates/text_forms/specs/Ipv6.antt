-- IPv6 addresses as texts (RFC 4291, section 2.2).
use Rattle.std.specs.Prelude.{ℕ, ◌≡◌, ◌≢◌, ◌⊎◌, ◌+◌, ◌*◌, ◌<◌, ◌≤◌, List, [], ◌∷◌, ◌++◌, length, replicate, All}
use Rattle.std.specs.Int.Digits.{number_from_digits}
use Rattle.std.specs.Str.Parse.{IsNumeral, digits_value}
use Rattle.text_forms.specs.Addresses.{IsIpv4}

-- one to four hexadecimal digits of either case, and the number that they write
pub record IsGroup (text : List ℕ) (group : ℕ) : Type 0 where
  pub numeral : IsNumeral 16 text
  pub short : length text ≤ 4
  pub value : group ≡ digits_value 16 text

-- a text is groups with `:` behind each, and then a rest
abbrev pub AreColoned : List ℕ → List ℕ → List ℕ → Type 0
AreColoned text [] rest = text ≡ rest
AreColoned text (group ∷ groups) rest =
    (front : List ℕ) × (tail : List ℕ) × (text ≡ front ++ 58 ∷ tail) × IsGroup front group × AreColoned tail groups rest

-- a text that has no `:`, or begins with one
abbrev pub Stops : List ℕ → Type 0
Stops text = All (λ b. b ≢ 58) text ⊎ ((tail : List ℕ) × (text ≡ 58 ∷ tail))

-- an IPv4 address as two groups
pub record IsDotted (text : List ℕ) (high low : ℕ) : Type 0 where
  pub low_small : low < 65536
  pub dotted : IsIpv4 text (high * 65536 + low)

-- what stands behind the last `:`: a group, or an IPv4 address for two
abbrev pub IsEnd : List ℕ → List ℕ → Type 0
IsEnd text [] = ⊥
IsEnd text (group ∷ []) = IsGroup text group
IsEnd text (high ∷ low ∷ []) = IsDotted text high low
IsEnd text (_ ∷ _ ∷ _ ∷ _) = ⊥

-- groups joined by `:`
pub record AreGroups (text groups : List ℕ) : Type 0 where
  pub first : List ℕ
  pub last : List ℕ
  pub rest : List ℕ
  pub coloned : AreColoned text first rest
  pub end : IsEnd rest last
  pub groups_are : groups ≡ first ++ last

-- nothing, or groups joined by `:`
abbrev pub AreBehind : List ℕ → List ℕ → Type 0
AreBehind text groups = ((text ≡ []) × (groups ≡ [])) ⊎ AreGroups text groups

-- eight groups, and the number that they spell
abbrev pub SpellNumber : List ℕ → ℕ → Type 0
SpellNumber groups number = (length groups ≡ 8) × (number ≡ number_from_digits 65536 groups)

-- groups before `::`, and the text behind it
abbrev pub IsCutAtColons : List ℕ → List ℕ → List ℕ → Type 0
IsCutAtColons text [] back = text ≡ 58 ∷ 58 ∷ back
IsCutAtColons text (group ∷ groups) back = AreColoned text (group ∷ groups) (58 ∷ back)

-- `::` stands for one or more groups of zeros between the groups before it and those behind it
pub record IsFilled (before back : List ℕ) (number : ℕ) : Type 0 where
  pub behind : List ℕ
  pub zeros : ℕ
  pub behind_are : AreBehind back behind
  pub some : 0 < zeros
  pub spell : SpellNumber (before ++ (replicate zeros 0 ++ behind)) number

-- all groups are written
abbrev pub IsWhole : List ℕ → ℕ → Type 0
IsWhole text number = (groups : List ℕ) × AreGroups text groups × SpellNumber groups number

-- `::` is written, once
abbrev pub IsShortened : List ℕ → ℕ → Type 0
IsShortened text number =
    (before : List ℕ) × (back : List ℕ) × IsCutAtColons text before back × IsFilled before back number

-- eight groups, all written or with `::`
abbrev pub IsIpv6 : List ℕ → ℕ → Type 0
IsIpv6 text number = IsWhole text number ⊎ IsShortened text number

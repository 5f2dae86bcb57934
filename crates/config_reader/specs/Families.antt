-- Sections that list families.
use Rattle.std.specs.Prelude.{Bool, true, false, codes, List, ℕ, ◌≡◌}
use Rattle.route_values.specs.declared.addr.Family.{Family}
use Rattle.route_values.specs.declared.addr.Family.TheVariants.{Ipv4, Ipv6}
use Rattle.config_model.specs.declared.fault.ConfigKind.TheVariants as kind
use Rattle.config_reader.specs.declared.written.Families.{Families}
use Rattle.config_reader.specs.Rules.{Rule, ◌>>=◌, saying, where_so, sign, is_sign, until}
use Rattle.config_reader.specs.Words.{word_or, keyword}

-- the word of a family
abbrev pub family_word : Family → List ℕ
family_word Ipv4 = codes "ipv4"
family_word Ipv6 = codes "ipv6"

abbrev pub IsFamilyWord : List ℕ → Family → Type 0
IsFamilyWord text family = text ≡ family_word family

abbrev pub no_family : Families
no_family = record { ipv4 = false; ipv6 = false }

-- whether a family is listed, and with one more
abbrev pub lists : Families → Family → Bool
lists listed Ipv4 = listed.ipv4
lists listed Ipv6 = listed.ipv6

abbrev pub with_family : Families → Family → Families
with_family listed Ipv4 = record listed { ipv4 = true }
with_family listed Ipv6 = record listed { ipv6 = true }

-- a family, which stands once at most
abbrev pub family_statement : Families → Rule Families
family_statement listed = do
  family ← word_or IsFamilyWord (λ family. where_so kind.Twice (lists listed family))
  unicast ← keyword (codes "unicast")
  ended ← sign 59
  saying (with_family listed family)

-- families up to a closing brace, and between braces
abbrev pub families_listed : Rule Families
families_listed = until (is_sign 125) family_statement no_family

abbrev pub families_at : Rule Families
families_at = do
  opened ← sign 123
  listed ← families_listed
  closed ← sign 125
  saying listed

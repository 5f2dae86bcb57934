-- The words of values spell them.
use Rattle.std.proofs.Common.{ℕ, ◌≡◌, ◌<◌, ◌^◌, ◌/◌, ◌%◌, List, [], ◌∷◌, Some, decimal, refl, inl, arith}
use Rattle.std.specs.List.{AllByRecursion}
use Rattle.route_values.specs.declared.addr.Addr.{Addr}
use Rattle.route_values.specs.declared.addr.Addr.TheVariants.{V4}
use Rattle.route_values.specs.declared.addr.Family.{Family}
use Rattle.route_values.specs.declared.attrs.Aggregator.{Aggregator}
use Rattle.route_values.specs.declared.attrs.Hop.TheVariants.{Is}
use Rattle.route_values.specs.declared.attrs.Large.{Large}
use Rattle.route_values.specs.declared.attrs.Origin.{Origin}
use Rattle.route_values.specs.declared.attrs.Origin.TheVariants.{Igp, Egp, Incomplete}
use Rattle.route_values.specs.Addr.{family_of, number_of, width_of}
use Rattle.text_forms.specs.Addresses.{IsIpv4}
use Rattle.text_forms.specs.Numbers.{IsAsn}
use Rattle.text_forms.specs.Printed.{ipv4_text, addr_text}
use Rattle.text_forms.proofs.SpelledLemmas.{addr_spelled}
use Rattle.token_reader.specs.Tokens.{Word}
use Rattle.route_grammar.specs.Communities.{IsCommunity, IsLarge as SpellsLarge, IsAggregator as SpellsAggregator}
use Rattle.route_grammar.specs.Limits.{Limits}
use Rattle.route_grammar.specs.Numbers.{IsHop as SpellsHop, IsOrigin, IsPathId}
use Rattle.route_grammar.specs.Productions.{OneWord, Repeated}
use Rattle.update_grammar.specs.Values.{IsNumber, IsAggregator, IsLarge}
use Rattle.text_printer.specs.Items.{origin_text, aggregator_text, community_text, large_text, word_each}

pub hop_said : (family : Family) (hop : Addr) → number_of hop < 2 ^ width_of hop → family_of hop ≡ family
    → SpellsHop (Some family) (addr_text hop) (Is hop)
hop_said family hop fits is = (addr_spelled hop fits, is)

pub origin_said : (origin : Origin) → IsOrigin (origin_text origin) origin
origin_said Igp = inl refl
origin_said Egp = inl refl
origin_said Incomplete = inl refl

pub id_said : (id : ℕ) → id < 2 ^ 32 → IsPathId (decimal id) id
id_said id small = inl (small, refl)

pub asn_said : (number : ℕ) → 0 < number → IsNumber number → IsAsn (decimal number) number
asn_said number some small = (some, small, inl refl)

pub ipv4_said : (number : ℕ) → IsNumber number → IsIpv4 (ipv4_text number) number
ipv4_said number small = addr_spelled (V4 number) small

pub community_said : (number : ℕ) → IsNumber number → IsCommunity (community_text number) number
community_said number small =
    inl (record {
      high = number / 65536;
      low = number % 65536;
      high_small = omega arith;
      low_small = omega arith;
      word_is = refl;
      value = omega arith;
    })

pub aggregator_said : (by : Aggregator) → IsAggregator by → 0 < by.asn → SpellsAggregator (aggregator_text by) by
aggregator_said by is some = record {
  asn = decimal by.asn;
  addr = ipv4_text by.addr;
  asn_is = asn_said by.asn some is.asn;
  addr_is = ipv4_said by.addr is.addr;
  word_is = refl;
}

pub large_said : (large : Large) → IsLarge large → SpellsLarge (large_text large) large
large_said large is = record {
  global_small = is.global;
  first_small = is.first;
  second_small = is.second;
  word_is = refl;
}

-- words, one a value
pub words_said : {V : Type 0} (Spells : List ℕ → V → Type 0) (Fit : V → Type 0) (text : V → List ℕ) (limits : Limits)
    (values : List V) → ((one : V) → Fit one → Spells (text one) one) → AllByRecursion Fit values
    → Repeated (OneWord Spells) limits (word_each text values) values
words_said Spells Fit text limits [] said fit = refl
words_said Spells Fit text limits (value ∷ values) said fit = (
  Word (text value) ∷ [],
  word_each text values,
  refl,
  (text value, refl, said value fit.0),
  words_said Spells Fit text limits values said fit.1,
)

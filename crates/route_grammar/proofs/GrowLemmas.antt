-- What is read is read with a limit raised too.
use Rattle.std.proofs.Common.{ℕ, List, [], Option, inl, inr, arith}
use Rattle.token_reader.specs.Tokens.{Token}
use Rattle.route_values.specs.declared.addr.Family.{Family}
use Rattle.route_grammar.specs.declared.kind.Kind.{Kind}
use Rattle.route_grammar.specs.declared.kind.Kind.TheVariants as kind
use Rattle.route_grammar.specs.declared.items.Item.TheVariants as item
use Rattle.route_grammar.specs.declared.path.Part.TheVariants.{Number, Set}
use Rattle.route_grammar.specs.Limits.{Counted, Numbers, Limits, raised}
use Rattle.route_grammar.specs.Limits as counted
use Rattle.route_grammar.specs.Productions.{Production, OneWord, Then, Saying, Either, Bracketed}
use Rattle.route_grammar.specs.Numbers.{IsNumber, IsPathId, IsHop, IsOrigin}
use Rattle.route_grammar.specs.Communities.{IsCommunity, IsExtended, IsLarge, IsAggregator}
use Rattle.route_grammar.specs.Lists.{ListOf, AreFew, single, AloneOrIn, IsSet, SetBehind, OnePart}
use Rattle.route_grammar.specs.Lists.{AreFewNumbers, OnePath, joined, onto, opening_bracket, closing_bracket}
use Rattle.route_grammar.specs.Lists.{opening_paren, closing_paren}
use Rattle.route_grammar.specs.Items.{Operand, OneItem, ReadsItems, IsKeyword}
use Rattle.text_forms.specs.Addresses.{IsIpv4}
use Rattle.text_forms.specs.Numbers.{IsAsn}
use Rattle.route_grammar.proofs.LimitLemmas.{raised_more}
use Rattle.route_grammar.proofs.ProductionLemmas.{Grows}
use Rattle.route_grammar.proofs.RepeatedLemmas.{repeated_grows}

pub word_grows : {V : Type 0} (Spells : List ℕ → V → Type 0) → Grows (OneWord Spells)
word_grows Spells limits which tokens value read = read

pub then_grows : {V W : Type 0} (R : Production V) (S : V → Production W) → Grows R → ((first : V) → Grows (S first))
    → Grows (Then R S)
then_grows R S first_grows second_grows limits which tokens value read = (
  read.0,
  read.1,
  read.2,
  read.3,
  first_grows limits which read.1 read.0 read.4,
  second_grows read.0 limits which read.2 value read.5,
)

pub saying_grows : {V W : Type 0} (say : V → W) (R : Production V) → Grows R → Grows (Saying say R)
saying_grows say R grows limits which tokens value read = (read.0, read.1, grows limits which tokens read.0 read.2)

pub either_grows : {V : Type 0} (R S : Production V) → Grows R → Grows S → Grows (Either R S)
either_grows R S grows others_grow limits which tokens value (inl read) = inl (grows limits which tokens value read)
either_grows R S grows others_grow limits which tokens value (inr read) = inr (others_grow limits which tokens value
    read)

-- a condition on values that stands with a limit raised
abbrev pub FitGrows : {V : Type 0} → (Limits → List V → Type 0) → Type 0
FitGrows {V = V} Fit =
    (limits : Limits) (which : Counted) (values : List V) → Fit limits values → Fit (raised which limits) values

pub bracketed_grows : {V : Type 0} (opening closing : Token) (R : Production V) (Fit : Limits → List V → Type 0)
    → Grows R → FitGrows Fit → Grows (Bracketed opening closing R Fit)
bracketed_grows opening closing R Fit grows fit_grows limits which tokens values read = (
  read.0,
  read.1,
  repeated_grows R grows limits which read.0 values read.2,
  fit_grows limits which values read.3,
)

few_grow : {V : Type 0} (one : Counted) → FitGrows {V = V} (AreFew one)
few_grow one limits which values few = omega (arith, few, raised_more which one limits)

pub list_grows : {V : Type 0} (one : Counted) (Spells : List ℕ → V → Type 0) → Grows (ListOf one Spells)
list_grows one Spells =
    either_grows (Saying single (OneWord Spells))
    (Bracketed opening_bracket closing_bracket (OneWord Spells) (AreFew one))
    (saying_grows single (OneWord Spells) (word_grows Spells))
    (bracketed_grows opening_bracket closing_bracket (OneWord Spells) (AreFew one) (word_grows Spells) (few_grow one))

set_fits : (before : ℕ) → FitGrows (IsSet before)
set_fits before limits which numbers fits =
    (fits.0, omega (arith, fits.1, raised_more which Numbers limits))

pub set_grows : (before : ℕ) → Grows (SetBehind before)
set_grows before =
    bracketed_grows opening_paren closing_paren (OneWord IsAsn) (IsSet before) (word_grows IsAsn) (set_fits before)

pub part_grows : Grows OnePart
part_grows =
    either_grows (Saying Number (OneWord IsAsn)) (Saying Set (SetBehind 0))
    (saying_grows Number (OneWord IsAsn) (word_grows IsAsn)) (saying_grows Set (SetBehind 0) (set_grows 0))

numbers_fit : FitGrows AreFewNumbers
numbers_fit limits which parts few = omega (arith, few, raised_more which Numbers limits)

pub path_grows : Grows OnePath
path_grows =
    either_grows (Saying (λ number. onto number []) (OneWord IsAsn))
    (Saying joined (Bracketed opening_bracket closing_bracket OnePart AreFewNumbers))
    (saying_grows (λ number. onto number []) (OneWord IsAsn) (word_grows IsAsn))
    (saying_grows joined (Bracketed opening_bracket closing_bracket OnePart AreFewNumbers)
    (bracketed_grows opening_bracket closing_bracket OnePart AreFewNumbers part_grows numbers_fit))

alone_grows : {V : Type 0} (Spells : List ℕ → V → Type 0) → Grows (AloneOrIn Spells)
alone_grows Spells limits which tokens value read = read

pub operand_grows : (family : Option Family) (one : Kind) → Grows (Operand family one)
operand_grows family kind.NextHop = saying_grows item.NextHop (OneWord (IsHop family)) (word_grows (IsHop family))
operand_grows family kind.Origin = saying_grows item.Origin (OneWord IsOrigin) (word_grows IsOrigin)
operand_grows family kind.Path = saying_grows item.Path OnePath path_grows
operand_grows family kind.Med = saying_grows item.Med (OneWord IsNumber) (word_grows IsNumber)
operand_grows family kind.LocalPref = saying_grows item.LocalPref (OneWord IsNumber) (word_grows IsNumber)
operand_grows family kind.Atomic = λ limits which tokens value read. read
operand_grows family kind.Aggregator = saying_grows item.Aggregator (AloneOrIn IsAggregator) (alone_grows IsAggregator)
operand_grows family kind.Communities =
    saying_grows item.Communities (ListOf counted.Communities IsCommunity) (list_grows counted.Communities IsCommunity)
operand_grows family kind.Originator = saying_grows item.Originator (OneWord IsIpv4) (word_grows IsIpv4)
operand_grows family kind.Clusters =
    saying_grows item.Clusters (ListOf counted.Clusters IsIpv4) (list_grows counted.Clusters IsIpv4)
operand_grows family kind.Extended =
    saying_grows item.Extended (ListOf counted.Extended IsExtended) (list_grows counted.Extended IsExtended)
operand_grows family kind.Large =
    saying_grows item.Large (ListOf counted.Large IsLarge) (list_grows counted.Large IsLarge)
operand_grows family kind.PathId = saying_grows item.PathId (OneWord IsPathId) (word_grows IsPathId)

pub item_grows : (family : Option Family) → Grows (OneItem family)
item_grows family = then_grows (OneWord IsKeyword) (Operand family) (word_grows IsKeyword) (operand_grows family)

pub items_grow : (family : Option Family) → Grows (ReadsItems family)
items_grow family limits which tokens read items =
    (items.0, repeated_grows (OneItem family) (item_grows family) limits which tokens items.0 items.1, items.2, items.3)

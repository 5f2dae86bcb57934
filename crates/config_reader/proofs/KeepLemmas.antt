-- What stands behind the first word of a neighbour's statement gives no token back.
use Rattle.std.proofs.Common.{ℕ, ◌≡◌, ◌<◌, ◌≤◌, ◌+◌, codes, List, [], ◌∷◌, ◌++◌, length, Some, None, arith, refl, sym}
use Rattle.std.proofs.Common.{◌∙◌, ap, length-append}
use Rattle.route_values.specs.declared.addr.Addr.{Addr}
use Rattle.route_values.specs.declared.addr.Family.{Family}
use Rattle.route_values.specs.Addr.{family_of}
use Rattle.text_forms.specs.Addresses.{IsIpv4}
use Rattle.text_forms.specs.Families.{IsBlockText}
use Rattle.text_forms.specs.Numbers.{IsAsn}
use Rattle.token_reader.specs.Tokens.{Placed, front_token}
use Rattle.config_model.specs.declared.sections.StaticRoute.{StaticRoute}
use Rattle.config_reader.specs.declared.keywords.Capability.{Capability}
use Rattle.config_reader.specs.declared.keywords.Capability.TheVariants as offers
use Rattle.config_reader.specs.declared.keywords.NeighborStatement.{NeighborStatement}
use Rattle.config_reader.specs.declared.keywords.NeighborStatement.TheVariants as says
use Rattle.config_reader.specs.declared.written.Capabilities.{Capabilities}
use Rattle.config_reader.specs.declared.written.Families.{Families}
use Rattle.config_reader.specs.declared.written.Heard.{Heard}
use Rattle.config_reader.specs.declared.written.NeighborWritten.{NeighborWritten}
use Rattle.config_reader.specs.Capabilities.{IsOffer, IsWays, capability_operand, capability_statement, capabilities_at}
use Rattle.config_reader.specs.Capabilities.{no_capability}
use Rattle.config_reader.specs.Families.{IsFamilyWord, families_at, family_statement, no_family}
use Rattle.config_reader.specs.Heard.{further_heard, heard_at, heard_closed, heard_opened, name_heard, names_heard}
use Rattle.config_reader.specs.Heard.{names_listed, section_name}
use Rattle.config_reader.specs.Neighbors.{local_at, neighbor_operand, neighbor_statement, word_passed, words_passed}
use Rattle.config_reader.specs.Rules.{Rule, SaysSign, either, is_sign, never, saying, sign, until, ◌>>=◌}
use Rattle.config_reader.specs.Statics.{items_at, route_statement, statics_at}
use Rattle.config_reader.specs.Words.{any_word, IsName, IsHold, IsPort, IsText, SaysBytes, SaysWord, keyword, word}
use Rattle.config_reader.specs.Words.{word_ended}
use Rattle.config_reader.proofs.HeardLemmas.{further_shrinks, name_shrinks}
use Rattle.config_reader.proofs.ProcessLemmas.{ended_keeps}
use Rattle.config_reader.proofs.StaticLemmas.{route_shrinks}
use Rattle.config_reader.proofs.ShrinkLemmas.{Keeps, Shrinks, front_passed, front_shrinks, saying_keeps, shrinks_keeps}
use Rattle.config_reader.proofs.ShrinkLemmas.{until_keeps}
use Rattle.config_reader.proofs.ShrinkLemmas.{either_keeps, then_keeps, then_shrinks}

pub sign_keeps : (which : ℕ) → Keeps (sign which)
sign_keeps which = shrinks_keeps (sign which) (front_shrinks (SaysSign which) never)

pub word_keeps : {V : Type 0} (Spells : List ℕ → V → Type 0) → Keeps (word Spells)
word_keeps Spells = shrinks_keeps (word Spells) (front_shrinks (SaysWord Spells) never)

-- FAMILIES

family_keeps : (listed : Families) → Keeps (family_statement listed)
family_keeps listed end tokens rest value (family, mid, here, (unicast, next, second, (ended, last, closed, is))) =
    omega (
      arith,
      front_passed tokens mid here.0 here.1 here.4,
      word_keeps (IsText (codes "unicast")) end mid next unicast second,
      sign_keeps 59 end next last ended closed,
      saying_keeps _ end last rest value is,
    )

pub families_keep : Keeps families_at
families_keep end tokens rest value (opened, mid, here, (listed, next, all, (closed, last, ended, is))) =
    omega (
      arith,
      sign_keeps 123 end tokens mid opened here,
      until_keeps (is_sign 125) family_statement family_keeps end no_family mid next listed all,
      sign_keeps 125 end next last closed ended,
      saying_keeps listed end last rest value is,
    )

-- CAPABILITIES

offer_keeps : (written : Capabilities) (which : Capability) → Keeps (capability_operand written which)
offer_keeps written offers.AddPath end tokens rest value (ways, mid, here, is) =
    omega (arith, word_keeps IsWays end tokens mid ways here, saying_keeps _ end mid rest value is)
offer_keeps written offers.RouteRefresh end tokens rest value (offer, mid, here, is) =
    omega (arith, word_keeps IsOffer end tokens mid offer here, saying_keeps _ end mid rest value is)
offer_keeps written offers.Asn4 end tokens rest value (on, mid, here, is) =
    omega (arith, word_keeps (IsText (codes "enable")) end tokens mid on here, saying_keeps _ end mid rest value is)
offer_keeps written offers.ExtendedMessage end tokens rest value (offer, mid, here, is) =
    omega (arith, word_keeps IsOffer end tokens mid offer here, saying_keeps _ end mid rest value is)

capability_keeps : (written : Capabilities) → Keeps (capability_statement written)
capability_keeps written end tokens rest value (which, mid, here, (after, next, second, (ended, last, closed, is))) =
    omega (
      arith,
      front_passed tokens mid here.0 here.1 here.4,
      offer_keeps written which end mid next after second,
      sign_keeps 59 end next last ended closed,
      saying_keeps _ end last rest value is,
    )

pub capabilities_keep : Keeps capabilities_at
capabilities_keep end tokens rest value (opened, mid, here, (written, next, all, (closed, last, ended, is))) =
    omega (
      arith,
      sign_keeps 123 end tokens mid opened here,
      until_keeps (is_sign 125) capability_statement capability_keeps end no_capability mid next written all,
      sign_keeps 125 end next last closed ended,
      saying_keeps written end last rest value is,
    )

-- NAMES

named_keeps : Keeps section_name
named_keeps end tokens rest value is =
    either_keeps (is_sign 123 (front_token tokens)) (saying (tt {0})) (word IsName >>= λ name. saying (tt {0}))
    (saying_keeps (tt {0}))
    (then_keeps (word IsName) (λ name. saying (tt {0})) (word_keeps IsName) (λ name. saying_keeps (tt {0})))
    end tokens rest value is

opened_keeps : Keeps heard_opened
opened_keeps end tokens rest value (named, mid, here, (opened, next, second, (first, last, third, is))) =
    omega (
      arith,
      named_keeps end tokens mid named here,
      sign_keeps 123 end mid next opened second,
      word_keeps (IsText (codes "processes")) end next last first third,
      sign_keeps 91 end last rest value is,
    )

closed_keeps : Keeps heard_closed
closed_keeps end tokens rest value (complete, mid, here, (ended, next, second, is)) =
    omega (
      arith,
      sign_keeps 93 end tokens mid complete here,
      sign_keeps 59 end mid next ended second,
      sign_keeps 125 end next rest value is,
    )

listed_keeps : (heard : List Heard) → Keeps (names_listed heard)
listed_keeps heard end tokens rest value (first, mid, here, others) =
    omega (
      arith,
      name_shrinks heard end tokens mid first here,
      until_keeps (is_sign 93) further_heard (λ known. shrinks_keeps (further_heard known) (further_shrinks known)) end
          first mid rest value others,
    )

names_keep : (heard : List Heard) → Keeps (names_heard heard)
names_keep heard end tokens rest value is =
    either_keeps (is_sign 93 (front_token tokens)) (saying heard) (names_listed heard) (saying_keeps heard)
    (listed_keeps heard) end tokens rest value is

pub heard_keeps : (heard : List Heard) → Keeps (heard_at heard)
heard_keeps heard end tokens rest value (opened, mid, here, (all, next, second, (closed, last, third, is))) =
    omega (
      arith,
      opened_keeps end tokens mid opened here,
      names_keep heard end mid next all second,
      closed_keeps end next last closed third,
      saying_keeps all end last rest value is,
    )

-- STATIC ROUTES

pub statics_keep : (routes : List StaticRoute) → Keeps (statics_at routes)
statics_keep routes end tokens rest value (opened, mid, here, (all, next, second, (closed, last, third, is))) =
    omega (
      arith,
      sign_keeps 123 end tokens mid opened here,
      until_keeps (is_sign 125) route_statement
          (λ known. shrinks_keeps (route_statement known) (route_shrinks known)) end routes mid next all second,
      sign_keeps 125 end next last closed third,
      saying_keeps all end last rest value is,
    )

-- STATEMENTS OF A NEIGHBOUR

pub passed_shrinks : (passed : Unit {0}) → Shrinks (word_passed passed)
passed_shrinks passed =
    then_shrinks any_word (λ next. saying (tt {0})) (front_shrinks SaysBytes never) (λ next. saying_keeps (tt {0}))

pub passed_keep : Keeps words_passed
passed_keep end tokens rest value (first, mid, here, (all, next, second, is)) =
    omega (
      arith,
      passed_shrinks tt end tokens mid first here,
      until_keeps (is_sign 59) word_passed (λ known. shrinks_keeps (word_passed known) (passed_shrinks known)) end
          (tt {0}) mid next all second,
      sign_keeps 59 end next rest value is,
    )

pub local_keeps : (peer : Addr) → Keeps (local_at peer)
local_keeps peer end tokens rest value (local, mid, here, (ended, last, closed, is)) =
    omega (
      arith,
      front_passed tokens mid here.0 here.1 here.4,
      sign_keeps 59 end mid last ended closed,
      saying_keeps local end last rest value is,
    )

pub said_keeps : {V W : Type 0} (R : Rule V) (say : V → W) → Keeps R → Keeps (R >>= λ value. saying (say value))
said_keeps R say keeps = then_keeps R (λ value. saying (say value)) keeps (λ value. saying_keeps (say value))

pub operand_keeps : (peer : Addr) (written : NeighborWritten) (which : NeighborStatement)
    → Keeps (neighbor_operand peer written which)
operand_keeps peer written says.Description = said_keeps words_passed _ passed_keep
operand_keeps peer written says.RouterId = said_keeps (word_ended IsIpv4) _ (ended_keeps IsIpv4)
operand_keeps peer written says.LocalAddress = said_keeps (local_at peer) _ (local_keeps peer)
operand_keeps peer written says.LocalAs = said_keeps (word_ended IsAsn) _ (ended_keeps IsAsn)
operand_keeps peer written says.PeerAs = said_keeps (word_ended IsAsn) _ (ended_keeps IsAsn)
operand_keeps peer written says.HoldTime = said_keeps (word_ended IsHold) _ (ended_keeps IsHold)
operand_keeps peer written says.Connect = said_keeps (word_ended IsPort) _ (ended_keeps IsPort)
operand_keeps peer written says.Family = said_keeps families_at _ families_keep
operand_keeps peer written says.AddPath = said_keeps families_at _ families_keep
operand_keeps peer written says.Capability = said_keeps capabilities_at _ capabilities_keep
operand_keeps peer written says.Static = said_keeps (statics_at written.statics) _ (statics_keep written.statics)
operand_keeps peer written says.Api = said_keeps (heard_at written.heard) _ (heard_keeps written.heard)

pub stated_shrinks : (peer : Addr) (written : NeighborWritten) → Shrinks (neighbor_statement peer written)
stated_shrinks peer written end tokens rest value (which, mid, here, is) =
    omega (arith, front_passed tokens mid here.0 here.1 here.4, operand_keeps peer written which end mid rest value is)

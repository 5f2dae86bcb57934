-- The section of capabilities.
use Rattle.std.specs.Prelude.{ℕ, ◌≡◌, Bool, true, false, is_some, codes, List, Some, None}
use Rattle.config_model.specs.declared.fault.ConfigKind.TheVariants as kind
use Rattle.config_reader.specs.declared.keywords.Capability.{Capability}
use Rattle.config_reader.specs.declared.keywords.Capability.TheVariants.{AddPath, RouteRefresh, Asn4, ExtendedMessage}
use Rattle.config_reader.specs.declared.written.Capabilities.{Capabilities}
use Rattle.config_reader.specs.declared.written.Ways.{Ways}
use Rattle.config_reader.specs.Rules.{Rule, ◌>>=◌, saying, where_so, sign, is_sign, until}
use Rattle.config_reader.specs.Words.{word, word_or, keyword, IsSwitch}

-- the first word of each statement
abbrev pub capability_word : Capability → List ℕ
capability_word AddPath = codes "add-path"
capability_word RouteRefresh = codes "route-refresh"
capability_word Asn4 = codes "asn4"
capability_word ExtendedMessage = codes "extended-message"

abbrev pub IsCapability : List ℕ → Capability → Type 0
IsCapability text which = text ≡ capability_word which

-- the word of the ways in which path identifiers are offered
abbrev pub ways_word : Bool → Bool → List ℕ
ways_word false false = codes "disable"
ways_word true false = codes "send"
ways_word false true = codes "receive"
ways_word true true = codes "send/receive"

abbrev pub IsWays : List ℕ → Ways → Type 0
IsWays text ways = text ≡ ways_word ways.send ways.receive

-- whether something is offered
abbrev pub IsOffer : List ℕ → Bool → Type 0
IsOffer = IsSwitch (codes "disable") (codes "enable")

abbrev pub no_capability : Capabilities
no_capability = record { paths = None; refresh = None; asn4 = false; extended = None }

-- whether a statement is written
abbrev pub states : Capabilities → Capability → Bool
states written AddPath = is_some written.paths
states written RouteRefresh = is_some written.refresh
states written Asn4 = written.asn4
states written ExtendedMessage = is_some written.extended

-- what stands behind a statement's first word; the numbers of four bytes can't be left out
abbrev pub capability_operand : Capabilities → Capability → Rule Capabilities
capability_operand written AddPath = word IsWays >>= λ ways. saying (record written { paths = Some ways })
capability_operand written RouteRefresh = word IsOffer >>= λ offer. saying (record written { refresh = Some offer })
capability_operand written Asn4 = keyword (codes "enable") >>= λ on. saying (record written { asn4 = true })
capability_operand written ExtendedMessage =
    word IsOffer >>= λ offer. saying (record written { extended = Some offer })

-- a statement, which stands once at most
abbrev pub capability_statement : Capabilities → Rule Capabilities
capability_statement written = do
  which ← word_or IsCapability (λ which. where_so kind.Twice (states written which))
  after ← capability_operand written which
  ended ← sign 59
  saying after

-- capabilities up to a closing brace, and between braces
abbrev pub capabilities_written : Rule Capabilities
capabilities_written = until (is_sign 125) capability_statement no_capability

abbrev pub capabilities_at : Rule Capabilities
capabilities_at = do
  opened ← sign 123
  written ← capabilities_written
  closed ← sign 125
  saying written

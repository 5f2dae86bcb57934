-- Sections and files have one outcome each.
use Rattle.std.proofs.Common.{ℕ, ◌≡◌, ◌<◌, ◌≤◌, ◌+◌, ◌⊎◌, Bool, true, false, not, nat_lt, is_some, codes, List, []}
use Rattle.std.proofs.Common.{◌∷◌, ◌++◌, length, Option, Some, None, refl, sym, ◌∙◌, ap, subst, inl, inr, arith}
use Rattle.route_values.specs.declared.addr.Addr.{Addr}
use Rattle.text_forms.specs.Addresses.{IsIpv4}
use Rattle.text_forms.specs.Families.{IsAddrText, IsBlockText}
use Rattle.text_forms.specs.Numbers.{IsAsn}
use Rattle.text_forms.proofs.AddressLemmas.{ipv4_one}
use Rattle.text_forms.proofs.AsnLemmas.{asn_one}
use Rattle.text_forms.proofs.FamilyLemmas.{addr_one, block_one}
use Rattle.route_values.specs.Addr.{family_of}
use Rattle.config_model.specs.declared.fault.ConfigKind.TheVariants as kind
use Rattle.config_model.specs.declared.sections.Neighbor.{Neighbor as NeighborRecord}
use Rattle.config_model.specs.declared.sections.Process.{Process as ProcessRecord}
use Rattle.config_model.specs.declared.sections.StaticRoute.{StaticRoute}
use Rattle.config_model.specs.declared.slots.Slots.{Slots}
use Rattle.config_model.specs.Sections.{place_of_name, place_of_peer}
use Rattle.config_reader.specs.declared.keywords.Capability.{Capability}
use Rattle.config_reader.specs.declared.keywords.Capability.TheVariants as offers
use Rattle.config_reader.specs.declared.keywords.NeighborStatement.{NeighborStatement}
use Rattle.config_reader.specs.declared.keywords.NeighborStatement.TheVariants as says
use Rattle.config_reader.specs.declared.keywords.ProcessStatement.{ProcessStatement}
use Rattle.config_reader.specs.declared.keywords.ProcessStatement.TheVariants.{Run, Encoder, Respawn}
use Rattle.config_reader.specs.declared.keywords.Section.{Section}
use Rattle.config_reader.specs.declared.keywords.Section.TheVariants.{Process, Neighbor}
use Rattle.config_reader.specs.declared.written.Capabilities.{Capabilities}
use Rattle.config_reader.specs.declared.written.Families.{Families}
use Rattle.config_reader.specs.declared.written.FileRead.{FileRead}
use Rattle.config_reader.specs.declared.written.Heard.{Heard}
use Rattle.config_reader.specs.declared.written.NeighborWritten.{NeighborWritten}
use Rattle.config_reader.specs.declared.written.ProcessWritten.{ProcessWritten}
use Rattle.config_reader.specs.Capabilities.{IsCapability, IsOffer, IsWays, capabilities_at, capabilities_written}
use Rattle.config_reader.specs.Capabilities.{capability_operand, capability_statement, no_capability, states}
use Rattle.config_reader.specs.Families.{IsFamilyWord, families_at, families_listed, family_statement, lists, no_family}
use Rattle.config_reader.specs.Families.{with_family}
use Rattle.config_reader.specs.Files.{IsSection, is_full, nothing_read, section_at, section_body, sections_read}
use Rattle.config_reader.specs.Files.{with_heard, with_read}
use Rattle.config_reader.specs.Heard.{comma_heard, further_heard, heard_at, heard_closed, heard_opened, name_heard}
use Rattle.config_reader.specs.Heard.{names_further, names_heard, names_listed, section_name}
use Rattle.config_reader.specs.Neighbors.{IsNeighborStatement, local_at, neighbor_at, neighbor_closed, neighbor_has}
use Rattle.config_reader.specs.Neighbors.{neighbor_operand, neighbor_statement, neighbor_statements}
use Rattle.config_reader.specs.Neighbors.{neighbor_unwritten, neighbor_wrong, same_family, settings_written}
use Rattle.config_reader.specs.Neighbors.{neighbor_read, word_passed, words_further, words_passed}
use Rattle.config_reader.specs.Processes.{IsEncoder, IsProcessStatement, IsTruth, joined, process_at, process_closed}
use Rattle.config_reader.specs.Processes.{process_has, process_of, process_operand, process_statement}
use Rattle.config_reader.specs.Processes.{process_statements, process_unwritten, run_words, words_joined}
use Rattle.config_reader.specs.Rules.{Rule, ◌>>=◌, given, here, is_end, is_sign, never, saying, sign, sign_or, until}
use Rattle.config_reader.specs.Rules.{where_so}
use Rattle.config_reader.specs.Statics.{items_at, route_of, route_statement, route_wrong, statics_at}
use Rattle.config_reader.specs.Words.{IsHold, IsName, IsPort, any_word, keyword, word, word_ended, word_or}
use Rattle.config_reader.proofs.OneLemmas.{Decides, any_word_decides, by_front_decides, ended_decides, given_decides}
use Rattle.config_reader.proofs.OneLemmas.{here_decides, keyword_decides, saying_decides, sign_decides, then_decides}
use Rattle.config_reader.proofs.OneLemmas.{until_decides, word_decides}
use Rattle.config_reader.proofs.ItemOneLemmas.{items_decide}
use Rattle.config_reader.proofs.WordOneLemmas.{capability_one, encoder_one, family_one, hold_one, name_one}
use Rattle.config_reader.proofs.WordOneLemmas.{neighbor_statement_one, offer_one, port_one, process_statement_one}
use Rattle.config_reader.proofs.WordOneLemmas.{section_one, truth_one, ways_one}

-- a rule, and what is said of its value
said_decides : {V W : Type 0} (R : Rule V) (say : V → W) → Decides R → Decides (R >>= λ value. saying (say value))
said_decides R say decides = then_decides R (λ value. saying (say value)) decides (λ value. saying_decides (say value))

-- a value between two signs
between : {V : Type 0} (opening closing : ℕ) (R : Rule V) → Decides R
    → Decides (sign opening >>= λ opened. R >>= λ value. sign closing >>= λ closed. saying value)
between opening closing R decides =
    then_decides (sign opening) (λ opened. R >>= λ value. sign closing >>= λ closed. saying value)
    (sign_decides opening None)
    (λ opened. then_decides R (λ value. sign closing >>= λ closed. saying value) decides
    (λ value. said_decides (sign closing) (λ closed. value) (sign_decides closing None)))

-- PROCESSES

joined_decides : (run : List ℕ) → Decides (joined run)
joined_decides run = said_decides any_word (λ next. run ++ 0 ∷ next) any_word_decides

words_decide : Decides words_joined
words_decide =
    then_decides any_word (λ first. until (is_sign 59) joined first) any_word_decides
    (λ first. until_decides (is_sign 59) joined joined_decides first)

run_decides : Decides run_words
run_decides =
    then_decides words_joined
    (λ run. sign_or 59 (where_so kind.Many (nat_lt 1024 (length run))) >>= λ ended. saying (record { items = run }))
    words_decide
    (λ run. said_decides (sign_or 59 (where_so kind.Many (nat_lt 1024 (length run)))) (λ ended. record { items = run })
    (sign_decides 59 (where_so kind.Many (nat_lt 1024 (length run)))))

process_said : (written : ProcessWritten) (which : ProcessStatement) → Decides (process_operand written which)
process_said written Run = said_decides run_words _ run_decides
process_said written Encoder = said_decides (word_ended IsEncoder) _ (ended_decides IsEncoder encoder_one)
process_said written Respawn = said_decides (word_ended IsTruth) _ (ended_decides IsTruth truth_one)

process_stated : (written : ProcessWritten) → Decides (process_statement written)
process_stated written =
    then_decides (word_or IsProcessStatement (λ which. where_so kind.Twice (process_has written which)))
    (process_operand written) (word_decides IsProcessStatement _ process_statement_one) (process_said written)

process_decides : (stood : List ProcessRecord) → Decides (process_at stood)
process_decides stood =
    then_decides (word_or IsName (λ name. where_so kind.Twice (is_some (place_of_name stood name.items))))
    (λ name. sign 123 >>= λ opened. process_statements >>= λ written. process_closed name written)
    (word_decides IsName _ name_one)
    (λ name. then_decides (sign 123) (λ opened. process_statements >>= λ written. process_closed name written)
    (sign_decides 123 None)
    (λ opened. then_decides process_statements (process_closed name)
    (until_decides (is_sign 125) process_statement process_stated process_unwritten)
    (λ written. then_decides (sign_or 125 _) (λ closed. given (process_of name written)) (sign_decides 125 _)
    (λ closed. given_decides (process_of name written)))))

-- PARTS OF A NEIGHBOUR

family_stated : (listed : Families) → Decides (family_statement listed)
family_stated listed =
    then_decides (word_or IsFamilyWord (λ family. where_so kind.Twice (lists listed family)))
    (λ family. keyword (codes "unicast") >>= λ unicast. sign 59 >>= λ ended. saying (with_family listed family))
    (word_decides IsFamilyWord _ family_one)
    (λ family. then_decides (keyword (codes "unicast")) (λ unicast. sign 59 >>= λ ended. saying
    (with_family listed family)) (keyword_decides (codes "unicast"))
    (λ unicast. said_decides (sign 59) (λ ended. with_family listed family) (sign_decides 59 None)))

families_decide : Decides families_at
families_decide =
    between 123 125 families_listed (until_decides (is_sign 125) family_statement family_stated no_family)

capability_said : (written : Capabilities) (which : Capability) → Decides (capability_operand written which)
capability_said written offers.AddPath = said_decides (word IsWays) _ (word_decides IsWays never ways_one)
capability_said written offers.RouteRefresh = said_decides (word IsOffer) _ (word_decides IsOffer never offer_one)
capability_said written offers.Asn4 = said_decides (keyword (codes "enable")) _ (keyword_decides (codes "enable"))
capability_said written offers.ExtendedMessage = said_decides (word IsOffer) _ (word_decides IsOffer never offer_one)

capability_stated : (written : Capabilities) → Decides (capability_statement written)
capability_stated written =
    then_decides (word_or IsCapability (λ which. where_so kind.Twice (states written which)))
    (λ which. capability_operand written which >>= λ after. sign 59 >>= λ ended. saying after)
    (word_decides IsCapability _ capability_one)
    (λ which. then_decides (capability_operand written which) (λ after. sign 59 >>= λ ended. saying after)
    (capability_said written which)
    (λ after. said_decides (sign 59) (λ ended. after) (sign_decides 59 None)))

capabilities_decide : Decides capabilities_at
capabilities_decide =
    between 123 125 capabilities_written
    (until_decides (is_sign 125) capability_statement capability_stated no_capability)

name_decides : (heard : List Heard) → Decides (name_heard heard)
name_decides heard =
    then_decides here (λ place. word IsName >>= λ name. saying (heard ++ record { name = name; place = place } ∷ []))
    here_decides
    (λ place. said_decides (word IsName) (λ name. heard ++ record { name = name; place = place } ∷ [])
    (word_decides IsName never name_one))

further_decides : (heard : List Heard) → Decides (further_heard heard)
further_decides heard =
    by_front_decides (is_sign 44) (comma_heard heard) (name_heard heard)
    (then_decides (sign 44) (λ comma. name_heard heard) (sign_decides 44 None) (λ comma. name_decides heard))
    (name_decides heard)

names_decide : (heard : List Heard) → Decides (names_heard heard)
names_decide heard =
    by_front_decides (is_sign 93) (saying heard) (names_listed heard) (saying_decides heard)
    (then_decides (name_heard heard) names_further (name_decides heard)
    (until_decides (is_sign 93) further_heard further_decides))

opened_decides : Decides heard_opened
opened_decides =
    then_decides section_name (λ named. sign 123 >>= λ opened. keyword (codes "processes") >>= λ first. sign 91)
    (by_front_decides (is_sign 123) (saying (tt {0})) (word IsName >>= λ name. saying (tt {0}))
    (saying_decides (tt {0})) (said_decides (word IsName) (λ name. tt {0}) (word_decides IsName never name_one)))
    (λ named. then_decides (sign 123) (λ opened. keyword (codes "processes") >>= λ first. sign 91)
    (sign_decides 123 None)
    (λ opened. then_decides (keyword (codes "processes")) (λ first. sign 91) (keyword_decides (codes "processes"))
    (λ first. sign_decides 91 None)))

closed_decides : Decides heard_closed
closed_decides =
    then_decides (sign 93) (λ complete. sign 59 >>= λ ended. sign 125) (sign_decides 93 None)
    (λ complete. then_decides (sign 59) (λ ended. sign 125) (sign_decides 59 None) (λ ended. sign_decides 125 None))

heard_decides : (heard : List Heard) → Decides (heard_at heard)
heard_decides heard =
    then_decides heard_opened (λ opened. names_heard heard >>= λ all. heard_closed >>= λ closed. saying all)
    opened_decides
    (λ opened. then_decides (names_heard heard) (λ all. heard_closed >>= λ closed. saying all) (names_decide heard)
    (λ all. said_decides heard_closed (λ closed. all) closed_decides))

route_decides : (routes : List StaticRoute) → Decides (route_statement routes)
route_decides routes =
    then_decides (keyword (codes "route")) (λ first. word IsBlockText >>= λ block. items_at (family_of block.addr)
    >>= λ items. sign_or 59 (route_wrong routes block items) >>= λ ended. saying (routes ++ route_of block items ∷ []))
    (keyword_decides (codes "route"))
    (λ first. then_decides (word IsBlockText) (λ block. items_at (family_of block.addr)
    >>= λ items. sign_or 59 (route_wrong routes block items) >>= λ ended. saying (routes ++ route_of block items ∷ []))
    (word_decides IsBlockText never block_one)
    (λ block. then_decides (items_at (family_of block.addr)) (λ items. sign_or 59 (route_wrong routes block items)
    >>= λ ended. saying (routes ++ route_of block items ∷ [])) (items_decide (family_of block.addr))
    (λ items. said_decides (sign_or 59 (route_wrong routes block items)) (λ ended. routes ++ route_of block items ∷ [])
    (sign_decides 59 (route_wrong routes block items)))))

statics_decide : (routes : List StaticRoute) → Decides (statics_at routes)
statics_decide routes =
    between 123 125 (until (is_sign 125) route_statement routes)
    (until_decides (is_sign 125) route_statement route_decides routes)

-- NEIGHBOURS

passed_decides : (passed : Unit {0}) → Decides (word_passed passed)
passed_decides passed = said_decides any_word (λ next. tt {0}) any_word_decides

words_passed_decide : Decides words_passed
words_passed_decide =
    then_decides (word_passed tt) (λ first. words_further >>= λ all. sign 59) (passed_decides tt)
    (λ first. then_decides words_further (λ all. sign 59) (until_decides (is_sign 59) word_passed passed_decides tt)
    (λ all. sign_decides 59 None))

local_decides : (peer : Addr) → Decides (local_at peer)
local_decides peer =
    then_decides (word_or IsAddrText (λ local. where_so kind.Family (not (same_family local peer))))
    (λ local. sign 59 >>= λ ended. saying local) (word_decides IsAddrText _ addr_one)
    (λ local. said_decides (sign 59) (λ ended. local) (sign_decides 59 None))

neighbor_said : (peer : Addr) (written : NeighborWritten) (which : NeighborStatement)
    → Decides (neighbor_operand peer written which)
neighbor_said peer written says.Description = said_decides words_passed _ words_passed_decide
neighbor_said peer written says.RouterId = said_decides (word_ended IsIpv4) _ (ended_decides IsIpv4 ipv4_one)
neighbor_said peer written says.LocalAddress = said_decides (local_at peer) _ (local_decides peer)
neighbor_said peer written says.LocalAs = said_decides (word_ended IsAsn) _ (ended_decides IsAsn asn_one)
neighbor_said peer written says.PeerAs = said_decides (word_ended IsAsn) _ (ended_decides IsAsn asn_one)
neighbor_said peer written says.HoldTime = said_decides (word_ended IsHold) _ (ended_decides IsHold hold_one)
neighbor_said peer written says.Connect = said_decides (word_ended IsPort) _ (ended_decides IsPort port_one)
neighbor_said peer written says.Family = said_decides families_at _ families_decide
neighbor_said peer written says.AddPath = said_decides families_at _ families_decide
neighbor_said peer written says.Capability = said_decides capabilities_at _ capabilities_decide
neighbor_said peer written says.Static = said_decides (statics_at written.statics) _ (statics_decide written.statics)
neighbor_said peer written says.Api = said_decides (heard_at written.heard) _ (heard_decides written.heard)

neighbor_stated : (peer : Addr) (written : NeighborWritten) → Decides (neighbor_statement peer written)
neighbor_stated peer written =
    then_decides (word_or IsNeighborStatement (λ which. where_so kind.Twice (neighbor_has written which)))
    (neighbor_operand peer written) (word_decides IsNeighborStatement _ neighbor_statement_one)
    (neighbor_said peer written)

neighbor_decides : (before : List NeighborRecord) → Decides (neighbor_at before)
neighbor_decides before =
    then_decides (word_or IsAddrText (λ peer. where_so kind.Twice (is_some (place_of_peer before peer))))
    (λ peer. sign 123 >>= λ opened. neighbor_statements peer >>= λ written. neighbor_closed peer written)
    (word_decides IsAddrText _ addr_one)
    (λ peer. then_decides (sign 123) (λ opened. neighbor_statements peer >>= λ written. neighbor_closed peer written)
    (sign_decides 123 None)
    (λ opened. then_decides (neighbor_statements peer) (neighbor_closed peer)
    (until_decides (is_sign 125) (neighbor_statement peer) (neighbor_stated peer) neighbor_unwritten)
    (λ written. then_decides (sign_or 125 (neighbor_wrong (settings_written peer written) written)) _
    (sign_decides 125 (neighbor_wrong (settings_written peer written) written)) (λ closed. given_decides _))))

-- FILES

body_decides : (read : FileRead) (which : Section) → Decides (section_body read which)
body_decides read Process = said_decides (process_at read.sections.processes) _
    (process_decides read.sections.processes)
body_decides read Neighbor = said_decides (neighbor_at read.sections.neighbors) _
    (neighbor_decides read.sections.neighbors)

section_decides : (slots : Slots) (read : FileRead) → Decides (section_at slots read)
section_decides slots read =
    then_decides (word_or IsSection (λ which. where_so kind.Many (is_full slots read.sections which)))
    (section_body read) (word_decides IsSection _ section_one) (body_decides read)

pub sections_decide : (slots : Slots) → Decides (sections_read slots)
sections_decide slots = until_decides is_end (section_at slots) (section_decides slots) nothing_read

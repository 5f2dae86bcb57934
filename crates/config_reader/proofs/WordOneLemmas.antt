-- The words of a file spell one value each.
use Rattle.std.proofs.Common.{ℕ, ◌≡◌, Bool, true, false, codes, List, [], ◌∷◌, Option, Some, None, refl, sym, ◌∙◌, ap}
use Rattle.std.proofs.Common.{subst, arith}
use Rattle.std.specs.Prelude.{bytes_eq, find}
use Rattle.arrayvec.specs.ArrayVec.{ArrayVec}
use Rattle.route_values.specs.declared.addr.Family.{Family}
use Rattle.route_values.specs.declared.addr.Family.TheVariants.{Ipv4, Ipv6}
use Rattle.text_forms.proofs.DecimalLemmas.{number_one}
use Rattle.config_reader.specs.declared.keywords.Capability.{Capability}
use Rattle.config_reader.specs.declared.keywords.Capability.TheVariants.{AddPath, RouteRefresh, Asn4, ExtendedMessage}
use Rattle.config_reader.specs.declared.keywords.NeighborStatement.{NeighborStatement}
use Rattle.config_reader.specs.declared.keywords.NeighborStatement.TheVariants as says
use Rattle.config_reader.specs.declared.keywords.ProcessStatement.{ProcessStatement}
use Rattle.config_reader.specs.declared.keywords.ProcessStatement.TheVariants.{Run, Encoder, Respawn}
use Rattle.config_reader.specs.declared.keywords.Section.{Section}
use Rattle.config_reader.specs.declared.keywords.Section.TheVariants.{Process, Neighbor}
use Rattle.config_reader.specs.declared.written.Ways.{Ways}
use Rattle.config_reader.specs.Capabilities.{IsCapability, IsOffer, IsWays, capability_word, ways_word}
use Rattle.config_reader.specs.Families.{IsFamilyWord, family_word}
use Rattle.config_reader.specs.Files.{IsSection, section_word}
use Rattle.config_reader.specs.Neighbors.{IsNeighborStatement, neighbor_word}
use Rattle.config_reader.specs.Processes.{IsEncoder, IsProcessStatement, IsTruth, process_word}
use Rattle.config_reader.specs.Words.{IsHold, IsName, IsPort, IsSwitch}
use Rattle.config_reader.proofs.OneLemmas.{SpellsOne}

-- words that can be told from each other
told : {X : Type 0} → (X → List ℕ) → List X → List ℕ → Option X
told spell all text = find (λ one. bytes_eq text (spell one)) all

told_one : {X : Type 0} (spell : X → List ℕ) (all : List X) → ((which : X) → told spell all (spell which) ≡ Some which)
    → (text : List ℕ) (one other : X) → text ≡ spell one → text ≡ spell other → one ≡ other
told_one spell all found text one other is also =
    let same : Some one ≡ Some other = sym (found one) ∙ ap (told spell all) (sym is ∙ also) ∙ found other in cc

sections_told : (which : Section) → told section_word (Process ∷ Neighbor ∷ []) (section_word which) ≡ Some which
unfolding told
sections_told Process = refl
sections_told Neighbor = refl

pub section_one : SpellsOne IsSection
section_one text one other is also = told_one section_word
    (Process ∷ Neighbor ∷ []) sections_told text one other is also

process_statements : List ProcessStatement
process_statements = Run ∷ Encoder ∷ Respawn ∷ []

processes_told : (which : ProcessStatement) → told process_word process_statements (process_word which) ≡ Some which
unfolding told process_statements
processes_told Run = refl
processes_told Encoder = refl
processes_told Respawn = refl

pub process_statement_one : SpellsOne IsProcessStatement
process_statement_one text one other is also =
    told_one process_word process_statements processes_told text one other is also

neighbor_statements : List NeighborStatement
neighbor_statements =
    says.Description ∷ says.RouterId ∷ says.LocalAddress ∷ says.LocalAs ∷ says.PeerAs ∷ says.HoldTime ∷ says.Connect
    ∷ says.Family ∷ says.AddPath ∷ says.Capability ∷ says.Static ∷ says.Api ∷ []

neighbors_told : (which : NeighborStatement)
    → told neighbor_word neighbor_statements (neighbor_word which) ≡ Some which
unfolding told neighbor_statements
neighbors_told says.Description = refl
neighbors_told says.RouterId = refl
neighbors_told says.LocalAddress = refl
neighbors_told says.LocalAs = refl
neighbors_told says.PeerAs = refl
neighbors_told says.HoldTime = refl
neighbors_told says.Connect = refl
neighbors_told says.Family = refl
neighbors_told says.AddPath = refl
neighbors_told says.Capability = refl
neighbors_told says.Static = refl
neighbors_told says.Api = refl

pub neighbor_statement_one : SpellsOne IsNeighborStatement
neighbor_statement_one text one other is also =
    told_one neighbor_word neighbor_statements neighbors_told text one other is also

capabilities : List Capability
capabilities = AddPath ∷ RouteRefresh ∷ Asn4 ∷ ExtendedMessage ∷ []

capabilities_told : (which : Capability) → told capability_word capabilities (capability_word which) ≡ Some which
unfolding told capabilities
capabilities_told AddPath = refl
capabilities_told RouteRefresh = refl
capabilities_told Asn4 = refl
capabilities_told ExtendedMessage = refl

pub capability_one : SpellsOne IsCapability
capability_one text one other is also =
    told_one capability_word capabilities capabilities_told text one other is also

families_told : (which : Family) → told family_word (Ipv4 ∷ Ipv6 ∷ []) (family_word which) ≡ Some which
unfolding told
families_told Ipv4 = refl
families_told Ipv6 = refl

pub family_one : SpellsOne IsFamilyWord
family_one text one other is also = told_one family_word (Ipv4 ∷ Ipv6 ∷ []) families_told text one other is also

way : Bool → Bool → Ways
way send receive = record { send = send; receive = receive }

way_word : Ways → List ℕ
way_word ways = ways_word ways.send ways.receive

all_ways : List Ways
all_ways = way false false ∷ way true false ∷ way false true ∷ way true true ∷ []

ways_told : (send receive : Bool) → told way_word all_ways (ways_word send receive) ≡ Some (way send receive)
unfolding told way way_word all_ways
ways_told false false = refl
ways_told true false = refl
ways_told false true = refl
ways_told true true = refl

pub ways_one : SpellsOne IsWays
unfolding way way_word
ways_one text one other is also =
    told_one way_word all_ways (λ ways. ways_told ways.send ways.receive) text one other is also

-- ONE OF TWO

switch_one : (off on text : List ℕ) (one other : Bool) → bytes_eq off on ≡ false → bytes_eq on on ≡ true
    → IsSwitch off on text one → IsSwitch off on text other → one ≡ other
switch_one off on text true true apart same is also = refl
switch_one off on text false false apart same is also = refl
switch_one off on text true false apart same is also =
    let no : true ≡ false =
    sym same ∙ ap (λ (t : List ℕ). bytes_eq t on) (sym is ∙ also) ∙ apart in absurd (cc)
switch_one off on text false true apart same is also =
    let no : true ≡ false =
    sym same ∙ ap (λ (t : List ℕ). bytes_eq t on) (sym also ∙ is) ∙ apart in absurd (cc)

pub offer_one : SpellsOne IsOffer
offer_one text one other is also = switch_one (codes "disable") (codes "enable") text one other refl refl is also

pub encoder_one : SpellsOne IsEncoder
encoder_one text one other is also = switch_one (codes "text") (codes "json") text one other refl refl is also

pub truth_one : SpellsOne IsTruth
truth_one text one other is also = switch_one (codes "false") (codes "true") text one other refl refl is also

-- NAMES AND NUMBERS

pub name_one : SpellsOne IsName
name_one text one other is also =
    ap (λ (items : List ℕ). record { items = items }) (is.name_is ∙ sym also.name_is)

pub hold_one : SpellsOne IsHold
hold_one text one other (few, small, is) (few', small', is') =
    number_one text one other (omega arith) (omega arith) is is'

pub port_one : SpellsOne IsPort
port_one text one other (some, small, is) (some', small', is') =
    number_one text one other (omega arith) (omega arith) is is'

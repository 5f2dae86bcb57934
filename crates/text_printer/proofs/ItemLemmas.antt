-- The tokens of items, each read as its item.
use Rattle.std.proofs.Common.{if◌then◌else◌, ℕ, ◌≡◌, ◌<◌, ◌≤◌, ◌^◌, Bool, true, false, List, [], ◌∷◌, ◌++◌, length}
use Rattle.std.proofs.Common.{Option, Some, None}
use Rattle.std.proofs.Common.{codes, decimal, sym, refl, inl, inr, append-nil}
use Rattle.std.specs.List.{flat_map, AllByRecursion}
use Rattle.std.specs.Prelude.{IfSome}
use Rattle.route_values.specs.declared.addr.Addr.{Addr}
use Rattle.route_values.specs.declared.addr.Family.{Family}
use Rattle.route_values.specs.declared.attrs.Aggregator.{Aggregator}
use Rattle.route_values.specs.declared.attrs.Hop.TheVariants.{Is}
use Rattle.route_values.specs.declared.attrs.Large.{Large}
use Rattle.route_values.specs.declared.attrs.Origin.{Origin}
use Rattle.route_values.specs.declared.path.Segment.{Segment}
use Rattle.route_values.specs.Addr.{family_of, number_of, width_of}
use Rattle.route_values.specs.Limits.{numbers_in}
use Rattle.text_forms.specs.Addresses.{IsIpv4}
use Rattle.text_forms.specs.Printed.{ipv4_text, addr_text}
use Rattle.token_reader.specs.Tokens.{Token, Word}
use Rattle.route_grammar.specs.declared.items.Item.{Item}
use Rattle.route_grammar.specs.declared.items.Item.TheVariants as item
use Rattle.route_grammar.specs.declared.kind.Kind.{Kind}
use Rattle.route_grammar.specs.declared.kind.Kind.TheVariants as kind
use Rattle.route_grammar.specs.Communities.{IsCommunity, IsExtended, IsLarge as SpellsLarge}
use Rattle.route_grammar.specs.Items.{keyword, Operand, OneItem}
use Rattle.route_grammar.specs.Limits.{Counted, in_force}
use Rattle.route_grammar.specs.Limits as counted
use Rattle.route_grammar.specs.Lists.{ListOf}
use Rattle.route_grammar.specs.Productions.{OneWord, Saying, Repeated}
use Rattle.update_grammar.specs.Values.{IsNumber, IsAggregator, IsLarge, IsSegment}
use Rattle.text_printer.specs.Items.{opening_bracket, closing_bracket, named, named_if, stands_if, word_each, listed}
use Rattle.text_printer.specs.Items.{segment_tokens, path_tokens, origin_text, aggregator_text, community_text}
use Rattle.text_printer.specs.Items.{extended_text, large_text}
use Rattle.text_printer.specs.Plain.{merged}
use Rattle.text_printer.specs.Printable.{HasNoZero, IsFormedByAs}
use Rattle.text_printer.proofs.PathLemmas.{path_read}
use Rattle.text_printer.proofs.SaidLemmas.{hop_said, origin_said, id_said, ipv4_said, community_said, aggregator_said}
use Rattle.text_printer.proofs.SaidLemmas.{large_said, words_said}

-- one item, where its value is present
abbrev pub item_if : {V : Type 0} → (V → Item) → Option V → List Item
item_if say None = []
item_if say (Some value) = say value ∷ []

-- one item, where it stands
abbrev pub item_where : Item → Bool → List Item
item_where one stands = if stands then (one ∷ []) else []

-- one item, unless its list is empty
abbrev pub item_some : {V : Type 0} → (List V → Item) → List V → List Item
item_some say [] = []
item_some say (value ∷ values) = say (value ∷ values) ∷ []

-- a row of one item
pub one_row : (family : Option Family) (text : List Token) (one : Item) → OneItem family in_force text one
    → Repeated (OneItem family) in_force text (one ∷ [])
one_row family text one read = (text, [], sym (append-nil text), read, refl)

-- an item of a kind, by its operand
pub item_read : (family : Option Family) (which : Kind) (back : List Token) (one : Item)
    → Operand family which in_force back one → OneItem family in_force (Word (keyword which) ∷ back) one
item_read family which back one read =
    (which, Word (keyword which) ∷ [], back, refl, (keyword which, refl, refl), read)

-- one word behind an item's own says its value
pub word_operand : {V : Type 0} (Spells : List ℕ → V → Type 0) (say : V → Item) (word : List ℕ) (value : V)
    → Spells word value → Saying say (OneWord Spells) in_force (Word word ∷ []) (say value)
word_operand Spells say word value is = (value, refl, (word, refl, is))

-- and so does a list between brackets, of no more values than there may be
pub list_operand : {V : Type 0} (which : Counted) (Spells : List ℕ → V → Type 0) (Fit : V → Type 0)
    (say : List V → Item) (text : V → List ℕ) (values : List V) → ((one : V) → Fit one → Spells (text one) one)
    → AllByRecursion Fit values → length values ≤ in_force which
    → Saying say (ListOf which Spells) in_force
    (opening_bracket ∷ (word_each text values ++ closing_bracket ∷ [])) (say values)
list_operand which Spells Fit say text values said fit few = (
  values,
  refl,
  inr (word_each text values, refl, words_said Spells Fit text in_force values said fit, few),
)

-- the next hop, which has the prefixes' family
pub hop_row : (family : Family) (hop : Addr) → number_of hop < 2 ^ width_of hop → family_of hop ≡ family
    → Repeated (OneItem (Some family)) in_force (named (codes "next-hop") (addr_text hop)) (item.NextHop (Is hop) ∷ [])
hop_row family hop fits is =
    one_row (Some family) (named (codes "next-hop") (addr_text hop)) (item.NextHop (Is hop))
    (item_read (Some family) kind.NextHop (Word (addr_text hop) ∷ []) (item.NextHop (Is hop))
    (Is hop, refl, (addr_text hop, refl, hop_said family hop fits is)))

pub origin_row : (family : Option Family) (origin : Origin)
    → Repeated (OneItem family) in_force (named (codes "origin") (origin_text origin)) (item.Origin origin ∷ [])
origin_row family origin =
    one_row family (named (codes "origin") (origin_text origin)) (item.Origin origin)
    (item_read family kind.Origin (Word (origin_text origin) ∷ []) (item.Origin origin)
    (origin, refl, (origin_text origin, refl, origin_said origin)))

-- the path, also an empty one
pub path_row : (family : Option Family) (path : List Segment) → AllByRecursion HasNoZero path
    → AllByRecursion IsSegment path → numbers_in path ≤ 255
    → Repeated (OneItem family) in_force (path_tokens path) (item.Path (merged path) ∷ [])
path_row family path some are few =
    one_row family (path_tokens path) (item.Path (merged path))
    (item_read family kind.Path (opening_bracket ∷ (flat_map segment_tokens path ++ closing_bracket ∷ []))
    (item.Path (merged path)) (merged path, refl, path_read path some are few))

-- a number, where it is present
pub med_row : (family : Option Family) (value : Option ℕ) → IfSome value IsNumber
    → Repeated (OneItem family) in_force (named_if (codes "med") decimal value) (item_if item.Med value)
med_row family None small = refl
med_row family (Some number) small =
    one_row family (named (codes "med") (decimal number)) (item.Med number)
    (item_read family kind.Med (Word (decimal number) ∷ []) (item.Med number)
    (number, refl, (decimal number, refl, (small, refl))))

pub local_pref_row : (family : Option Family) (value : Option ℕ) → IfSome value IsNumber
    → Repeated (OneItem family) in_force (named_if (codes "local-preference") decimal value)
    (item_if item.LocalPref value)
local_pref_row family None small = refl
local_pref_row family (Some number) small =
    one_row family (named (codes "local-preference") (decimal number)) (item.LocalPref number)
    (item_read family kind.LocalPref (Word (decimal number) ∷ []) (item.LocalPref number)
    (number, refl, (decimal number, refl, (small, refl))))

pub atomic_row : (family : Option Family) (stands : Bool)
    → Repeated (OneItem family) in_force (stands_if (codes "atomic-aggregate") stands) (item_where item.Atomic stands)
atomic_row family true =
    one_row family (Word (codes "atomic-aggregate") ∷ []) item.Atomic
    (item_read family kind.Atomic [] item.Atomic (refl, refl))
atomic_row family false = refl

pub aggregator_row : (family : Option Family) (value : Option Aggregator) → IfSome value IsAggregator
    → IfSome value IsFormedByAs
    → Repeated (OneItem family) in_force (named_if (codes "aggregator") aggregator_text value)
    (item_if item.Aggregator value)
aggregator_row family None is some = refl
aggregator_row family (Some by) is some =
    one_row family (named (codes "aggregator") (aggregator_text by)) (item.Aggregator by)
    (item_read family kind.Aggregator (Word (aggregator_text by) ∷ []) (item.Aggregator by)
    (by, refl, (aggregator_text by, aggregator_said by is some, inl refl)))

pub communities_row : (family : Option Family) (numbers : List ℕ) → AllByRecursion IsNumber numbers
    → length numbers ≤ 200
    → Repeated (OneItem family) in_force (listed (codes "community") community_text numbers)
    (item_some item.Communities numbers)
communities_row family [] small few = refl
communities_row family (number ∷ numbers) small few =
    one_row family (listed (codes "community") community_text (number ∷ numbers))
    (item.Communities (number ∷ numbers))
    (item_read family kind.Communities _ (item.Communities (number ∷ numbers))
    (list_operand counted.Communities IsCommunity IsNumber item.Communities community_text (number ∷ numbers)
    community_said small few))

pub originator_row : (family : Option Family) (value : Option ℕ) → IfSome value IsNumber
    → Repeated (OneItem family) in_force (named_if (codes "originator-id") ipv4_text value)
    (item_if item.Originator value)
originator_row family None small = refl
originator_row family (Some number) small =
    one_row family (named (codes "originator-id") (ipv4_text number)) (item.Originator number)
    (item_read family kind.Originator (Word (ipv4_text number) ∷ []) (item.Originator number)
    (number, refl, (ipv4_text number, refl, ipv4_said number small)))

pub clusters_row : (family : Option Family) (numbers : List ℕ) → AllByRecursion IsNumber numbers → length numbers ≤ 32
    → Repeated (OneItem family) in_force (listed (codes "cluster-list") ipv4_text numbers)
    (item_some item.Clusters numbers)
clusters_row family [] small few = refl
clusters_row family (number ∷ numbers) small few =
    one_row family (listed (codes "cluster-list") ipv4_text (number ∷ numbers)) (item.Clusters (number ∷ numbers))
    (item_read family kind.Clusters _ (item.Clusters (number ∷ numbers))
    (list_operand counted.Clusters IsIpv4 IsNumber item.Clusters ipv4_text (number ∷ numbers) ipv4_said small few))

pub extended_row : (family : Option Family) (exts : List (List ℕ)) (Fit : List ℕ → Type 0)
    → ((one : List ℕ) → Fit one → IsExtended (extended_text one) one) → AllByRecursion Fit exts → length exts ≤ 64
    → Repeated (OneItem family) in_force (listed (codes "extended-community") extended_text exts)
    (item_some item.Extended exts)
extended_row family [] Fit said are few = refl
extended_row family (ext ∷ exts) Fit said are few =
    one_row family (listed (codes "extended-community") extended_text (ext ∷ exts)) (item.Extended (ext ∷ exts))
    (item_read family kind.Extended _ (item.Extended (ext ∷ exts))
    (list_operand counted.Extended IsExtended Fit item.Extended extended_text (ext ∷ exts) said are few))

pub large_row : (family : Option Family) (larges : List Large) → AllByRecursion IsLarge larges → length larges ≤ 64
    → Repeated (OneItem family) in_force (listed (codes "large-community") large_text larges)
    (item_some item.Large larges)
large_row family [] are few = refl
large_row family (large ∷ larges) are few =
    one_row family (listed (codes "large-community") large_text (large ∷ larges)) (item.Large (large ∷ larges))
    (item_read family kind.Large _ (item.Large (large ∷ larges))
    (list_operand counted.Large SpellsLarge IsLarge item.Large large_text (large ∷ larges) large_said are few))

pub id_row : (family : Option Family) (id : ℕ) → id < 2 ^ 32
    → Repeated (OneItem family) in_force (named (codes "path-information") (decimal id)) (item.PathId id ∷ [])
id_row family id small =
    one_row family (named (codes "path-information") (decimal id)) (item.PathId id)
    (item_read family kind.PathId (Word (decimal id) ∷ []) (item.PathId id)
    (id, refl, (decimal id, refl, id_said id small)))

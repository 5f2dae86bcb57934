-- Route items: what each says, and what they say together.
use Rattle.std.specs.Prelude.{ℕ, ◌≡◌, ◌==◌, Bool, true, false, codes, bytes_eq, List, [], ◌∷◌, Option, Some}
use Rattle.std.specs.List.{list_any}
use Rattle.route_values.specs.declared.addr.Family.{Family}
use Rattle.route_values.specs.declared.attrs.Hop.TheVariants.{Own}
use Rattle.route_values.specs.Attrs.{unwritten}
use Rattle.text_forms.specs.Addresses.{IsIpv4}
use Rattle.token_reader.specs.Tokens.{Word}
use Rattle.route_grammar.specs.declared.kind.Kind.{Kind}
use Rattle.route_grammar.specs.declared.kind.Kind.TheVariants as kind
use Rattle.route_grammar.specs.declared.items.Item.{Item}
use Rattle.route_grammar.specs.declared.items.Item.TheVariants as item
use Rattle.route_grammar.specs.declared.items.Items.{Items}
use Rattle.route_grammar.specs.Limits.{Limits}
use Rattle.route_grammar.specs.Limits as counted
use Rattle.route_grammar.specs.Productions.{Production, Further, OneToken, OneWord, Then, Saying, Row}
use Rattle.route_grammar.specs.Numbers.{IsNumber, IsPathId, IsHop, IsOrigin}
use Rattle.route_grammar.specs.Communities.{IsCommunity, IsExtended, IsLarge, IsAggregator}
use Rattle.route_grammar.specs.Lists.{ListOf, AloneOrIn, OnePath}

-- the word that an item begins with
abbrev pub keyword : Kind → List ℕ
keyword kind.NextHop = codes "next-hop"
keyword kind.Origin = codes "origin"
keyword kind.Path = codes "as-path"
keyword kind.Med = codes "med"
keyword kind.LocalPref = codes "local-preference"
keyword kind.Atomic = codes "atomic-aggregate"
keyword kind.Aggregator = codes "aggregator"
keyword kind.Communities = codes "community"
keyword kind.Originator = codes "originator-id"
keyword kind.Clusters = codes "cluster-list"
keyword kind.Extended = codes "extended-community"
keyword kind.Large = codes "large-community"
keyword kind.PathId = codes "path-information"

abbrev pub all_kinds : List Kind
all_kinds =
    kind.NextHop ∷ kind.Origin ∷ kind.Path ∷ kind.Med ∷ kind.LocalPref ∷ kind.Atomic ∷ kind.Aggregator
    ∷ kind.Communities ∷ kind.Originator ∷ kind.Clusters ∷ kind.Extended ∷ kind.Large ∷ kind.PathId ∷ []

-- no operand
abbrev pub Alone : {V : Type 0} → V → Production V
Alone value limits tokens said = (tokens ≡ []) × (said ≡ value)

-- what stands behind the word
abbrev pub Operand : Option Family → Kind → Production Item
Operand family kind.NextHop = Saying item.NextHop (OneWord (IsHop family))
Operand family kind.Origin = Saying item.Origin (OneWord IsOrigin)
Operand family kind.Path = Saying item.Path OnePath
Operand family kind.Med = Saying item.Med (OneWord IsNumber)
Operand family kind.LocalPref = Saying item.LocalPref (OneWord IsNumber)
Operand family kind.Atomic = Alone item.Atomic
Operand family kind.Aggregator = Saying item.Aggregator (AloneOrIn IsAggregator)
Operand family kind.Communities = Saying item.Communities (ListOf counted.Communities IsCommunity)
Operand family kind.Originator = Saying item.Originator (OneWord IsIpv4)
Operand family kind.Clusters = Saying item.Clusters (ListOf counted.Clusters IsIpv4)
Operand family kind.Extended = Saying item.Extended (ListOf counted.Extended IsExtended)
Operand family kind.Large = Saying item.Large (ListOf counted.Large IsLarge)
Operand family kind.PathId = Saying item.PathId (OneWord IsPathId)

-- the kind of an item
abbrev pub kind_of : Item → Kind
kind_of (item.NextHop hop) = kind.NextHop
kind_of (item.Origin origin) = kind.Origin
kind_of (item.Path path) = kind.Path
kind_of (item.Med number) = kind.Med
kind_of (item.LocalPref number) = kind.LocalPref
kind_of item.Atomic = kind.Atomic
kind_of (item.Aggregator aggregator) = kind.Aggregator
kind_of (item.Communities numbers) = kind.Communities
kind_of (item.Originator number) = kind.Originator
kind_of (item.Clusters numbers) = kind.Clusters
kind_of (item.Extended bytes) = kind.Extended
kind_of (item.Large larges) = kind.Large
kind_of (item.PathId id) = kind.PathId

-- a number for each kind, so that two of them can be compared
abbrev pub kind_code : Kind → ℕ
kind_code kind.NextHop = 0
kind_code kind.Origin = 1
kind_code kind.Path = 2
kind_code kind.Med = 3
kind_code kind.LocalPref = 4
kind_code kind.Atomic = 5
kind_code kind.Aggregator = 6
kind_code kind.Communities = 7
kind_code kind.Originator = 8
kind_code kind.Clusters = 9
kind_code kind.Extended = 10
kind_code kind.Large = 11
kind_code kind.PathId = 12

-- a kind that is among these
abbrev pub is_among : Kind → List Kind → Bool
is_among one kinds = list_any (λ other. kind_code other == kind_code one) kinds

-- one item: a word and its operand
abbrev pub IsKeyword : List ℕ → Kind → Type 0
IsKeyword word one = word ≡ keyword one

abbrev pub OneItem : Option Family → Production Item
OneItem family = Then (OneWord IsKeyword) (Operand family)

-- an item that begins with the word of a kind
abbrev pub ItemOf : Option Family → Kind → Production Item
ItemOf family one = Then (OneToken (Word (keyword one))) (λ word. Operand family one)

-- items of which none has one of these kinds, or the kind of another one
abbrev pub AllDiffer : List Kind → List Item → Type 0
AllDiffer seen [] = Unit {0}
AllDiffer seen (one ∷ items) = (is_among (kind_of one) seen ≡ false) × AllDiffer (kind_of one ∷ seen) items

-- an item on top of what is written already
abbrev pub put : Items → Item → Items
put read (item.NextHop hop) = record read { attrs = record read.attrs { hop = hop }; has_hop = true }
put read (item.Origin origin) = record read { attrs = record read.attrs { origin = Some origin } }
put read (item.Path path) = record read { attrs = record read.attrs { path = Some path } }
put read (item.Med number) = record read { attrs = record read.attrs { med = Some number } }
put read (item.LocalPref number) = record read { attrs = record read.attrs { local_pref = Some number } }
put read item.Atomic = record read { attrs = record read.attrs { atomic = true } }
put read (item.Aggregator aggregator) = record read { attrs = record read.attrs { aggregator = Some aggregator } }
put read (item.Communities numbers) = record read { attrs = record read.attrs { communities = numbers } }
put read (item.Originator number) = record read { attrs = record read.attrs { originator = Some number } }
put read (item.Clusters numbers) = record read { attrs = record read.attrs { clusters = numbers } }
put read (item.Extended bytes) = record read { attrs = record read.attrs { extended = bytes } }
put read (item.Large larges) = record read { attrs = record read.attrs { large = larges } }
put read (item.PathId id) = record read { id = id }

-- items on top of what is written already
abbrev pub put_all : Items → List Item → Items
put_all read [] = read
put_all read (one ∷ items) = put_all (put read one) items

-- nothing is written
abbrev pub none_written : Items
none_written = record { attrs = unwritten Own; id = 0; has_hop = false }

-- items of different kinds
abbrev pub AreDifferent : Limits → List Item → Type 0
AreDifferent limits items = AllDiffer [] items

-- items of different kinds, and what they say together
abbrev pub ReadsItems : Option Family → Production Items
ReadsItems family = Row (OneItem family) AreDifferent (put_all none_written)

-- an item goes on with items: a word that one begins with
abbrev pub items_further : Further
items_further (Some (Word word)) = list_any (λ one. bytes_eq word (keyword one)) all_kinds
items_further _ = false

-- Items, one behind another.
use Rattle.std.proofs.Common.{◌≡◌, true, false, codes, List, [], ◌∷◌, ◌++◌, Option, ap, sym, ◌∙◌, refl}
use Rattle.std.proofs.lemmas.Bool.{false≢true}
use Rattle.route_values.specs.declared.addr.Family.{Family}
use Rattle.route_values.specs.declared.attrs.Hop.TheVariants.{Own}
use Rattle.token_reader.specs.Tokens.{Token, Word}
use Rattle.route_grammar.specs.declared.kind.Kind.{Kind}
use Rattle.route_grammar.specs.declared.kind.Kind.TheVariants as kind
use Rattle.route_grammar.specs.declared.items.Item.{Item}
use Rattle.route_grammar.specs.declared.items.Item.TheVariants as item
use Rattle.route_grammar.specs.declared.items.Items.{Items}
use Rattle.route_grammar.specs.Limits.{Limits}
use Rattle.route_grammar.specs.Items.{OneItem, ReadsItems, AllDiffer, is_among, kind_of, put, put_all, none_written}
use Rattle.route_grammar.proofs.RepeatedLemmas.{repeated_more}

-- the kinds behind some items
abbrev pub seen_behind : List Kind → List Item → List Kind
seen_behind seen [] = seen
seen_behind seen (one ∷ items) = seen_behind (kind_of one ∷ seen) items

-- items and one more, of a kind that none of them has
pub differ_more : (seen : List Kind) (items : List Item) (one : Item) → AllDiffer seen items
    → is_among (kind_of one) (seen_behind seen items) ≡ false → AllDiffer seen (items ++ one ∷ [])
differ_more seen [] one differ unseen = (unseen, tt)
differ_more seen (first ∷ items) one differ unseen =
    (differ.0, differ_more (kind_of first ∷ seen) items one differ.1 unseen)

-- an item that goes on with items of different kinds has another kind
pub differ_next : (seen : List Kind) (items more : List Item) (one : Item) → AllDiffer seen (items ++ one ∷ more)
    → is_among (kind_of one) (seen_behind seen items) ≡ false
differ_next seen [] more one differ = differ.0
differ_next seen (first ∷ items) more one differ = differ_next (kind_of first ∷ seen) items more one differ.1

pub put_more : (read : Items) (items : List Item) (one : Item)
    → put_all read (items ++ one ∷ []) ≡ put (put_all read items) one
put_more read [] one = refl
put_more read (first ∷ items) one = put_more (put read first) items one

-- a next hop that is written stays
hop_stays : (read : Items) (items : List Item) → read.has_hop ≡ true → (put_all read items).has_hop ≡ true
hop_stays read [] has = has
hop_stays read (item.NextHop hop ∷ items) has = hop_stays (put read (item.NextHop hop)) items refl
hop_stays read (item.Origin origin ∷ items) has = hop_stays (put read (item.Origin origin)) items has
hop_stays read (item.Path path ∷ items) has = hop_stays (put read (item.Path path)) items has
hop_stays read (item.Med number ∷ items) has = hop_stays (put read (item.Med number)) items has
hop_stays read (item.LocalPref number ∷ items) has = hop_stays (put read (item.LocalPref number)) items has
hop_stays read (item.Atomic ∷ items) has = hop_stays (put read item.Atomic) items has
hop_stays read (item.Aggregator aggregator ∷ items) has = hop_stays (put read (item.Aggregator aggregator)) items has
hop_stays read (item.Communities numbers ∷ items) has = hop_stays (put read (item.Communities numbers)) items has
hop_stays read (item.Originator number ∷ items) has = hop_stays (put read (item.Originator number)) items has
hop_stays read (item.Clusters numbers ∷ items) has = hop_stays (put read (item.Clusters numbers)) items has
hop_stays read (item.Extended bytes ∷ items) has = hop_stays (put read (item.Extended bytes)) items has
hop_stays read (item.Large larges ∷ items) has = hop_stays (put read (item.Large larges)) items has
hop_stays read (item.PathId id ∷ items) has = hop_stays (put read (item.PathId id)) items has

-- where none is written, no item is one
hop_unseen : (seen : List Kind) (read : Items) (items : List Item) → is_among kind.NextHop seen ≡ false
    → (put_all read items).has_hop ≡ false → is_among kind.NextHop (seen_behind seen items) ≡ false
hop_unseen seen read [] unseen none = unseen
hop_unseen seen read (item.NextHop hop ∷ items) unseen none =
    absurd (false≢true (sym none ∙ hop_stays (put read (item.NextHop hop)) items refl))
hop_unseen seen read (item.Origin origin ∷ items) unseen none =
    hop_unseen (kind.Origin ∷ seen) (put read (item.Origin origin)) items unseen none
hop_unseen seen read (item.Path path ∷ items) unseen none =
    hop_unseen (kind.Path ∷ seen) (put read (item.Path path)) items unseen none
hop_unseen seen read (item.Med number ∷ items) unseen none =
    hop_unseen (kind.Med ∷ seen) (put read (item.Med number)) items unseen none
hop_unseen seen read (item.LocalPref number ∷ items) unseen none =
    hop_unseen (kind.LocalPref ∷ seen) (put read (item.LocalPref number)) items unseen none
hop_unseen seen read (item.Atomic ∷ items) unseen none =
    hop_unseen (kind.Atomic ∷ seen) (put read item.Atomic) items unseen none
hop_unseen seen read (item.Aggregator aggregator ∷ items) unseen none =
    hop_unseen (kind.Aggregator ∷ seen) (put read (item.Aggregator aggregator)) items unseen none
hop_unseen seen read (item.Communities numbers ∷ items) unseen none =
    hop_unseen (kind.Communities ∷ seen) (put read (item.Communities numbers)) items unseen none
hop_unseen seen read (item.Originator number ∷ items) unseen none =
    hop_unseen (kind.Originator ∷ seen) (put read (item.Originator number)) items unseen none
hop_unseen seen read (item.Clusters numbers ∷ items) unseen none =
    hop_unseen (kind.Clusters ∷ seen) (put read (item.Clusters numbers)) items unseen none
hop_unseen seen read (item.Extended bytes ∷ items) unseen none =
    hop_unseen (kind.Extended ∷ seen) (put read (item.Extended bytes)) items unseen none
hop_unseen seen read (item.Large larges ∷ items) unseen none =
    hop_unseen (kind.Large ∷ seen) (put read (item.Large larges)) items unseen none
hop_unseen seen read (item.PathId id ∷ items) unseen none =
    hop_unseen (kind.PathId ∷ seen) (put read (item.PathId id)) items unseen none

-- `next-hop self` is an item, whatever the family is
self_item : (family : Option Family) (limits : Limits)
    → OneItem family limits (Word (codes "next-hop") ∷ Word (codes "self") ∷ []) (item.NextHop Own)
self_item family limits = (
  kind.NextHop,
  Word (codes "next-hop") ∷ [],
  Word (codes "self") ∷ [],
  refl,
  (codes "next-hop", refl, refl),
  (Own, refl, (codes "self", refl, refl)),
)

-- items without a next hop go on with one
pub items_hopped : (family : Option Family) (limits : Limits) (tokens : List Token) (read : Items)
    → ReadsItems family limits tokens read → read.has_hop ≡ false
    → (hopped : Items) × ReadsItems family limits (tokens ++ Word (codes "next-hop") ∷ Word (codes "self") ∷ []) hopped
    × (hopped.has_hop ≡ true) × (hopped.attrs.hop ≡ Own)
items_hopped family limits tokens read reads none =
    let hop : Item = item.NextHop Own in
    let all = put_more none_written reads.0 hop in
    let unwritten_hop : (put_all none_written reads.0).has_hop ≡ false =
    sym (ap (λ (items : Items). items.has_hop) reads.3) ∙ none in (
      put_all none_written (reads.0 ++ hop ∷ []),
      (
        reads.0 ++ hop ∷ [],
        repeated_more (OneItem family) limits tokens (Word (codes "next-hop") ∷ Word (codes "self") ∷ []) reads.0 hop
            reads.1
            (self_item family limits),
        differ_more [] reads.0 hop reads.2 (hop_unseen [] none_written reads.0 refl unwritten_hop),
        refl,
      ),
      ap (λ (items : Items). items.has_hop) all,
      ap (λ (items : Items). items.attrs.hop) all,
    )

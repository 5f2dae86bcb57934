-- What items of routes say: the next hop has the wanted family, and no list is too long.
use Rattle.std.proofs.Common.{ℕ, ◌≡◌, ◌+◌, ◌≤◌, Bool, true, false, List, [], ◌∷◌, length, if◌then◌else◌}
use Rattle.std.proofs.Common.{inl, inr, sym, ap, subst, refl, arith}
use Rattle.std.proofs.lemmas.List.Sums.{sum_by-cons}
use Rattle.std.specs.List.{AllByRecursion}
use Rattle.std.specs.Prelude.{Option}
use Rattle.route_values.specs.declared.addr.Family.{Family}
use Rattle.route_values.specs.declared.attrs.Attrs.{Attrs}
use Rattle.route_values.specs.declared.attrs.Hop.{Hop}
use Rattle.route_values.specs.declared.attrs.Hop.TheVariants.{Own, Is}
use Rattle.route_values.specs.declared.path.Segment.{Segment}
use Rattle.route_values.specs.Limits.{IsWithinLimits, counts_written, numbers_in}
use Rattle.token_reader.specs.Tokens.{Token}
use Rattle.route_grammar.specs.declared.items.Item.{Item}
use Rattle.route_grammar.specs.declared.items.Item.TheVariants as item
use Rattle.route_grammar.specs.declared.items.Items.{Items}
use Rattle.route_grammar.specs.declared.kind.Kind.{Kind}
use Rattle.route_grammar.specs.declared.kind.Kind.TheVariants as kind
use Rattle.route_grammar.specs.declared.path.Part.{Part}
use Rattle.route_grammar.specs.declared.path.Part.TheVariants.{Number, Set}
use Rattle.route_grammar.specs.Communities.{IsCommunity, IsExtended, IsLarge}
use Rattle.route_grammar.specs.Items.{OneItem, Operand, ReadsItems, none_written, put, put_all}
use Rattle.route_grammar.specs.Limits.{Counted, in_force}
use Rattle.route_grammar.specs.Limits as counted
use Rattle.route_grammar.specs.Lists.{ListOf, OnePath, count_of, joined, onto}
use Rattle.route_grammar.specs.Numbers.{IsHop, IsOfFamily}
use Rattle.route_grammar.specs.Productions.{Repeated}
use Rattle.text_forms.specs.Addresses.{IsIpv4}

-- a next hop of the family, where one is wanted, or the own address
abbrev pub HopFits : Option Family → Hop → Type 0
HopFits wanted Own = Unit {0}
HopFits wanted (Is addr) = IsOfFamily wanted addr

-- attributes whose next hop has the family, and whose lists are within their limits
pub record AttrsFit (wanted : Option Family) (attrs : Attrs) : Type 0 where
  pub hop : HopFits wanted attrs.hop
  pub limits : IsWithinLimits (counts_written attrs)

-- what an item has of this
abbrev ItemFits : Option Family → Item → Type 0
ItemFits wanted (item.NextHop hop) = HopFits wanted hop
ItemFits wanted (item.Origin origin) = Unit {0}
ItemFits wanted (item.Path path) = numbers_in path ≤ 255
ItemFits wanted (item.Med number) = Unit {0}
ItemFits wanted (item.LocalPref number) = Unit {0}
ItemFits wanted item.Atomic = Unit {0}
ItemFits wanted (item.Aggregator aggregator) = Unit {0}
ItemFits wanted (item.Communities numbers) = length numbers ≤ 200
ItemFits wanted (item.Originator number) = Unit {0}
ItemFits wanted (item.Clusters numbers) = length numbers ≤ 32
ItemFits wanted (item.Extended bytes) = length bytes ≤ 64
ItemFits wanted (item.Large larges) = length larges ≤ 64
ItemFits wanted (item.PathId id) = Unit {0}

-- ---- lists and paths

list_few : {V : Type 0} (which : Counted) (Spells : List ℕ → V → Type 0) (tokens : List Token) (values : List V)
    → 1 ≤ in_force which → ListOf which Spells in_force tokens values → length values ≤ in_force which
list_few which Spells tokens values some (inl (said, is, word)) = omega (arith, ap length is, some)
list_few which Spells tokens values some (inr (inner, is, repeated, few)) = few

-- a number at the front is one more, whether or not it begins a segment
onto_step : (set : Bool) (number : ℕ) (first : Segment) (others : List Segment)
    → numbers_in (if set then record { set = false; numbers = number ∷ [] } ∷ first ∷ others
    else (record { set = false; numbers = number ∷ first.numbers } ∷ others))
    ≡ 1 + numbers_in (first ∷ others)
onto_step true number first others =
    sum_by-cons (λ (one : Segment). length one.numbers) (record { set = false; numbers = number ∷ [] })
    (first ∷ others)
onto_step false number first others =
    omega (
      arith,
      sum_by-cons (λ (one : Segment). length one.numbers) first others,
      sum_by-cons (λ (one : Segment). length one.numbers) (record { set = false; numbers = number ∷ first.numbers })
          others,
    )

onto_numbers : (number : ℕ) (segments : List Segment) → numbers_in (onto number segments) ≡ 1 + numbers_in segments
onto_numbers number [] = omega arith
onto_numbers number (first ∷ others) = onto_step first.set number first others

joined_numbers : (parts : List Part) → numbers_in (joined parts) ≡ count_of parts
joined_numbers [] = refl
joined_numbers (Number number ∷ parts) = omega (arith, onto_numbers number (joined parts), joined_numbers parts)
joined_numbers (Set numbers ∷ parts) =
    omega (
      arith,
      joined_numbers parts,
      sum_by-cons (λ (one : Segment). length one.numbers) (record { set = true; numbers = numbers }) (joined parts),
    )

path_few : (tokens : List Token) (path : List Segment) → OnePath in_force tokens path → numbers_in path ≤ 255
path_few tokens path (inl (number, is, word)) = omega (arith, ap numbers_in is, onto_numbers number [])
path_few tokens path (inr (parts, is, (inner, are, repeated, few))) =
    let within : count_of parts ≤ 255 = few in omega (arith, ap numbers_in is, joined_numbers parts, within)

-- ---- items

hop_fits : (wanted : Option Family) (word : List ℕ) (hop : Hop) → IsHop wanted word hop → HopFits wanted hop
hop_fits wanted word Own spells = tt
hop_fits wanted word (Is addr) (text, same) = same

operand_fits : (wanted : Option Family) (which : Kind) (tokens : List Token) (one : Item)
    → Operand wanted which in_force tokens one → ItemFits wanted one
operand_fits wanted kind.NextHop tokens one (hop, is, (word, at, spells)) =
    subst (ItemFits wanted) (sym is) (hop_fits wanted word hop spells)
operand_fits wanted kind.Origin tokens one (said, is, read) = subst (ItemFits wanted) (sym is) tt
operand_fits wanted kind.Path tokens one (path, is, read) = subst (ItemFits wanted) (sym is) (path_few tokens path read)
operand_fits wanted kind.Med tokens one (said, is, read) = subst (ItemFits wanted) (sym is) tt
operand_fits wanted kind.LocalPref tokens one (said, is, read) = subst (ItemFits wanted) (sym is) tt
operand_fits wanted kind.Atomic tokens one (empty, is) = subst (ItemFits wanted) (sym is) tt
operand_fits wanted kind.Aggregator tokens one (said, is, read) = subst (ItemFits wanted) (sym is) tt
operand_fits wanted kind.Communities tokens one (said, is, read) =
    subst (ItemFits wanted) (sym is) (list_few counted.Communities IsCommunity tokens said (omega arith) read)
operand_fits wanted kind.Originator tokens one (said, is, read) = subst (ItemFits wanted) (sym is) tt
operand_fits wanted kind.Clusters tokens one (said, is, read) =
    subst (ItemFits wanted) (sym is) (list_few counted.Clusters IsIpv4 tokens said (omega arith) read)
operand_fits wanted kind.Extended tokens one (said, is, read) =
    subst (ItemFits wanted) (sym is) (list_few counted.Extended IsExtended tokens said (omega arith) read)
operand_fits wanted kind.Large tokens one (said, is, read) =
    subst (ItemFits wanted) (sym is) (list_few counted.Large IsLarge tokens said (omega arith) read)
operand_fits wanted kind.PathId tokens one (said, is, read) = subst (ItemFits wanted) (sym is) tt

all_fit : (wanted : Option Family) (tokens : List Token) (items : List Item)
    → Repeated (OneItem wanted) in_force tokens items → AllByRecursion (ItemFits wanted) items
all_fit wanted tokens [] is = tt
all_fit wanted tokens (one ∷ items) (text, rest, split, (which, front, back, parts, word, operand), more) =
    (operand_fits wanted which back one operand, all_fit wanted rest items more)

-- what is written, with one more item
put_fits : (wanted : Option Family) (read : Items) (one : Item) → AttrsFit wanted read.attrs → ItemFits wanted one
    → AttrsFit wanted (put read one).attrs
put_fits wanted read (item.NextHop hop) fit this = record { hop = this; limits = fit.limits }
put_fits wanted read (item.Origin origin) fit this = record { hop = fit.hop; limits = fit.limits }
put_fits wanted read (item.Path path) fit this =
    record {
      hop = fit.hop;
      limits = record {
        numbers = this;
        communities = fit.limits.communities;
        clusters = fit.limits.clusters;
        extended = fit.limits.extended;
        large = fit.limits.large;
      };
    }
put_fits wanted read (item.Med number) fit this = record { hop = fit.hop; limits = fit.limits }
put_fits wanted read (item.LocalPref number) fit this = record { hop = fit.hop; limits = fit.limits }
put_fits wanted read item.Atomic fit this = record { hop = fit.hop; limits = fit.limits }
put_fits wanted read (item.Aggregator aggregator) fit this = record { hop = fit.hop; limits = fit.limits }
put_fits wanted read (item.Communities numbers) fit this =
    record {
      hop = fit.hop;
      limits = record {
        numbers = fit.limits.numbers;
        communities = this;
        clusters = fit.limits.clusters;
        extended = fit.limits.extended;
        large = fit.limits.large;
      };
    }
put_fits wanted read (item.Originator number) fit this = record { hop = fit.hop; limits = fit.limits }
put_fits wanted read (item.Clusters numbers) fit this =
    record {
      hop = fit.hop;
      limits = record {
        numbers = fit.limits.numbers;
        communities = fit.limits.communities;
        clusters = this;
        extended = fit.limits.extended;
        large = fit.limits.large;
      };
    }
put_fits wanted read (item.Extended bytes) fit this =
    record {
      hop = fit.hop;
      limits = record {
        numbers = fit.limits.numbers;
        communities = fit.limits.communities;
        clusters = fit.limits.clusters;
        extended = this;
        large = fit.limits.large;
      };
    }
put_fits wanted read (item.Large larges) fit this =
    record {
      hop = fit.hop;
      limits = record {
        numbers = fit.limits.numbers;
        communities = fit.limits.communities;
        clusters = fit.limits.clusters;
        extended = fit.limits.extended;
        large = this;
      };
    }
put_fits wanted read (item.PathId id) fit this = record { hop = fit.hop; limits = fit.limits }

put_all_fits : (wanted : Option Family) (read : Items) (items : List Item) → AttrsFit wanted read.attrs
    → AllByRecursion (ItemFits wanted) items → AttrsFit wanted (put_all read items).attrs
put_all_fits wanted read [] fit these = fit
put_all_fits wanted read (one ∷ items) fit (this, these) =
    put_all_fits wanted (put read one) items (put_fits wanted read one fit this) these

none_fits : (wanted : Option Family) → AttrsFit wanted none_written.attrs
none_fits wanted = record {
  hop = tt;
  limits = record {
    numbers = omega arith;
    communities = omega arith;
    clusters = omega arith;
    extended = omega arith;
    large = omega arith;
  };
}

-- what items say together
pub items_fit : (wanted : Option Family) (tokens : List Token) (items : Items) → ReadsItems wanted in_force tokens items
    → AttrsFit wanted items.attrs
items_fit wanted tokens items (values, repeated, differ, is) =
    subst (λ (said : Items). AttrsFit wanted said.attrs) (sym is)
    (put_all_fits wanted none_written values (none_fits wanted) (all_fit wanted tokens values repeated))

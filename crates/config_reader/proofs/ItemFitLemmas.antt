-- The items of a static route: the next hop has the route's family, and no list is too long.
use Rattle.std.proofs.Common.{ℕ, ◌≡◌, ◌+◌, ◌≤◌, Bool, true, false, List, [], ◌∷◌, length, Some, if◌then◌else◌}
use Rattle.std.proofs.Common.{inl, inr, sym, ap, subst, refl, arith}
use Rattle.std.specs.List.{AllByRecursion}
use Rattle.std.proofs.lemmas.List.Sums.{sum_by-cons}
use Rattle.route_values.specs.declared.addr.Family.{Family}
use Rattle.route_values.specs.declared.attrs.Attrs.{Attrs}
use Rattle.route_values.specs.declared.attrs.Hop.{Hop}
use Rattle.route_values.specs.declared.attrs.Hop.TheVariants.{Own, Is}
use Rattle.route_values.specs.declared.path.Segment.{Segment}
use Rattle.route_values.specs.Addr.{family_of}
use Rattle.route_values.specs.Limits.{IsWithinLimits, counts_written, numbers_in}
use Rattle.token_reader.specs.declared.token.Place.{Place}
use Rattle.token_reader.specs.Tokens.{Placed, Token}
use Rattle.route_grammar.specs.declared.items.Item.{Item}
use Rattle.route_grammar.specs.declared.items.Item.TheVariants as item
use Rattle.route_grammar.specs.declared.items.Items.{Items}
use Rattle.route_grammar.specs.declared.kind.Kind.{Kind}
use Rattle.route_grammar.specs.declared.kind.Kind.TheVariants as kind
use Rattle.route_grammar.specs.declared.path.Part.{Part}
use Rattle.route_grammar.specs.declared.path.Part.TheVariants.{Number, Set}
use Rattle.route_grammar.specs.Answered.{tokens_of}
use Rattle.route_grammar.specs.Communities.{IsCommunity, IsExtended, IsLarge}
use Rattle.route_grammar.specs.Items.{OneItem, Operand, none_written, put, put_all}
use Rattle.route_grammar.specs.Limits.{Counted, in_force}
use Rattle.route_grammar.specs.Limits as counted
use Rattle.route_grammar.specs.Lists.{ListOf, OnePath, count_of, joined, onto}
use Rattle.route_grammar.specs.Numbers.{IsHop}
use Rattle.route_grammar.specs.Productions.{Repeated}
use Rattle.text_forms.specs.Addresses.{IsIpv4}
use Rattle.config_reader.specs.Rules.{Gives}
use Rattle.config_reader.specs.Statics.{items_at}

-- a next hop of the family, or the own address
abbrev pub HopFits : Family → Hop → Type 0
HopFits family Own = Unit {0}
HopFits family (Is addr) = family_of addr ≡ family

-- attributes whose next hop has the family, and whose lists are within their limits
pub record AttrsFit (family : Family) (attrs : Attrs) : Type 0 where
  pub hop : HopFits family attrs.hop
  pub limits : IsWithinLimits (counts_written attrs)

-- what an item has of this
abbrev ItemFits : Family → Item → Type 0
ItemFits family (item.NextHop hop) = HopFits family hop
ItemFits family (item.Origin origin) = Unit {0}
ItemFits family (item.Path path) = numbers_in path ≤ 255
ItemFits family (item.Med number) = Unit {0}
ItemFits family (item.LocalPref number) = Unit {0}
ItemFits family item.Atomic = Unit {0}
ItemFits family (item.Aggregator aggregator) = Unit {0}
ItemFits family (item.Communities numbers) = length numbers ≤ 200
ItemFits family (item.Originator number) = Unit {0}
ItemFits family (item.Clusters numbers) = length numbers ≤ 32
ItemFits family (item.Extended bytes) = length bytes ≤ 64
ItemFits family (item.Large larges) = length larges ≤ 64
ItemFits family (item.PathId id) = Unit {0}

-- LISTS AND PATHS

list_few : {V : Type 0} (which : Counted) (Spells : List ℕ → V → Type 0) (tokens : List Token) (values : List V)
    → 1 ≤ in_force which → ListOf which Spells in_force tokens values → length values ≤ in_force which
list_few which Spells tokens values some (inl (said, is, word)) = omega (arith, ap length is, some)
list_few which Spells tokens values some (inr (inner, is, repeated, few)) = few

-- a number at the front is one more, whether or not it begins a segment
onto_step : (set : Bool) (number : ℕ) (first : Segment) (others : List Segment)
    → numbers_in (if set then record { set = false; numbers = number ∷ [] } ∷ first ∷ others
    else (record { set = false; numbers = number ∷ first.numbers } ∷ others))
    ≡ 1 + numbers_in (first ∷ others)
onto_step true number first others =
    sum_by-cons (λ (one : Segment). length one.numbers) (record { set = false; numbers = number ∷ [] })
    (first ∷ others)
onto_step false number first others =
    omega (
      arith,
      sum_by-cons (λ (one : Segment). length one.numbers) first others,
      sum_by-cons (λ (one : Segment). length one.numbers) (record { set = false; numbers = number ∷ first.numbers })
          others,
    )

onto_numbers : (number : ℕ) (segments : List Segment) → numbers_in (onto number segments) ≡ 1 + numbers_in segments
onto_numbers number [] = omega arith
onto_numbers number (first ∷ others) = onto_step first.set number first others

joined_numbers : (parts : List Part) → numbers_in (joined parts) ≡ count_of parts
joined_numbers [] = refl
joined_numbers (Number number ∷ parts) = omega (arith, onto_numbers number (joined parts), joined_numbers parts)
joined_numbers (Set numbers ∷ parts) =
    omega (
      arith,
      joined_numbers parts,
      sum_by-cons (λ (one : Segment). length one.numbers) (record { set = true; numbers = numbers }) (joined parts),
    )

path_few : (tokens : List Token) (path : List Segment) → OnePath in_force tokens path → numbers_in path ≤ 255
path_few tokens path (inl (number, is, word)) = omega (arith, ap numbers_in is, onto_numbers number [])
path_few tokens path (inr (parts, is, (inner, are, repeated, few))) =
    let within : count_of parts ≤ 255 = few in omega (arith, ap numbers_in is, joined_numbers parts, within)

-- ITEMS

hop_fits : (family : Family) (word : List ℕ) (hop : Hop) → IsHop (Some family) word hop → HopFits family hop
hop_fits family word Own spells = tt
hop_fits family word (Is addr) (text, same) = same

operand_fits : (family : Family) (which : Kind) (tokens : List Token) (one : Item)
    → Operand (Some family) which in_force tokens one → ItemFits family one
operand_fits family kind.NextHop tokens one (hop, is, (word, at, spells)) =
    subst (ItemFits family) (sym is) (hop_fits family word hop spells)
operand_fits family kind.Origin tokens one (said, is, read) = subst (ItemFits family) (sym is) tt
operand_fits family kind.Path tokens one (path, is, read) = subst (ItemFits family) (sym is) (path_few tokens path read)
operand_fits family kind.Med tokens one (said, is, read) = subst (ItemFits family) (sym is) tt
operand_fits family kind.LocalPref tokens one (said, is, read) = subst (ItemFits family) (sym is) tt
operand_fits family kind.Atomic tokens one (empty, is) = subst (ItemFits family) (sym is) tt
operand_fits family kind.Aggregator tokens one (said, is, read) = subst (ItemFits family) (sym is) tt
operand_fits family kind.Communities tokens one (said, is, read) =
    subst (ItemFits family) (sym is) (list_few counted.Communities IsCommunity tokens said (omega arith) read)
operand_fits family kind.Originator tokens one (said, is, read) = subst (ItemFits family) (sym is) tt
operand_fits family kind.Clusters tokens one (said, is, read) =
    subst (ItemFits family) (sym is) (list_few counted.Clusters IsIpv4 tokens said (omega arith) read)
operand_fits family kind.Extended tokens one (said, is, read) =
    subst (ItemFits family) (sym is) (list_few counted.Extended IsExtended tokens said (omega arith) read)
operand_fits family kind.Large tokens one (said, is, read) =
    subst (ItemFits family) (sym is) (list_few counted.Large IsLarge tokens said (omega arith) read)
operand_fits family kind.PathId tokens one (said, is, read) = subst (ItemFits family) (sym is) tt

all_fit : (family : Family) (tokens : List Token) (items : List Item)
    → Repeated (OneItem (Some family)) in_force tokens items → AllByRecursion (ItemFits family) items
all_fit family tokens [] is = tt
all_fit family tokens (one ∷ items) (text, rest, split, (which, front, back, parts, word, operand), more) =
    (operand_fits family which back one operand, all_fit family rest items more)

put_fits : (family : Family) (read : Items) (one : Item) → AttrsFit family read.attrs → ItemFits family one
    → AttrsFit family (put read one).attrs
put_fits family read (item.NextHop hop) fit this = record { hop = this; limits = fit.limits }
put_fits family read (item.Origin origin) fit this = record { hop = fit.hop; limits = fit.limits }
put_fits family read (item.Path path) fit this =
    record {
      hop = fit.hop;
      limits = record {
        numbers = this;
        communities = fit.limits.communities;
        clusters =
            fit.limits.clusters;
        extended = fit.limits.extended;
        large = fit.limits.large;
      };
    }
put_fits family read (item.Med number) fit this = record { hop = fit.hop; limits = fit.limits }
put_fits family read (item.LocalPref number) fit this = record { hop = fit.hop; limits = fit.limits }
put_fits family read item.Atomic fit this = record { hop = fit.hop; limits = fit.limits }
put_fits family read (item.Aggregator aggregator) fit this = record { hop = fit.hop; limits = fit.limits }
put_fits family read (item.Communities numbers) fit this =
    record {
      hop = fit.hop;
      limits = record {
        numbers = fit.limits.numbers;
        communities = this;
        clusters =
            fit.limits.clusters;
        extended = fit.limits.extended;
        large = fit.limits.large;
      };
    }
put_fits family read (item.Originator number) fit this = record { hop = fit.hop; limits = fit.limits }
put_fits family read (item.Clusters numbers) fit this =
    record {
      hop = fit.hop;
      limits = record {
        numbers = fit.limits.numbers;
        communities = fit.limits.communities;
        clusters = this;
        extended = fit.limits.extended;
        large = fit.limits.large;
      };
    }
put_fits family read (item.Extended bytes) fit this =
    record {
      hop = fit.hop;
      limits = record {
        numbers = fit.limits.numbers;
        communities = fit.limits.communities;
        clusters = fit.limits.clusters;
        extended = this;
        large = fit.limits.large;
      };
    }
put_fits family read (item.Large larges) fit this =
    record {
      hop = fit.hop;
      limits = record {
        numbers = fit.limits.numbers;
        communities = fit.limits.communities;
        clusters = fit.limits.clusters;
        extended = fit.limits.extended;
        large = this;
      };
    }
put_fits family read (item.PathId id) fit this = record { hop = fit.hop; limits = fit.limits }

put_all_fits : (family : Family) (read : Items) (items : List Item) → AttrsFit family read.attrs
    → AllByRecursion (ItemFits family) items → AttrsFit family (put_all read items).attrs
put_all_fits family read [] fit these = fit
put_all_fits family read (one ∷ items) fit (this, these) =
    put_all_fits family (put read one) items (put_fits family read one fit this) these

none_fits : (family : Family) → AttrsFit family none_written.attrs
none_fits family = record {
  hop = tt;
  limits = record {
    numbers = omega arith;
    communities = omega arith;
    clusters = omega arith;
    extended = omega arith;
    large = omega arith;
  };
}

pub items_fit : (family : Family) (end : Place) (tokens rest : List Placed) (items : Items)
    → items_at family end tokens (Gives items rest) → AttrsFit family items.attrs
items_fit family end tokens rest items (before, split, read) =
    let found = read.found in
    subst (λ (said : Items). AttrsFit family said.attrs) (sym found.3)
    (put_all_fits family none_written found.0 (none_fits family) (all_fit family (tokens_of before) found.0 found.1))

-- The plain list of the tests.
use Rattle.std.proofs.Common.{◌≡◌, ◌<◌, ◌^◌, Bool, true, false, List, [], ◌∷◌, ◌++◌, arith, refl, sym, ◌∙◌}
use Rattle.std.specs.List.{AllByRecursion}
use Rattle.route_values.specs.declared.addr.Addr.{Addr}
use Rattle.route_values.specs.declared.addr.Family.{Family}
use Rattle.route_values.specs.declared.addr.Family.TheVariants.{Ipv4}
use Rattle.route_values.specs.declared.attrs.Origin.TheVariants.{Igp}
use Rattle.route_values.specs.declared.attrs.WireAttrs.{WireAttrs}
use Rattle.route_values.specs.declared.key.Key.{Key}
use Rattle.route_values.specs.Addr.{family_of, number_of, bits_of}
use Rattle.route_values.specs.Attrs.{plain}
use Rattle.route_values.specs.Key.{family_of_key}
use Rattle.update_grammar.specs.Packed.{IsOneKind}
use Rattle.batch_cutter.specs.Filling.{CanFill}
use Rattle.batch_cutter.specs.Grouped.{ComeFirst, AreGrouped}
use Rattle.batch_cutter.specs.Heads.{IsRoute}
use Rattle.batch_cutter.specs.Items.{Item, Here, effects_of, ToldApart, AreNumbered}
use Rattle.batch_cutter.specs.Plain.{AreIpv4, announced, marker_of, IsListed}

apart : (key : Key) (w : WireAttrs) (keys : List Key) (marked : Bool) → family_of_key key ≡ Ipv4 → AreIpv4 keys
    → AllByRecursion (ToldApart (Here 0 key w)) (announced w keys ++ marker_of marked)
apart key w [] true is ipv4 = (tt, tt)
apart key w [] false is ipv4 = tt
apart key w (k ∷ keys) marked is ipv4 =
    (((λ same. (is ∙ sym ipv4.0, refl)), (λ alike. refl)), apart key w keys marked is ipv4.1)

pub numbered : (w : WireAttrs) (keys : List Key) (marked : Bool) → AreIpv4 keys
    → AreNumbered (announced w keys ++ marker_of marked)
numbered w [] true ipv4 = (tt, tt)
numbered w [] false ipv4 = tt
numbered w (k ∷ keys) marked ipv4 = (apart k w keys marked ipv4.0 ipv4.1, numbered w keys marked ipv4.1)

all_alike : (key first : Key) (w : WireAttrs) (items : List Item) → family_of_key key ≡ Ipv4
    → family_of_key first ≡ Ipv4
    → AllByRecursion (λ later. IsOneKind (effects_of (Here 0 key w)) (effects_of later)
    → IsOneKind (effects_of (Here 0 key w)) (effects_of (Here 0 first w))) items
all_alike key first w [] is first_is = tt
all_alike key first w (item ∷ items) is first_is =
    ((λ same. (is ∙ sym first_is, refl)), all_alike key first w items is first_is)

come : (key : Key) (w : WireAttrs) (keys : List Key) (marked : Bool) → family_of_key key ≡ Ipv4 → AreIpv4 keys
    → ComeFirst (effects_of (Here 0 key w)) (announced w keys ++ marker_of marked)
come key w [] true is ipv4 = (tt, tt)
come key w [] false is ipv4 = tt
come key w (k ∷ keys) marked is ipv4 =
    (all_alike key k w (announced w keys ++ marker_of marked) is ipv4.0, come key w keys marked is ipv4.1)

pub grouped : (w : WireAttrs) (keys : List Key) (marked : Bool) → AreIpv4 keys
    → AreGrouped (announced w keys ++ marker_of marked)
grouped w [] true ipv4 = (tt, tt)
grouped w [] false ipv4 = tt
grouped w (k ∷ keys) marked ipv4 = (come k w keys marked ipv4.0 ipv4.1, grouped w keys marked ipv4.1)

-- one more key
pub ipv4_more : (keys : List Key) (key : Key) → AreIpv4 keys → family_of_key key ≡ Ipv4 → AreIpv4 (keys ++ key ∷ [])
ipv4_more [] key ipv4 is = (is, tt)
ipv4_more (k ∷ keys) key ipv4 is = (ipv4.0, ipv4_more keys key ipv4.1 is)

-- what is left may be announced
pub can_fill : (w : WireAttrs) (keys : List Key) (marked : Bool) → IsListed w keys
    → CanFill (announced w keys ++ marker_of marked)
can_fill w [] true listed = tt
can_fill w [] false listed = tt
can_fill w (k ∷ keys) marked listed = rw listed.ipv4.0 listed.route

-- a path of one number, and no more than each route has
pub plain_route : (family : Family) (hop : Addr) → family_of hop ≡ family → number_of hop < 2 ^ bits_of family
    → IsRoute family (plain hop Igp (record { set = false; numbers = 65001 ∷ [] } ∷ []))
plain_route family hop is fits = record {
  sendable = record {
    hop = record { of_family = is; fits = fits };
    path = (record { filled = omega arith; short = omega arith; numbers = (omega arith, tt) }, tt);
    med = tt;
    local_pref = tt;
    aggregator = tt;
    communities = tt;
    originator = tt;
    clusters = tt;
    extended = tt;
    large = tt;
  };
  within = record {
    numbers = omega arith;
    communities = omega arith;
    clusters = omega arith;
    extended = omega arith;
    large = omega arith;
  };
}

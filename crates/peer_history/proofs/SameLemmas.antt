-- What passes a test of equality is the same.
use Rattle.std.proofs.Common.{◌≡◌, Bool, true, false, not, [], ◌∷◌, Some, None, refl, ap, eqb-true}
use Rattle.std.specs.Prelude.{◌&&◌, nat_eq, Option}
use Rattle.std.specs.Bool.{beq}
use Rattle.std.specs.Cmp.{booleans_Decides}
use Rattle.std.specs.Cmp.Lexicographic.{pointwise}
use Rattle.std.specs.Option.{option_eq}
use Rattle.std.proofs.lemmas.Bool.{and_parts}
use Rattle.route_values.specs.declared.addr.Family.{Family}
use Rattle.route_values.specs.declared.addr.Family.TheVariants.{Ipv4, Ipv6}
use Rattle.route_values.specs.declared.attrs.Origin.TheVariants.{Igp, Egp, Incomplete}
use Rattle.route_values.specs.declared.attrs.WireAttrs.{WireAttrs}
use Rattle.route_values.specs.Sent.{same_large}
use Rattle.route_values.proofs.KeyLemmas.{same_addr_is}
use Rattle.peer_history.specs.Same.{same_family, same_origin, same_segment, same_aggregator, same_needed, same_single}
use Rattle.peer_history.specs.Same.{same_lists, same_attrs, differ}

pub same_family_is : (a b : Family) → same_family a b ≡ true → a ≡ b
same_family_is Ipv4 Ipv4 h = refl
same_family_is Ipv4 Ipv6 h = cc
same_family_is Ipv6 Ipv4 h = cc
same_family_is Ipv6 Ipv6 h = refl

pub same_family-self : (a : Family) → same_family a a ≡ true
same_family-self Ipv4 = refl
same_family-self Ipv6 = refl

-- a test tells the same from the different
abbrev pub Tells : {A : Type 0} → (A → A → Bool) → Type 0
Tells {A = A} same = (a b : A) → same a b ≡ true → a ≡ b

-- the parts of a test of three, four or five
three_parts : (x y z : Bool) → (x && y && z) ≡ true → (x ≡ true) × (y ≡ true) × (z ≡ true)
three_parts x y z h = let front = and_parts (x && y) z h in let two = and_parts x y front.0 in (two.0, two.1, front.1)

four_parts : (w x y z : Bool) → (w && x && y && z) ≡ true → (w ≡ true) × (x ≡ true) × (y ≡ true) × (z ≡ true)
four_parts w x y z h =
    let front = and_parts (w && x && y) z h in
    let three = three_parts w x y front.0 in (three.0, three.1, three.2, front.1)

five_parts : (v w x y z : Bool) → (v && w && x && y && z) ≡ true
    → (v ≡ true) × (w ≡ true) × (x ≡ true) × (y ≡ true) × (z ≡ true)
five_parts v w x y z h =
    let front = and_parts (v && w && x && y) z h in
    let four = four_parts v w x y front.0 in (four.0, four.1, four.2, four.3, front.1)

option_is : {A : Type 0} (same : A → A → Bool) → Tells same → Tells (option_eq same)
option_is same is None None h = refl
option_is same is None (Some b) h = cc
option_is same is (Some a) None h = cc
option_is same is (Some a) (Some b) h = ap Some (is a b h)

pub list_is : {A : Type 0} (same : A → A → Bool) → Tells same → Tells (pointwise same)
list_is same is [] [] h = refl
list_is same is [] (y ∷ ys) h = cc
list_is same is (x ∷ xs) [] h = cc
list_is same is (x ∷ xs) (y ∷ ys) h =
    let both = and_parts _ _ h in λ t. is x y both.0 t ∷ list_is same is xs ys both.1 t

pub number_is : Tells nat_eq
number_is a b h = eqb-true a b h

numbers_is : Tells (pointwise nat_eq)
numbers_is = list_is nat_eq number_is

flag_is : (a b : Bool) → beq a b ≡ true → a ≡ b
flag_is a b h = (booleans_Decides a b).0 h

origin_is : Tells same_origin
origin_is Igp Igp h = refl
origin_is Igp Egp h = cc
origin_is Igp Incomplete h = cc
origin_is Egp Igp h = cc
origin_is Egp Egp h = refl
origin_is Egp Incomplete h = cc
origin_is Incomplete Igp h = cc
origin_is Incomplete Egp h = cc
origin_is Incomplete Incomplete h = refl

segment_is : Tells same_segment
segment_is a b h =
    let both = and_parts _ _ h in
    let set = flag_is a.set b.set both.0 in
    let numbers = numbers_is a.numbers b.numbers both.1 in
    λ t. record { set = set t; numbers = numbers t }

aggregator_is : Tells same_aggregator
aggregator_is a b h =
    let both = and_parts _ _ h in
    let asn = number_is a.asn b.asn both.0 in
    let addr = number_is a.addr b.addr both.1 in
    λ t. record { asn = asn t; addr = addr t }

large_is : Tells same_large
large_is a b h =
    let three = three_parts _ _ _ h in
    let global = number_is a.global b.global three.0 in
    let one = number_is a.first b.first three.1 in
    let two = number_is a.second b.second three.2 in
    λ t. record { global = global t; first = one t; second = two t }

pub attrs_is : Tells same_attrs
attrs_is a b h =
    let all = three_parts (same_needed a b) (same_single a b) (same_lists a b) h in
    let needed = three_parts _ _ _ all.0 in
    let hop = same_addr_is a.hop b.hop needed.0 in
    let origin = origin_is a.origin b.origin needed.1 in
    let path = list_is same_segment segment_is a.path b.path needed.2 in
    let single = five_parts _ _ _ _ _ all.1 in
    let med = option_is nat_eq number_is a.med b.med single.0 in
    let local_pref = option_is nat_eq number_is a.local_pref b.local_pref single.1 in
    let atomic = flag_is a.atomic b.atomic single.2 in
    let aggregator = option_is same_aggregator aggregator_is a.aggregator b.aggregator single.3 in
    let originator = option_is nat_eq number_is a.originator b.originator single.4 in
    let lists = four_parts _ _ _ _ all.2 in
    let communities = numbers_is a.communities b.communities lists.0 in
    let clusters = numbers_is a.clusters b.clusters lists.1 in
    let extended = list_is (pointwise nat_eq) numbers_is a.extended b.extended lists.2 in
    let large = list_is same_large large_is a.large b.large lists.3 in
    λ t. record {
      hop = hop t;
      origin = origin t;
      path = path t;
      med = med t;
      local_pref = local_pref t;
      atomic = atomic t;
      aggregator = aggregator t;
      communities = communities t;
      originator = originator t;
      clusters = clusters t;
      extended = extended t;
      large = large t;
    }

-- what doesn't differ is the same
pub differ_not : (a b : Option WireAttrs) → differ a b ≡ false → a ≡ b
differ_not a b h =
    elim (option_eq same_attrs a b) as (λ r. option_eq same_attrs a b ≡ r → not r ≡ false → a ≡ b) [
      | true ↦ λ e _. option_is same_attrs attrs_is a b e
      | false ↦ λ e q. cc
    ] refl h

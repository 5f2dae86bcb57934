-- What is the same passes a test of equality.
use Rattle.std.proofs.Common.{◌≡◌, Bool, true, false, not, [], ◌∷◌, Some, None, refl, ap, eq-eqb}
use Rattle.std.specs.Prelude.{nat_eq, Option}
use Rattle.std.specs.Bool.{beq}
use Rattle.std.specs.Cmp.Lexicographic.{pointwise}
use Rattle.std.specs.Option.{option_eq}
use Rattle.std.proofs.lemmas.Bool.{and_from}
use Rattle.route_values.specs.declared.attrs.Origin.TheVariants.{Igp, Egp, Incomplete}
use Rattle.route_values.specs.declared.attrs.WireAttrs.{WireAttrs}
use Rattle.route_values.specs.Sent.{same_large}
use Rattle.route_values.proofs.KeyLemmas.{same_addr-self}
use Rattle.config_model.specs.Plan.{same_offer, same_settings}
use Rattle.peer_history.specs.Same.{same_origin, same_segment, same_aggregator, same_needed, same_single}
use Rattle.peer_history.specs.Same.{same_lists, same_attrs, differ}

-- each value passes a test with itself
abbrev PassesSelf : {A : Type 0} → (A → A → Bool) → Type 0
PassesSelf {A = A} same = (a : A) → same a a ≡ true

option_self : {A : Type 0} (same : A → A → Bool) → PassesSelf same → PassesSelf (option_eq same)
option_self same self None = refl
option_self same self (Some a) = self a

list_self : {A : Type 0} (same : A → A → Bool) → PassesSelf same → PassesSelf (pointwise same)
list_self same self [] = refl
list_self same self (x ∷ xs) = and_from _ _ (self x) (list_self same self xs)

number_self : PassesSelf nat_eq
number_self n = eq-eqb n n refl

flag_self : PassesSelf beq
flag_self true = refl
flag_self false = refl

-- ---- the attributes of a route

origin_self : PassesSelf same_origin
origin_self Igp = refl
origin_self Egp = refl
origin_self Incomplete = refl

segment_self : PassesSelf same_segment
segment_self s = and_from _ _ (flag_self s.set) (list_self nat_eq number_self s.numbers)

aggregator_self : PassesSelf same_aggregator
aggregator_self a = and_from _ _ (number_self a.asn) (number_self a.addr)

large_self : PassesSelf same_large
large_self a = and_from _ _ (and_from _ _ (number_self a.global) (number_self a.first)) (number_self a.second)

needed_self : PassesSelf same_needed
needed_self w =
    and_from _ _ (and_from _ _ (same_addr-self w.hop) (origin_self w.origin))
    (list_self same_segment segment_self w.path)

single_self : PassesSelf same_single
single_self w =
    and_from _ _ (and_from _ _ (and_from _ _ (and_from _ _ (option_self nat_eq number_self w.med)
    (option_self nat_eq number_self w.local_pref)) (flag_self w.atomic))
    (option_self same_aggregator aggregator_self w.aggregator)) (option_self nat_eq number_self w.originator)

lists_self : PassesSelf same_lists
lists_self w =
    and_from _ _ (and_from _ _ (and_from _ _ (list_self nat_eq number_self w.communities)
    (list_self nat_eq number_self w.clusters)) (list_self (pointwise nat_eq) (list_self nat_eq number_self) w.extended))
    (list_self same_large large_self w.large)

attrs_self : PassesSelf same_attrs
attrs_self w = and_from _ _ (and_from _ _ (needed_self w) (single_self w)) (lists_self w)

-- a value doesn't differ from itself
pub never_differs : (a : Option WireAttrs) → differ a a ≡ false
never_differs a = ap not (option_self same_attrs attrs_self a)

-- ---- the settings of a neighbour

offer_self : PassesSelf same_offer
offer_self s =
    and_from _ _ (and_from _ _ (and_from _ _ (and_from _ _ (and_from _ _ (and_from _ _ (and_from _ _
    (flag_self s.ipv4) (flag_self s.ipv6)) (flag_self s.ipv4_send)) (flag_self s.ipv6_send))
    (flag_self s.ipv4_receive)) (flag_self s.ipv6_receive)) (flag_self s.refresh)) (flag_self s.extended)

pub settings_self : PassesSelf same_settings
settings_self s =
    and_from _ _ (and_from _ _ (and_from _ _ (and_from _ _ (and_from _ _ (and_from _ _ (and_from _ _
    (same_addr-self s.peer) (same_addr-self s.local)) (number_self s.port)) (number_self s.local_as))
    (number_self s.peer_as)) (number_self s.router_id)) (number_self s.hold)) (offer_self s)

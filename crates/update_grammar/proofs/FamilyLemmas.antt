-- The values of MP_REACH_NLRI and MP_UNREACH_NLRI as they are written (RFC 4760, sections 3 and 4).
use Rattle.std.proofs.Common.{ℕ, ◌≡◌, ◌≢◌, ◌⊎◌, true, false, List, [], ◌∷◌, ◌++◌, length, arith, ap, sym, ◌∙◌, refl}
use Rattle.std.proofs.Common.{inl, inr, Some, None}
use Rattle.std.specs.List.{AllByRecursion}
use Rattle.route_values.specs.declared.addr.Addr.{Addr}
use Rattle.route_values.specs.declared.addr.Addr.TheVariants.{V4, V6}
use Rattle.route_values.specs.declared.addr.Family.{Family}
use Rattle.route_values.specs.declared.addr.Family.TheVariants.{Ipv4, Ipv6}
use Rattle.route_values.specs.Caps.{Caps}
use Rattle.route_values.specs.declared.key.Key.{Key}
use Rattle.route_values.specs.Visible.{has_family}
use Rattle.update_grammar.specs.declared.effect.Attr.TheVariants as says
use Rattle.update_grammar.specs.declared.effect.Reached.{Reached}
use Rattle.update_grammar.specs.Prefixes.{addr_bytes, keys_text}
use Rattle.update_grammar.specs.Attributes.{optional}
use Rattle.update_grammar.specs.Families.{family_text, IsElsewhere, SpellsHop, SpellsReach, SpellsUnreach}
use Rattle.update_grammar.specs.Written.{raw, reach_raws, IsHop, IsCarried}
use Rattle.update_grammar.proofs.PrefixLemmas.{keys_spelled}
use Rattle.update_grammar.proofs.RawLemmas.{raw_is_of, plain_optional}
use Rattle.update_grammar.proofs.GroupLemmas.{Group, group_one, said_if}

-- keys that the session carries are none, or their family is one of the session's
pub none_or_agreed : (caps : Caps) (family : Family) (keys : List Key) → AllByRecursion (IsCarried caps family) keys
    → (keys ≡ []) ⊎ (has_family caps family ≡ true)
none_or_agreed caps family [] carried = inl refl
none_or_agreed caps family (k ∷ ks) carried = inr (sym (ap (has_family caps) carried.0.of_family) ∙ carried.0.visible.0)

-- without the family there are none
pub none_unless_agreed : (caps : Caps) (family : Family) (keys : List Key)
    → (keys ≡ []) ⊎ (has_family caps family ≡ true) → has_family caps family ≡ false → keys ≡ []
none_unless_agreed caps family keys (inl none) off = none
none_unless_agreed caps family keys (inr on) off = cc

-- the text of IPv6 is no text of a family that the session has, where it doesn't have IPv6
not_of_session : (caps : Caps) → has_family caps Ipv6 ≡ false → (f : Family) → has_family caps f ≡ true
    → family_text Ipv6 ≢ family_text f
not_of_session caps off Ipv4 on same = cc
not_of_session caps off Ipv6 on same = cc

-- such a value is of another session's family
elsewhere : (caps : Caps) (rest : List ℕ) → has_family caps Ipv6 ≡ false → IsElsewhere caps (family_text Ipv6 ++ rest)
elsewhere caps rest off = record {
  family = family_text Ipv6;
  rest = rest;
  text = refl;
  three = refl;
  other = not_of_session caps off;
}

-- an IPv6 next hop is spelled by its sixteen bytes
hop_spelled : (hop : Addr) → IsHop Ipv6 hop → SpellsHop Ipv6 (addr_bytes hop) hop
hop_spelled (V4 n) is = absurd (let of_family = is.of_family in cc)
hop_spelled (V6 n) is = (n, is.fits, refl, [], inl refl, refl)

-- an MP_REACH_NLRI of a family of the session says its next hop and its keys
pub reach_group : (caps : Caps) (hop : Addr) (keys : List Key) → has_family caps Ipv6 ≡ true → IsHop Ipv6 hop
    → AllByRecursion (IsCarried caps Ipv6) keys
    → Group caps 14 (reach_raws Ipv6 hop (keys_text caps.ipv6_path keys))
    (said_if says.Reach (Some (Some (record { hop = hop; keys = keys }))))
reach_group caps hop keys on is carried =
    let value : List ℕ = family_text Ipv6 ++ (length (addr_bytes hop) ∷
    (addr_bytes hop ++ 0 ∷ keys_text caps.ipv6_path keys)) in
    let reached : Reached = record { hop = hop; keys = keys } in
    let spelled : SpellsReach caps value reached = record {
      family = Ipv6;
      agreed = on;
      hop_text = addr_bytes hop;
      reserved = 0;
      prefixes = keys_text caps.ipv6_path keys;
      text = refl;
      hop = hop_spelled hop is;
      spelled = keys_spelled caps Ipv6 keys carried;
    } in
    group_one caps optional 14 value (says.Reach (Some reached)) plain_optional (omega arith)
    (raw_is_of optional 14 value plain_optional, spelled) refl

-- an MP_REACH_NLRI of another session's family says nothing
pub reach_group_elsewhere : (caps : Caps) (hop : Addr) (prefixes : List ℕ) → has_family caps Ipv6 ≡ false
    → Group caps 14 (reach_raws Ipv6 hop prefixes) (said_if says.Reach (Some None))
reach_group_elsewhere caps hop prefixes off =
    let rest : List ℕ = length (addr_bytes hop) ∷ (addr_bytes hop ++ 0 ∷ prefixes) in
    group_one caps optional 14 (family_text Ipv6 ++ rest) (says.Reach None) plain_optional (omega arith)
    (raw_is_of optional 14 (family_text Ipv6 ++ rest) plain_optional, elsewhere caps rest off) refl

-- an MP_UNREACH_NLRI of a family of the session says its keys
pub unreach_group : (caps : Caps) (keys : List Key) → has_family caps Ipv6 ≡ true
    → AllByRecursion (IsCarried caps Ipv6) keys
    → Group caps 15 (raw optional 15 (family_text Ipv6 ++ keys_text caps.ipv6_path keys) ∷ [])
    (says.Unreach (Some keys) ∷ [])
unreach_group caps keys on carried =
    let prefixes : List ℕ = keys_text caps.ipv6_path keys in
    let spelled : SpellsUnreach caps (family_text Ipv6 ++ prefixes) keys =
    record {
      family = Ipv6;
      agreed = on;
      prefixes = prefixes;
      text = refl;
      spelled = keys_spelled caps Ipv6 keys carried;
    } in
    group_one caps optional 15 (family_text Ipv6 ++ prefixes) (says.Unreach (Some keys)) plain_optional (omega arith)
    (raw_is_of optional 15 (family_text Ipv6 ++ prefixes) plain_optional, spelled) refl

-- an MP_UNREACH_NLRI of another session's family says nothing
pub unreach_group_elsewhere : (caps : Caps) (prefixes : List ℕ) → has_family caps Ipv6 ≡ false
    → Group caps 15 (raw optional 15 (family_text Ipv6 ++ prefixes) ∷ []) (says.Unreach None ∷ [])
unreach_group_elsewhere caps prefixes off =
    group_one caps optional 15 (family_text Ipv6 ++ prefixes) (says.Unreach None) plain_optional (omega arith)
    (raw_is_of optional 15 (family_text Ipv6 ++ prefixes) plain_optional, elsewhere caps prefixes off) refl

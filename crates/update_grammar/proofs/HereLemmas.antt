-- Announcements that are written are spelled again.
use Rattle.std.proofs.Common.{ℕ, ◌≡◌, ◌^◌, ◌<◌, Bool, true, false, List, [], ◌∷◌, ◌++◌, length, arith, length-append}
use Rattle.std.proofs.Common.{append-nil, ap, sym, refl, subst, Option, Some, None}
use Rattle.std.specs.List.{AllByRecursion}
use Rattle.route_values.specs.declared.addr.Addr.{Addr}
use Rattle.route_values.specs.declared.addr.Addr.TheVariants.{V4, V6}
use Rattle.route_values.specs.declared.addr.Family.{Family}
use Rattle.route_values.specs.declared.addr.Family.TheVariants.{Ipv4, Ipv6}
use Rattle.route_values.specs.declared.attrs.WireAttrs.{WireAttrs}
use Rattle.route_values.specs.Caps.{Caps}
use Rattle.route_values.specs.declared.key.Key.{Key}
use Rattle.route_values.specs.Addr.{number_of}
use Rattle.route_values.specs.Visible.{has_family}
use Rattle.update_grammar.specs.declared.effect.Attr.{Attr}
use Rattle.update_grammar.specs.declared.effect.Attr.TheVariants as says
use Rattle.update_grammar.specs.declared.effect.Effect.{Effect}
use Rattle.update_grammar.specs.declared.effect.Reached.{Reached}
use Rattle.update_grammar.specs.Values.{number_text}
use Rattle.update_grammar.specs.Attributes.{transitive}
use Rattle.update_grammar.specs.Prefixes.{keys_text}
use Rattle.update_grammar.specs.Update.{Spells, Announces, Gathers, here_all, said_first, as_next_hop, as_reach}
use Rattle.update_grammar.specs.Update.{as_unreach, unreached, gone_all, Reaches}
use Rattle.update_grammar.specs.Head as head
use Rattle.update_grammar.specs.Laws.{HereIsSpelled}
use Rattle.update_grammar.specs.Written.{written, body_of, attributes_text, hop_raws, reach_raws, IsSendable, IsHop}
use Rattle.update_grammar.specs.Written.{IsCarried}
use Rattle.update_grammar.proofs.PrefixLemmas.{keys_spelled}
use Rattle.update_grammar.proofs.RawLemmas.{plain_transitive}
use Rattle.update_grammar.proofs.GroupLemmas.{Group, group_none, group_one, said_if, written_is}
use Rattle.update_grammar.proofs.JoinLemmas.{AreGroups, groups_told}
use Rattle.update_grammar.proofs.FamilyLemmas.{none_or_agreed, none_unless_agreed, reach_group, reach_group_elsewhere}
use Rattle.update_grammar.proofs.SaidLemmas.{announced_codes, said_group, said_of, IsTold, said_gathers}
use Rattle.update_grammar.proofs.SaidLemmas.{has_origin_and_path, next_hop_said, reach_said, unreach_said}
use Rattle.update_grammar.proofs.AnnouncedLemmas.{raw_group, groups_written, attributes_spelled}

-- an IPv4 next hop is written as NEXT_HOP
hop_group : (caps : Caps) (hop : Addr) → IsHop Ipv4 hop → Group caps 3 (hop_raws Ipv4 hop)
    (said_if says.NextHop (Some (number_of hop)))
hop_group caps (V4 n) is = group_one caps transitive 3 (number_text n) (says.NextHop n) plain_transitive (omega arith)
    (written_is transitive 3 (number_text n) plain_transitive, is.fits) refl
hop_group caps (V6 n) is = absurd (let of_family = is.of_family in cc)

-- an IPv4 next hop is its number
hop_is : (hop : Addr) → IsHop Ipv4 hop → hop ≡ V4 (number_of hop)
hop_is (V4 n) is = refl
hop_is (V6 n) is = absurd (let of_family = is.of_family in cc)

-- prefixes behind attributes with NEXT_HOP are announced with them
announces : (said : List Attr) (n : ℕ) (w : WireAttrs) → said_first as_next_hop said ≡ Some n → Gathers said (V4 n) w
    → (keys : List Key) → Announces said keys (here_all w keys)
announces said n w hop gathers [] = refl
announces said n w hop gathers (k ∷ ks) = (n, w, hop, gathers, refl)

-- without an MP_REACH_NLRI nothing is reached
reaches_none : (said : List Attr) → said_first as_reach said ≡ None → Reaches said (said_first as_reach said) []
reaches_none said none = subst (λ word. Reaches said word []) (sym none) refl

-- where nothing is withdrawn and nothing stands in MP_REACH_NLRI, the effects are those of the announced prefixes
announced_alone : (word : Option (Option (List Key))) (news : List Effect) → word ≡ None
    → news ≡ gone_all [] ++ gone_all (unreached word) ++ [] ++ news
announced_alone word news none = subst (λ said. news ≡ gone_all [] ++ gone_all (unreached said) ++ [] ++ news)
    (sym none) refl

-- an announcement of IPv4 prefixes is spelled as one announcement a key
here_ipv4_spelled : (caps : Caps) (w : WireAttrs) (keys : List Key) → IsSendable Ipv4 w
    → AllByRecursion (IsCarried caps Ipv4) keys → length (written caps (head.Here Ipv4 w) keys) < 2 ^ 16
    → Spells caps (body_of (written caps (head.Here Ipv4 w) keys)) (here_all w keys)
here_ipv4_spelled caps w keys sendable carried short =
    let attributes : List ℕ = attributes_text Ipv4 w [] in
    let announced : List ℕ = keys_text caps.ipv4_path keys in
    let fits : length attributes < 2 ^ 16 = omega (arith, short, length-append attributes announced) in
    let hop : Option ℕ = Some (number_of w.hop) in
    let groups : AreGroups caps (raw_group Ipv4 w []) (said_group w hop None) announced_codes =
    groups_written caps Ipv4 w [] hop None sendable (hop_group caps w.hop sendable.hop) (group_none caps 14) in
    let told : IsTold w hop None = groups_told caps (raw_group Ipv4 w []) (said_group w hop None) announced_codes
    groups in
    let gathers : Gathers (said_of w hop None) (V4 (number_of w.hop)) w =
    subst (λ addr. Gathers (said_of w hop None) addr w) (hop_is w.hop sendable.hop)
    (said_gathers w hop None told) in
    record {
      withdrawn = [];
      attributes = attributes;
      announced = announced;
      fields = record { text = refl; withdrawn_fits = omega arith; attributes_fit = fits };
      gone = [];
      gone_spelled = refl;
      said = said_of w hop None;
      said_spelled = attributes_spelled caps Ipv4 w [] hop None groups fits;
      here = keys;
      here_spelled = keys_spelled caps Ipv4 keys carried;
      reached = [];
      reaches = reaches_none (said_of w hop None) (reach_said w hop None told);
      news = here_all w keys;
      announces = announces (said_of w hop None) (number_of w.hop) w (next_hop_said w hop None told) gathers keys;
      all = announced_alone (said_first as_unreach (said_of w hop None)) (here_all w keys)
          (unreach_said w hop None told);
    }

-- the effects of MP_REACH_NLRI alone
reached_alone : (word : Option (Option (List Key))) (news : List Effect) → word ≡ None
    → news ≡ gone_all [] ++ gone_all (unreached word) ++ news ++ []
reached_alone word news none = subst (λ said. news ≡ gone_all [] ++ gone_all (unreached said) ++ news ++ []) (sym none)
    (sym (append-nil news))

-- an announcement of IPv6 prefixes spells what its MP_REACH_NLRI does
here_ipv6_with : (caps : Caps) (w : WireAttrs) (keys : List Key) (reached : Option Reached) (news : List Effect)
    → IsSendable Ipv6 w → length (written caps (head.Here Ipv6 w) keys) < 2 ^ 16
    → Group caps 14 (reach_raws Ipv6 w.hop (keys_text caps.ipv6_path keys)) (said_if says.Reach (Some reached))
    → (IsTold w None (Some reached) → Reaches (said_of w None (Some reached)) (Some reached) news)
    → Spells caps (body_of (written caps (head.Here Ipv6 w) keys)) news
here_ipv6_with caps w keys reached news sendable short group reaches =
    let prefixes : List ℕ = keys_text caps.ipv6_path keys in
    let attributes : List ℕ = attributes_text Ipv6 w prefixes in
    let fits : length attributes < 2 ^ 16 = omega (arith, short, length-append attributes []) in
    let reach : Option (Option Reached) = Some reached in
    let groups : AreGroups caps (raw_group Ipv6 w prefixes) (said_group w None reach) announced_codes =
    groups_written caps Ipv6 w prefixes None reach sendable (group_none caps 3) group in
    let told : IsTold w None reach = groups_told caps (raw_group Ipv6 w prefixes) (said_group w None reach)
    announced_codes groups in
    record {
      withdrawn = [];
      attributes = attributes;
      announced = [];
      fields = record { text = refl; withdrawn_fits = omega arith; attributes_fit = fits };
      gone = [];
      gone_spelled = refl;
      said = said_of w None reach;
      said_spelled = attributes_spelled caps Ipv6 w prefixes None reach groups fits;
      here = [];
      here_spelled = refl;
      reached = news;
      reaches = subst (λ word. Reaches (said_of w None reach) word news) (sym (reach_said w None reach told))
          (reaches told);
      news = [];
      announces = refl;
      all = reached_alone (said_first as_unreach (said_of w None reach)) news (unreach_said w None reach told);
    }

-- no keys have no announcements
no_news : (w : WireAttrs) (keys : List Key) → keys ≡ [] → here_all w keys ≡ []
no_news w keys none = ap (here_all w) none

-- an announcement of IPv6 prefixes is spelled as one announcement a key, by whether the session has the family
here_ipv6_by : (caps : Caps) (w : WireAttrs) (keys : List Key) (on : Bool) → has_family caps Ipv6 ≡ on
    → IsSendable Ipv6 w → AllByRecursion (IsCarried caps Ipv6) keys
    → length (written caps (head.Here Ipv6 w) keys) < 2 ^ 16 → Spells caps
    (body_of (written caps (head.Here Ipv6 w) keys)) (here_all w keys)
here_ipv6_by caps w keys true on sendable carried short =
    let reached : Reached = record { hop = w.hop; keys = keys } in
    here_ipv6_with caps w keys (Some reached) (here_all w keys) sendable short
    (reach_group caps w.hop keys on sendable.hop carried)
    (λ told. (w, said_gathers w None (Some (Some reached)) told, refl))
here_ipv6_by caps w keys false off sendable carried short =
    let none : keys ≡ [] = none_unless_agreed caps Ipv6 keys (none_or_agreed caps Ipv6 keys carried) off in
    let nothing : IsTold w None (Some None) → Reaches (said_of w None (Some None)) (Some None) (here_all w keys) =
    λ told. (has_origin_and_path w None (Some None) told, no_news w keys none) in
    here_ipv6_with caps w keys None (here_all w keys) sendable short
    (reach_group_elsewhere caps w.hop (keys_text caps.ipv6_path keys) off) nothing

-- an announcement is spelled as one announcement a key
pub here_spelled : (family : Family) → HereIsSpelled family
here_spelled Ipv4 caps w keys sendable carried short = here_ipv4_spelled caps w keys sendable carried short
here_spelled Ipv6 caps w keys sendable carried short = here_ipv6_by caps w keys (has_family caps Ipv6) refl sendable
    carried short

-- Withdrawals and markers that are written are spelled again.
use Rattle.std.proofs.Common.{ℕ, ◌≡◌, ◌^◌, ◌<◌, Bool, true, false, List, [], ◌∷◌, ◌++◌, length, arith, length-append}
use Rattle.std.proofs.Common.{append-nil, sym, refl, subst, Option, Some, None}
use Rattle.std.specs.List.{flat_map, AllByRecursion}
use Rattle.route_values.specs.declared.addr.Family.{Family}
use Rattle.route_values.specs.declared.addr.Family.TheVariants.{Ipv4, Ipv6}
use Rattle.route_values.specs.Caps.{Caps}
use Rattle.route_values.specs.declared.key.Key.{Key}
use Rattle.route_values.specs.Visible.{has_family}
use Rattle.update_grammar.specs.declared.effect.Attr.{Attr}
use Rattle.update_grammar.specs.declared.effect.Attr.TheVariants as says
use Rattle.update_grammar.specs.declared.effect.Effect.{Effect}
use Rattle.update_grammar.specs.Prefixes.{keys_text}
use Rattle.update_grammar.specs.Attributes.{Raw, raw_text, optional, IsRaw}
use Rattle.update_grammar.specs.Families.{family_text}
use Rattle.update_grammar.specs.Meanings.{SpellsAttributes}
use Rattle.update_grammar.specs.Update.{Spells, gone_all, unreached}
use Rattle.update_grammar.specs.Head as head
use Rattle.update_grammar.specs.Laws.{GoneIsSpelled, EndIsSpelled}
use Rattle.update_grammar.specs.Written.{written, body_of, raw, unreach_text, IsCarried}
use Rattle.update_grammar.proofs.PiecesLemmas.{all_apply}
use Rattle.update_grammar.proofs.PrefixLemmas.{keys_spelled}
use Rattle.update_grammar.proofs.RawLemmas.{values_short}
use Rattle.update_grammar.proofs.GroupLemmas.{Group}
use Rattle.update_grammar.proofs.FamilyLemmas.{none_or_agreed, none_unless_agreed, unreach_group}
use Rattle.update_grammar.proofs.FamilyLemmas.{unreach_group_elsewhere}

-- withdrawals of the body's own field alone
withdrawn_alone : (gone : List Effect) → gone ≡ gone ++ gone_all [] ++ [] ++ []
withdrawn_alone gone = simp append-nil

-- withdrawals of MP_UNREACH_NLRI alone
unreached_alone : (gone : List Effect) → gone ≡ gone_all [] ++ gone ++ [] ++ []
unreached_alone gone = simp append-nil

-- a withdrawal of IPv4 prefixes is spelled as one withdrawal a key
gone_ipv4_spelled : GoneIsSpelled Ipv4
gone_ipv4_spelled caps keys carried short =
    let withdrawn : List ℕ = keys_text caps.ipv4_path keys in
    let fits : length withdrawn < 2 ^ 16 = omega (
      arith,
      short,
      length-append withdrawn (0 ∷ 0 ∷ []),
      length-append (withdrawn ++ 0 ∷ 0 ∷ []) [],
    ) in
    record {
      withdrawn = withdrawn;
      attributes = [];
      announced = [];
      fields = record { text = refl; withdrawn_fits = fits; attributes_fit = omega arith };
      gone = keys;
      gone_spelled = keys_spelled caps Ipv4 keys carried;
      said = [];
      said_spelled = record { raws = []; text = refl; each = tt; once = tt; meant = refl };
      here = [];
      here_spelled = refl;
      reached = [];
      reaches = refl;
      news = [];
      announces = refl;
      all = withdrawn_alone (gone_all keys);
    }

-- a group alone spells what is said in it
group_spelled : (caps : Caps) (code : ℕ) (raws : List Raw) (said : List Attr) → Group caps code raws said
    → length (flat_map raw_text raws) < 2 ^ 16 → SpellsAttributes caps (flat_map raw_text raws) said
group_spelled caps code raws said group short = record {
  raws = raws;
  text = refl;
  each = all_apply (λ a. length a.value < 2 ^ 16) IsRaw raws (values_short raws (2 ^ 16) short) group.fits;
  once = group.apart;
  meant = group.meant;
}

-- a withdrawal of IPv6 prefixes spells what its MP_UNREACH_NLRI does
gone_ipv6_with : (caps : Caps) (keys : List Key) (said : Option (List Key))
    → length (written caps (head.Gone Ipv6) keys) < 2 ^ 16
    → Group caps 15 (raw optional 15 (family_text Ipv6 ++ keys_text caps.ipv6_path keys) ∷ []) (says.Unreach said ∷ [])
    → Spells caps (body_of (written caps (head.Gone Ipv6) keys)) (gone_all (unreached (Some said)))
gone_ipv6_with caps keys said short group =
    let raws : List Raw = raw optional 15 (family_text Ipv6 ++ keys_text caps.ipv6_path keys) ∷ [] in
    let attributes : List ℕ = unreach_text (keys_text caps.ipv6_path keys) in
    let text : flat_map raw_text raws ≡ attributes = append-nil attributes in
    let fits : length attributes < 2 ^ 16 = omega (arith, short, length-append attributes []) in
    record {
      withdrawn = [];
      attributes = attributes;
      announced = [];
      fields = record { text = refl; withdrawn_fits = omega arith; attributes_fit = fits };
      gone = [];
      gone_spelled = refl;
      said = says.Unreach said ∷ [];
      said_spelled = subst (λ bytes. SpellsAttributes caps bytes (says.Unreach said ∷ [])) text
          (group_spelled caps 15 raws (says.Unreach said ∷ []) group
          (subst (λ bytes. length bytes < 2 ^ 16) (sym text) fits));
      here = [];
      here_spelled = refl;
      reached = [];
      reaches = refl;
      news = [];
      announces = refl;
      all = unreached_alone (gone_all (unreached (Some said)));
    }

-- a withdrawal of IPv6 prefixes is spelled as one withdrawal a key, by whether the session has the family
gone_ipv6_by : (caps : Caps) (keys : List Key) (on : Bool) → has_family caps Ipv6 ≡ on
    → AllByRecursion (IsCarried caps Ipv6) keys → length (written caps (head.Gone Ipv6) keys) < 2 ^ 16
    → Spells caps (body_of (written caps (head.Gone Ipv6) keys)) (gone_all keys)
gone_ipv6_by caps keys true on carried short = gone_ipv6_with caps keys (Some keys) short
    (unreach_group caps keys on carried)
gone_ipv6_by caps keys false off carried short =
    let none : keys ≡ [] = none_unless_agreed caps Ipv6 keys (none_or_agreed caps Ipv6 keys carried) off in
    subst
    (λ gone. Spells caps (body_of (written caps (head.Gone Ipv6) keys)) (gone_all gone))
    (sym none)
    (gone_ipv6_with caps keys None short (unreach_group_elsewhere caps (keys_text caps.ipv6_path keys) off))

-- a withdrawal is spelled as one withdrawal a key
pub gone_spelled : (family : Family) → GoneIsSpelled family
gone_spelled Ipv4 caps keys carried short = gone_ipv4_spelled caps keys carried short
gone_spelled Ipv6 caps keys carried short = gone_ipv6_by caps keys (has_family caps Ipv6) refl carried short

-- a marker is written like a withdrawal of no keys
pub end_spelled : (family : Family) → EndIsSpelled family
end_spelled Ipv4 caps = gone_spelled Ipv4 caps [] tt (omega arith)
end_spelled Ipv6 caps = gone_spelled Ipv6 caps [] tt (omega arith)

-- The text of a command is read as that command.
use Rattle.std.proofs.Common.{ℕ, ◌≡◌, ◌<◌, ◌≤◌, ◌+◌, ◌*◌, ◌^◌, Bool, codes, decimal, List, [], ◌∷◌}
use Rattle.std.proofs.Common.{◌++◌}
use Rattle.std.proofs.Common.{length, map, Option, Some, None, Result, Ok, Err, IfOk, refl, sym, ap, ap₂, ◌∙◌, subst}
use Rattle.std.proofs.Common.{arith}
use Rattle.std.proofs.Common.{inr}
use Rattle.std.specs.List.{AllByRecursion}
use Rattle.std.proofs.lemmas.List.{length-map}
use Rattle.route_values.specs.declared.addr.Addr.{Addr}
use Rattle.route_values.specs.declared.addr.Addr.TheVariants.{V4, V6}
use Rattle.route_values.specs.declared.addr.Family.{Family}
use Rattle.route_values.specs.declared.attrs.Hop.{Hop}
use Rattle.route_values.specs.declared.attrs.Hop.TheVariants.{Own, Is}
use Rattle.route_values.specs.declared.key.Key.{Key}
use Rattle.route_values.specs.Addr.{family_of, width_of}
use Rattle.route_values.specs.Prefix.{Block}
use Rattle.text_forms.specs.Printed.{prefix_text}
use Rattle.text_forms.proofs.SpelledLemmas.{addr_spelled, block_spelled}
use Rattle.token_reader.specs.LineTokens.{line_tokens}
use Rattle.token_reader.specs.Tokens.{Token, Word}
use Rattle.route_grammar.specs.declared.items.Item.TheVariants as item
use Rattle.route_grammar.specs.declared.kind.Kind.TheVariants as kind
use Rattle.route_grammar.specs.Items.{ReadsItems, none_written, put_all}
use Rattle.route_grammar.specs.Limits.{in_force}
use Rattle.route_grammar.specs.Numbers.{IsHop, IsOfFamily}
use Rattle.route_grammar.specs.Productions.{OneWord, Repeated}
use Rattle.command_grammar.specs.declared.command.Command.{Command}
use Rattle.command_grammar.specs.declared.command.Command.TheVariants as said
use Rattle.command_grammar.specs.declared.keywords.Form.TheVariants.{Attributes}
use Rattle.command_grammar.specs.declared.keywords.Verb.TheVariants.{Announce, Withdraw}
use Rattle.command_grammar.specs.Lines.{ReadsLine}
use Rattle.command_grammar.specs.Routes.{Announced, IsBlockOf, KeysOf, Listed, Withdrawn, family_for, keys_from}
use Rattle.health_core.specs.declared.health.Health.{Health}
use Rattle.health_core.specs.Printing.{FitsHop, HopFits, IsPlain, IsSound, Says, announce_text, attrs_with}
use Rattle.health_core.specs.Printing.{command_said, hop_text, med_at, prefix_texts, said_with, withdraw_text}
use Rattle.health_core.proofs.WordLemmas.{IsWhole, decimal_whole, given_whole, hop_whole, prefix_whole, tokens_spaced}

-- THE PREFIXES

key_again : (family : Family) (key : Key) → IsPlain family key → key ≡ record { prefix = key.prefix; id = 0 }
key_again family key plain = ap (λ (id : ℕ). record { prefix = key.prefix; id = id }) plain.bare

blocks : List Key → List Block
blocks keys = map (λ (key : Key). key.prefix) keys

keys_again : (family : Family) (keys : List Key) → AllByRecursion (IsPlain family) keys
    → keys ≡ keys_from 0 (blocks keys)
unfolding blocks
keys_again family [] plain = refl
keys_again family (key ∷ keys) (first, others) =
    ap₂ (λ (one : Key) (more : List Key). one ∷ more) (key_again family key first) (keys_again family keys others)

texts : List Key → List Token
texts keys = map Word (prefix_texts keys)

block_of : (family : Family) (key : Key) → IsPlain family key
    → IsBlockOf (Some family) (prefix_text key.prefix) key.prefix
block_of family key plain = (block_spelled key.prefix plain.canonical, plain.alike)

further : (family : Family) (keys : List Key) → AllByRecursion (IsPlain family) keys
    → Repeated (OneWord (IsBlockOf (Some family))) in_force (texts keys) (blocks keys)
unfolding texts blocks
further family [] plain = refl
further family (key ∷ keys) (first, others) = (
  Word (prefix_text key.prefix) ∷ [],
  texts keys,
  refl,
  (prefix_text key.prefix, refl, block_of family key first),
  further family keys others,
)

wanted_of : (family : Family) (hop : Hop) (key : Key) → FitsHop family hop → IsPlain family key
    → IsOfFamily (family_for hop) key.prefix.addr
wanted_of family Own key fits plain = tt
wanted_of family (Is addr) key fits plain = plain.alike ∙ sym fits

same_family_all : (family other : Family) (keys : List Key) → family ≡ other → AllByRecursion (IsPlain family) keys
    → AllByRecursion (IsPlain other) keys
same_family_all family other keys is plain =
    subst (λ (one : Family). AllByRecursion (IsPlain one) keys) is plain

keys_listed : (family : Family) (hop : Hop) (keys : List Key) → FitsHop family hop → 0 < length keys
    → length keys ≤ 1024 → AllByRecursion (IsPlain family) keys
    → KeysOf 0 (family_for hop) in_force (texts keys) keys
unfolding texts blocks
keys_listed family hop [] fits some few plain = absurd (omega (arith, some))
keys_listed family hop (key ∷ keys) fits some few (first, others) = (
  key.prefix,
  Word (prefix_text key.prefix) ∷ [],
  texts keys,
  refl,
  (prefix_text key.prefix, refl, (block_spelled key.prefix first.canonical, wanted_of family hop key fits first)),
  (
    blocks keys,
    ap₂ (λ (one : Key) (more : List Key). one ∷ more) (key_again family key first) (keys_again family keys others),
    (
      further (family_of key.prefix.addr) keys
          (same_family_all family (family_of key.prefix.addr) keys (sym first.alike) others),
      omega (arith, few, length-map keys (λ (one : Key). one.prefix)),
    ),
  ),
)

listed : (family : Family) (hop : Hop) (keys : List Key) → FitsHop family hop → 0 < length keys
    → length keys ≤ 1024 → AllByRecursion (IsPlain family) keys
    → Listed 0 hop in_force (Word (codes "nlri") ∷ texts keys) keys
listed family hop keys fits some few plain =
    (tt, Word (codes "nlri") ∷ [], texts keys, refl, refl, keys_listed family hop keys fits some few plain)

-- THE ITEMS

hop_spelled : (hop : Hop) → HopFits hop → IsHop None (hop_text hop) hop
hop_spelled Own fits = refl
hop_spelled (Is addr) fits = (addr_spelled addr fits, tt)

item_tokens : Hop → ℕ → List Token
item_tokens hop med =
    Word (codes "next-hop") ∷ Word (hop_text hop) ∷ Word (codes "med") ∷ Word (decimal med) ∷ []

items_read : (hop : Hop) (med : ℕ) → HopFits hop → med < 2 ^ 32
    → ReadsItems None in_force (item_tokens hop med) (put_all none_written (item.NextHop hop ∷ item.Med med ∷ []))
unfolding item_tokens
items_read hop med fits small = (
  item.NextHop hop ∷ item.Med med ∷ [],
  (
    Word (codes "next-hop") ∷ Word (hop_text hop) ∷ [],
    Word (codes "med") ∷ Word (decimal med) ∷ [],
    refl,
    (
      kind.NextHop,
      Word (codes "next-hop") ∷ [],
      Word (hop_text hop) ∷ [],
      refl,
      (codes "next-hop", refl, refl),
      (hop, refl, (hop_text hop, refl, hop_spelled hop fits)),
    ),
    (
      Word (codes "med") ∷ Word (decimal med) ∷ [],
      [],
      refl,
      (
        kind.Med,
        Word (codes "med") ∷ [],
        Word (decimal med) ∷ [],
        refl,
        (codes "med", refl, refl),
        (med, refl, (decimal med, refl, (small, refl))),
      ),
      refl,
    ),
  ),
  (refl, (refl, tt)),
  refl,
)

-- LINES

announced : (family : Family) (hop : Hop) (med : ℕ) (keys : List Key) → FitsHop family hop → HopFits hop
    → med < 2 ^ 32 → 0 < length keys → length keys ≤ 1024 → AllByRecursion (IsPlain family) keys
    → Announced [] Attributes in_force (item_tokens hop med ++ Word (codes "nlri") ∷ texts keys)
    (said.Announce [] keys (attrs_with hop med))
announced family hop med keys of_family fits small some few plain = (
  put_all none_written (item.NextHop hop ∷ item.Med med ∷ []),
  item_tokens hop med,
  Word (codes "nlri") ∷ texts keys,
  refl,
  items_read hop med fits small,
  (refl, (keys, refl, listed family hop keys of_family some few plain)),
)

withdrawn : (family : Family) (keys : List Key) → 0 < length keys → length keys ≤ 1024
    → AllByRecursion (IsPlain family) keys
    → Withdrawn [] Attributes in_force (Word (codes "nlri") ∷ texts keys) (said.Withdraw [] keys)
withdrawn family keys some few plain = (
  none_written,
  [],
  Word (codes "nlri") ∷ texts keys,
  refl,
  ([], refl, tt, refl),
  (keys, refl, listed family Own keys tt some few plain),
)

targeted_announce : (tokens : List Token) (says : Command) → Announced [] Attributes in_force tokens says
    → ReadsLine in_force (Word (codes "announce") ∷ Word (codes "attributes") ∷ tokens) says
targeted_announce tokens says reads =
    inr (inr (inr (
      Announce,
      Word (codes "announce") ∷ [],
      Word (codes "attributes") ∷ tokens,
      refl,
      (codes "announce", refl, refl),
      (Attributes, Word (codes "attributes") ∷ [], tokens, refl, (codes "attributes", refl, refl), reads),
    )))

targeted_withdraw : (tokens : List Token) (says : Command) → Withdrawn [] Attributes in_force tokens says
    → ReadsLine in_force (Word (codes "withdraw") ∷ Word (codes "attributes") ∷ tokens) says
targeted_withdraw tokens says reads =
    inr (inr (inr (
      Withdraw,
      Word (codes "withdraw") ∷ [],
      Word (codes "attributes") ∷ tokens,
      refl,
      (codes "withdraw", refl, refl),
      (Attributes, Word (codes "attributes") ∷ [], tokens, refl, (codes "attributes", refl, refl), reads),
    )))

-- TEXTS

prefix_short : (addr : Addr) (len : ℕ) → len ≤ width_of addr → len < 2 ^ 64
prefix_short (V4 n) len few = omega (arith, few)
prefix_short (V6 n) len few = omega (arith, few)

prefixes_whole : (family : Family) (keys : List Key) → AllByRecursion (IsPlain family) keys
    → AllByRecursion IsWhole (prefix_texts keys)
prefixes_whole family [] plain = tt
prefixes_whole family (key ∷ keys) (first, others) = (
  prefix_whole key.prefix (prefix_short key.prefix.addr key.prefix.len first.canonical.short),
  prefixes_whole family keys others,
)

announce_reads : (family : Family) (hop : Hop) (med : ℕ) (keys : List Key) → FitsHop family hop → HopFits hop
    → med < 2 ^ 32 → 0 < length keys → length keys ≤ 1024 → AllByRecursion (IsPlain family) keys
    → ReadsLine in_force (line_tokens 0 (announce_text hop med keys)) (said.Announce [] keys (attrs_with hop med))
unfolding texts item_tokens
announce_reads family hop med keys of_family fits small some few plain =
    subst (λ (tokens : List Token). ReadsLine in_force tokens (said.Announce [] keys (attrs_with hop med)))
    (tokens_spaced (codes "announce")
    (codes "attributes" ∷ codes "next-hop" ∷ hop_text hop ∷ codes "med" ∷ decimal med ∷ codes "nlri" ∷ prefix_texts
    keys)
    (given_whole (codes "announce") (omega arith) refl) (
      given_whole (codes "attributes") (omega arith) refl,
      (
        given_whole (codes "next-hop") (omega arith) refl,
        (
          hop_whole hop,
          (
            given_whole (codes "med") (omega arith) refl,
            (
              decimal_whole med (omega (arith, small)),
              (given_whole (codes "nlri") (omega arith) refl, prefixes_whole family keys plain),
            ),
          ),
        ),
      ),
    ))
    (targeted_announce (item_tokens hop med ++ Word (codes "nlri") ∷ texts keys)
    (said.Announce [] keys (attrs_with hop med))
    (announced family hop med keys of_family fits small some few plain))

withdraw_reads : (family : Family) (keys : List Key) → 0 < length keys → length keys ≤ 1024
    → AllByRecursion (IsPlain family) keys
    → ReadsLine in_force (line_tokens 0 (withdraw_text keys)) (said.Withdraw [] keys)
unfolding texts
withdraw_reads family keys some few plain =
    subst (λ (tokens : List Token). ReadsLine in_force tokens (said.Withdraw [] keys))
    (tokens_spaced (codes "withdraw") (codes "attributes" ∷ codes "nlri" ∷ prefix_texts keys)
    (given_whole (codes "withdraw") (omega arith) refl) (
      given_whole (codes "attributes") (omega arith) refl,
      (given_whole (codes "nlri") (omega arith) refl, prefixes_whole family keys plain),
    ))
    (targeted_withdraw (Word (codes "nlri") ∷ texts keys) (said.Withdraw [] keys)
    (withdrawn family keys some few plain))

-- WHAT IS PRINTED

announce_says : (health : Health) (up : Bool) (med : ℕ) (line : List ℕ) → med_at health up ≡ Some med
    → HopFits health.hop → med < 2 ^ 32 → line ≡ announce_text health.hop med health.prefixes
    → length line ≤ 100 + 44 * length health.prefixes → IsSound health → Says line (command_said health up)
announce_says health up med line at fits small is short sound =
    subst (λ (one : Option ℕ). Says line (said_with health one)) (sym at) (record {
      short = omega (arith, short, sound.few);
      reads = subst (λ (text : List ℕ). ReadsLine in_force (line_tokens 0 text) (said_with health (Some med))) (sym is)
          (announce_reads sound.family health.hop med health.prefixes sound.hop_fits fits small sound.some sound.few
          sound.plain);
    })

withdraw_says : (health : Health) (up : Bool) (line : List ℕ) → med_at health up ≡ None
    → line ≡ withdraw_text health.prefixes → length line ≤ 100 + 44 * length health.prefixes → IsSound health
    → Says line (command_said health up)
withdraw_says health up line at is short sound =
    subst (λ (one : Option ℕ). Says line (said_with health one)) (sym at) (record {
      short = omega (arith, short, sound.few);
      reads = subst (λ (text : List ℕ). ReadsLine in_force (line_tokens 0 text) (said_with health None)) (sym is)
          (withdraw_reads sound.family health.prefixes sound.some sound.few sound.plain);
    })

pub announced_says : {E : Type 0} (health : Health) (up : Bool) (med : ℕ) (result : Result (List ℕ) E)
    → med_at health up ≡ Some med → HopFits health.hop → med < 2 ^ 32
    → IfOk result (λ line. line ≡ announce_text health.hop med health.prefixes)
    → IfOk result (λ line. length line ≤ 100 + 44 * length health.prefixes) → IsSound health
    → IfOk result (λ line. Says line (command_said health up))
announced_says health up med (Ok line) at fits small is short sound =
    announce_says health up med line at fits small is short sound
announced_says health up med (Err error) at fits small is short sound = tt

pub withdrawn_says : {E : Type 0} (health : Health) (up : Bool) (result : Result (List ℕ) E)
    → med_at health up ≡ None → IfOk result (λ line. line ≡ withdraw_text health.prefixes)
    → IfOk result (λ line. length line ≤ 100 + 44 * length health.prefixes) → IsSound health
    → IfOk result (λ line. Says line (command_said health up))
withdrawn_says health up (Ok line) at is short sound = withdraw_says health up line at is short sound
withdrawn_says health up (Err error) at is short sound = tt

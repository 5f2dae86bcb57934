-- What a line says of routes to announce: their keys have one family, which the next hop has too, and no list is too
-- long.
use Rattle.std.proofs.Common.{◌≡◌, ℕ, Bool, true, false, List, [], ◌∷◌, length, Some, None, Ok, Err}
use Rattle.std.proofs.Common.{inl, inr, refl, sym, ◌∙◌, subst}
use Rattle.std.proofs.lemmas.Bool.{ltb-false, ltb-true}
use Rattle.std.specs.Prelude.{◌||◌, nat_lt, Option, Result}
use Rattle.route_values.specs.declared.addr.Addr.{Addr}
use Rattle.route_values.specs.declared.addr.Family.{Family}
use Rattle.route_values.specs.declared.attrs.Attrs.{Attrs}
use Rattle.route_values.specs.declared.attrs.Hop.{Hop}
use Rattle.route_values.specs.declared.attrs.Hop.TheVariants.{Own, Is}
use Rattle.route_values.specs.declared.key.Key.{Key}
use Rattle.route_values.specs.declared.pick.Pick.{Pick}
use Rattle.route_values.specs.declared.settings.Settings.{Settings}
use Rattle.route_values.specs.Addr.{family_of}
use Rattle.route_values.specs.Key.{family_of_key, same_key}
use Rattle.route_values.specs.Limits.{counts_written, IsWithinLimits}
use Rattle.route_values.specs.Prefix.{Block}
use Rattle.route_values.specs.Sent.{hop_sent}
use Rattle.route_values.specs.Settings.{side_of}
use Rattle.route_values.proofs.KeyLemmas.{same_key_is}
use Rattle.text_forms.specs.Lines.{Line, Text, TooLong}
use Rattle.token_reader.specs.LineTokens.{line_tokens}
use Rattle.token_reader.specs.Tokens.{Token}
use Rattle.route_grammar.specs.declared.fault.LineFault.TheVariants as fault
use Rattle.route_grammar.specs.declared.fault.ReadFault.{ReadFault}
use Rattle.route_grammar.specs.declared.fault.ReadFault.TheVariants as read
use Rattle.route_grammar.specs.Limits.{in_force}
use Rattle.route_grammar.specs.Numbers.{IsOfFamily}
use Rattle.route_grammar.specs.Productions.{OneWord, Repeated}
use Rattle.command_grammar.specs.declared.command.Command.{Command}
use Rattle.command_grammar.specs.declared.command.Command.TheVariants as command
use Rattle.command_grammar.specs.declared.keywords.Form.{Form}
use Rattle.command_grammar.specs.declared.keywords.Form.TheVariants as form
use Rattle.command_grammar.specs.declared.keywords.Verb.{Verb}
use Rattle.command_grammar.specs.declared.keywords.Verb.TheVariants as verb
use Rattle.command_grammar.specs.Keywords.{IsSole}
use Rattle.command_grammar.specs.Lines.{ReadsLine}
use Rattle.command_grammar.specs.Readings.{Says}
use Rattle.command_grammar.specs.Routes.{Announced, IsBlockOf, KeysOf, Withdrawn, family_for, key_from, keys_from}
use Rattle.command_grammar.specs.Targets.{Targeted, Wanted, Within}
use Rattle.peer_history.specs.Keys.{is_named}
use Rattle.peer_history.proofs.SameLemmas.{same_family_is}
use Rattle.book_history.specs.Selecting.{first_family, family_of_hop, has_own_hop}
use Rattle.book_core.specs.Lines.{IsSaid}
use Rattle.book_core.proofs.ItemLemmas.{AttrsFit, HopFits, items_fit}

-- keys of a family
abbrev pub AreOf : Family → List Key → Type 0
AreOf family keys = (key : Key) → is_named keys key ≡ true → family_of_key key ≡ family

-- keys of one family with attributes that fit it
pub record RoutesFit (keys : List Key) (attrs : Attrs) : Type 0 where
  pub family : Family
  pub are : AreOf family keys
  pub first : first_family keys ≡ Some family
  pub hop : HopFits (Some family) attrs.hop
  pub limits : IsWithinLimits (counts_written attrs)

-- what a command that was said has of this
abbrev pub Fits : Command → Type 0
Fits (command.Announce pick keys attrs) = RoutesFit keys attrs
Fits _ = Unit {0}

-- ---- keys

none_of : (family : Family) → AreOf family []
none_of family = λ key named. absurd (let never : false ≡ true = named in cc)

one_more : (family : Family) (k : Key) (keys : List Key) → family_of_key k ≡ family → AreOf family keys
    → AreOf family (k ∷ keys)
one_more family k keys is are = λ key named. by_same key (same_key k key) refl named
  where
    by_same : (key : Key) (same : Bool) → same_key k key ≡ same → (same || is_named keys key) ≡ true
        → family_of_key key ≡ family
    by_same key true same named = subst (λ (j : Key). family_of_key j ≡ family) (same_key_is k key same) is
    by_same key false other named = are key named

blocks_of : (family : Family) (id : ℕ) (tokens : List Token) (blocks : List Block)
    → Repeated (OneWord (IsBlockOf (Some family))) in_force tokens blocks → AreOf family (keys_from id blocks)
blocks_of family id tokens [] is = none_of family
blocks_of family id tokens (block ∷ blocks) (text, rest, split, (word, at, (spelled, same)), more) =
    one_more family (key_from id block) (keys_from id blocks) same (blocks_of family id rest blocks more)

-- ---- both forms of routes

-- prefixes of the family of a written next hop
of_first : (hop : Hop) (addr : Addr) → IsOfFamily (family_for hop) addr → HopFits (Some (family_of addr)) hop
of_first Own addr same = tt
of_first (Is given) addr same = sym same

listed_fit : (id : ℕ) (attrs : Attrs) (tokens : List Token) (keys : List Key)
    → KeysOf id (family_for attrs.hop) in_force tokens keys → AttrsFit None attrs → RoutesFit keys attrs
listed_fit id attrs tokens keys
    (block, front, back, split, (word, at, (spelled, wanted)), (others, is, (more, few))) fit =
    let family = family_of block.addr in
    subst (λ (ks : List Key). RoutesFit ks attrs) (sym is) (record {
      family = family;
      are = one_more family (key_from id block) (keys_from id others) refl (blocks_of family id back others more);
      first = refl;
      hop = of_first attrs.hop block.addr wanted;
      limits = fit.limits;
    })

announced_fit : (pick : List Pick) (which : Form) (tokens : List Token) (given : Command)
    → Announced pick which in_force tokens given → Fits given
announced_fit pick form.Route tokens given
    (block, front, back, split, text, (items, first, last, parts, written, (has_hop, (empty, is)))) =
    let family = family_of block.addr in
    let fit = items_fit (Some family) first items written in
    subst Fits (sym is) (record {
      family = family;
      are = one_more family (key_from items.id block) [] refl (none_of family);
      first = refl;
      hop = fit.hop;
      limits = fit.limits;
    })
announced_fit pick form.Attributes tokens given
    (items, first, last, parts, written, (has_hop, (keys, is, (word, nlri, blocks, split, at, listed)))) =
    subst Fits (sym is)
    (listed_fit items.id items.attrs blocks keys listed (items_fit None first items written))

-- ---- other commands

withdrawn_fit : (pick : List Pick) (which : Form) (tokens : List Token) (given : Command)
    → Withdrawn pick which in_force tokens given → Fits given
withdrawn_fit pick form.Route tokens given (
  block,
  front,
  back,
  split,
  text,
  (
    items,
    first,
    last,
    parts,
    written,
    (empty, is),
  ),
) = subst Fits (sym is) tt
withdrawn_fit pick form.Attributes tokens given (items, first, last, parts, written, (keys, is, listed)) =
    subst Fits (sym is) tt

shown_fit : (pick : List Pick) (tokens : List Token) (given : Command) → Within pick in_force tokens given → Fits given
shown_fit pick tokens given (inl (empty, is)) = subst Fits (sym is) tt
shown_fit pick tokens given (inr (block, front, back, split, text, (empty, is))) = subst Fits (sym is) tt

wanted_fit : (pick : List Pick) (which : Verb) (tokens : List Token) (given : Command)
    → Wanted pick which in_force tokens given → Fits given
wanted_fit pick verb.Announce tokens given (which, front, back, split, word, is) =
    announced_fit pick which back given is
wanted_fit pick verb.Withdraw tokens given (which, front, back, split, word, is) =
    withdrawn_fit pick which back given is
wanted_fit pick verb.Flush tokens given (said, front, back, split, words, (empty, is)) = subst Fits (sym is) tt
wanted_fit pick verb.Clear tokens given (said, front, back, split, words, (empty, is)) = subst Fits (sym is) tt
wanted_fit pick verb.Show tokens given (said, front, back, split, words, is) = shown_fit pick back given is
wanted_fit pick verb.Teardown tokens given (code, front, back, split, word, (empty, is)) = subst Fits (sym is) tt

targeted_fits : (pick : List Pick) (tokens : List Token) (given : Command) → Targeted pick in_force tokens given
    → Fits given
targeted_fits pick tokens given (which, front, back, split, word, is) = wanted_fit pick which back given is

sole_fits : (word : List ℕ) (given : Command) → IsSole word given → Fits given
sole_fits word (command.Announce pick keys attrs) is = absurd is
sole_fits word given is = tt

line_fits : (tokens : List Token) (given : Command) → ReadsLine in_force tokens given → Fits given
line_fits tokens given (inl (bytes, others, are, is)) = subst Fits (sym is) tt
line_fits tokens given (inr (inl (sole, front, back, split, (word, at, says), (empty, is)))) =
    subst Fits (sym is) (sole_fits word sole says)
line_fits tokens given (inr (inr (inl (picks, front, back, split, picked, is)))) = targeted_fits picks back given is
line_fits tokens given (inr (inr (inr is))) = targeted_fits [] tokens given is

-- ---- a line

says_fit : (line : Line) (given : Command) → Says line (Ok given) → Fits given
says_fit TooLong given says =
    absurd (let never : ◌≡◌ {A = Result Command ReadFault} (Ok given) (Err (read.Line fault.TooLong)) = says in cc)
says_fit (Text text) given says = by_length (nat_lt 65535 (length text)) refl
  where
    by_length : (long : Bool) → nat_lt 65535 (length text) ≡ long → Fits given
    by_length true long =
        absurd (let never : ◌≡◌ {A = Result Command ReadFault} (Ok given) (Err (read.Line fault.TooLong)) =
        says.1 (ltb-true 65535 (length text) long) in cc)
    by_length false short = line_fits (line_tokens 0 text) given (says.0 (ltb-false 65535 (length text) short)).0

-- routes that a line announces
pub said_fit : (pick : List Pick) (keys : List Key) (attrs : Attrs) → IsSaid (command.Announce pick keys attrs)
    → RoutesFit keys attrs
said_fit pick keys attrs (line, says) = says_fit line (command.Announce pick keys attrs) says

-- ---- a neighbour whose own address serves

hop_family : (hop : Hop) (keys : List Key) (own : Settings) (family : Family) → first_family keys ≡ Some family
    → HopFits (Some family) hop → has_own_hop (family_of_hop hop keys) own ≡ true
    → family_of (hop_sent hop (side_of own)) ≡ family
hop_family Own keys own family first fits serves =
    sym (same_family_is family (family_of own.local)
    (subst (λ (f : Option Family). has_own_hop f own ≡ true) first serves))
hop_family (Is addr) keys own family first fits serves = fits

-- the next hop that is sent has each key's family
pub hop_of_each : (keys : List Key) (attrs : Attrs) (own : Settings) → RoutesFit keys attrs
    → has_own_hop (family_of_hop attrs.hop keys) own ≡ true → (key : Key) → is_named keys key ≡ true
    → family_of (hop_sent attrs.hop (side_of own)) ≡ family_of_key key
hop_of_each keys attrs own fit serves key named =
    hop_family attrs.hop keys own fit.family fit.first fit.hop serves ∙ sym (fit.are key named)

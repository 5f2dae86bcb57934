-- The tokens of an effect are tokens of a line.
use Rattle.std.proofs.Common.{ℕ, ◌==◌, ◌+◌, ◌<◌, ◌^◌, Bool, true, false, List, [], ◌∷◌, ◌++◌, Option, Some, None, codes}
use Rattle.std.proofs.Common.{cond, decimal, refl, arith}
use Rattle.std.specs.List.{flat_map, AllByRecursion}
use Rattle.std.specs.Prelude.{IfSome}
use Rattle.route_values.specs.declared.attrs.WireAttrs.{WireAttrs}
use Rattle.route_values.specs.declared.key.Key.{Key}
use Rattle.route_values.specs.declared.path.Segment.{Segment}
use Rattle.route_values.specs.declared.addr.Family.{Family}
use Rattle.route_values.specs.Addr.{width_of}
use Rattle.route_values.specs.Key.{family_of_key}
use Rattle.route_values.specs.declared.addr.Addr.{Addr}
use Rattle.route_values.specs.declared.addr.Addr.TheVariants.{V4, V6}
use Rattle.text_forms.specs.Printed.{ipv4_text, addr_text, prefix_text}
use Rattle.token_reader.specs.Tokens.{Token}
use Rattle.update_grammar.specs.declared.effect.Effect.{Effect}
use Rattle.update_grammar.specs.declared.effect.Effect.TheVariants.{Gone, Here}
use Rattle.update_grammar.specs.Values.{IsNumber, IsSegment}
use Rattle.update_grammar.specs.Written.{IsSendable}
use Rattle.text_printer.specs.Items.{named, named_if, stands_if, word_each, listed, set_tokens, segment_tokens}
use Rattle.text_printer.specs.Items.{path_tokens, closing_paren, closing_bracket, origin_text, aggregator_text}
use Rattle.text_printer.specs.Items.{community_text, extended_text, large_text}
use Rattle.text_printer.specs.Laws.{IsKey, IsEffect, AreBytes}
use Rattle.text_printer.specs.Printing.{id_tokens, key_tokens, single_tokens, list_tokens, attrs_tokens, effect_tokens}
use Rattle.text_printer.proofs.ByteLemmas.{given_word}
use Rattle.text_printer.proofs.ExtendedLemmas.{IsEight, all_eight}
use Rattle.text_printer.proofs.TokenLemmas.{IsShortWord, AreClean, clean_append}
use Rattle.text_printer.proofs.WordLemmas.{number_word, ipv4_word, addr_word, prefix_word, origin_word, community_word}
use Rattle.text_printer.proofs.WordLemmas.{aggregator_word, large_word, extended_word}

clean_named : (name operand : List ℕ) → IsShortWord name → IsShortWord operand → AreClean (named name operand)
clean_named name operand name_is operand_is = (name_is, (operand_is, tt))

clean_if : {V : Type 0} (Fit : V → Type 0) (name : List ℕ) (text : V → List ℕ) (value : Option V) → IsShortWord name
    → ((one : V) → Fit one → IsShortWord (text one)) → IfSome value Fit → AreClean (named_if name text value)
clean_if Fit name text None name_is words fits = tt
clean_if Fit name text (Some value) name_is words fits = (name_is, (words value fits, tt))

clean_stands : (name : List ℕ) (stands : Bool) → IsShortWord name → AreClean (stands_if name stands)
clean_stands name true name_is = (name_is, tt)
clean_stands name false name_is = tt

clean_each : {V : Type 0} (Fit : V → Type 0) (text : V → List ℕ) (values : List V)
    → ((one : V) → Fit one → IsShortWord (text one)) → AllByRecursion Fit values → AreClean (word_each text values)
clean_each Fit text [] words fit = tt
clean_each Fit text (value ∷ values) words fit = (words value fit.0, clean_each Fit text values words fit.1)

clean_listed : {V : Type 0} (Fit : V → Type 0) (name : List ℕ) (text : V → List ℕ) (values : List V) → IsShortWord name
    → ((one : V) → Fit one → IsShortWord (text one)) → AllByRecursion Fit values → AreClean (listed name text values)
clean_listed Fit name text [] name_is words fit = tt
clean_listed Fit name text (value ∷ values) name_is words fit = (
  name_is,
  (
    refl,
    clean_append (word_each text (value ∷ values)) (closing_bracket ∷ [])
        (clean_each Fit text (value ∷ values) words fit) (refl, tt),
  ),
)

clean_numbers : (numbers : List ℕ) → AllByRecursion IsNumber numbers → AreClean (word_each decimal numbers)
clean_numbers numbers fit = clean_each IsNumber decimal numbers number_word fit

clean_segment : (set : Bool) (numbers : List ℕ) → AllByRecursion IsNumber numbers
    → AreClean (cond set (set_tokens numbers) (word_each decimal numbers))
clean_segment true numbers fit =
    (refl, clean_append (word_each decimal numbers) (closing_paren ∷ []) (clean_numbers numbers fit) (refl, tt))
clean_segment false numbers fit = clean_numbers numbers fit

clean_segments : (path : List Segment) → AllByRecursion IsSegment path → AreClean (flat_map segment_tokens path)
clean_segments [] fit = tt
clean_segments (segment ∷ path) fit =
    clean_append (segment_tokens segment) (flat_map segment_tokens path)
    (let first = fit.0 in clean_segment segment.set segment.numbers first.numbers) (clean_segments path fit.1)

clean_path : (path : List Segment) → AllByRecursion IsSegment path → AreClean (path_tokens path)
clean_path path fit = (
  given_word (codes "as-path") refl refl,
  (
    refl,
    clean_append (flat_map segment_tokens path) (closing_bracket ∷ []) (clean_segments path fit) (refl, tt),
  ),
)

clean_id : (id : ℕ) (none : Bool) → id < 2 ^ 32
    → AreClean (cond none [] (named (codes "path-information") (decimal id)))
clean_id id true small = tt
clean_id id false small =
    clean_named (codes "path-information") (decimal id) (given_word (codes "path-information") refl refl)
    (number_word id small)

-- no address has more bits than one of IPv6
width_most : (addr : Addr) (len : ℕ) → len < width_of addr + 1 → len < 129
width_most (V4 n) len short = omega arith
width_most (V6 n) len short = short

clean_key : (key : Key) → IsKey key → AreClean (key_tokens key)
clean_key key is =
    let prefix = is.prefix in
    let short = prefix.short in
    let most = width_most key.prefix.addr key.prefix.len (omega arith) in
    clean_append (named (codes "route") (prefix_text key.prefix)) (id_tokens key.id)
    (clean_named (codes "route") (prefix_text key.prefix) (given_word (codes "route") refl refl)
    (prefix_word key.prefix most)) (clean_id key.id (key.id == 0) is.id)

clean_single : (family : Family) (sent : WireAttrs) → IsSendable family sent → AreClean (single_tokens sent)
clean_single family sent is =
    clean_append _ (named_if (codes "aggregator") aggregator_text sent.aggregator)
    (clean_append _ (stands_if (codes "atomic-aggregate") sent.atomic)
    (clean_append (named_if (codes "med") decimal sent.med)
    (named_if (codes "local-preference") decimal sent.local_pref)
    (clean_if IsNumber (codes "med") decimal sent.med (given_word (codes "med") refl refl) number_word is.med)
    (clean_if IsNumber (codes "local-preference") decimal sent.local_pref
    (given_word (codes "local-preference") refl refl) number_word is.local_pref))
    (clean_stands (codes "atomic-aggregate") sent.atomic (given_word (codes "atomic-aggregate") refl refl)))
    (clean_if _ (codes "aggregator") aggregator_text sent.aggregator (given_word (codes "aggregator") refl refl)
    aggregator_word is.aggregator)

clean_lists : (family : Family) (sent : WireAttrs) → IsSendable family sent → AllByRecursion AreBytes sent.extended
    → AreClean (list_tokens sent)
clean_lists family sent is bytes =
    clean_append _ (listed (codes "large-community") large_text sent.large)
    (clean_append _ (listed (codes "extended-community") extended_text sent.extended)
    (clean_append _ (listed (codes "cluster-list") ipv4_text sent.clusters)
    (clean_append (listed (codes "community") community_text sent.communities)
    (named_if (codes "originator-id") ipv4_text sent.originator)
    (clean_listed IsNumber (codes "community") community_text sent.communities
    (given_word (codes "community") refl refl) community_word is.communities)
    (clean_if IsNumber (codes "originator-id") ipv4_text sent.originator
    (given_word (codes "originator-id") refl refl) (λ one small. ipv4_word one) is.originator))
    (clean_listed IsNumber (codes "cluster-list") ipv4_text sent.clusters
    (given_word (codes "cluster-list") refl refl) (λ one small. ipv4_word one) is.clusters))
    (clean_listed IsEight (codes "extended-community") extended_text sent.extended
    (given_word (codes "extended-community") refl refl) extended_word
    (all_eight sent.extended is.extended bytes)))
    (clean_listed _ (codes "large-community") large_text sent.large (given_word (codes "large-community") refl refl)
    large_word is.large)

clean_attrs : (family : Family) (sent : WireAttrs) → IsSendable family sent → AllByRecursion AreBytes sent.extended
    → AreClean (attrs_tokens sent)
clean_attrs family sent is bytes =
    let hop : List Token = named (codes "next-hop") (addr_text sent.hop) in
    let origin : List Token = named (codes "origin") (origin_text sent.origin) in
    clean_append (hop ++ origin ++ path_tokens sent.path ++ single_tokens sent) (list_tokens sent)
    (clean_append (hop ++ origin ++ path_tokens sent.path) (single_tokens sent)
    (clean_append (hop ++ origin) (path_tokens sent.path) (clean_append hop origin
    (clean_named (codes "next-hop") (addr_text sent.hop) (given_word (codes "next-hop") refl refl) (addr_word sent.hop))
    (clean_named (codes "origin") (origin_text sent.origin) (given_word (codes "origin") refl refl)
    (origin_word sent.origin)))
    (clean_path sent.path is.path)) (clean_single family sent is)) (clean_lists family sent is bytes)

pub clean_effect : (effect : Effect) → IsEffect effect → AreClean (effect_tokens effect)
clean_effect (Gone key) is = (given_word (codes "withdraw") refl refl, clean_key key is)
clean_effect (Here key sent) is = (
  given_word (codes "announce") refl refl,
  clean_append (key_tokens key) (attrs_tokens sent) (clean_key key is.0)
      (clean_attrs (family_of_key key) sent is.1 is.2),
)

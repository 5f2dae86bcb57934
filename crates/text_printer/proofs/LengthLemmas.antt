-- How long the line of an effect is at most: each token has at most 43 bytes, and there are at most 1,158 of them.
use Rattle.std.proofs.Common.{ℕ, ◌==◌, ◌+◌, ◌*◌, ◌≤◌, Bool, true, false, List, [], ◌∷◌, ◌++◌, length, Option, Some}
use Rattle.std.proofs.Common.{None}
use Rattle.std.proofs.Common.{codes, decimal, arith, if◌then◌else◌}
use Rattle.std.specs.List.{flat_map}
use Rattle.std.proofs.lemmas.List.{length-append, length-map}
use Rattle.std.proofs.lemmas.List.Sums.{sum_by-cons}
use Rattle.route_values.specs.declared.attrs.WireAttrs.{WireAttrs}
use Rattle.route_values.specs.declared.key.Key.{Key}
use Rattle.route_values.specs.declared.path.Segment.{Segment}
use Rattle.route_values.specs.Limits.{counts_sent, numbers_in, IsWithinLimits}
use Rattle.route_values.specs.Path.{AllFilled}
use Rattle.text_forms.specs.Printed.{ipv4_text, addr_text, prefix_text}
use Rattle.token_reader.specs.Tokens.{Token, Mark, Word, Quoted, Unclosed}
use Rattle.update_grammar.specs.declared.effect.Effect.{Effect}
use Rattle.update_grammar.specs.declared.effect.Effect.TheVariants.{Gone, Here}
use Rattle.text_printer.specs.Items.{named, named_if, stands_if, word_each, listed, set_tokens, segment_tokens}
use Rattle.text_printer.specs.Items.{path_tokens, closing_paren, closing_bracket, origin_text, aggregator_text}
use Rattle.text_printer.specs.Items.{community_text, extended_text, large_text}
use Rattle.text_printer.specs.Laws.{IsEffect}
use Rattle.text_printer.specs.Printable.{IsPrintable}
use Rattle.text_printer.specs.Printing.{id_tokens, key_tokens, single_tokens, list_tokens, attrs_tokens, effect_tokens}
use Rattle.text_printer.specs.Printing.{effect_text}
use Rattle.text_printer.specs.Spaced.{token_text, led, all_led, spaced}
use Rattle.text_printer.proofs.CleanLemmas.{clean_effect}
use Rattle.text_printer.proofs.PathLemmas.{all_filled}
use Rattle.text_printer.proofs.TokenLemmas.{IsClean, AreClean}

-- a token of a line is short
token_short : (token : Token) → IsClean token → length (token_text token) ≤ 43
token_short (Mark sign) clean = omega arith
token_short (Word text) clean = clean.short
token_short (Quoted text) clean = absurd clean
token_short Unclosed clean = absurd clean

led_length : (tokens : List Token) → AreClean tokens → length (all_led tokens) ≤ 44 * length tokens
led_length [] clean = omega arith
led_length (token ∷ tokens) clean =
    let first = token_short token clean.0 in
    let rest = led_length tokens clean.1 in
    omega (arith, length-append (led token) (all_led tokens), first, rest)

spaced_length : (tokens : List Token) → AreClean tokens → length (spaced tokens) ≤ 44 * length tokens
spaced_length [] clean = omega arith
spaced_length (token ∷ tokens) clean =
    let first = token_short token clean.0 in
    let rest = led_length tokens clean.1 in
    omega (arith, length-append (token_text token) (all_led tokens), first, rest)

-- how many tokens items have
named_if_count : {V : Type 0} (name : List ℕ) (text : V → List ℕ) (value : Option V)
    → length (named_if name text value) ≤ 2
named_if_count name text None = omega arith
named_if_count name text (Some value) = omega arith

stands_count : (name : List ℕ) (stands : Bool) → length (stands_if name stands) ≤ 1
stands_count name true = omega arith
stands_count name false = omega arith

listed_count : {V : Type 0} (name : List ℕ) (text : V → List ℕ) (values : List V)
    → length (listed name text values) ≤ length values + 3
listed_count name text [] = omega arith
listed_count name text (value ∷ values) =
    let words = length-append (word_each text (value ∷ values)) (closing_bracket ∷ []) in
    let each = length-map (value ∷ values) (λ one. Word (text one)) in
    omega (arith, words, each)

segment_count : (set : Bool) (numbers : List ℕ)
    → length (if set then set_tokens numbers else word_each decimal numbers) ≤ length numbers + 2
segment_count true numbers =
    let words = length-append (word_each decimal numbers) (closing_paren ∷ []) in
    let each = length-map numbers (λ one. Word (decimal one)) in
    omega (arith, words, each)
segment_count false numbers = let each = length-map numbers (λ one. Word (decimal one)) in omega (arith, each)

-- each segment has a number at least, so that its signs are at most twice as many
segments_count : (path : List Segment) → AllFilled path
    → length (flat_map segment_tokens path) ≤ 3 * numbers_in path
segments_count [] filled = omega arith
segments_count (segment ∷ path) filled =
    let first = segment_count segment.set segment.numbers in
    let some = filled.0 in
    let rest = segments_count path filled.1 in
    let sum = sum_by-cons (λ (one : Segment). length one.numbers) segment path in
    omega (arith, length-append (segment_tokens segment) (flat_map segment_tokens path), first, some, rest, sum)

-- how many tokens an effect has
id_count : (id : ℕ) (none : Bool) → length (if none then [] else named (codes "path-information") (decimal id)) ≤ 2
id_count id true = omega arith
id_count id false = omega arith

key_count : (key : Key) → length (key_tokens key) ≤ 4
key_count key =
    let id = id_count key.id (key.id == 0) in
    omega (arith, length-append (named (codes "route") (prefix_text key.prefix)) (id_tokens key.id), id)

single_count : (sent : WireAttrs) → length (single_tokens sent) ≤ 7
single_count sent =
    let med : List Token = named_if (codes "med") decimal sent.med in
    let local_pref : List Token = named_if (codes "local-preference") decimal sent.local_pref in
    let atomic : List Token = stands_if (codes "atomic-aggregate") sent.atomic in
    let aggregator : List Token = named_if (codes "aggregator") aggregator_text sent.aggregator in
    omega (
      arith,
      length-append (med ++ local_pref ++ atomic) aggregator,
      length-append (med ++ local_pref) atomic,
      length-append med local_pref,
      named_if_count (codes "med") decimal sent.med,
      named_if_count (codes "local-preference") decimal sent.local_pref,
      stands_count (codes "atomic-aggregate") sent.atomic,
      named_if_count (codes "aggregator") aggregator_text sent.aggregator,
    )

list_count : (sent : WireAttrs) → IsWithinLimits (counts_sent sent) → length (list_tokens sent) ≤ 374
list_count sent limits =
    let communities : List Token = listed (codes "community") community_text sent.communities in
    let originator : List Token = named_if (codes "originator-id") ipv4_text sent.originator in
    let clusters : List Token = listed (codes "cluster-list") ipv4_text sent.clusters in
    let extended : List Token = listed (codes "extended-community") extended_text sent.extended in
    let large : List Token = listed (codes "large-community") large_text sent.large in
    omega (
      arith,
      length-append (communities ++ originator ++ clusters ++ extended) large,
      length-append (communities ++ originator ++ clusters) extended,
      length-append (communities ++ originator) clusters,
      length-append communities originator,
      listed_count (codes "community") community_text sent.communities,
      named_if_count (codes "originator-id") ipv4_text sent.originator,
      listed_count (codes "cluster-list") ipv4_text sent.clusters,
      listed_count (codes "extended-community") extended_text sent.extended,
      listed_count (codes "large-community") large_text sent.large,
      limits.communities,
      limits.clusters,
      limits.extended,
      limits.large,
    )

path_count : (path : List Segment) → AllFilled path → numbers_in path ≤ 255 → length (path_tokens path) ≤ 768
path_count path filled few =
    let segments = segments_count path filled in
    omega (arith, length-append (flat_map segment_tokens path) (closing_bracket ∷ []), segments, few)

attrs_count : (sent : WireAttrs) → AllFilled sent.path → IsWithinLimits (counts_sent sent)
    → length (attrs_tokens sent) ≤ 1153
attrs_count sent filled limits =
    let hop : List Token = named (codes "next-hop") (addr_text sent.hop) in
    let origin : List Token = named (codes "origin") (origin_text sent.origin) in
    let path : List Token = path_tokens sent.path in
    omega (
      arith,
      length-append (hop ++ origin ++ path ++ single_tokens sent) (list_tokens sent),
      length-append (hop ++ origin ++ path) (single_tokens sent),
      length-append (hop ++ origin) path,
      path_count sent.path filled limits.numbers,
      single_count sent,
      list_count sent limits,
    )

effect_count : (effect : Effect) → IsEffect effect → IsPrintable effect → length (effect_tokens effect) ≤ 1158
effect_count (Gone key) is can = let tokens = key_count key in omega (arith, tokens)
effect_count (Here key sent) is can =
    let sendable = is.1 in
    let tokens = key_count key in
    let attrs = attrs_count sent (all_filled sent.path sendable.path) can.limits in
    omega (arith, length-append (key_tokens key) (attrs_tokens sent), tokens, attrs)

-- the line of an effect is no longer than a line may be
pub effect_short : (effect : Effect) → IsEffect effect → IsPrintable effect → length (effect_text effect) ≤ 65535
effect_short effect is can =
    let bytes = spaced_length (effect_tokens effect) (clean_effect effect is) in
    let tokens = effect_count effect is can in
    omega (arith, bytes, tokens)

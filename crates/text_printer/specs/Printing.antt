-- Effects of messages as lines: the command that tells just the effect.
use Rattle.std.specs.Prelude.{ℕ, ◌==◌, codes, decimal, List, [], ◌∷◌, ◌++◌, if◌then◌else◌}
use Rattle.route_values.specs.declared.attrs.WireAttrs.{WireAttrs}
use Rattle.route_values.specs.declared.key.Key.{Key}
use Rattle.text_forms.specs.Printed.{ipv4_text, addr_text, prefix_text}
use Rattle.token_reader.specs.Tokens.{Token, Word}
use Rattle.update_grammar.specs.declared.effect.Effect.{Effect}
use Rattle.update_grammar.specs.declared.effect.Effect.TheVariants.{Gone, Here}
use Rattle.text_printer.specs.Items.{origin_text, aggregator_text, community_text, extended_text, large_text}
use Rattle.text_printer.specs.Items.{named, named_if, stands_if, listed, path_tokens}
use Rattle.text_printer.specs.Spaced.{spaced}

-- a path identifier, unless it is 0 (RFC 7911, section 3)
abbrev pub id_tokens : ℕ → List Token
id_tokens id = if id == 0 then [] else named (codes "path-information") (decimal id)

-- a key: its prefix with its number of bits, and its identifier
abbrev pub key_tokens : Key → List Token
key_tokens key = named (codes "route") (prefix_text key.prefix) ++ id_tokens key.id

-- the attributes of which each is one number, address or word
abbrev pub single_tokens : WireAttrs → List Token
single_tokens sent =
    named_if (codes "med") decimal sent.med ++ named_if (codes "local-preference") decimal sent.local_pref
    ++ stands_if (codes "atomic-aggregate") sent.atomic
    ++ named_if (codes "aggregator") aggregator_text sent.aggregator

-- the communities, with the two attributes of a reflected route (RFC 4456, section 8)
abbrev pub list_tokens : WireAttrs → List Token
list_tokens sent =
    listed (codes "community") community_text sent.communities
    ++ named_if (codes "originator-id") ipv4_text sent.originator
    ++ listed (codes "cluster-list") ipv4_text sent.clusters
    ++ listed (codes "extended-community") extended_text sent.extended
    ++ listed (codes "large-community") large_text sent.large

-- next hop, origin and path, which each announcement has, and then what else is present
abbrev pub attrs_tokens : WireAttrs → List Token
attrs_tokens sent =
    named (codes "next-hop") (addr_text sent.hop) ++ named (codes "origin") (origin_text sent.origin)
    ++ path_tokens sent.path ++ single_tokens sent ++ list_tokens sent

-- the tokens of an effect
abbrev pub effect_tokens : Effect → List Token
effect_tokens (Gone key) = Word (codes "withdraw") ∷ key_tokens key
effect_tokens (Here key sent) = Word (codes "announce") ∷ (key_tokens key ++ attrs_tokens sent)

-- the line of an effect, without its line feed
abbrev pub effect_text : Effect → List ℕ
effect_text effect = spaced (effect_tokens effect)

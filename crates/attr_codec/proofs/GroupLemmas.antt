-- The attributes of an announcement are their groups.
use Rattle.std.proofs.Common.{ℕ, ◌≡◌, ◌+◌, ◌*◌, List, [], ◌∷◌, ◌++◌, length, arith, length-append, append_assoc, subst}
use Rattle.std.proofs.Common.{ap, sym, ◌∙◌}
use Rattle.std.specs.List.{flat_map}
use Rattle.std.proofs.lemmas.List.Concat.{flat_map-append}
use Rattle.route_values.specs.declared.addr.Family.{Family}
use Rattle.route_values.specs.declared.attrs.WireAttrs.{WireAttrs}
use Rattle.route_values.specs.Addr.{family_of}
use Rattle.update_grammar.specs.Attributes.{raw_text, transitive, optional, optional_transitive}
use Rattle.update_grammar.specs.Values.{number_text, numbers_text, origin_number, path_text, aggregator_text, exts_text}
use Rattle.update_grammar.specs.Values.{larges_text}
use Rattle.update_grammar.specs.Written.{raw, raw_if, raw_some, raw_when, hop_raws, reach_raws, attributes_text}
use Rattle.attr_codec.specs.declared.codes.Kind.TheVariants.{WellKnown, Optional, OptionalTransitive}
use Rattle.attr_codec.specs.Buffer.{Buffer, Appended}
use Rattle.attr_codec.specs.Groups.{raws_text, number_attr, numbers_attr, path_attr, atomic_attr, aggregator_attr}
use Rattle.attr_codec.specs.Groups.{exts_attr, larges_attr, first_text, second_text, third_text, last_text}
use Rattle.attr_codec.specs.Sizes.{attr_size, attributes_size}
use Rattle.attr_codec.proofs.AppendedLemmas.{appended_four}
use Rattle.attr_codec.proofs.SizeLemmas.{length-numbers_text, length-larges_text, length-path_text, length-raw_text}
use Rattle.attr_codec.proofs.SizeLemmas.{length-number_if, length-aggregator_if, length-atomic_when, length-hop}
use Rattle.attr_codec.proofs.SizeLemmas.{length-list}

-- lists one after another, in four groups
grouped : {A : Type 0} (f : A → List ℕ) (origin path : A)
    → (hop med pref atomic by comm orig clus reach ext large : List A)
    → flat_map f (origin ∷ path ∷ (hop ++ (med ++ (pref ++ (atomic ++ (by ++ (comm ++ (orig ++ (clus ++ (reach
    ++ (ext ++ large)))))))))))
    ≡ (f origin ++ (f path ++ flat_map f hop))
    ++ ((flat_map f med ++ (flat_map f pref ++ (flat_map f atomic ++ flat_map f by)))
    ++ ((flat_map f comm ++ (flat_map f orig ++ flat_map f clus))
    ++ (flat_map f reach ++ (flat_map f ext ++ flat_map f large))))
grouped f origin path hop med pref atomic by comm orig clus reach ext large = simp (flat_map-append, append_assoc)

pub attributes_text-grouped : (family : Family) (w : WireAttrs)
    → attributes_text family w [] ≡ first_text family w ++ (second_text w ++ (third_text w ++ last_text family w))
unfolding attributes_text
attributes_text-grouped family w =
    grouped raw_text (raw transitive 1 (origin_number w.origin ∷ [])) (raw transitive 2 (path_text w.path))
    (hop_raws family w.hop)
    (raw_if number_text optional 4 w.med) (raw_if number_text transitive 5 w.local_pref)
    (raw_when w.atomic transitive 6) (raw_if aggregator_text optional_transitive 7 w.aggregator)
    (raw_some numbers_text optional_transitive 8 w.communities) (raw_if number_text optional 9 w.originator)
    (raw_some numbers_text optional 10 w.clusters)
    (reach_raws family w.hop []) (raw_some exts_text optional_transitive 16 w.extended)
    (raw_some larges_text optional_transitive 32 w.large)

length_three : (a b c : List ℕ) → length (a ++ (b ++ c)) ≡ length a + length b + length c
length_three a b c = omega (arith, length-append a (b ++ c), length-append b c)

length_four : (a b c d : List ℕ) → length (a ++ (b ++ (c ++ d))) ≡ length a + length b + length c + length d
length_four a b c d = omega (arith, length-append a (b ++ (c ++ d)), length_three b c d)

-- the lengths of the groups
abbrev groups_size : Family → WireAttrs → ℕ
groups_size family w =
    length (first_text family w) + length (second_text w) + length (third_text w) + length (last_text family w)

length_of_groups : (family : Family) (w : WireAttrs) → length (attributes_text family w []) ≡ groups_size family w
length_of_groups family w =
    ap length (attributes_text-grouped family w)
    ∙ length_four (first_text family w) (second_text w) (third_text w) (last_text family w)

-- the same by the family of the next hop
pub length-groups : (family : Family) (w : WireAttrs) → family_of w.hop ≡ family
    → length (attributes_text family w []) ≡ groups_size (family_of w.hop) w
length-groups family w is =
    subst (λ f. length (attributes_text f w []) ≡ groups_size (family_of w.hop) w) is
    (length_of_groups (family_of w.hop) w)

-- writing the groups writes the attributes
pub groups_appended : (family : Family) (w : WireAttrs) (a b c d e : Buffer) → family_of w.hop ≡ family
    → Appended a b (first_text (family_of w.hop) w) → Appended b c (second_text w) → Appended c d (third_text w)
    → Appended d e (last_text (family_of w.hop) w) → Appended a e (attributes_text family w [])
groups_appended family w a b c d e is first second third last =
    let four = appended_four a b c d e _ _ _ _ first second third last in
    subst (λ f. Appended a e (attributes_text f w [])) is
    (subst (λ text. Appended a e text) (sym (attributes_text-grouped (family_of w.hop) w)) four)

-- how long the attributes are, where each extended community has eight bytes
pub length-attributes_text : (family : Family) (w : WireAttrs) → length (exts_text w.extended) ≡ length w.extended * 8
    → length (attributes_text family w []) ≡ attributes_size family w
length-attributes_text family w eight =
    let whole = length_of_groups family w in
    let origin : List ℕ = raw_text (raw transitive 1 (origin_number w.origin ∷ [])) in
    let first = length_three origin (path_attr w.path) (raws_text (hop_raws family w.hop)) in
    let second =
    length_four (number_attr Optional 4 w.med) (number_attr WellKnown 5 w.local_pref) (atomic_attr w.atomic)
    (aggregator_attr w.aggregator) in
    let third =
    length_three (numbers_attr OptionalTransitive 8 w.communities) (number_attr Optional 9 w.originator)
    (numbers_attr Optional 10 w.clusters) in
    let last = length_three (raws_text (reach_raws family w.hop [])) (exts_attr w.extended) (larges_attr w.large) in
    let path = length-raw_text WellKnown 2 (path_text w.path) ∙ ap attr_size (length-path_text w.path) in
    let med = length-number_if Optional 4 w.med in
    let local_pref = length-number_if WellKnown 5 w.local_pref in
    let atomic = length-atomic_when w.atomic in
    let aggregator = length-aggregator_if w.aggregator in
    let numbers = length-numbers_text w.communities in
    let communities = length-list OptionalTransitive 8 numbers_text w.communities 4 numbers in
    let originator = length-number_if Optional 9 w.originator in
    let clusters = length-list Optional 10 numbers_text w.clusters 4 (length-numbers_text w.clusters) in
    let hop = length-hop family w.hop in
    let extended = length-list OptionalTransitive 16 exts_text w.extended 8 eight in
    let large = length-list OptionalTransitive 32 larges_text w.large 12 (length-larges_text w.large) in
    omega arith

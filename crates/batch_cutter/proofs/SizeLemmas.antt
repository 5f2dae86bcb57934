-- How long messages are by the bytes of their prefixes.
use Rattle.std.proofs.Common.{ℕ, ◌≡◌, ◌+◌, ◌<◌, ◌≤◌, Bool, List, [], ◌∷◌, ◌++◌, length, true, false, if◌then◌else◌}
use Rattle.std.proofs.Common.{arith, length-append, ap, sym, ◌∙◌, subst}
use Rattle.route_values.specs.declared.addr.Addr.{Addr}
use Rattle.route_values.specs.declared.addr.Addr.TheVariants.{V4, V6}
use Rattle.route_values.specs.declared.addr.Family.{Family}
use Rattle.route_values.specs.declared.addr.Family.TheVariants.{Ipv4, Ipv6}
use Rattle.route_values.specs.declared.attrs.WireAttrs.{WireAttrs}
use Rattle.route_values.specs.Caps.{Caps}
use Rattle.route_values.specs.declared.key.Key.{Key}
use Rattle.route_values.specs.Addr.{family_of}
use Rattle.route_values.specs.Key.{family_of_key}
use Rattle.route_values.specs.Visible.{has_path}
use Rattle.update_grammar.specs.Attributes.{raw_text, optional}
use Rattle.update_grammar.specs.Families.{family_text}
use Rattle.update_grammar.specs.Head.{Head}
use Rattle.update_grammar.specs.Head as head
use Rattle.update_grammar.specs.Packed.{room}
use Rattle.update_grammar.specs.Prefixes.{key_text, keys_text}
use Rattle.update_grammar.specs.Update.{body}
use Rattle.update_grammar.specs.Written.{message, raw, attributes_text, unreach_text, written}
use Rattle.attr_codec.specs.Buffer.{Buffer}
use Rattle.attr_codec.specs.Sizes.{attr_size}
use Rattle.update_codec.proofs.AttributeLemmas.{length-optional}
use Rattle.update_codec.proofs.KeysLemmas.{keys_more}
use Rattle.update_codec.proofs.LimitLemmas.{opened_fits}
use Rattle.update_codec.proofs.ReachLemmas.{reach_value, front_raws, back_raws, length-announced}
use Rattle.update_codec.proofs.WrittenLemmas.{gone_is_end, length-end}
use Rattle.attr_codec.specs.Groups.{raws_text}
use Rattle.batch_cutter.specs.declared.kind.Kind.{Kind}
use Rattle.batch_cutter.specs.declared.kind.Kind.TheVariants as kind
use Rattle.batch_cutter.specs.Heads.{kind_of, family_of_head, CanBegin, Fits}
use Rattle.batch_cutter.specs.Kinds.{family_of_kind, TakesKeys, HasKeys}
use Rattle.batch_cutter.specs.Packing.{Packing, Holds, IsOpen, Adds}
use Rattle.batch_cutter.specs.Sizes.{field_size}

-- the field of the prefixes holds them
pub field_least : (k : Kind) (filled : ℕ) → filled ≤ field_size k filled
field_least (kind.Gone Ipv4) filled = omega arith
field_least (kind.Gone Ipv6) filled = omega arith
field_least (kind.Here Ipv4) filled = omega arith
field_least (kind.Here Ipv6) filled = omega arith
field_least (kind.End family) filled = omega arith

-- one more prefix
pub length-keys_more : (path : Bool) (keys : List Key) (key : Key)
    → length (keys_text path (keys ++ key ∷ [])) ≡ length (keys_text path keys) + length (key_text path key)
length-keys_more path keys key =
    ap length (keys_more path keys key) ∙ length-append (keys_text path keys) (key_text path key)

length-nlri : (attributes prefixes : List ℕ)
    → length (message 2 (body [] attributes prefixes)) ≡ 23 + length attributes + length prefixes
length-nlri attributes prefixes = omega (arith, length-append attributes prefixes)

length-withdrawn : (prefixes : List ℕ) → length (message 2 (body prefixes [] [])) ≡ 23 + length prefixes
length-withdrawn prefixes = omega (
  arith,
  length-append prefixes (0 ∷ 0 ∷ []),
  length-append (prefixes ++ 0 ∷ 0 ∷ []) [],
)

length-unreached : (prefixes : List ℕ)
    → length (message 2 (body [] (unreach_text prefixes) [])) ≡ 23 + attr_size (3 + length prefixes)
length-unreached prefixes =
    let len : length (family_text Ipv6 ++ prefixes) ≡ 3 + length prefixes = omega arith in
    let value : length (unreach_text prefixes) ≡ attr_size (3 + length prefixes) =
    length-optional 15 (family_text Ipv6 ++ prefixes) ∙ ap attr_size len in
    omega (arith, length-nlri (unreach_text prefixes) [], value)

reach_len : (hop : Addr) (prefixes : List ℕ) → family_of hop ≡ Ipv6
    → length (raw_text (raw optional 14 (reach_value hop prefixes))) ≡ attr_size (21 + length prefixes)
reach_len (V4 n) prefixes is = cc
reach_len (V6 n) prefixes is =
    let len : length (reach_value (V6 n) prefixes) ≡ 21 + length prefixes = omega arith in
    length-optional 14 (reach_value (V6 n) prefixes) ∙ ap attr_size len

-- how long messages of a head are that takes keys, by how long their prefixes are
abbrev pub IsLong : Caps → Head → ℕ → Type 0
IsLong caps h rest = (keys : List Key) → length (written caps h keys)
    ≡ rest + field_size (kind_of h) (length (keys_text (has_path caps (family_of_head h)) keys))

pub parts : (caps : Caps) (h : Head) → CanBegin h → TakesKeys (kind_of h) → (rest : ℕ) × IsLong caps h rest
parts caps (head.Gone Ipv4) begun takes = (23, λ keys. length-withdrawn (keys_text caps.ipv4_path keys))
parts caps (head.Gone Ipv6) begun takes = (23, λ keys. length-unreached (keys_text caps.ipv6_path keys))
parts caps (head.Here Ipv4 w) begun takes = (
  23 + length (attributes_text Ipv4 w []),
  λ keys. length-nlri (attributes_text Ipv4 w []) (keys_text caps.ipv4_path keys),
)
parts caps (head.Here Ipv6 w) begun takes = (
  23 + length (raws_text (front_raws w)) + length (raws_text (back_raws w)),
  λ keys. omega (
    arith,
    length-announced caps w keys,
    reach_len w.hop (keys_text caps.ipv6_path keys) begun.sendable.hop.of_family,
  ),
)
parts caps (head.End family) begun takes = absurd takes

-- what a message has beside the field of its prefixes
pub field_in : (packer : Packing) (h : Head) (keys : List Key) (out : Buffer) → Holds packer h keys out
    → TakesKeys packer.kind → field_size packer.kind packer.filled ≤ length out.bytes
field_in packer h keys out holds takes =
    let long = parts packer.caps h holds.begun (subst TakesKeys holds.kind takes) in
    rw holds.kind (rw holds.filled (rw holds.text (omega (arith, long.1 keys))))

-- how long the message is with one more key
pub length-more : (packer : Packing) (h : Head) (keys : List Key) (out : Buffer) (key : Key) (more len : ℕ)
    → Holds packer h keys out → TakesKeys packer.kind → family_of_key key ≡ family_of_kind packer.kind
    → more ≡ length (key_text (has_path packer.caps (family_of_key key)) key)
    → len + field_size packer.kind packer.filled ≡ length out.bytes + field_size packer.kind (packer.filled + more)
    → length (written packer.caps h (keys ++ key ∷ [])) ≡ len
length-more packer h keys out key more len holds takes family more_is len_is =
    let caps : Caps = packer.caps in
    let path : Bool = has_path caps (family_of_head h) in
    let long = parts caps h holds.begun (subst TakesKeys holds.kind takes) in
    let same : family_of_key key ≡ family_of_head h = family ∙ ap family_of_kind holds.kind in
    let added : more ≡ length (key_text path key) = more_is ∙ ap (λ f. length (key_text (has_path caps f) key)) same in
    let whole : packer.filled + more ≡ length (keys_text path (keys ++ key ∷ [])) =
    omega (arith, holds.filled, added, length-keys_more path keys key) in
    let old : field_size packer.kind packer.filled ≡ field_size (kind_of h) (length (keys_text path keys)) =
    ap (λ k. field_size k packer.filled) holds.kind ∙ ap (field_size (kind_of h)) holds.filled in
    let new : field_size packer.kind (packer.filled + more)
    ≡ field_size (kind_of h) (length (keys_text path (keys ++ key ∷ []))) =
    ap (λ k. field_size k (packer.filled + more)) holds.kind ∙ ap (field_size (kind_of h)) whole in
    omega (arith, long.1 keys, long.1 (keys ++ key ∷ []), ap length holds.text, old, new, len_is)

-- the buffer with one more key
pub holds_more : (packer new : Packing) (h : Head) (keys : List Key) (out after : Buffer) (key : Key) (more : ℕ)
    → Holds packer h keys out → family_of_key key ≡ family_of_kind packer.kind
    → more ≡ length (key_text (has_path packer.caps (family_of_key key)) key)
    → new ≡ record { caps = packer.caps; kind = packer.kind; filled = packer.filled + more }
    → after.bytes ≡ written packer.caps h (keys ++ key ∷ []) → after.room ≡ out.room
    → length (written packer.caps h (keys ++ key ∷ [])) ≤ room packer.caps → Holds new h (keys ++ key ∷ []) after
holds_more packer new h keys out after key more holds family more_is new_is text same_room fits =
    let caps : Caps = packer.caps in
    let path : Bool = has_path caps (family_of_head h) in
    let same : family_of_key key ≡ family_of_head h = family ∙ ap family_of_kind holds.kind in
    let added : more ≡ length (key_text path key) = more_is ∙ ap (λ f. length (key_text (has_path caps f) key)) same in
    subst (λ p. Holds p h (keys ++ key ∷ []) after) (sym new_is)
    (record {
      kind = holds.kind;
      filled = omega (arith, holds.filled, added, length-keys_more path keys key);
      text = text;
      fits = fits;
      room = subst (λ n. room caps ≤ n) (sym same_room) holds.room;
      begun = holds.begun;
    })

-- what adding a key does
pub adds_one : (packer new : Packing) (out after : Buffer) (key : Key) (more : ℕ)
    → family_of_key key ≡ family_of_kind packer.kind
    → more ≡ length (key_text (has_path packer.caps (family_of_key key)) key)
    → new ≡ record { caps = packer.caps; kind = packer.kind; filled = packer.filled + more }
    → after.room ≡ out.room
    → ((h : Head) (keys : List Key) → Holds packer h keys out
    → (after.bytes ≡ written packer.caps h (keys ++ key ∷ [])) × Fits packer.caps h (keys ++ key ∷ []))
    → Adds key packer new out after
adds_one packer new out after key more family more_is new_is same_room puts = record {
  holds = λ h keys holds.
      let put = puts h keys holds in
      holds_more packer new h keys out after key more holds family more_is new_is put.0 same_room put.1;
  caps = ap (λ (p : Packing). p.caps) new_is;
  kind = ap (λ (p : Packing). p.kind) new_is;
}

pub opened_more : (packer new : Packing) (out after : Buffer) (key : Key) → IsOpen packer out
    → Adds key packer new out after → IsOpen new after
opened_more packer new out after key opened adds = record {
  head = opened.head;
  keys = opened.keys ++ key ∷ [];
  holds = adds.holds opened.head opened.keys opened.holds;
}

-- prefixes of some bytes
pub has_keys : (k : Kind) (filled : ℕ) → 0 < filled → HasKeys k filled
has_keys (kind.Gone family) filled some = some
has_keys (kind.Here family) filled some = some
has_keys (kind.End family) filled some = tt

-- the room of a session
between : (extended : Bool) → (4096 ≤ (if extended then 65535 else 4096)) × ((if extended then 65535 else 4096) ≤ 65535)
between true = (omega arith, omega arith)
between false = (omega arith, omega arith)

pub room_between : (caps : Caps) → (4096 ≤ room caps) × (room caps ≤ 65535)
room_between caps = between caps.extended

-- a marker is short
pub marker_short : (caps : Caps) (family : Family) → length (written caps (head.End family) []) ≤ 29
marker_short caps Ipv4 = omega (arith, length-end caps Ipv4)
marker_short caps Ipv6 = omega (arith, length-end caps Ipv6)

-- a message without keys fits
bare_length : (caps : Caps) (family : Family) (w : WireAttrs)
    → length (written caps (head.Here family w) []) ≡ 23 + length (attributes_text family w [])
bare_length caps Ipv4 w = omega (arith, length-nlri (attributes_text Ipv4 w []) [])
bare_length caps Ipv6 w = omega (arith, length-nlri (attributes_text Ipv6 w []) [])

pub bare_fits : (caps : Caps) (h : Head) → CanBegin h → Fits caps h []
bare_fits caps (head.Gone family) begun =
    omega (arith, ap length (gone_is_end caps family), marker_short caps family, (room_between caps).0)
bare_fits caps (head.Here family w) begun =
    omega (arith, bare_length caps family w, opened_fits family w begun.sendable begun.within, (room_between caps).0)
bare_fits caps (head.End family) begun = omega (arith, marker_short caps family, (room_between caps).0)

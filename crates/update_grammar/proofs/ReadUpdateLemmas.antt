-- A body that is read is one that is spelled.
use Rattle.std.proofs.Common.{ℕ, ◌≡◌, ◌+◌, ◌^◌, ◌<◌, ◌≤◌, false, nat_lt, List, [], ◌∷◌, ◌++◌, length, take, drop}
use Rattle.std.proofs.Common.{Option, Some, None, Ok, arith, length-append, length-take, append_assoc, ap, sym, ◌∙◌}
use Rattle.std.proofs.Common.{refl, subst}
use Rattle.std.specs.Option.{ok_or}
use Rattle.std.specs.Int.{w16, to_be_bytes, from_be_bytes}
use Rattle.std.proofs.lemmas.Bool.{ltb-false, le-ltb}
use Rattle.std.proofs.lemmas.List.{take_at, drop_at, take-append-drop}
use Rattle.std.proofs.lemmas.Option.{same_Some}
use Rattle.route_values.specs.declared.addr.Addr.TheVariants.{V4}
use Rattle.route_values.specs.declared.addr.Family.TheVariants.{Ipv4}
use Rattle.route_values.specs.declared.attrs.Origin.{Origin}
use Rattle.route_values.specs.Caps.{Caps}
use Rattle.route_values.specs.declared.key.Key.{Key}
use Rattle.route_values.specs.declared.path.Segment.{Segment}
use Rattle.update_grammar.specs.declared.effect.Attr.{Attr}
use Rattle.update_grammar.specs.declared.effect.Effect.{Effect}
use Rattle.update_grammar.specs.declared.effect.Reached.{Reached}
use Rattle.update_grammar.specs.declared.fault.UpdateFault.TheVariants as fault
use Rattle.update_grammar.specs.Pieces.{counted}
use Rattle.update_grammar.specs.Steps.{◌>>=◌}
use Rattle.update_grammar.specs.ReadUpdate.{moved, field_at, needed, here_with, reached_by, announced_by, effects_of}
use Rattle.update_grammar.specs.ReadUpdate.{prefixes_in, said_in, Fields, fields_in, effects_in}
use Rattle.update_grammar.specs.Update.{body, IsBody, said_first, as_origin, as_path, as_next_hop, as_reach, as_unreach}
use Rattle.update_grammar.specs.Update.{gathered, HasOriginAndPath, here_all, gone_all, unreached, Announces, Reaches}
use Rattle.update_grammar.specs.Update.{Spells}
use Rattle.update_grammar.specs.Laws.{AreBytes}
use Rattle.update_grammar.proofs.ByteLemmas.{bytes_front, bytes_behind, wide16, number_read, number_written}
use Rattle.update_grammar.proofs.ReadAttributesLemmas.{attrs_found, attrs_only}
use Rattle.update_grammar.proofs.ReadPrefixLemmas.{ok_or_some, unless, keys_found, keys_only}
use Rattle.update_grammar.proofs.StepsLemmas.{bind_ok, ok_is, blamed_ok}

-- a field that is read stands behind its length
field_found : (bytes : List ℕ) (one : List ℕ × List ℕ) → AreBytes bytes → field_at bytes ≡ Some one
    → (bytes ≡ counted one.0 ++ one.1) × (length one.0 < 2 ^ 16) × AreBytes one.0 × AreBytes one.1
unfolding field_at
field_found bytes one are is =
    let len : ℕ = from_be_bytes w16 bytes in
    let found : List ℕ × List ℕ = (take len (drop 2 bytes), drop len (drop 2 bytes)) in
    let parts = unless (nat_lt (length bytes) (2 + len)) (Some found) one is in
    let long : 2 + len ≤ length bytes = ltb-false _ _ parts.0 in
    let front : to_be_bytes w16 len ++ drop 2 bytes ≡ bytes =
    number_written w16 (2 ^ 16) wide16 bytes are (omega (arith, long)) in
    let size : length (take len (drop 2 bytes)) ≡ len = omega (
      arith,
      long,
      length-take len (drop 2 bytes),
      length-append (to_be_bytes w16 len) (drop 2 bytes),
      ap length front,
    ) in
    let whole : bytes ≡ counted (take len (drop 2 bytes)) ++ drop len (drop 2 bytes) =
    sym front ∙ ap (λ more. to_be_bytes w16 len ++ more) (sym (take-append-drop len (drop 2 bytes)))
    ∙ sym (append_assoc (to_be_bytes w16 len) (take len (drop 2 bytes)) (drop len (drop 2 bytes)))
    ∙ ap (λ n. (to_be_bytes w16 n ++ take len (drop 2 bytes)) ++ drop len (drop 2 bytes)) (sym size) in
    let fits : length (take len (drop 2 bytes)) < 2 ^ 16 = omega (arith, size, wide16.below bytes are) in
    let counted_are : AreBytes (counted (take len (drop 2 bytes))) =
    bytes_front (counted (take len (drop 2 bytes))) (drop len (drop 2 bytes)) (subst AreBytes whole are) in
    let field_are : AreBytes (take len (drop 2 bytes)) = bytes_behind
    (to_be_bytes w16 (length (take len (drop 2 bytes)))) (take len (drop 2 bytes)) counted_are in
    let rest_are : AreBytes (drop len (drop 2 bytes)) = bytes_behind (counted (take len (drop 2 bytes)))
    (drop len (drop 2 bytes)) (subst AreBytes whole are) in
    subst (λ (o : List ℕ × List ℕ). (bytes ≡ counted o.0 ++ o.1) × (length o.0 < 2 ^ 16) × AreBytes o.0 × AreBytes o.1)
    (same_Some _ _ parts.1) (whole, fits, field_are, rest_are)

-- a field behind its length is read
field_only : (field rest : List ℕ) → length field < 2 ^ 16 → field_at (counted field ++ rest) ≡ Some (field, rest)
unfolding field_at
field_only field rest fits =
    let text : List ℕ = counted field ++ rest in
    let whole : text ≡ to_be_bytes w16 (length field) ++ (field ++ rest) =
    append_assoc (to_be_bytes w16 (length field)) field rest in
    let len : from_be_bytes w16 text ≡ length field = ap (from_be_bytes w16) whole
    ∙ number_read w16 (2 ^ 16) wide16 (length field) (field ++ rest) fits in
    let behind : drop 2 text ≡ field ++ rest = ap (drop 2) whole
    ∙ drop_at (to_be_bytes w16 (length field)) (field ++ rest) 2 refl in
    let long : nat_lt (length text) (2 + length field) ≡ false =
    le-ltb _ _ (omega (
      arith,
      ap length whole,
      length-append (to_be_bytes w16 (length field)) (field ++ rest),
      length-append field rest,
    )) in
    rw (len, long, behind, take_at field rest (length field) refl, drop_at field rest (length field) refl) refl

-- the fields that are read are those of the body
fields_found : (bytes : List ℕ) (fields : Fields) → AreBytes bytes → fields_in bytes ≡ Ok fields
    → IsBody bytes fields.withdrawn fields.attributes fields.announced × AreBytes fields.withdrawn
    × AreBytes fields.attributes × AreBytes fields.announced
unfolding fields_in
fields_found bytes fields are is =
    let first = bind_ok (ok_or (field_at bytes) (fault.BadLengths 0))
    (λ (one : List ℕ × List ℕ). ok_or (field_at one.1) (fault.BadLengths (2 + length one.0)) >>= λ two.
    Ok (record { withdrawn = one.0; attributes = two.0; announced = two.1 })) fields is in
    let second = bind_ok (ok_or (field_at first.0.1) (fault.BadLengths (2 + length first.0.0)))
    (λ (two : List ℕ × List ℕ). Ok (record { withdrawn = first.0.0; attributes = two.0; announced = two.1 })) fields
    first.2 in
    let one = field_found bytes first.0 are (ok_or_some _ _ _ first.1) in
    let two = field_found first.0.1 second.0 one.3 (ok_or_some _ _ _ second.1) in
    let found : Fields = record { withdrawn = first.0.0; attributes = second.0.0; announced = second.0.1 } in
    let text : bytes ≡ body first.0.0 second.0.0 second.0.1 = one.0 ∙ ap (λ more. counted first.0.0 ++ more) two.0
    ∙ sym (append_assoc (counted first.0.0) (counted second.0.0) second.0.1) in
    let is_body : IsBody bytes first.0.0 second.0.0 second.0.1 =
    record { text = text; withdrawn_fits = one.1; attributes_fit = two.1 } in
    subst (λ (f : Fields). IsBody bytes f.withdrawn f.attributes f.announced × AreBytes f.withdrawn
    × AreBytes f.attributes × AreBytes f.announced) (ok_is (fault.BadLengths 0) found fields second.2)
    (is_body, one.2, two.2, two.3)

fields_only : (bytes withdrawn attributes behind : List ℕ) → IsBody bytes withdrawn attributes behind
    → fields_in bytes ≡ Ok (record { withdrawn = withdrawn; attributes = attributes; announced = behind })
unfolding fields_in
fields_only bytes withdrawn attributes behind is =
    let whole : bytes ≡ counted withdrawn ++ (counted attributes ++ behind) = is.text
    ∙ append_assoc (counted withdrawn) (counted attributes) behind in
    rw (
      whole,
      field_only withdrawn (counted attributes ++ behind) is.withdrawn_fits,
      field_only attributes behind is.attributes_fit,
    ) refl

-- what announcements need is there
needed_found : (said : List Attr) (both : Origin × List Segment) → needed said ≡ Ok both
    → (has : HasOriginAndPath said) × ((has.origin, has.path) ≡ both)
needed_found said both is =
    let origin = bind_ok (ok_or (said_first as_origin said) (fault.MissingAttr 1))
    (λ (o : Origin). ok_or (said_first as_path said) (fault.MissingAttr 2) >>= λ p. Ok (o, p)) both is in
    let path = bind_ok (ok_or (said_first as_path said) (fault.MissingAttr 2)) (λ (p : List Segment). Ok (origin.0, p))
    both origin.2 in (
      record {
        origin = origin.0;
        path = path.0;
        origin_said = ok_or_some _ _ _ origin.1;
        path_said = ok_or_some _ _ _ path.1;
      },
      ok_is (fault.MissingAttr 1) _ _ path.2,
    )

needed_only : (said : List Attr) (has : HasOriginAndPath said) → needed said ≡ Ok (has.origin, has.path)
needed_only said has = rw (has.origin_said, has.path_said) refl

-- what an MP_REACH_NLRI does
reached_found : (said : List Attr) (reach : Option (Option Reached)) (effects : List Effect)
    → reached_by said reach ≡ Ok effects → Reaches said reach effects
reached_found said None effects is = sym (ok_is (fault.MissingAttr 1) _ _ is)
reached_found said (Some None) effects is =
    let both = bind_ok (needed said) (λ (b : Origin × List Segment). Ok []) effects is in
    ((needed_found said both.0 both.1).0, sym (ok_is (fault.MissingAttr 1) _ _ both.2))
reached_found said (Some (Some reached)) effects is =
    let both = bind_ok (needed said) (λ (b : Origin × List Segment). Ok (here_with said reached.hop reached.keys b))
    effects is in
    let has = needed_found said both.0 both.1 in
    let whole : here_with said reached.hop reached.keys (has.0.origin, has.0.path) ≡ effects =
    ap (here_with said reached.hop reached.keys) has.1 ∙ ok_is (fault.MissingAttr 1) _ _ both.2 in
    (gathered said reached.hop has.0.origin has.0.path, record { has = has.0; all = refl }, sym whole)

reached_only : (said : List Attr) (reach : Option (Option Reached)) (effects : List Effect) → Reaches said reach effects
    → reached_by said reach ≡ Ok effects
reached_only said None effects is = ap (λ e. Ok e) (sym is)
reached_only said (Some None) effects is = rw (needed_only said is.0) (ap (λ e. Ok e) (sym is.1))
reached_only said (Some (Some reached)) effects is =
    rw (needed_only said is.1.has) (ap (λ w. Ok (here_all w reached.keys)) (sym is.1.all) ∙ ap (λ e. Ok e) (sym is.2))

-- what the prefixes behind the attributes do
announces_found : (said : List Attr) (keys : List Key) (effects : List Effect) → announced_by said keys ≡ Ok effects
    → Announces said keys effects
announces_found said [] effects is = sym (ok_is (fault.MissingAttr 1) _ _ is)
announces_found said (key ∷ keys) effects is =
    let both = bind_ok (needed said) (λ (b : Origin × List Segment).
    ok_or (said_first as_next_hop said) (fault.MissingAttr 3) >>= λ hop.
    Ok (here_with said (V4 hop) (key ∷ keys) b)) effects is in
    let hop = bind_ok (ok_or (said_first as_next_hop said) (fault.MissingAttr 3))
    (λ (n : ℕ). Ok (here_with said (V4 n) (key ∷ keys) both.0)) effects both.2 in
    let has = needed_found said both.0 both.1 in
    let whole : here_with said (V4 hop.0) (key ∷ keys) (has.0.origin, has.0.path) ≡ effects =
    ap (here_with said (V4 hop.0) (key ∷ keys)) has.1 ∙ ok_is (fault.MissingAttr 1) _ _ hop.2 in (
      hop.0,
      gathered said (V4 hop.0) has.0.origin has.0.path,
      ok_or_some _ _ _ hop.1,
      record { has = has.0; all = refl },
      sym whole,
    )

announces_only : (said : List Attr) (keys : List Key) (effects : List Effect) → Announces said keys effects
    → announced_by said keys ≡ Ok effects
announces_only said [] effects is = ap (λ e. Ok e) (sym is)
announces_only said (key ∷ keys) effects is =
    rw (needed_only said is.3.has, is.2) (ap (λ w. Ok (here_all w (key ∷ keys))) (sym is.3.all)
    ∙ ap (λ e. Ok e) (sym is.4))

-- the parts of effects that were read
record Parts (said : List Attr) (gone here : List Key) (effects : List Effect) : Type 0 where
  reached : List Effect
  reaches : Reaches said (said_first as_reach said) reached
  news : List Effect
  announces : Announces said here news
  all : effects ≡ gone_all gone ++ gone_all (unreached (said_first as_unreach said)) ++ reached ++ news

parts_found : (gone : List Key) (said : List Attr) (here : List Key) (effects : List Effect)
    → effects_of gone said here ≡ Ok effects → Parts said gone here effects
unfolding effects_of
parts_found gone said here effects is =
    let whole : List Effect → List Effect → List Effect = λ (reached : List Effect) (news : List Effect).
    gone_all gone ++ gone_all (unreached (said_first as_unreach said)) ++ reached ++ news in
    let reached = bind_ok (reached_by said (said_first as_reach said))
    (λ (first : List Effect). announced_by said here >>= λ news. Ok (whole first news)) effects is in
    let news = bind_ok (announced_by said here) (λ (second : List Effect). Ok (whole reached.0 second)) effects
    reached.2 in
    record {
      reached = reached.0;
      reaches = reached_found said (said_first as_reach said) reached.0 reached.1;
      news = news.0;
      announces = announces_found said here news.0 news.1;
      all = sym (ok_is (fault.MissingAttr 1) _ _ news.2);
    }

parts_only : (gone : List Key) (said : List Attr) (here : List Key) (effects reached news : List Effect)
    → Reaches said (said_first as_reach said) reached → Announces said here news
    → effects ≡ gone_all gone ++ gone_all (unreached (said_first as_unreach said)) ++ reached ++ news
    → effects_of gone said here ≡ Ok effects
unfolding effects_of
parts_only gone said here effects reached news reaches announces all =
    rw (reached_only said (said_first as_reach said) reached reaches, announces_only said here news announces)
    (ap (λ e. Ok e) (sym all))

-- effects that are read are spelled
pub effects_found : (caps : Caps) (bytes : List ℕ) (effects : List Effect) → AreBytes bytes
    → effects_in caps bytes ≡ Ok effects → Spells caps bytes effects
unfolding effects_in
effects_found caps bytes effects are is =
    let start : Fields → ℕ = λ (f : Fields). 4 + length f.withdrawn in
    let fields = bind_ok (fields_in bytes) (λ (f : Fields). prefixes_in caps 2 f.withdrawn >>= λ gone.
    said_in caps (start f) f.attributes >>= λ said. prefixes_in caps (start f + length f.attributes) f.announced >>=
    λ here. effects_of gone said here) effects is in
    let f : Fields = fields.0 in
    let gone = bind_ok (prefixes_in caps 2 f.withdrawn) (λ (keys : List Key).
    said_in caps (start f) f.attributes >>= λ said. prefixes_in caps (start f + length f.attributes) f.announced >>=
    λ here. effects_of keys said here) effects fields.2 in
    let said = bind_ok (said_in caps (start f) f.attributes) (λ (attrs : List Attr).
    prefixes_in caps (start f + length f.attributes) f.announced >>= λ here. effects_of gone.0 attrs here) effects
    gone.2 in
    let here = bind_ok (prefixes_in caps (start f + length f.attributes) f.announced)
    (λ (keys : List Key). effects_of gone.0 said.0 keys) effects said.2 in
    let split = fields_found bytes f are fields.1 in
    let parts = parts_found gone.0 said.0 here.0 effects here.2 in
    record {
      withdrawn = f.withdrawn;
      attributes = f.attributes;
      announced = f.announced;
      fields = split.0;
      gone = gone.0;
      gone_spelled = keys_found caps.ipv4_path Ipv4 f.withdrawn gone.0 split.1
          (blamed_ok (λ place. fault.BadPrefix (2 + place)) _ _ gone.1);
      said = said.0;
      said_spelled = attrs_found caps f.attributes said.0 split.2
          (blamed_ok (λ of_attrs. fault.Attr (moved (start f) of_attrs)) _ _ said.1);
      here = here.0;
      here_spelled = keys_found caps.ipv4_path Ipv4 f.announced here.0 split.3
          (blamed_ok (λ place. fault.BadPrefix (start f + length f.attributes + place)) _ _ here.1);
      reached = parts.reached;
      reaches = parts.reaches;
      news = parts.news;
      announces = parts.announces;
      all = parts.all;
    }

-- effects that are spelled are read
pub effects_only : (caps : Caps) (bytes : List ℕ) (effects : List Effect) → Spells caps bytes effects
    → effects_in caps bytes ≡ Ok effects
unfolding effects_in
effects_only caps bytes effects spelled =
    let gone = keys_only caps.ipv4_path Ipv4 spelled.withdrawn spelled.gone spelled.gone_spelled in
    let said = attrs_only caps spelled.attributes spelled.said spelled.said_spelled in
    let here = keys_only caps.ipv4_path Ipv4 spelled.announced spelled.here spelled.here_spelled in
    rw (fields_only bytes spelled.withdrawn spelled.attributes spelled.announced spelled.fields, gone, said, here)
    (parts_only spelled.gone spelled.said spelled.here effects spelled.reached spelled.news spelled.reaches
    spelled.announces spelled.all)

-- a body spells at most one list of effects
pub one_meaning : (caps : Caps) (bytes : List ℕ) (effects others : List Effect) → Spells caps bytes effects
    → Spells caps bytes others → effects ≡ others
one_meaning caps bytes effects others spelled again =
    ok_is (fault.MissingAttr 1) effects others (sym (effects_only caps bytes effects spelled)
    ∙ effects_only caps bytes others again)

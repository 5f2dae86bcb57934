-- Attributes that are read are those that are spelled.
use Rattle.std.proofs.Common.{ℕ, zero, suc, ◌≡◌, ◌≢◌, ◌+◌, ◌-◌, ◌==◌, ◌≤◌, Bool, true, false, not, ◌||◌, List, [], ◌∷◌}
use Rattle.std.proofs.Common.{◌++◌, length, Option, Some, None, Result, Ok, Err, arith, ap, sym, ◌∙◌, refl, subst, inl}
use Rattle.std.proofs.Common.{inr, eq-eqb, if◌then◌else◌}
use Rattle.std.specs.List.{flat_map, list_any, AllByRecursion}
use Rattle.std.proofs.lemmas.Bool.{ne_eqb}
use Rattle.std.specs.Option.{option_to_list, ok_or}
use Rattle.route_values.specs.Caps.{Caps}
use Rattle.update_grammar.specs.declared.effect.Attr.{Attr}
use Rattle.update_grammar.specs.declared.fault.AttrFault.{AttrFault}
use Rattle.update_grammar.specs.declared.fault.AttrFault.TheVariants as fault
use Rattle.update_grammar.specs.Attributes.{Raw, raw_text, IsRaw, AreApart}
use Rattle.update_grammar.specs.Meanings.{MeansAll, SpellsAttributes}
use Rattle.update_grammar.specs.Steps.{◌>>=◌, blamed, each_of, each}
use Rattle.update_grammar.specs.ReadAttributes.{raw_at, has_flags, flags_of_code, value_in, value_fault, attr_of}
use Rattle.update_grammar.specs.ReadAttributes.{attr_step, attrs_in, Before}
use Rattle.update_grammar.specs.Laws.{AreBytes}
use Rattle.update_grammar.proofs.ReadMeaningLemmas.{Meant, meaning_found, meaning_only, passed_only}
use Rattle.update_grammar.proofs.ReadPrefixLemmas.{ok_or_some}
use Rattle.update_grammar.proofs.ReadRawLemmas.{raw_found, raw_only}
use Rattle.update_grammar.proofs.ShrinkLemmas.{unless_fault, raw_shrinks, attrs_shrink}
use Rattle.update_grammar.proofs.StepsLemmas.{bind_ok, ok_is, blamed_ok, each_none, each_one}

-- whether a code is one of those
abbrev pub stood : List ℕ → ℕ → Bool
stood codes code = list_any (λ before. before == code) codes

-- the codes of attributes are none of those
abbrev AreNew : List ℕ → List Raw → Type 0
AreNew codes raws = AllByRecursion (λ a. stood codes a.code ≡ false) raws

-- what is known behind an attribute
abbrev behind : Before → List ℕ → Raw × List ℕ → Before
behind before bytes one = record {
  place = before.place + (length bytes - length one.1);
  codes = one.0.code ∷ before.codes;
}

-- a test of two that fails
neither : (a b : Bool) → (a || b) ≡ false → (a ≡ false) × (b ≡ false)
neither true b is = absurd cc
neither false b is = (refl, is)

not_false : (b : Bool) → not b ≡ false → b ≡ true
not_false true is = refl
not_false false is = absurd cc

-- codes that are new behind a code are new, and none of them is that one
new_behind : (code : ℕ) (codes : List ℕ) (raws : List Raw) → AreNew (code ∷ codes) raws
    → AllByRecursion (λ b. code ≢ b.code) raws × AreNew codes raws
new_behind code codes [] new = (tt, tt)
new_behind code codes (a ∷ raws) new =
    let parts = neither (code == a.code) (stood codes a.code) new.0 in
    let others = new_behind code codes raws new.1 in
    ((λ same. absurd (let equal = eq-eqb code a.code same in cc), others.0), (parts.1, others.1))

-- and back
new_before : (code : ℕ) (codes : List ℕ) (raws : List Raw) → AllByRecursion (λ b. code ≢ b.code) raws
    → AreNew codes raws → AreNew (code ∷ codes) raws
new_before code codes [] apart new = tt
new_before code codes (a ∷ raws) apart new =
    let differs : (code == a.code) ≡ false = ne_eqb code a.code apart.0 in
    (rw (differs) new.0, new_before code codes raws apart.1 new.1)

-- nothing stood before the first attribute
all_new : (raws : List Raw) → AreNew [] raws
all_new [] = tt
all_new (a ∷ raws) = (refl, all_new raws)

-- an attribute without fault has its flags, is new, and its value says something
attr_parts : (caps : Caps) (before : Before) (a : Raw) (said : Option Attr) → attr_of caps before a ≡ Ok said
    → (has_flags (flags_of_code a.code) a.flags ≡ true) × (stood before.codes a.code ≡ false)
    × (value_in caps a.code a.value ≡ Ok said)
unfolding attr_of
attr_parts caps before a said is =
    let value : Result (Option Attr) AttrFault = blamed (value_fault before.place a.flags)
    (value_in caps a.code a.value) in
    let flagged = unless_fault (not (has_flags (flags_of_code a.code) a.flags)) (fault.BadFlags before.place)
    (if stood before.codes a.code then Err (fault.Twice before.place) else value) said is in
    let new = unless_fault (stood before.codes a.code) (fault.Twice before.place) value said flagged.1 in (
      not_false _ flagged.0,
      new.0,
      blamed_ok (value_fault before.place a.flags) (value_in caps a.code a.value) said
          new.1,
    )

-- and back
pub attr_whole : (caps : Caps) (before : Before) (a : Raw) (said : Option Attr)
    → has_flags (flags_of_code a.code) a.flags ≡ true → stood before.codes a.code ≡ false
    → value_in caps a.code a.value ≡ Ok said
    → attr_of caps before a ≡ Ok said
unfolding attr_of
attr_whole caps before a said flagged new is = rw (flagged, new, is) refl

-- what attributes are that were read
record Found (caps : Caps) (codes bytes : List ℕ) (said : List (Option Attr)) : Type 0 where
  raws : List Raw
  text : bytes ≡ flat_map raw_text raws
  each : AllByRecursion IsRaw raws
  once : AreApart raws
  new : AreNew codes raws
  meant : MeansAll caps raws (flat_map option_to_list said)

-- an attribute before others
means_more : (caps : Caps) (a : Raw) (said : Option Attr) (raws : List Raw) (others : List (Option Attr))
    → Meant caps a said → MeansAll caps raws (flat_map option_to_list others)
    → MeansAll caps (a ∷ raws) (flat_map option_to_list (said ∷ others))
means_more caps a (Some attr) raws others meant more = inr (attr, flat_map option_to_list others, refl, meant, more)
means_more caps a None raws others meant more = inl (meant, more)

found_more : (caps : Caps) (codes bytes rest : List ℕ) (a : Raw) (said : Option Attr) (others : List (Option Attr))
    → bytes ≡ raw_text a ++ rest → IsRaw a → stood codes a.code ≡ false → Meant caps a said
    → Found caps (a.code ∷ codes) rest others → Found caps codes bytes (said ∷ others)
found_more caps codes bytes rest a said others text is_raw new meant found =
    let apart = new_behind a.code codes found.raws found.new in
    record {
      raws = a ∷ found.raws;
      text = text ∙ ap (λ more. raw_text a ++ more) found.text;
      each = (is_raw, found.each);
      once = (apart.0, found.once);
      new = (new, apart.1);
      meant = means_more caps a said found.raws others meant found.meant;
    }

nothing_found : (caps : Caps) (codes : List ℕ) → Found caps codes [] []
nothing_found caps codes = record { raws = []; text = refl; each = tt; once = tt; new = tt; meant = refl }

-- attributes that are read are spelled
each_found : (caps : Caps) (n : ℕ) (before : Before) (bytes : List ℕ) (said : List (Option Attr)) → length bytes ≤ n
    → AreBytes bytes → each_of (attr_step caps) n before bytes ≡ Ok said → Found caps before.codes bytes said
unfolding each_of
each_found caps zero before [] [] short are is = nothing_found caps before.codes
each_found caps zero before [] (x ∷ said) short are is = absurd cc
each_found caps zero before (byte ∷ bytes) said short are is = absurd (omega arith)
each_found caps (suc n) before [] [] short are is = nothing_found caps before.codes
each_found caps (suc n) before [] (x ∷ said) short are is = absurd cc
each_found caps (suc n) before (byte ∷ bytes) said short are is =
    let all : List ℕ = byte ∷ bytes in
    let one = bind_ok (attr_step caps before all) (λ (first : Option Attr × Before × List ℕ).
    each_of (attr_step caps) n first.1 first.2 >>= λ others. Ok (first.0 ∷ others)) said is in
    let more = bind_ok (each_of (attr_step caps) n one.0.1 one.0.2)
    (λ (others : List (Option Attr)). Ok (one.0.0 ∷ others)) said one.2 in
    let raw = bind_ok (ok_or (raw_at all) (fault.Cut before.place))
    (λ (got : Raw × List ℕ). attr_of caps before got.0 >>= λ first. Ok (first, behind before all got, got.1)) one.0
    one.1 in
    let attr = bind_ok (attr_of caps before raw.0.0) (λ (first : Option Attr).
    Ok (first, behind before all raw.0, raw.0.1)) one.0 raw.2 in
    let same : (attr.0, behind before all raw.0, raw.0.1) ≡ one.0 = ok_is fault.NoMemory _ _ attr.2 in
    let cut = raw_found all raw.0.0 raw.0.1 are (ok_or_some _ _ _ raw.1) in
    let parts = attr_parts caps before raw.0.0 attr.0 attr.1 in
    let meant : Meant caps raw.0.0 attr.0 = meaning_found caps raw.0.0 attr.0 cut.3 parts.0 parts.2 in
    let rest : each_of (attr_step caps) n (behind before all raw.0) raw.0.1 ≡ Ok more.0 =
    subst (λ (o : Option Attr × Before × List ℕ). each_of (attr_step caps) n o.1 o.2 ≡ Ok more.0) (sym same)
    more.1 in
    let others : Found caps (raw.0.0.code ∷ before.codes) raw.0.1 more.0 =
    each_found caps n (behind before all raw.0) raw.0.1 more.0
    (omega (arith, short, raw_shrinks all raw.0 (ok_or_some _ _ _ raw.1))) cut.2 rest in
    let whole : attr.0 ∷ more.0 ≡ said = ap (λ (o : Option Attr × Before × List ℕ). o.0 ∷ more.0) same
    ∙ ok_is fault.NoMemory _ _ more.2 in
    subst (Found caps before.codes all) whole (found_more caps before.codes all raw.0.1 raw.0.0 attr.0 more.0 cut.0
    cut.1 parts.1 meant others)

pub attrs_found : (caps : Caps) (bytes : List ℕ) (said : List Attr) → AreBytes bytes → attrs_in caps bytes ≡ Ok said
    → SpellsAttributes caps bytes said
unfolding attrs_in
attrs_found caps bytes said are is =
    let first : Before = record { place = 0; codes = [] } in
    let all = bind_ok (each (attr_step caps) first bytes) (λ (told : List (Option Attr)).
    Ok (flat_map option_to_list told)) said is in
    let found = each_found caps (length bytes) first bytes all.0 (omega arith) are all.1 in
    let spelled : SpellsAttributes caps bytes (flat_map option_to_list all.0) =
    record { raws = found.raws; text = found.text; each = found.each; once = found.once; meant = found.meant } in
    subst (SpellsAttributes caps bytes) (ok_is fault.NoMemory _ _ all.2) spelled

-- attributes that are spelled are read
abbrev IsRead : Caps → Before → List ℕ → List Attr → Type 0
IsRead caps before bytes said = (told : List (Option Attr)) × (each (attr_step caps) before bytes ≡ Ok told)
    × (flat_map option_to_list told ≡ said)

-- the step over an attribute that says something, or nothing
step_read : (caps : Caps) (before : Before) (a : Raw) (rest : List ℕ) (said : Option Attr) → IsRaw a
    → has_flags (flags_of_code a.code) a.flags ≡ true → stood before.codes a.code ≡ false
    → value_in caps a.code a.value ≡ Ok said
    → attr_step caps before (raw_text a ++ rest) ≡ Ok (said, behind before (raw_text a ++ rest) (a, rest), rest)
step_read caps before a rest said is_raw flagged new is = rw (
  raw_only a rest is_raw,
  attr_whole caps before a said flagged new is,
) refl

read_more : (caps : Caps) (before : Before) (a : Raw) (rest : List ℕ) (said : Option Attr) (others : List Attr)
    → IsRaw a → has_flags (flags_of_code a.code) a.flags ≡ true → stood before.codes a.code ≡ false
    → value_in caps a.code a.value ≡ Ok said
    → IsRead caps (behind before (raw_text a ++ rest) (a, rest)) rest others
    → IsRead caps before (raw_text a ++ rest) (option_to_list said ++ others)
read_more caps before a rest said others is_raw flagged new is more =
    let one : Option Attr × Before × List ℕ = (said, behind before (raw_text a ++ rest) (a, rest), rest) in
    let all = each_one (attr_step caps) (attrs_shrink caps) before (raw_text a ++ rest) one
    (step_read caps before a rest said is_raw flagged new is) in (
      said ∷ more.0,
      all ∙ ap (λ (read : Result (List (Option Attr)) AttrFault). read >>= λ told. Ok (said ∷ told))
          more.1,
      ap (λ told. option_to_list said ++ told) more.2,
    )

each_read : (caps : Caps) (before : Before) (raws : List Raw) (said : List Attr) → AllByRecursion IsRaw raws
    → AreApart raws → AreNew before.codes raws → MeansAll caps raws said
    → IsRead caps before (flat_map raw_text raws) said
each_read caps before [] said fit apart new meant = ([], each_none (attr_step caps) before, sym meant)
each_read caps before (a ∷ raws) said fit apart new (inl over) =
    let rest : List ℕ = flat_map raw_text raws in
    let passed = passed_only caps a over.0 in
    read_more caps before a rest None said fit.0 passed.0 new.0 passed.1
    (each_read caps (behind before (raw_text a ++ rest) (a, rest)) raws said fit.1 apart.1
    (new_before a.code before.codes raws apart.0 new.1) over.1)
each_read caps before (a ∷ raws) said fit apart new (inr one) =
    let rest : List ℕ = flat_map raw_text raws in
    let means = meaning_only caps a one.0 one.3 in
    subst (IsRead caps before (raw_text a ++ rest)) (sym one.2)
    (read_more caps before a rest (Some one.0) one.1 fit.0 means.0 new.0 means.1
    (each_read caps (behind before (raw_text a ++ rest) (a, rest)) raws one.1 fit.1 apart.1
    (new_before a.code before.codes raws apart.0 new.1) one.4))

pub attrs_only : (caps : Caps) (bytes : List ℕ) (said : List Attr) → SpellsAttributes caps bytes said
    → attrs_in caps bytes ≡ Ok said
unfolding attrs_in
attrs_only caps bytes said spelled =
    let first : Before = record { place = 0; codes = [] } in
    let read = each_read caps first spelled.raws said spelled.each spelled.once (all_new spelled.raws) spelled.meant in
    ap (λ (text : List ℕ). each (attr_step caps) first text >>= λ told. Ok (flat_map option_to_list told)) spelled.text
    ∙ ap (λ (answer : Result (List (Option Attr)) AttrFault). answer >>= λ told. Ok (flat_map option_to_list told))
    read.1 ∙ ap (λ told. Ok told) read.2

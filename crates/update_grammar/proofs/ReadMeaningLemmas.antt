-- What one attribute means: what is read is meant, and what is meant is read.
use Rattle.std.proofs.Common.{ℕ, ◌≡◌, ◌≢◌, ◌≤◌, true, false, eqb, ltb, List, [], ◌∷◌, Option, Some, None, Result, Ok}
use Rattle.std.proofs.Common.{refl}
use Rattle.std.proofs.Common.{sym, ap, subst, ◌∙◌, arith, inl, inr}
use Rattle.std.specs.List.{AllByRecursion}
use Rattle.std.proofs.lemmas.Bool.{eqb-true, eq-eqb, ne_eqb, ltb-false, le-ltb, not-true, not_from_false, cases_eq}
use Rattle.route_values.specs.Caps.{Caps}
use Rattle.route_values.specs.declared.key.Key.{Key}
use Rattle.update_grammar.specs.declared.effect.Attr.{Attr}
use Rattle.update_grammar.specs.declared.effect.Attr.TheVariants as says
use Rattle.update_grammar.specs.declared.effect.Reached.{Reached}
use Rattle.update_grammar.specs.Attributes.{Raw, transitive, optional, optional_transitive, kind, IsOf, IsKnown}
use Rattle.update_grammar.specs.Attributes.{IsPassedOver}
use Rattle.update_grammar.specs.Values.{origin_number, path_text, number_text, aggregator_text, numbers_text, exts_text}
use Rattle.update_grammar.specs.Values.{larges_text}
use Rattle.update_grammar.specs.Meanings.{Is, Means}
use Rattle.update_grammar.specs.ReadValues.{Wrong, BadLength, sized, origin_in, path_in, number_in, aggregator_in}
use Rattle.update_grammar.specs.ReadValues.{numbers_in, exts_in, larges_in}
use Rattle.update_grammar.specs.ReadFamilies.{reach_in, unreach_in}
use Rattle.update_grammar.specs.ReadAttributes.{flags_of_code, has_flags, said_as, value_in}
use Rattle.update_grammar.specs.Laws.{AreBytes}
use Rattle.update_grammar.proofs.PairLemmas.{◌&◌}
use Rattle.update_grammar.proofs.PiecesLemmas.{all_map}
use Rattle.update_grammar.proofs.StepsLemmas.{bind_ok, ok_is}
use Rattle.update_grammar.proofs.ReadValueLemmas as values
use Rattle.update_grammar.proofs.ReadPathLemmas.{path_found, path_only}
use Rattle.update_grammar.proofs.ReadFamilyLemmas.{SaysReach, SaysUnreach, reach_found, reach_only, unreach_found}
use Rattle.update_grammar.proofs.ReadFamilyLemmas.{unreach_only}

-- ---- the codes that are known

-- these codes
abbrev known_codes : List ℕ
known_codes = 1 ∷ 2 ∷ 3 ∷ 4 ∷ 5 ∷ 6 ∷ 7 ∷ 8 ∷ 9 ∷ 10 ∷ 14 ∷ 15 ∷ 16 ∷ 32 ∷ []

-- a code is none of these
abbrev IsNone : List ℕ → ℕ → Type 0
IsNone codes code = AllByRecursion (λ known. code ≢ known) codes

-- what holds of each of some codes, and of one that is none of them, holds of each code
by_code : (P : ℕ → Type 0) (codes : List ℕ) → AllByRecursion P codes → (code : ℕ) → (IsNone codes code → P code)
    → P code
by_code P [] known code other = other tt
by_code P (first ∷ codes) known code other =
    elim (cases_eq code first) [
      | inl same ↦ subst P (sym same) known.0
      | inr differs ↦ by_code P codes known.1 code (λ others. other (differs, others))
    ]

-- they are known
first_known : (code : ℕ) → 1 ≤ code → code ≤ 10 → IsKnown code
first_known code low high = inl (low, high)

middle_known : (code : ℕ) → 14 ≤ code → code ≤ 16 → IsKnown code
middle_known code low high = inr (inl (low, high))

codes_known : AllByRecursion IsKnown known_codes
codes_known =
    first_known 1 (omega arith) (omega arith) & first_known 2 (omega arith) (omega arith)
    & first_known 3 (omega arith) (omega arith) & first_known 4 (omega arith) (omega arith)
    & first_known 5 (omega arith) (omega arith) & first_known 6 (omega arith) (omega arith)
    & first_known 7 (omega arith) (omega arith) & first_known 8 (omega arith) (omega arith)
    & first_known 9 (omega arith) (omega arith) & first_known 10 (omega arith) (omega arith)
    & middle_known 14 (omega arith) (omega arith) & middle_known 15 (omega arith) (omega arith)
    & middle_known 16 (omega arith) (omega arith) & inr (inr refl) & tt

-- a code that isn't known is none of them
none_of_known : (code : ℕ) → ¬ (IsKnown code) → IsNone known_codes code
none_of_known code unknown = all_map IsKnown (λ known. code ≢ known)
    (λ n known same. unknown (subst IsKnown (sym same) known)) known_codes codes_known

-- a code that is none of them isn't known
not_known : {code : ℕ} → IsNone known_codes code → ¬ (IsKnown code)
not_known (n1, (n2, (n3, (n4, (n5, (n6, (n7, (n8, (n9, (n10, (n14, (n15, (n16, (n32, _)))))))))))))) (inl low) =
    omega arith
not_known (n1, (n2, (n3, (n4, (n5, (n6, (n7, (n8, (n9, (n10, (n14, (n15, (n16, (n32, _)))))))))))))) (inr (inl mid)) =
    omega arith
not_known (n1, (n2, (n3, (n4, (n5, (n6, (n7, (n8, (n9, (n10, (n14, (n15, (n16, (n32, _)))))))))))))) (inr (inr last)) =
    n32 last

-- the tests of a code's value fail for another one
abbrev Fails : ℕ → Type 0
Fails code = AllByRecursion (λ known. eqb code known ≡ false) known_codes

-- each test of a code fails where it is none of them
none_fails : (code : ℕ) → IsNone known_codes code → Fails code
none_fails code none = all_map (λ known. code ≢ known) (λ known. eqb code known ≡ false)
    (λ known differs. ne_eqb code known differs) known_codes none

-- such a code has no flags of its own
no_flags : (code : ℕ) → Fails code → flags_of_code code ≡ None
no_flags code (n1, (n2, (n3, (n4, (n5, (n6, (n7, (n8, (n9, (n10, (n14, (n15, (n16, (n32, _)))))))))))))) =
    rw (n1, n2, n3, n4, n5, n6, n7, n8, n9, n10, n14, n15, n16, n32) refl

-- and its value says nothing
no_meaning : (caps : Caps) (code : ℕ) (value : List ℕ) → Fails code → value_in caps code value ≡ Ok None
unfolding value_in
no_meaning caps code value (n1, (n2, (n3, (n4, (n5, (n6, (n7, (n8, (n9, (n10, (n14, (n15, (n16, (n32, _)))))))))))))) =
    rw (n1, n2, n3, n4, n5, n6, n7, n8, n9, n10, n14, n15, n16, n32) refl

-- ---- what is read is meant

-- an attribute of these parts
abbrev raw_of : ℕ → ℕ → List ℕ → Raw
raw_of flags code value = record { flags = flags; code = code; value = value }

-- what an attribute says, or that it is passed over
abbrev pub Meant : Caps → Raw → Option Attr → Type 0
Meant caps a None = IsPassedOver a
Meant caps a (Some attr) = Means caps a attr

-- what is read of a code is meant by it
abbrev Found : Caps → ℕ → List ℕ → Option Attr → ℕ → Type 0
Found caps flags value said code = has_flags (flags_of_code code) flags ≡ true → value_in caps code value ≡ Ok said
    → Meant caps (raw_of flags code value) said

-- what is read of a code that has these flags
meant_at : {A : Type 0} (caps : Caps) (flags code : ℕ) (value : List ℕ) (said : Option Attr) (wanted : ℕ)
    (say : A → Attr) (read : Result A Wrong)
    → ((x : A) → read ≡ Ok x → IsOf (raw_of flags code value) wanted code
    → Means caps (raw_of flags code value) (say x)) → eqb (kind flags) (kind wanted) ≡ true → said_as say read ≡ Ok said
    → Meant caps (raw_of flags code value) said
meant_at caps flags code value said wanted say read each flagged is =
    let steps = bind_ok read (λ x. Ok (Some (say x))) said is in
    let of : IsOf (raw_of flags code value) wanted code = record { flags = eqb-true _ _ flagged; code = refl } in
    subst (Meant caps (raw_of flags code value)) (ok_is BadLength _ _ steps.2) (each steps.0 steps.1 of)

-- what an MP_REACH_NLRI says it means
reach_means : (caps : Caps) (a : Raw) (reached : Option Reached) → IsOf a optional 14 → SaysReach caps a.value reached
    → Means caps a (says.Reach reached)
reach_means caps a None of said = (of, said)
reach_means caps a (Some reached) of said = (of, said)

-- what an MP_UNREACH_NLRI says it means
unreach_means : (caps : Caps) (a : Raw) (keys : Option (List Key)) → IsOf a optional 15 → SaysUnreach caps a.value keys
    → Means caps a (says.Unreach keys)
unreach_means caps a None of said = (of, said)
unreach_means caps a (Some keys) of said = (of, said)

-- a value that fits, with the flags and the code of its attribute
beside : {A B C : Type 0} → A → B × C → (A × B) × C
beside of found = ((of, found.0), found.1)

-- what is read of each code is meant
module _ (caps : Caps) (flags : ℕ) (value : List ℕ) (said : Option Attr) (are : AreBytes value) where
  origin_meant : Found caps flags value said 1
  unfolding value_in
  origin_meant flagged is = meant_at caps flags 1 value said transitive says.Origin (origin_in value)
      (λ origin read of. (of, values.origin_found value origin read)) flagged is

  path_meant : Found caps flags value said 2
  unfolding value_in
  path_meant flagged is = meant_at caps flags 2 value said transitive says.Path (path_in value)
      (λ path read of. beside of (path_found value path are read)) flagged is

  next_hop_meant : Found caps flags value said 3
  unfolding value_in
  next_hop_meant flagged is = meant_at caps flags 3 value said transitive says.NextHop (number_in value)
      (λ n read of. beside of (values.number_found value n are read)) flagged is

  med_meant : Found caps flags value said 4
  unfolding value_in
  med_meant flagged is = meant_at caps flags 4 value said optional says.Med (number_in value)
      (λ n read of. beside of (values.number_found value n are read)) flagged is

  local_pref_meant : Found caps flags value said 5
  unfolding value_in
  local_pref_meant flagged is = meant_at caps flags 5 value said transitive says.LocalPref (number_in value)
      (λ n read of. beside of (values.number_found value n are read)) flagged is

  atomic_meant : Found caps flags value said 6
  unfolding value_in
  atomic_meant flagged is = meant_at caps flags 6 value said transitive (λ empty. says.Atomic)
      (sized 0 (λ bytes. bytes) value) (λ empty read of. (of, values.empty_found value empty read)) flagged is

  aggregator_meant : Found caps flags value said 7
  unfolding value_in
  aggregator_meant flagged is = meant_at caps flags 7 value said optional_transitive says.Aggregator
      (aggregator_in value) (λ by read of. beside of (values.aggregator_found value by are read)) flagged is

  communities_meant : Found caps flags value said 8
  unfolding value_in
  communities_meant flagged is = meant_at caps flags 8 value said optional_transitive says.Communities
      (numbers_in value) (λ ns read of. beside of (values.numbers_found value ns are read)) flagged is

  originator_meant : Found caps flags value said 9
  unfolding value_in
  originator_meant flagged is = meant_at caps flags 9 value said optional says.Originator (number_in value)
      (λ n read of. beside of (values.number_found value n are read)) flagged is

  clusters_meant : Found caps flags value said 10
  unfolding value_in
  clusters_meant flagged is = meant_at caps flags 10 value said optional says.Clusters (numbers_in value)
      (λ ns read of. beside of (values.numbers_found value ns are read)) flagged is

  reach_meant : Found caps flags value said 14
  unfolding value_in
  reach_meant flagged is = meant_at caps flags 14 value said optional says.Reach (reach_in caps value)
      (λ reached read of. reach_means caps (raw_of flags 14 value) reached of (reach_found caps value reached are read))
      flagged is

  unreach_meant : Found caps flags value said 15
  unfolding value_in
  unreach_meant flagged is = meant_at caps flags 15 value said optional says.Unreach (unreach_in caps value)
      (λ keys read of. unreach_means caps (raw_of flags 15 value) keys of (unreach_found caps value keys are read))
      flagged is

  extended_meant : Found caps flags value said 16
  unfolding value_in
  extended_meant flagged is = meant_at caps flags 16 value said optional_transitive says.Extended (exts_in value)
      (λ exts read of. beside of (values.exts_found value exts are read)) flagged is

  large_meant : Found caps flags value said 32
  unfolding value_in
  large_meant flagged is = meant_at caps flags 32 value said optional_transitive says.Large (larges_in value)
      (λ larges read of. beside of (values.larges_found value larges are read)) flagged is

  codes_meant : AllByRecursion (Found caps flags value said) known_codes
  codes_meant =
      origin_meant & path_meant & next_hop_meant & med_meant & local_pref_meant & atomic_meant & aggregator_meant
      & communities_meant & originator_meant & clusters_meant & reach_meant & unreach_meant & extended_meant
      & large_meant & tt

-- what is read of another code is passed over
other_meant : (caps : Caps) (flags code : ℕ) (value : List ℕ) (said : Option Attr) → IsNone known_codes code
    → Found caps flags value said code
other_meant caps flags code value said none flagged is =
    let fails : Fails code = none_fails code none in
    let nothing : None ≡ said = ok_is BadLength None said (sym (no_meaning caps code value fails) ∙ is) in
    let above : ltb flags optional ≡ false = not-true _ (ap (λ own. has_flags own flags) (sym (no_flags code fails))
    ∙ flagged) in
    subst (Meant caps (raw_of flags code value)) nothing (ltb-false flags optional above, not_known none)

-- what is read of an attribute is meant by it
pub meaning_found : (caps : Caps) (a : Raw) (said : Option Attr) → AreBytes a.value
    → has_flags (flags_of_code a.code) a.flags ≡ true → value_in caps a.code a.value ≡ Ok said → Meant caps a said
meaning_found caps a said are = by_code (Found caps a.flags a.value said) known_codes
    (codes_meant caps a.flags a.value said are) a.code (other_meant caps a.flags a.code a.value said)

-- ---- what is meant is read

-- what is read of an attribute
abbrev IsRead : Caps → Raw → Option Attr → Type 0
IsRead caps a said = (has_flags (flags_of_code a.code) a.flags ≡ true) × (value_in caps a.code a.value ≡ Ok said)

-- an attribute of these flags, this code and this value
read_at : (caps : Caps) (a : Raw) (wanted code : ℕ) (value : List ℕ) (attr : Attr) → flags_of_code code ≡ Some wanted
    → Is a wanted code value → value_in caps code value ≡ Ok (Some attr) → IsRead caps a (Some attr)
read_at caps a wanted code value attr known is read =
    let flags : flags_of_code a.code ≡ Some wanted = ap flags_of_code is.0.code ∙ known in
    let same : value_in caps a.code a.value ≡ value_in caps code value = λ i. value_in caps (is.0.code i) (is.1 i) in
    (ap (λ own. has_flags own a.flags) flags ∙ eq-eqb _ _ is.0.flags, same ∙ read)

-- what an attribute means is read
pub meaning_only : (caps : Caps) (a : Raw) (attr : Attr) → Means caps a attr
    → (has_flags (flags_of_code a.code) a.flags ≡ true) × (value_in caps a.code a.value ≡ Ok (Some attr))
unfolding value_in
meaning_only caps a (says.Origin origin) means = read_at caps a transitive 1 (origin_number origin ∷ [])
    (says.Origin origin) refl means (ap (said_as says.Origin) (values.origin_only origin))
meaning_only caps a (says.Path path) means = read_at caps a transitive 2 (path_text path) (says.Path path) refl means.0
    (ap (said_as says.Path) (path_only path means.1))
meaning_only caps a (says.NextHop n) means = read_at caps a transitive 3 (number_text n) (says.NextHop n) refl means.0
    (ap (said_as says.NextHop) (values.number_only n means.1))
meaning_only caps a (says.Med n) means = read_at caps a optional 4 (number_text n) (says.Med n) refl means.0
    (ap (said_as says.Med) (values.number_only n means.1))
meaning_only caps a (says.LocalPref n) means = read_at caps a transitive 5 (number_text n) (says.LocalPref n) refl
    means.0 (ap (said_as says.LocalPref) (values.number_only n means.1))
meaning_only caps a says.Atomic means = read_at caps a transitive 6 [] says.Atomic refl means refl
meaning_only caps a (says.Aggregator by) means = read_at caps a optional_transitive 7 (aggregator_text by)
    (says.Aggregator by) refl means.0 (ap (said_as says.Aggregator) (values.aggregator_only by means.1))
meaning_only caps a (says.Communities ns) means = read_at caps a optional_transitive 8 (numbers_text ns)
    (says.Communities ns) refl means.0 (ap (said_as says.Communities) (values.numbers_only ns means.1))
meaning_only caps a (says.Originator n) means = read_at caps a optional 9 (number_text n) (says.Originator n) refl
    means.0 (ap (said_as says.Originator) (values.number_only n means.1))
meaning_only caps a (says.Clusters ns) means = read_at caps a optional 10 (numbers_text ns) (says.Clusters ns) refl
    means.0 (ap (said_as says.Clusters) (values.numbers_only ns means.1))
meaning_only caps a (says.Reach None) means = read_at caps a optional 14 a.value (says.Reach None) refl (means.0, refl)
    (ap (said_as says.Reach) (reach_only caps a.value None means.1))
meaning_only caps a (says.Reach (Some reached)) means = read_at caps a optional 14 a.value (says.Reach (Some reached))
    refl (means.0, refl) (ap (said_as says.Reach) (reach_only caps a.value (Some reached) means.1))
meaning_only caps a (says.Unreach None) means = read_at caps a optional 15 a.value (says.Unreach None) refl
    (means.0, refl) (ap (said_as says.Unreach) (unreach_only caps a.value None means.1))
meaning_only caps a (says.Unreach (Some keys)) means = read_at caps a optional 15 a.value (says.Unreach (Some keys))
    refl (means.0, refl) (ap (said_as says.Unreach) (unreach_only caps a.value (Some keys) means.1))
meaning_only caps a (says.Extended exts) means = read_at caps a optional_transitive 16 (exts_text exts)
    (says.Extended exts) refl means.0 (ap (said_as says.Extended) (values.exts_only exts means.1))
meaning_only caps a (says.Large larges) means = read_at caps a optional_transitive 32 (larges_text larges)
    (says.Large larges) refl means.0 (ap (said_as says.Large) (values.larges_only larges means.1))

-- nothing is read of an attribute that is passed over
pub passed_only : (caps : Caps) (a : Raw) → IsPassedOver a → (has_flags (flags_of_code a.code) a.flags ≡ true)
    × (value_in caps a.code a.value ≡ Ok None)
passed_only caps a passed =
    let fails : Fails a.code = none_fails a.code (none_of_known a.code passed.1) in
    let above : has_flags None a.flags ≡ true = not_from_false (ltb a.flags optional)
    (le-ltb a.flags optional passed.0) in
    (ap (λ own. has_flags own a.flags) (no_flags a.code fails) ∙ above, no_meaning caps a.code a.value fails)

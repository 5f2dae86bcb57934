-- MP_REACH_NLRI and MP_UNREACH_NLRI: what is read is spelled so, and what is spelled so is read.
use Rattle.std.proofs.Common.{ℕ, ◌≡◌, ◌≢◌, ◌⊎◌, ◌+◌, ◌*◌, ◌<◌, Bool, true, false, ◌&&◌, eqb, ltb}
use Rattle.std.proofs.Common.{List, [], ◌∷◌, ◌++◌, length, drop, Option, Some, None, Result, Ok, Err}
use Rattle.std.proofs.Common.{refl, sym, ap, subst, ◌∙◌, arith, length-append}
use Rattle.std.proofs.Common.{inl, inr, if◌then◌else◌}
use Rattle.std.proofs.lemmas.Bool.{eqb-true, le-ltb, and_parts}
use Rattle.std.proofs.lemmas.List.{drop_at}
use Rattle.std.proofs.lemmas.Option.{cond_some}
use Rattle.route_values.specs.declared.addr.Family.{Family}
use Rattle.route_values.specs.declared.addr.Family.TheVariants.{Ipv4, Ipv6}
use Rattle.route_values.specs.Caps.{Caps}
use Rattle.route_values.specs.declared.key.Key.{Key}
use Rattle.route_values.specs.Visible.{has_family}
use Rattle.update_grammar.specs.declared.effect.Reached.{Reached}
use Rattle.update_grammar.specs.Families.{family_text, IsElsewhere, SpellsReach, SpellsUnreach}
use Rattle.update_grammar.specs.ReadValues.{Wrong, BadLength}
use Rattle.update_grammar.specs.ReadFamilies.{family_of_numbers, agreed, agreed_in, keys_value, reached_in}
use Rattle.update_grammar.specs.ReadFamilies.{where_agreed, reach_in, unreach_in}
use Rattle.update_grammar.specs.Laws.{AreBytes}
use Rattle.update_grammar.proofs.ByteLemmas.{bytes_drop}
use Rattle.update_grammar.proofs.ReadReachedLemmas.{IsReached, keys_value_found, keys_value_only, reached_found}
use Rattle.update_grammar.proofs.ReadReachedLemmas.{reached_only}
use Rattle.update_grammar.proofs.ReadPrefixLemmas.{and_then_some}
use Rattle.update_grammar.proofs.ShrinkLemmas.{unless_fault}
use Rattle.update_grammar.proofs.StepsLemmas.{bind_ok, ok_is}

-- ---- the family

-- the family that is picked by two tests
picked : (four six : Bool) (family : Family) → (if four then Some Ipv4 else if six then Some Ipv6 else None)
    ≡ Some family → ((four ≡ true) × (family ≡ Ipv4)) ⊎ ((six ≡ true) × (family ≡ Ipv6))
picked true six family is = inl (refl, cc)
picked false true family is = inr (refl, cc)
picked false false family is = absurd cc

-- three bytes by their numbers
three_bytes : (first second third afi : ℕ) (family : Family) → first * 256 + second ≡ afi → afi < 256 → third ≡ 1
    → 0 ∷ afi ∷ 1 ∷ [] ≡ family_text family → first ∷ second ∷ third ∷ [] ≡ family_text family
three_bytes first second third afi family is small unicast text =
    let upper : first ≡ 0 = omega arith in
    let lower : second ≡ afi = omega arith in
    (λ i. upper i ∷ lower i ∷ unicast i ∷ []) ∙ text

-- the text of a family has three bytes
family_length : (family : Family) → length (family_text family) ≡ 3
family_length Ipv4 = refl
family_length Ipv6 = refl

-- three bytes that are read as a family are its text
family_found : (first second third : ℕ) (family : Family) → family_of_numbers (first * 256 + second) third ≡ Some family
    → first ∷ second ∷ third ∷ [] ≡ family_text family
family_found first second third family is =
    let afi : ℕ = first * 256 + second in
    elim (picked (eqb afi 1 && eqb third 1) (eqb afi 2 && eqb third 1) family is) [
      | inl four ↦
          let both = and_parts (eqb afi 1) (eqb third 1) four.0 in
          three_bytes first second third 1 family (eqb-true afi 1 both.0) (omega arith) (eqb-true third 1 both.1)
          (ap family_text (sym four.1))
      | inr six ↦
          let both = and_parts (eqb afi 2) (eqb third 1) six.0 in
          three_bytes first second third 2 family (eqb-true afi 2 both.0) (omega arith) (eqb-true third 1 both.1)
          (ap family_text (sym six.1))
    ]

-- the family that a value begins with is one of the session
agreed_found : (caps : Caps) (first second third : ℕ) (rest : List ℕ) (family : Family)
    → agreed_in caps (first ∷ second ∷ third ∷ rest) ≡ Some family
    → (first ∷ second ∷ third ∷ [] ≡ family_text family) × (has_family caps family ≡ true)
agreed_found caps first second third rest family is =
    let steps = and_then_some (agreed caps) (family_of_numbers (first * 256 + second) third) family is in
    let has = cond_some (has_family caps steps.0) steps.0 family steps.2 in
    (family_found first second third steps.0 steps.1 ∙ ap family_text has.1, ap (has_family caps) (sym has.1) ∙ has.0)

-- a family of the session is found
agreed_only : (caps : Caps) (family : Family) (rest : List ℕ) → has_family caps family ≡ true
    → agreed_in caps (family_text family ++ rest) ≡ Some family
agreed_only caps Ipv4 rest has = rw has refl
agreed_only caps Ipv6 rest has = rw has refl

-- ---- values of one family or another

-- what a reading of a value says where its family is the session's, and where it isn't
abbrev Says : {A : Type 0} → Caps → List ℕ → (Family → Result A Wrong) → Option A → Type 0
Says caps value read None = IsElsewhere caps value
Says caps value read (Some x) = (family : Family) × (has_family caps family ≡ true)
    × (value ≡ family_text family ++ drop 3 value) × (read family ≡ Ok x)

-- a reading of a value behind its family
abbrev read_behind : {A : Type 0} → Caps → List ℕ → (Family → Result A Wrong) → Result (Option A) Wrong
read_behind caps value read = if ltb (length value) 3 then Err BadLength else where_agreed read (agreed_in caps value)

-- three bytes that are no family of the session
not_agreed : (caps : Caps) (first second third : ℕ) (rest : List ℕ)
    → agreed_in caps (first ∷ second ∷ third ∷ rest) ≡ None → (family : Family) → has_family caps family ≡ true
    → first ∷ second ∷ third ∷ [] ≢ family_text family
not_agreed caps first second third rest none family has same =
    let agreed_is : agreed_in caps (first ∷ second ∷ third ∷ rest) ≡ Some family =
    ap (λ (front : List ℕ). agreed_in caps (front ++ rest)) same ∙ agreed_only caps family rest has in
    absurd cc

-- what is read where the family is found, or isn't
where_found : {A : Type 0} (caps : Caps) (first second third : ℕ) (rest : List ℕ) (read : Family → Result A Wrong)
    (found : Option Family) (said : Option A) → agreed_in caps (first ∷ second ∷ third ∷ rest) ≡ found
    → where_agreed read found ≡ Ok said
    → Says caps (first ∷ second ∷ third ∷ rest) read said
where_found caps first second third rest read None said none is =
    let value : List ℕ = first ∷ second ∷ third ∷ rest in
    let elsewhere : IsElsewhere caps value = record {
      family = first ∷ second ∷ third ∷ [];
      rest = rest;
      text = refl;
      three = refl;
      other = not_agreed caps first second third rest none;
    } in
    subst (Says caps value read) (ok_is BadLength _ _ is) elsewhere
where_found caps first second third rest read (Some family) said agreed_is is =
    let value : List ℕ = first ∷ second ∷ third ∷ rest in
    let steps = bind_ok (read family) (λ x. Ok (Some x)) said is in
    let has = agreed_found caps first second third rest family agreed_is in
    subst (Says caps value read) (ok_is BadLength _ _ steps.2)
    (family, has.1, ap (λ (front : List ℕ). front ++ rest) has.0, steps.1)

-- what is read says so
behind_found : {A : Type 0} (caps : Caps) (value : List ℕ) (read : Family → Result A Wrong) (said : Option A)
    → read_behind caps value read ≡ Ok said → Says caps value read said
behind_found caps [] read said is = absurd cc
behind_found caps (first ∷ []) read said is = absurd cc
behind_found caps (first ∷ second ∷ []) read said is = absurd cc
behind_found caps (first ∷ second ∷ third ∷ rest) read said is =
    let value : List ℕ = first ∷ second ∷ third ∷ rest in
    let parts = unless_fault (ltb (length value) 3) BadLength (where_agreed read (agreed_in caps value)) said is in
    where_found caps first second third rest read (agreed_in caps value) said refl parts.1

-- a value of a family of the session is read
behind_only : {A : Type 0} (caps : Caps) (family : Family) (rest : List ℕ) (read : Family → Result A Wrong) (x : A)
    → has_family caps family ≡ true → read family ≡ Ok x → read_behind caps (family_text family ++ rest) read
    ≡ Ok (Some x)
behind_only caps family rest read x has is =
    let long : ltb (length (family_text family ++ rest)) 3 ≡ false =
    le-ltb _ _ (omega (arith, family_length family, length-append (family_text family) rest)) in
    rw (long, agreed_only caps family rest has, is) refl

-- three bytes that are no family of the session are found to be none
none_agreed : (caps : Caps) (first second third : ℕ) (rest : List ℕ) (found : Option Family)
    → ((family : Family) → has_family caps family ≡ true → first ∷ second ∷ third ∷ [] ≢ family_text family)
    → agreed_in caps (first ∷ second ∷ third ∷ rest) ≡ found → found ≡ None
none_agreed caps first second third rest None other is = refl
none_agreed caps first second third rest (Some family) other is =
    let has = agreed_found caps first second third rest family is in
    absurd (other family has.1 has.0)

-- a value that begins with no family of the session says nothing
elsewhere_only : {A : Type 0} (caps : Caps) (front rest : List ℕ) (read : Family → Result A Wrong) → length front ≡ 3
    → ((family : Family) → has_family caps family ≡ true → front ≢ family_text family)
    → read_behind caps (front ++ rest) read ≡ Ok None
elsewhere_only caps [] rest read three other = absurd (omega arith)
elsewhere_only caps (first ∷ []) rest read three other = absurd (omega arith)
elsewhere_only caps (first ∷ second ∷ []) rest read three other = absurd (omega arith)
elsewhere_only caps (first ∷ second ∷ third ∷ []) rest read three other =
    let value : List ℕ = first ∷ second ∷ third ∷ rest in
    let long : ltb (length value) 3 ≡ false = le-ltb _ _ (omega arith) in
    rw (long, none_agreed caps first second third rest (agreed_in caps value) other refl) refl
elsewhere_only caps (first ∷ second ∷ third ∷ fourth ∷ front) rest read three other = absurd (omega arith)

-- ---- the two attributes

-- what an MP_REACH_NLRI of one family or another says
abbrev pub SaysReach : Caps → List ℕ → Option Reached → Type 0
SaysReach caps value None = IsElsewhere caps value
SaysReach caps value (Some reached) = SpellsReach caps value reached

-- what an MP_UNREACH_NLRI of one family or another says
abbrev pub SaysUnreach : Caps → List ℕ → Option (List Key) → Type 0
SaysUnreach caps value None = IsElsewhere caps value
SaysUnreach caps value (Some keys) = SpellsUnreach caps value keys

-- what is said of a family, with the family
reach_of : (caps : Caps) (value : List ℕ) (said : Option Reached) → AreBytes value
    → Says caps value (λ family. reached_in caps family (drop 3 value)) said → SaysReach caps value said
reach_of caps value None are says = says
reach_of caps value (Some reached) are says =
    let is = reached_found caps says.0 (drop 3 value) reached (bytes_drop 3 value are) says.3 in
    record {
      family = says.0;
      agreed = says.1;
      hop_text = is.hop_text;
      reserved = is.reserved;
      prefixes = is.prefixes;
      text = says.2 ∙ ap (λ (rest : List ℕ). family_text says.0 ++ rest) is.text;
      hop = is.hop;
      spelled = is.spelled;
    }

-- an MP_REACH_NLRI that is read is spelled
pub reach_found : (caps : Caps) (value : List ℕ) (said : Option Reached) → AreBytes value
    → reach_in caps value ≡ Ok said → SaysReach caps value said
unfolding reach_in
reach_found caps value said are is = reach_of caps value said are
    (behind_found caps value (λ family. reached_in caps family (drop 3 value)) said is)

-- an MP_REACH_NLRI that is spelled is read
pub reach_only : (caps : Caps) (value : List ℕ) (said : Option Reached) → SaysReach caps value said
    → reach_in caps value ≡ Ok said
unfolding reach_in
reach_only caps value None says =
    ap (λ (bytes : List ℕ). read_behind caps bytes (λ family. reached_in caps family (drop 3 bytes))) says.text
    ∙ elsewhere_only caps says.family says.rest (λ family. reached_in caps family (drop 3 (says.family ++ says.rest)))
    says.three says.other
reach_only caps value (Some reached) says =
    let bytes : List ℕ = length says.hop_text ∷ (says.hop_text ++ says.reserved ∷ says.prefixes) in
    let is : IsReached caps says.family bytes reached = record {
      hop_text = says.hop_text;
      reserved = says.reserved;
      prefixes = says.prefixes;
      text = refl;
      hop = says.hop;
      spelled = says.spelled;
    } in
    let whole : List ℕ = family_text says.family ++ bytes in
    let read : reached_in caps says.family (drop 3 whole) ≡ Ok reached =
    ap (reached_in caps says.family) (drop_at (family_text says.family) bytes 3 (family_length says.family))
    ∙ reached_only caps says.family bytes reached is in
    ap (λ (value : List ℕ). read_behind caps value (λ family. reached_in caps family (drop 3 value))) says.text
    ∙ behind_only caps says.family bytes (λ family. reached_in caps family (drop 3 whole)) reached says.agreed read

-- what is said of a family, with the family
unreach_of : (caps : Caps) (value : List ℕ) (said : Option (List Key)) → AreBytes value
    → Says caps value (λ family. keys_value caps family (drop 3 value)) said → SaysUnreach caps value said
unreach_of caps value None are says = says
unreach_of caps value (Some keys) are says = record {
  family = says.0;
  agreed = says.1;
  prefixes = drop 3 value;
  text = says.2;
  spelled = keys_value_found caps says.0 (drop 3 value) keys (bytes_drop 3 value are) says.3;
}

-- an MP_UNREACH_NLRI that is read is spelled
pub unreach_found : (caps : Caps) (value : List ℕ) (said : Option (List Key)) → AreBytes value
    → unreach_in caps value ≡ Ok said → SaysUnreach caps value said
unfolding unreach_in
unreach_found caps value said are is = unreach_of caps value said are
    (behind_found caps value (λ family. keys_value caps family (drop 3 value)) said is)

-- an MP_UNREACH_NLRI that is spelled is read
pub unreach_only : (caps : Caps) (value : List ℕ) (said : Option (List Key)) → SaysUnreach caps value said
    → unreach_in caps value ≡ Ok said
unfolding unreach_in
unreach_only caps value None says =
    ap (λ (bytes : List ℕ). read_behind caps bytes (λ family. keys_value caps family (drop 3 bytes))) says.text
    ∙ elsewhere_only caps says.family says.rest (λ family. keys_value caps family (drop 3 (says.family ++ says.rest)))
    says.three says.other
unreach_only caps value (Some keys) says =
    let whole : List ℕ = family_text says.family ++ says.prefixes in
    let read : keys_value caps says.family (drop 3 whole) ≡ Ok keys =
    ap (keys_value caps says.family) (drop_at (family_text says.family) says.prefixes 3 (family_length says.family))
    ∙ keys_value_only caps says.family says.prefixes keys says.spelled in
    ap (λ (value : List ℕ). read_behind caps value (λ family. keys_value caps family (drop 3 value))) says.text
    ∙ behind_only caps says.family says.prefixes (λ family. keys_value caps family (drop 3 whole)) keys says.agreed
    read

-- What one attribute says, and the loop that reads attributes.
use Rattle.std.proofs.Common.{ℕ, ◌≡◌, ◌+◌, ◌-◌, ◌<◌, ◌≤◌, true, false, List, [], ◌∷◌, ◌++◌, length, Option, Some, None}
use Rattle.std.proofs.Common.{Result, Ok, Err, arith, ap, sym, ◌∙◌, refl, subst}
use Rattle.std.specs.Prelude.{option_to_list, IfOk}
use Rattle.std.specs.Option.{ok_or}
use Rattle.answers.specs.Gives.{Blames, Gives}
use Rattle.route_values.specs.Caps.{Caps}
use Rattle.update_grammar.specs.declared.effect.Attr.{Attr}
use Rattle.update_grammar.specs.declared.fault.AttrFault.{AttrFault}
use Rattle.update_grammar.specs.declared.fault.AttrFault.TheVariants as fault
use Rattle.update_grammar.specs.Attributes.{Raw}
use Rattle.update_grammar.specs.Faults.{attr_blame}
use Rattle.update_grammar.specs.Laws.{AreBytes}
use Rattle.update_grammar.specs.Meanings.{SpellsAttributes}
use Rattle.update_grammar.specs.ReadAttributes.{Before, flags_of_code, has_flags, raw_at, value_in, attr_of, attr_step}
use Rattle.update_grammar.specs.ReadAttributes.{attrs_in}
use Rattle.update_grammar.specs.Steps.{◌>>=◌, each}
use Rattle.update_grammar.proofs.BlamesLemmas.{blames_along}
use Rattle.update_grammar.proofs.ReadAttributesLemmas.{stood, attrs_found, attrs_only}
use Rattle.update_grammar.proofs.ShrinkLemmas.{raw_shrinks, attrs_shrink}
use Rattle.update_grammar.proofs.StepsLemmas.{with_front, begins, goes_on, stops, is_done}
use Rattle.attr_codec.specs.declared.fault.ValueFault.{ValueFault}
use Rattle.attr_codec.specs.declared.fault.ValueFault.TheVariants as value_fault
use Rattle.attr_codec.specs.Faults.{value_blame, fault_at}

-- an attribute whose code stood before
pub attr_twice : (caps : Caps) (place : ℕ) (codes : List ℕ) (a : Raw) → has_flags (flags_of_code a.code) a.flags ≡ true
    → stood codes a.code ≡ true
    → attr_of caps (record { place = place; codes = codes }) a ≡ Err (fault.Twice place)
unfolding attr_of
attr_twice caps place codes a flags twice = rw (flags, twice) refl

-- an attribute whose value has a fault
pub attr_blamed : (e : ValueFault) (caps : Caps) (place : ℕ) (codes : List ℕ) (a : Raw)
    → has_flags (flags_of_code a.code) a.flags ≡ true → stood codes a.code ≡ false
    → Blames (value_blame e) (value_in caps a.code a.value)
    → Blames (attr_blame (fault_at place a.flags e)) (attr_of caps (record { place = place; codes = codes }) a)
unfolding attr_of
attr_blamed value_fault.BadLength caps place codes a flags new is = rw (flags, new, is) refl
attr_blamed value_fault.BadValue caps place codes a flags new is = rw (flags, new, is) refl
attr_blamed value_fault.NoMemory caps place codes a flags new is = tt

-- what is known at a place in the bytes
abbrev pub before_at : List ℕ → List ℕ → List ℕ → Before
before_at whole codes rest = record { place = length whole - length rest; codes = codes }

-- what is read from a place in the bytes on, behind what was said so far
abbrev pub attrs_so_far : Caps → List ℕ → List ℕ → List Attr → List ℕ → Result (List Attr) AttrFault
attrs_so_far caps whole codes list rest = with_front option_to_list list
    (each (attr_step caps) (before_at whole codes rest) rest)

-- nothing is read yet
pub attrs_begin : (caps : Caps) (whole : List ℕ) (list : List Attr) → list ≡ []
    → attrs_so_far caps whole [] list whole ≡ attrs_in caps whole
unfolding attrs_in
attrs_begin caps whole list none =
    let place : length whole - length whole ≡ 0 = omega arith in
    rw (none, place) (begins option_to_list (each (attr_step caps) (record { place = 0; codes = [] }) whole))

-- what a step gives where an attribute is cut off
abbrev step_with : Caps → Before → List ℕ → Option (Raw × List ℕ) → Result (Option Attr × Before × List ℕ) AttrFault
step_with caps before bytes found = do
  one ← ok_or found (fault.Cut before.place)
  said ← attr_of caps before one.0
  Ok (said, record { place = before.place + (length bytes - length one.1); codes = one.0.code ∷ before.codes }, one.1)

-- what a step gives where the attribute says something
abbrev step_saying : Before → List ℕ → Raw → List ℕ → Result (Option Attr) AttrFault
    → Result (Option Attr × Before × List ℕ) AttrFault
step_saying before bytes a behind read = read >>= λ said. Ok (
  said,
  record { place = before.place + (length bytes - length behind); codes = a.code ∷ before.codes },
  behind,
)

-- the next attribute is read
pub attrs_go_on : (caps : Caps) (whole codes rest behind : List ℕ) (list more : List Attr) (a : Raw)
    (said : Option Attr) (total : Result (List Attr) AttrFault) → length rest ≤ length whole
    → Some (a, behind) ≡ raw_at rest
    → attr_of caps (before_at whole codes rest) a ≡ Ok said → more ≡ list ++ option_to_list said
    → attrs_so_far caps whole codes list rest ≡ total → attrs_so_far caps whole (a.code ∷ codes) more behind ≡ total
attrs_go_on caps whole codes rest behind list more a said total within found is pushed so_far =
    let before : Before = before_at whole codes rest in
    let after : Before = record { place = before.place + (length rest - length behind); codes = a.code ∷ codes } in
    let less = raw_shrinks rest (a, behind) (sym found) in
    let next : before.place + (length rest - length behind) ≡ length whole - length behind = omega arith in
    let step : attr_step caps before rest ≡ Ok (said, after, behind) = sym (ap (step_with caps before rest) found)
    ∙ ap (step_saying before rest a behind) is in
    rw (pushed, ← next) (goes_on (attr_step caps) (attrs_shrink caps) option_to_list list before rest
    (said, after, behind) total step so_far)

pub attrs_shorter : (rest behind : List ℕ) (a : Raw) → Some (a, behind) ≡ raw_at rest → length behind < length rest
attrs_shorter rest behind a found = raw_shrinks rest (a, behind) (sym found)

-- a cut attribute ends the reading
pub attrs_cut : (caps : Caps) (whole codes rest : List ℕ) (list : List Attr) (total : Result (List Attr) AttrFault)
    → 0 < length rest → None ≡ raw_at rest → attrs_so_far caps whole codes list rest ≡ total
    → total ≡ Err (fault.Cut (length whole - length rest))
attrs_cut caps whole codes rest list total some none so_far =
    let before : Before = before_at whole codes rest in
    stops (attr_step caps) (attrs_shrink caps) option_to_list list before rest (fault.Cut before.place) total some
    (sym (ap (step_with caps before rest) none)) so_far

-- an attribute with a fault ends it
attrs_stop : (caps : Caps) (whole codes rest behind : List ℕ) (list : List Attr) (a : Raw) (e : AttrFault)
    (total : Result (List Attr) AttrFault) → Some (a, behind) ≡ raw_at rest
    → attr_of caps (before_at whole codes rest) a ≡ Err e → attrs_so_far caps whole codes list rest ≡ total
    → total ≡ Err e
attrs_stop caps whole codes rest behind list a e total found is so_far =
    let before : Before = before_at whole codes rest in
    let less = raw_shrinks rest (a, behind) (sym found) in
    let some : 0 < length rest = omega arith in
    let step : attr_step caps before rest ≡ Err e = sym (ap (step_with caps before rest) found)
    ∙ ap (step_saying before rest a behind) is in
    stops (attr_step caps) (attrs_shrink caps) option_to_list list before rest e total some step so_far

pub attrs_fail : (e : AttrFault) (caps : Caps) (whole codes rest behind : List ℕ) (list : List Attr) (a : Raw)
    (total : Result (List Attr) AttrFault) → Some (a, behind) ≡ raw_at rest
    → Blames (attr_blame e) (attr_of caps (before_at whole codes rest) a)
    → attrs_so_far caps whole codes list rest ≡ total → Blames (attr_blame e) total
attrs_fail e caps whole codes rest behind list a total found is so_far =
    blames_along (attr_blame e) (attr_of caps (before_at whole codes rest) a) total
    (λ blamed fails. attrs_stop caps whole codes rest behind list a blamed total found fails so_far) is

-- all attributes are read
pub attrs_end : (caps : Caps) (whole codes rest : List ℕ) (list : List Attr) (total : Result (List Attr) AttrFault)
    → length rest ≡ 0 → attrs_so_far caps whole codes list rest ≡ total → total ≡ Ok list
attrs_end caps whole codes rest list total none so_far = is_done (attr_step caps) option_to_list list
    (before_at whole codes rest) rest total none so_far

-- what is read is spelled
pub attrs_are_found : (caps : Caps) (bytes : List ℕ) (answer : Result (List Attr) AttrFault) → AreBytes bytes
    → Gives (λ list. list) attr_blame answer (attrs_in caps bytes)
    → IfOk answer (λ said. SpellsAttributes caps bytes said)
attrs_are_found caps bytes (Ok said) bytes_are given = attrs_found caps bytes said bytes_are given
attrs_are_found caps bytes (Err e) bytes_are given = tt

-- what is spelled is read
pub attrs_are_given : (caps : Caps) (bytes : List ℕ) (answer : Result (List Attr) AttrFault) (said : List Attr)
    → SpellsAttributes caps bytes said → Gives (λ list. list) attr_blame answer (attrs_in caps bytes)
    → Gives (λ list. list) attr_blame answer (Ok said)
attrs_are_given caps bytes answer said spelled given = subst (λ read. Gives (λ list. list) attr_blame answer read)
    (attrs_only caps bytes said spelled) given

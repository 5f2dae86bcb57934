-- How what capabilities say is gathered, and that each entry, capability and parameter takes at least one byte.
use Rattle.std.proofs.Common.{ℕ, ◌≡◌, ◌<◌, ◌≤◌, ◌||◌, Bool, true, false, List, [], ◌∷◌, ◌++◌, length, get_or, take}
use Rattle.std.proofs.Common.{drop, nat_lt, Option, Some, None, Ok, arith, length-drop, ap, refl, sym, ◌∙◌}
use Rattle.std.proofs.Common.{subst, option_map, if◌then◌else◌}
use Rattle.std.specs.Int.{w16, from_be_bytes}
use Rattle.std.specs.Option.{option_or, ok_or}
use Rattle.std.proofs.lemmas.Bool.{ltb-false}
use Rattle.std.proofs.lemmas.Grind.{flat_map-append}
use Rattle.std.proofs.lemmas.List.Folds.{list_any-append}
use Rattle.std.proofs.lemmas.Option.{same_Some}
use Rattle.update_grammar.specs.ReadFamilies.{family_of_numbers}
use Rattle.update_grammar.specs.Steps.{◌>>=◌}
use Rattle.update_grammar.proofs.ReadPrefixLemmas.{ok_or_some, unless}
use Rattle.update_grammar.proofs.StepsLemmas.{Shrinks, bind_ok, ok_is}
use Rattle.session_codec.specs.declared.offer.Path.{Path}
use Rattle.session_codec.specs.declared.reading.said.Said.{Said}
use Rattle.session_codec.specs.declared.reading.ways.Ways.{Ways}
use Rattle.session_codec.specs.Written.{Field}
use Rattle.session_codec.specs.Found.{first_some, Entry, entry_at, entry_step, way_of_number}
use Rattle.session_codec.specs.ReadOpen.{field_at, cap_step, caps_in, parameter_step, all_caps, unspecific}
use Rattle.session_codec.specs.Said.{ways_by, ways_of, ways_then, said_by, said_of, said_then}
use Rattle.session_codec.proofs.GatherLemmas.{Gathers}

-- the first of three
or_joins : {A : Type 0} (a b c : Option A) → option_or (option_or a b) c ≡ option_or a (option_or b c)
or_joins None b c = refl
or_joins (Some x) b c = refl

or_none : {A : Type 0} (a : Option A) → option_or a None ≡ a
or_none None = refl
or_none (Some x) = refl

any_joins : (a b c : Bool) → ((a || b) || c) ≡ (a || (b || c))
any_joins true b c = refl
any_joins false b c = refl

pub any_none : (a : Bool) → (a || false) ≡ a
any_none true = refl
any_none false = refl

-- the first answer among items that stand in front, or else among those behind
pub first_some-append : {X A : Type 0} (ask : X → Option A) (xs ys : List X)
    → first_some ask (xs ++ ys) ≡ option_or (first_some ask xs) (first_some ask ys)
first_some-append ask [] ys = refl
first_some-append ask (x ∷ xs) ys =
    ap (option_or (ask x)) (first_some-append ask xs ys)
    ∙ sym (or_joins (ask x) (first_some ask xs) (first_some ask ys))

-- ways
pub ways_joins : (a b c : Ways) → ways_then (ways_then a b) c ≡ ways_then a (ways_then b c)
ways_joins a b c = simp or_joins

pub ways_gather : Gathers ways_then ways_by ways_of
ways_gather = record {
  one = λ entry entries. refl;
  joins = ways_joins;
  front = λ a. refl;
  behind = λ a. simp or_none;
}

pub ways_by-append : (xs ys : List Entry) → ways_by (xs ++ ys) ≡ ways_then (ways_by xs) (ways_by ys)
ways_by-append xs ys = simp first_some-append

-- what capabilities say
pub said_joins : (a b c : Said) → said_then (said_then a b) c ≡ said_then a (said_then b c)
said_joins a b c = simp (or_joins, any_joins)

said_behind : (a : Said) → said_then a (said_by []) ≡ a
said_behind a = simp (or_none, any_none)

pub said_by-append : (xs ys : List Field) → said_by (xs ++ ys) ≡ said_then (said_by xs) (said_by ys)
said_by-append xs ys = simp (flat_map-append, first_some-append, list_any-append)

said_one : (cap : Field) (caps : List Field) → said_by (cap ∷ caps) ≡ said_then (said_of cap) (said_by caps)
said_one cap caps = simp first_some-append

pub said_gather : Gathers said_then said_by said_of
said_gather = record { one = said_one; joins = said_joins; front = λ a. refl; behind = said_behind }

abbrev pub said_by_all : List (List Field) → Said
said_by_all lists = said_by (all_caps lists)

pub parameters_gather : Gathers said_then said_by_all said_by
parameters_gather = record {
  one = λ caps lists. said_by-append caps (all_caps lists);
  joins = said_joins;
  front = λ a. refl;
  behind = said_behind;
}

-- an entry takes four bytes
map_some : {A B : Type 0} (f : A → B) (o : Option A) (y : B) → option_map f o ≡ Some y → (x : A) × (f x ≡ y)
map_some f None y is = absurd cc
map_some f (Some x) y is = (x, cc)

entry_shrinks : (bytes : List ℕ) (one : Entry × List ℕ) → entry_at bytes ≡ Some one → length one.1 < length bytes
unfolding entry_at
entry_shrinks bytes one is =
    let say : Path → Entry × List ℕ = λ (goes : Path). (
      record { family = family_of_numbers (from_be_bytes w16 bytes) (get_or bytes 2 0); goes = goes },
      drop 4 bytes,
    ) in
    let some = unless (nat_lt (length bytes) 4) (option_map say (way_of_number (get_or bytes 3 0))) one is in
    let long : 4 ≤ length bytes = ltb-false _ _ some.0 in
    let found = map_some say (way_of_number (get_or bytes 3 0)) one some.1 in
    subst (λ (o : Entry × List ℕ). length o.1 < length bytes) found.1 (omega (arith, long, length-drop 4 bytes))

pub entries_shrink : Shrinks entry_step
entries_shrink = record {
  less = λ known bytes one is.
      let first = bind_ok (ok_or (entry_at bytes) tt) (λ (got : Entry × List ℕ). Ok (got.0, tt, got.1)) one is in
      let rest : first.0.1 ≡ one.2 = ap (λ (o : Entry × Unit {0} × List ℕ). o.2) (ok_is (tt {0}) _ _ first.2) in
      omega (arith, entry_shrinks bytes first.0 (ok_or_some _ _ _ first.1), ap length rest);
}

-- a capability or a parameter takes its code and its length
pub field_shrinks : (bytes : List ℕ) (one : Field × List ℕ) → field_at bytes ≡ Some one → length one.1 < length bytes
unfolding field_at
field_shrinks bytes one is =
    let len : ℕ = get_or bytes 1 0 in
    let found : Field × List ℕ =
    (record { code = get_or bytes 0 0; value = take len (drop 2 bytes) }, drop len (drop 2 bytes)) in
    let some = unless (nat_lt (length bytes) 2)
    (if nat_lt (length (drop 2 bytes)) len then None else Some found) one is in
    let long : 2 ≤ length bytes = ltb-false _ _ some.0 in
    let whole = unless (nat_lt (length (drop 2 bytes)) len) (Some found) one some.1 in
    subst (λ (o : Field × List ℕ). length o.1 < length bytes) (same_Some _ _ whole.1)
    (omega (arith, long, length-drop 2 bytes, length-drop len (drop 2 bytes)))

pub caps_shrink : Shrinks cap_step
caps_shrink = record {
  less = λ known bytes one is.
      let first = bind_ok (ok_or (field_at bytes) unspecific)
      (λ (got : Field × List ℕ). Ok (got.0, tt, got.1)) one is in
      let rest : first.0.1 ≡ one.2 = ap (λ (o : Field × Unit {0} × List ℕ). o.2) (ok_is unspecific _ _ first.2) in
      omega (arith, field_shrinks bytes first.0 (ok_or_some _ _ _ first.1), ap length rest);
}

pub parameters_shrink : Shrinks parameter_step
parameters_shrink = record {
  less = λ known bytes one is.
      let first = bind_ok (ok_or (field_at bytes) unspecific)
      (λ (got : Field × List ℕ). caps_in got.0 >>= λ caps. Ok (caps, tt, got.1)) one is in
      let second = bind_ok (caps_in first.0.0) (λ (caps : List Field). Ok (caps, tt, first.0.1)) one first.2 in
      let rest : first.0.1 ≡ one.2 = ap (λ (o : List Field × Unit {0} × List ℕ). o.2) (ok_is unspecific _ _ second.2) in
      omega (arith, field_shrinks bytes first.0 (ok_or_some _ _ _ first.1), ap length rest);
}

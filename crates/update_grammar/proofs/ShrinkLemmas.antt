-- Each attribute and each part of a path takes at least one byte.
use Rattle.std.proofs.Common.{ℕ, ◌≡◌, ◌+◌, ◌-◌, ◌*◌, ◌<◌, ◌≤◌, Bool, true, false, List, ◌∷◌, length, get_or, take, drop}
use Rattle.std.proofs.Common.{nat_lt, Option, Some, Result, Ok, Err, arith, length-drop, ap, refl, subst, if◌then◌else◌}
use Rattle.std.specs.Option.{ok_or, option_and_then}
use Rattle.std.specs.Int.{w16, from_be_bytes}
use Rattle.std.proofs.lemmas.Bool.{ltb-false}
use Rattle.std.proofs.lemmas.Option.{same_Some}
use Rattle.route_values.specs.Caps.{Caps}
use Rattle.update_grammar.specs.declared.effect.Attr.{Attr}
use Rattle.update_grammar.specs.declared.fault.AttrFault.TheVariants as fault
use Rattle.update_grammar.specs.Attributes.{Raw, is_extended}
use Rattle.update_grammar.specs.Steps.{◌>>=◌}
use Rattle.update_grammar.specs.ReadValues.{Part, part_at, items_from, number_from, BadLength}
use Rattle.update_grammar.specs.ReadAttributes.{len_at, raw_with, raw_at, attr_of, attr_step, Before}
use Rattle.update_grammar.proofs.ReadPrefixLemmas.{and_then_some, ok_or_some, unless}
use Rattle.update_grammar.proofs.StepsLemmas.{Shrinks, bind_ok, ok_is}

-- a test that holds, before something that may fail
pub unless_fault : {A E : Type 0} (b : Bool) (e : E) (r : Result A E) (x : A) → (if b then Err e else r) ≡ Ok x
    → (b ≡ false) × (r ≡ Ok x)
unless_fault true e r x is = absurd cc
unless_fault false e r x is = (refl, is)

-- a part takes its type and its count
pub parts_shrink : Shrinks part_at
unfolding part_at
parts_shrink = record {
  less = λ known bytes one is.
      let len : ℕ = 4 * get_or bytes 1 0 in
      let found : Part × Unit {0} × List ℕ = (
        record {
          kind = get_or bytes 0 0;
          numbers = items_from 4 number_from (take len (drop 2 bytes));
        },
        tt,
        drop len (drop 2 bytes),
      ) in
      let parts = unless_fault (nat_lt (length bytes) (2 + len)) BadLength (Ok found) one is in
      let long : 2 + len ≤ length bytes = ltb-false _ _ parts.0 in
      subst (λ (o : Part × Unit {0} × List ℕ). length o.2 < length bytes) (ok_is BadLength found one parts.1)
      (omega (arith, long, length-drop len (drop 2 bytes), length-drop 2 bytes));
}

-- a length is behind the flags and the code
len_shrinks : (extended : Bool) (bytes : List ℕ) (one : ℕ × List ℕ) → len_at extended bytes ≡ Some one
    → length one.1 ≤ length bytes
len_shrinks true bytes one is =
    let parts = unless (nat_lt (length bytes) 2) (Some (from_be_bytes w16 bytes, drop 2 bytes)) one is in
    subst (λ (o : ℕ × List ℕ). length o.1 ≤ length bytes) (same_Some _ _ parts.1) (omega (arith, length-drop 2 bytes))
len_shrinks false bytes one is =
    let parts = unless (nat_lt (length bytes) 1) (Some (get_or bytes 0 0, drop 1 bytes)) one is in
    subst (λ (o : ℕ × List ℕ). length o.1 ≤ length bytes) (same_Some _ _ parts.1) (omega (arith, length-drop 1 bytes))

value_shrinks : (flags code : ℕ) (len : ℕ × List ℕ) (one : Raw × List ℕ) → raw_with flags code len ≡ Some one
    → length one.1 ≤ length len.1
value_shrinks flags code len one is =
    let found : Raw × List ℕ = (record { flags = flags; code = code; value = take len.0 len.1 }, drop len.0 len.1) in
    let parts = unless (nat_lt (length len.1) len.0) (Some found) one is in
    subst (λ (o : Raw × List ℕ). length o.1 ≤ length len.1) (same_Some _ _ parts.1)
    (omega (arith, length-drop len.0 len.1))

-- an attribute takes at least flags and code
pub raw_shrinks : (bytes : List ℕ) (one : Raw × List ℕ) → raw_at bytes ≡ Some one → length one.1 < length bytes
unfolding raw_at
raw_shrinks bytes one is =
    let some = unless (nat_lt (length bytes) 2) (option_and_then (raw_with (get_or bytes 0 0) (get_or bytes 1 0))
    (len_at (is_extended (get_or bytes 0 0)) (drop 2 bytes))) one is in
    let long : 2 ≤ length bytes = ltb-false _ _ some.0 in
    let parts = and_then_some (raw_with (get_or bytes 0 0) (get_or bytes 1 0))
    (len_at (is_extended (get_or bytes 0 0)) (drop 2 bytes)) one some.1 in
    omega (
      arith,
      long,
      length-drop 2 bytes,
      len_shrinks (is_extended (get_or bytes 0 0)) (drop 2 bytes) parts.0
          parts.1,
      value_shrinks (get_or bytes 0 0) (get_or bytes 1 0) parts.0 one parts.2,
    )

pub attrs_shrink : (caps : Caps) → Shrinks (attr_step caps)
attrs_shrink caps = record {
  less = λ before bytes one is.
      let behind : Raw × List ℕ → Before = λ (got : Raw × List ℕ).
      record { place = before.place + (length bytes - length got.1); codes = got.0.code ∷ before.codes } in
      let first = bind_ok (ok_or (raw_at bytes) (fault.Cut before.place))
      (λ (got : Raw × List ℕ). attr_of caps before got.0 >>= λ said. Ok (said, behind got, got.1)) one is in
      let second = bind_ok (attr_of caps before first.0.0) (λ (said : Option Attr).
      Ok (said, behind first.0, first.0.1)) one first.2 in
      let rest : first.0.1 ≡ one.2 = ap (λ (o : Option Attr × Before × List ℕ). o.2)
      (ok_is fault.NoMemory _ _ second.2) in
      omega (arith, raw_shrinks bytes first.0 (ok_or_some _ _ _ first.1), ap length rest);
}

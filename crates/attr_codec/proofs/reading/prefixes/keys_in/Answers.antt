use Rattle.std.proofs.Common.{◌<◌, length, sym, ◌∙◌, arith}
use Rattle.std.proofs.lemmas.Bool.{eqb-true, eqb-false}
use Rattle.attr_codec.proofs.KeysLemmas.{keys_begin, keys_go_on, keys_shorter, keys_stop, keys_end}
use Rattle.attr_codec.proofs.reading.prefixes.keys_in.Goals as goal

pub keys-init : goal.keys-init
keys-init c = record { within = omega arith; so_far = keys_begin _ _ _ _ c.new-keys.ensures }

pub returns-in_default-clause-exact : goal.returns-in_default-clause-exact
returns-in_default-clause-exact c =
    let none = eqb-false _ _ (sym c.is_empty.ensures ∙ c.keys-test.true) in
    let some : 0 < length c.keys.rest.now = omega arith in
    keys_stop _ _ _ _ _ _ some c.in_default.ensures c.keys.invariant.so_far

pub keys-smaller : goal.keys-smaller
keys-smaller c = keys_shorter _ _ _ _ _ c.in-Some.ensures

pub keys-preserved : goal.keys-preserved
keys-preserved c =
    let less = keys_shorter _ _ _ _ _ c.in-Some.ensures in
    record {
      within = omega (arith, less, c.keys.invariant.within);
      so_far = keys_go_on _ _ _ _ _ _ _ _ _ c.keys.invariant.within c.in-Some.ensures c.in_ok-push.ensures.ok
          c.keys.invariant.so_far;
    }

pub returns-clause-exact : goal.returns-clause-exact
returns-clause-exact c = keys_end _ _ _ _ _ _ (eqb-true _ _ (sym c.is_empty.ensures ∙ c.keys-test.false))
    c.keys.invariant.so_far

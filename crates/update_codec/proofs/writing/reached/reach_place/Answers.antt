use Rattle.std.proofs.Common.{◌+◌, ◌-◌, drop, length, arith, length-drop, ap, subst, sym}
use Rattle.update_codec.proofs.WalkLemmas.{IsLeft, four_bytes, size_within, left_all, left_next, leaves_found}
use Rattle.update_codec.proofs.writing.reached.reach_place.Goals as goal

pub loop-rest-init : goal.loop-rest-init
loop-rest-init c = subst (IsLeft (drop 23 c.args.bytes.now)) (sym c.split_at.ensures.back)
    (left_all (drop 23 c.args.bytes.now))

pub loop-rest-preserved : goal.loop-rest-preserved
loop-rest-preserved c =
    left_next (drop 23 c.args.bytes.now) _ _ c.loop-rest.invariant c.loop-rest-test.true
    c.behind_attribute-rest.ensures.rest c.behind_attribute-rest.ensures.shorter

pub overflow_add-result : goal.overflow_add-result
overflow_add-result c =
    omega (
      arith,
      c.loop-rest.invariant.within,
      length-drop 23 c.args.bytes.now,
      size_within _ _ (c.loop-rest.invariant.leaves c.requires).has c.attribute_len.ensures.value,
    )

pub returns-clause-start : goal.returns-clause-start
returns-clause-start c = λ has.
    let found = leaves_found _ _ _ _ _ (c.loop-rest.invariant.leaves has) c.loop-rest-test.false
    c.attribute_len.ensures.value in
    omega (arith, found.0, length-drop 23 c.args.bytes.now, four_bytes _ has)

pub returns-clause-end : goal.returns-clause-end
returns-clause-end c = λ has.
    let found = leaves_found _ _ _ _ _ (c.loop-rest.invariant.leaves has) c.loop-rest-test.false
    c.attribute_len.ensures.value in
    ap (λ n. length c.args.bytes.now - length c.loop-rest.rest.now + n) found.1

pub returns-clause-within : goal.returns-clause-within
returns-clause-within c =
    omega (
      arith,
      c.loop-rest.invariant.within,
      length-drop 23 c.args.bytes.now,
      size_within _ _ (c.loop-rest.invariant.leaves c.requires).has c.attribute_len.ensures.value,
    )

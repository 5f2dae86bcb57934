use Rattle.std.proofs.Common.{◌<◌, [], ◌∷◌, length, sym, ◌∙◌, arith}
use Rattle.std.proofs.lemmas.Bool.{eqb-true, eqb-false}
use Rattle.std.proofs.lemmas.Result.{err_from_is_err_and}
use Rattle.attr_codec.proofs.AttributeLemmas.{attrs_begin, attrs_go_on, attrs_shorter, attrs_cut, attrs_fail, attrs_end}
use Rattle.attr_codec.proofs.reading.said_in.Goals as goal

pub attrs-init : goal.attrs-init
attrs-init c = record {
  within = omega arith;
  so_far = ([], c.new-codes.ensures, attrs_begin _ _ _ c.new-list.ensures);
}

pub returns-in_default-clause-exact : goal.returns-in_default-clause-exact
returns-in_default-clause-exact c =
    let none = eqb-false _ _ (sym c.is_empty.ensures ∙ c.attrs-test.true) in
    let some : 0 < length c.attrs.rest.now = omega arith in
    attrs_cut _ _ _ _ _ _ some c.in_default.ensures.value c.attrs.invariant.so_far.2

pub returns-in_err-said-clause-exact : goal.returns-in_err-said-clause-exact
returns-in_err-said-clause-exact c =
    let known = c.attrs.invariant.so_far in
    let e = err_from_is_err_and c.from_residual.result c.from_residual.ensures.1 in
    rw (e.1, e.2) (attrs_fail _ _ _ _ _ _ _ _ _ c.in-Some.ensures.value (c.in_err-said.ensures.exact known.0 known.1)
    known.2)

pub attrs-preserved : goal.attrs-preserved
attrs-preserved c =
    let known = c.attrs.invariant.so_far in
    let less = attrs_shorter _ _ _ c.in-Some.ensures.value in
    record {
      within = omega (arith, less, c.attrs.invariant.within);
      so_far = (
        c.in-Some.attr.code ∷ known.0,
        c.add.ensures known.0 known.1,
        attrs_go_on _ _ _ _ _ _ _ _ _ _ c.attrs.invariant.within c.in-Some.ensures.value
            (c.in_ok-said.ensures.exact known.0 known.1) c.in_ok-push_said.ensures known.2,
      );
    }

pub returns-clause-exact : goal.returns-clause-exact
returns-clause-exact c = attrs_end _ _ _ _ _ _ (eqb-true _ _ (sym c.is_empty.ensures ∙ c.attrs-test.false))
    c.attrs.invariant.so_far.2

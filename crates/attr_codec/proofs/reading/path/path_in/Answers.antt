use Rattle.std.proofs.Common.{◌<◌, length, sym, ◌∙◌, arith}
use Rattle.std.proofs.lemmas.Bool.{eqb-true, eqb-false}
use Rattle.std.proofs.lemmas.Result.{err_from_is_err_and}
use Rattle.attr_codec.proofs.PathLemmas.{path_first, path_goes_on, path_shorter, path_stops, path_whole, path_bad}
use Rattle.attr_codec.proofs.PathLemmas.{filled_more, filled_none}
use Rattle.attr_codec.proofs.reading.path.path_in.Goals as goal

pub parts-init : goal.parts-init
parts-init c = record {
  filled = filled_none _ c.new-segments.ensures.items;
  so_far = path_first _ _ c.new-segments.ensures.items;
}

pub returns-in_err-part : goal.returns-in_err-part
returns-in_err-part c =
    let none = eqb-false _ _ (sym c.is_empty.ensures ∙ c.parts-test.true) in
    let some : 0 < length c.parts.rest.now = omega arith in
    let e = err_from_is_err_and c.from_residual.result c.from_residual.ensures.1 in
    rw (e.1, e.2) (path_stops _ _ _ _ _ some c.in_err-part.ensures c.parts.invariant.so_far)

pub returns-in_err-good : goal.returns-in_err-good
returns-in_err-good c =
    let e = err_from_is_err_and c.from_residual-in_err-good.result c.from_residual-in_err-good.ensures.1 in
    rw (e.1, e.2) tt

pub parts-smaller : goal.parts-smaller
parts-smaller c = path_shorter _ _ _ c.in_ok-part.ensures

pub parts-preserved : goal.parts-preserved
parts-preserved c = record {
  filled = filled_more _ _ _ _ c.in_ok-good.ensures c.parts.invariant.filled;
  so_far = path_goes_on _ _ _ _ _ _ _ _ c.in_ok-part.ensures c.in_ok-good.ensures c.parts.invariant.so_far;
}

pub returns-then-not-good : goal.returns-then-not-good
returns-then-not-good c = path_bad _ _ _ _ (eqb-true _ _ (sym c.is_empty.ensures ∙ c.parts-test.false))
    c.if-not-good.true c.parts.invariant.so_far

pub returns : goal.returns
returns c =
    let none = eqb-true _ _ (sym c.is_empty.ensures ∙ c.parts-test.false) in
    let whole = path_whole _ _ _ _ none c.if-not-good.false c.parts.invariant.so_far in
    rw c.from_segments.ensures whole

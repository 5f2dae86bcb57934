use Rattle.std.proofs.Common.{◌≡◌, true, ap, arith}
use Rattle.std.proofs.lemmas.Grind.{common_steps}
use Rattle.pooled_attrs.specs.declared.wire.Wire.{Wire}
use Rattle.pooled_attrs.specs.Same.{same_wire}
use Rattle.adj_rib_out.proofs.tests.messages.is_same.Goals as goal

pub returns : goal.returns
returns c = λ same.
    let equal : same_wire c.args.attrs.now c.args.other.now ≡ true = grind (arith, common_steps) in
    ap (λ (wire : Wire). wire.attrs)
    ((c.tests_decide.ensures.wire (record { attrs = c.args.attrs.now }) (record { attrs = c.args.other.now })).0 equal)

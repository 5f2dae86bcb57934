use Rattle.std.proofs.Common.{ap, sym, ◌∙◌, arith}
use Rattle.update_codec.proofs.MattersLemmas.{with_attrs, with_last, started, none_left}
use Rattle.update_codec.specs.Matters.{told_of}
use Rattle.update_codec.proofs.reading.matters.Told.of.Goals as goal

pub loop-attr-init : goal.loop-attr-init
loop-attr-init c = started c.none.result c.into_vec-rest.result.items c.args.said c.none.ensures c.into_vec-rest.ensures

pub loop-attr-preserved : goal.loop-attr-preserved
loop-attr-preserved c =
    rw c.put.ensures (sym (with_last c.pop.new.self.items c.in-Some.attr c.loop-attr.told)
    ∙ ap (λ said. with_attrs said c.loop-attr.told) (sym (rw c.in-Some.is at c.pop.ensures.items))
    ∙ c.loop-attr.invariant)

pub returns : goal.returns
returns c = none_left c.loop-attr.rest.items c.loop-attr.told (told_of c.args.said)
    (omega (arith, rw c.in_default.is at c.pop.ensures.cases)) c.loop-attr.invariant

use Rattle.std.proofs.Common.{◌∙◌, length-set, arith, ap}
use Rattle.crew.proofs.MarkLemmas.{marked_more, none_more, one_more, rose_more, same_more, same_refused}
use Rattle.crew.proofs.marking.mark.Goals as goal

pub loop-i-preserved : goal.loop-i-preserved
loop-i-preserved g c =
    let kept = c.loop-i.invariant in
    let is = c.refuses-place.ensures.listed ∙ same_refused c.args.plan.now c.loop-i.plan c.loop-i.i kept.refused in
    record {
      marked =
          kept.marked
          ∙ marked_more c.args.plan.now c.loop-i.places c.loop-i.i c.index-places-i.result c.refuses-place.result
          (omega arith) is;
      within = rw length-set (omega arith);
      refused = ap (λ plan. plan.refused) c.refuses-place.ensures.count ∙ kept.refused;
      all = none_more c.args.plan.now c.loop-i.i c.loop-i.all c.refuses-place.result is kept.all;
      same =
          same_more c.args.plan.now c.loop-i.plan c.refuses-place.new.self c.loop-i.i c.loop-i.all
          c.refuses-place.result
          c.refuses-place.ensures.listed c.refuses-place.ensures.count kept.same;
      one = one_more c.args.plan.now c.loop-i.i c.loop-i.all c.refuses-place.result is kept.one;
      count =
          rose_more c.args.plan.now c.loop-i.plan c.refuses-place.new.self c.loop-i.i c.loop-i.all
          c.refuses-place.result
          c.refuses-place.ensures.listed c.refuses-place.ensures.count c.refuses-place.ensures.later kept.same
          kept.count;
    }

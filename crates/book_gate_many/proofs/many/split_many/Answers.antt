use Rattle.std.proofs.Common.{◌≡◌, ◌++◌, ◌∷◌, [], rules}
use Rattle.book_gate_many.proofs.ManyLemmas.{none_split, one_more_split}
use Rattle.book_gate_many.proofs.many.split_many.Goals as goal

pub loop-i-init : goal.loop-i-init
loop-i-init g c = none_split c.args.pass.now c.new-passes.result.items c.new-passes.ensures.items

pub loop-i-preserved : goal.loop-i-preserved
loop-i-preserved g c =
    let after : c.push.new.self.items ≡ c.loop-i.passes.items ++ c.in_ok-new.new ∷ [] = search rules in
    one_more_split g.T.Held.law c.args.pass.now c.loop-i.pass c.split.new.pass c.in_ok-new.new c.loop-i.i
    c.loop-i.passes.items c.push.new.self.items c.loop-i.invariant c.in_ok-new.ensures.new after

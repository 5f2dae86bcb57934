use Rattle.std.proofs.Common.{◌<◌, ◌^◌, ap, ap₂, subst, ◌∙◌}
use Rattle.health_core.specs.declared.counter.Counter.{Counter}
use Rattle.health_core.specs.Counting.{change_of, is_up_next}
use Rattle.health_core.proofs.CountingLemmas.{changes, counts_more}
use Rattle.health_core.proofs.counter.Counter.step.Goals as goal

pub returns-clause-change : goal.returns-clause-change
returns-clause-change c = λ rise fall outcomes counts.
    let small = subst (λ (k : Counter). (k.rise < 2 ^ 32) × (k.fall < 2 ^ 32)) c.count.ensures c.is_up-up.ensures.small
    in
    c.change_of-change.ensures
    ∙ ap₂ change_of (ap (λ (k : Counter). k.up) c.count.ensures) (c.is_up-up.ensures.up ∙ ap is_up_next c.count.ensures)
    ∙ changes rise fall outcomes c.args.self.now c.args.outcome small.0 small.1 counts

pub returns-clause-counted : goal.returns-clause-counted
returns-clause-counted c = λ rise fall outcomes counts.
    let small = subst (λ (k : Counter). (k.rise < 2 ^ 32) × (k.fall < 2 ^ 32)) c.count.ensures c.is_up-up.ensures.small
    in
    counts_more rise fall outcomes c.args.self.now _ c.args.outcome small.0 small.1
    (ap (λ (up : _). record c.count.new.self { up = up }) c.is_up-up.ensures.up
    ∙ ap (λ (k : Counter). record k { up = is_up_next k }) c.count.ensures) counts
